use Rattle.std.proofs.Common.{List, None, refl, subst}
use Rattle.mir_top.specs.declared.command.Command.TheVariants as commands
use Rattle.mir_top.specs.Calls.{Call}
use Rattle.mir_top.specs.Commands.{word_bytes}
use Rattle.mir_top.specs.Streams.{never_failed, stream_of, without_fault}
use Rattle.mir_table.specs.Further.{IsTextOf, kind_from}
use Rattle.mir_table.specs.Kinds.{ShowsKind}
use Rattle.mir_table.specs.Promises.{IsMade}
use Rattle.mir_table.proofs.Served.{asks_divisions, divided_status, further_shows, further_subject, has_divided, made_is, no_moved, served_program, without_trail, written_as}
use Rattle.mir_table.proofs.further.tables_of_text.Goals as goal

-- the trail is that of the motion of divisions
pub text_of-requires : goal.text_of-requires
text_of-requires g c =
    let call : Call = record {
      words = word_bytes c.args.asked.now;
      source = stream_of g.S.Source.left g.S.Source.faults c.args.source.now c.top-reply.new.source;
      out = without_fault None None;
      err = stream_of g.E.Sink.written g.E.Sink.faults c.args.err.now c.top-reply.new.err;
      reply = c.top-reply.result;
    } in
    (has_divided call c.top-reply.ensures c.requires c.in-Some.trail c.in-Some.is).improves

-- where there is a trail, the error output is still as it was when the writing of the tables begins
pub returns-in-Some : goal.returns-in-Some
returns-in-Some g c =
    let call : Call = record {
      words = word_bytes c.args.asked.now;
      source = stream_of g.S.Source.left g.S.Source.faults c.args.source.now c.top-reply.new.source;
      out = without_fault None None;
      err = stream_of g.E.Sink.written g.E.Sink.faults c.args.err.now c.top-reply.new.err;
      reply = c.top-reply.result;
    } in
    let f = c.args.further in
    let kind = kind_from f in
    let trail = c.in-Some.trail in
    let has = has_divided call c.top-reply.ensures c.requires trail c.in-Some.is in
    let subject = further_subject f call trail has in
    let out = stream_of g.K.Sink.written g.K.Sink.faults c.args.out.now c.write_text.new.out in
    let second = stream_of g.E.Sink.written g.E.Sink.faults c.top-reply.new.err c.write_text.new.err in
    let made = made_is c.text_of.result (IsTextOf f trail) c.text_of.ensures in
    let written = written_as (IsMade c.text_of.result) (ShowsKind kind trail.source subject) out second c.write_text.result (λ text is. further_shows f call trail has text (made text is)) c.write_text.ensures in
    served_program kind commands.Divisions call c.top-reply.ensures (asks_divisions call.words c.requires) (divided_status call c.top-reply.ensures c.requires trail c.in-Some.is) trail.source has.read
    subject out second c.write_text.result refl refl written c.one_thing_is_due.ensures.either

-- where there is none, nothing was written to the output
pub returns : goal.returns
returns g c =
    let call : Call = record {
      words = word_bytes c.args.asked.now;
      source = stream_of g.S.Source.left g.S.Source.faults c.args.source.now c.top-reply.new.source;
      out = without_fault None None;
      err = stream_of g.E.Sink.written g.E.Sink.faults c.args.err.now c.top-reply.new.err;
      reply = c.top-reply.result;
    } in
    without_trail (kind_from c.args.further) commands.Divisions call c.top-reply.ensures (asks_divisions call.words c.requires) (no_moved call c.top-reply.ensures c.requires c.in-None.is) (never_failed None None)
    (stream_of g.K.Sink.written g.K.Sink.faults c.args.out.now c.args.out.now) (refl, refl)
