use Rattle.std.proofs.Common.{List, None, refl, subst}
use Rattle.mir_top.specs.declared.command.Command.TheVariants as commands
use Rattle.mir_top.specs.Calls.{Call}
use Rattle.mir_top.specs.Commands.{word_bytes}
use Rattle.mir_top.specs.Streams.{never_failed, stream_of, without_fault}
use Rattle.pass_table.specs.Trails.{ShowsTables}
use Rattle.mir_table.specs.declared.kinds.TableKind.TheVariants.{Optimise}
use Rattle.mir_table.specs.Promises.{IsMade}
use Rattle.mir_table.proofs.Served.{asks_optimise, has_optimised, made_is, no_trail, optimised_status, served_program, without_trail, written_as}
use Rattle.mir_table.proofs.call.tables_of_text.Goals as goal

-- the trail is the linked one
pub text_of_tables-requires : goal.text_of_tables-requires
text_of_tables-requires g c =
    let call : Call = record {
      words = word_bytes c.args.asked.now;
      source = stream_of g.S.Source.left g.S.Source.faults c.args.source.now c.top-reply.new.source;
      out = without_fault None None;
      err = stream_of g.E.Sink.written g.E.Sink.faults c.args.err.now c.top-reply.new.err;
      reply = c.top-reply.result;
    } in
    (has_optimised call c.top-reply.ensures c.requires c.in-Some.trail c.in-Some.is).improves.linked

-- where there is a trail, the error output is still as it was when the writing of the tables begins
pub returns-in-Some : goal.returns-in-Some
returns-in-Some g c =
    let call : Call = record {
      words = word_bytes c.args.asked.now;
      source = stream_of g.S.Source.left g.S.Source.faults c.args.source.now c.top-reply.new.source;
      out = without_fault None None;
      err = stream_of g.E.Sink.written g.E.Sink.faults c.args.err.now c.top-reply.new.err;
      reply = c.top-reply.result;
    } in
    let trail = c.in-Some.trail in
    let has = has_optimised call c.top-reply.ensures c.requires trail c.in-Some.is in
    let out = stream_of g.K.Sink.written g.K.Sink.faults c.args.out.now c.write_text.new.out in
    let second = stream_of g.E.Sink.written g.E.Sink.faults c.top-reply.new.err c.write_text.new.err in
    let written = written_as (IsMade c.text_of_tables.result) (ShowsTables trail) out second c.write_text.result (made_is c.text_of_tables.result (ShowsTables trail) c.text_of_tables.ensures) c.write_text.ensures in
    served_program Optimise commands.Optimise call c.top-reply.ensures (asks_optimise call.words c.requires) (optimised_status call c.top-reply.ensures c.requires trail c.in-Some.is) trail.source has.read
    (trail, record { source = refl; optimises = has.improves })
    out second c.write_text.result refl refl written c.one_thing_is_due.ensures.either

-- where there is none, nothing was written to the output
pub returns : goal.returns
returns g c =
    let call : Call = record {
      words = word_bytes c.args.asked.now;
      source = stream_of g.S.Source.left g.S.Source.faults c.args.source.now c.top-reply.new.source;
      out = without_fault None None;
      err = stream_of g.E.Sink.written g.E.Sink.faults c.args.err.now c.top-reply.new.err;
      reply = c.top-reply.result;
    } in
    without_trail Optimise commands.Optimise call c.top-reply.ensures (asks_optimise call.words c.requires) (no_trail call c.top-reply.ensures c.requires c.in-None.is) (never_failed None None)
    (stream_of g.K.Sink.written g.K.Sink.faults c.args.out.now c.args.out.now) (refl, refl)
