use Rattle.std.proofs.Common.{◌∙◌, sym}
use Rattle.mir_top.specs.Commands.{word_bytes}
use Rattle.mir_top.specs.Streams.{stream_of}
use Rattle.mir_table.specs.Promises.{TableCall}
use Rattle.mir_table.proofs.Served.{with_kind}
use Rattle.mir_table.proofs.call.tables.Goals as goal

-- the words ask for these tables
pub returns-in-Some : goal.returns-in-Some
returns-in-Some g c =
    let call : TableCall = record {
      source = stream_of g.S.Source.left g.S.Source.faults c.args.source.now c.asked_tables.new.source;
      out = stream_of g.K.Sink.written g.K.Sink.faults c.args.out.now c.asked_tables.new.out;
      err = stream_of g.E.Sink.written g.E.Sink.faults c.args.err.now c.asked_tables.new.err;
      status = c.asked_tables.result;
    } in
    with_kind (word_bytes c.args.words.now) c.in-Some.kind call (sym c.of.ensures ∙ c.in-Some.is) c.asked_tables.ensures
