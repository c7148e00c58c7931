use Rattle.mir_top.specs.Calls.{Call}
use Rattle.mir_top.specs.Commands.{word_bytes}
use Rattle.mir_top.specs.Streams.{stream_of}
use Rattle.mir_top.proofs.Promised.{promised}
use Rattle.mir_top.proofs.call.top.Goals as goal

pub returns : goal.returns
returns g c =
    let call : Call = record {
      words = word_bytes c.args.words.now;
      source = stream_of g.S.Source.left g.S.Source.faults c.args.source.now c.attempt-ending.new.source;
      out = stream_of g.K.Sink.written g.K.Sink.faults c.args.out.now c.attempt-ending.new.out;
      err = stream_of g.E.Sink.written g.E.Sink.faults c.args.err.now c.conclude.new.err;
      reply = c.conclude.result;
    } in
    promised c.text_has_one_reading.ensures call c.attempt-ending.ensures.most c.attempt-ending.ensures.unread (record {
      ending = c.attempt-ending.result;
      ended = c.attempt-ending.ensures.ended;
      replied = c.conclude.ensures.reply;
      written = c.conclude.ensures.told;
    })
