use Rattle.std.proofs.Common.{◌≡◌, subst, ℕ, List}
use Rattle.mir_outside.specs.Transfer.{AppendsPart}
use Rattle.mir_top.specs.declared.outcome.Outcome.{Outcome}
use Rattle.mir_top.specs.Calls.{IsCutShort, MakesOutput}
use Rattle.mir_top.specs.Commands.{word_bytes}
use Rattle.mir_top.specs.Streams.{Stream, stream_of, HasFailed}
use Rattle.mir_top.proofs.call.attempt.Goals as goal

-- what was made is cut short where a proper prefix of these bytes was written, which are its bytes
cut_short :
    (words : List (List ℕ)) (source out : Stream) (outcome : Outcome) (output bytes : List ℕ)
    → bytes ≡ output
    → MakesOutput words source outcome output
    → HasFailed out
    → AppendsPart out.old out.new bytes
    → IsCutShort words source out
cut_short words source out outcome output bytes is made failed part =
    record { outcome = outcome; output = output; made = made; written = (failed, subst (λ b. AppendsPart out.old out.new b) is part) }

-- src/call.rt:50:1
pub returns-in-Err-write_all-clause-ended : goal.returns-in-Err-write_all-clause-ended
returns-in-Err-write_all-clause-ended g c =
    cut_short
    (word_bytes c.args.words.now)
    (stream_of g.S.Source.left g.S.Source.faults c.args.source.now c.prepare.new.source)
    (stream_of g.K.Sink.written g.K.Sink.faults c.args.out.now c.write_all.new.sink)
    c.in-Ok.made.outcome
    c.in-Ok.made.output.items
    c.deref.result.now
    c.deref.ensures.value
    c.in-Ok.ensures.made
    c.in-Err-write_all.ensures.cause.failed
    c.in-Err-write_all.ensures.part
