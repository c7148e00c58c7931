use Rattle.std.proofs.Common.{◌≡◌, ◌++◌, drop}
use Rattle.std.specs.Option.{option_map}
use Rattle.mir_top.specs.Commands.{word_bytes}
use Rattle.mir_call.specs.Spelled.{words_in, words_after}
use Rattle.mir_call.proofs.spelled.words_in.Given as goal

abbrev pub invariant-loop-byte : goal.invariant-loop-byte
invariant-loop-byte l =
    words_in l.bytes ≡ option_map (λ later. word_bytes l.words.items ++ later) (words_after l.word.items (drop l.byte-index l.bytes))
