use Rattle.std.proofs.Common.{◌≡◌, take, map}
use Rattle.mir_top.specs.Commands.{input_value, word_bytes}
use Rattle.mir_top.proofs.command.numbers.Given as goal

abbrev pub invariant-loop-word : goal.invariant-loop-word
invariant-loop-word l = l.numbers.items ≡ map input_value (word_bytes (take l.word-index l.words))
