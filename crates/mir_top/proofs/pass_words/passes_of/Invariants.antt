use Rattle.std.proofs.Common.{◌≡◌, take, map}
use Rattle.mir_top.specs.Commands.{word_bytes}
use Rattle.mir_top.specs.PassWords.{pass_value}
use Rattle.mir_top.proofs.pass_words.passes_of.Given as goal

abbrev pub invariant-loop-word : goal.invariant-loop-word
invariant-loop-word l = l.passes.items ≡ map pass_value (word_bytes (take l.word-index l.words))
