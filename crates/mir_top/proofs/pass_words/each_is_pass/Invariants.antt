use Rattle.std.proofs.Common.{◌≡◌, drop}
use Rattle.std.specs.List.{list_all}
use Rattle.mir_top.specs.Commands.{word_bytes}
use Rattle.mir_top.specs.PassWords.{is_pass}
use Rattle.mir_top.proofs.pass_words.each_is_pass.Given as goal

abbrev pub invariant-loop-word : goal.invariant-loop-word
invariant-loop-word l = list_all is_pass (word_bytes l.words) ≡ list_all is_pass (word_bytes (drop l.word-index l.words))
