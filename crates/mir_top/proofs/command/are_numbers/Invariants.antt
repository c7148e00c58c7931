use Rattle.std.proofs.Common.{◌≡◌, drop}
use Rattle.std.specs.List.{list_all}
use Rattle.mir_top.specs.Commands.{is_input, word_bytes}
use Rattle.mir_top.proofs.command.are_numbers.Given as goal

abbrev pub invariant-loop-word : goal.invariant-loop-word
invariant-loop-word l = list_all is_input (word_bytes l.words) ≡ list_all is_input (word_bytes (drop l.word-index l.words))
