use Rattle.std.proofs.Common.{◌≡◌, List, [], ◌∷◌, length, String, refl, sym, ◌∙◌, arith}
use Rattle.std.specs.declared.alloc.Global.{Global}
use Rattle.mir_top.specs.Commands.{inputs_in, word_bytes}
use Rattle.mir_top.proofs.command.inputs.Goals as goal

-- one word gives no inputs
of_one_word : (words : List (String Global)) → length words ≡ 1 → inputs_in (word_bytes words) ≡ []
of_one_word [] long = absurd (omega (arith, long))
of_one_word (word ∷ []) long = refl
of_one_word (word ∷ other ∷ words) long = absurd (omega (arith, long))

pub returns-in-len1 : goal.returns-in-len1
returns-in-len1 c = c.new-in-len1.ensures.items ∙ sym (of_one_word c.args.words.now (omega arith))
