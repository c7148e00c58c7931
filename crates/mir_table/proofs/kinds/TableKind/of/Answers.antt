use Rattle.std.proofs.Common.{◌≡◌, ℕ, ◌≤◌, List, [], ◌∷◌, Option, None, length, map, refl, arith}
use Rattle.mir_table.specs.Kinds.{kind_of}
use Rattle.mir_table.proofs.kinds.TableKind.of.Goals as goal

-- two words and more ask for no tables
more_words : {A : Type 0} (bytes : A → List ℕ) (words : List A) → 2 ≤ length words → None ≡ kind_of (map bytes words)
more_words bytes [] h = absurd (omega (arith, h))
more_words bytes (word ∷ []) h = absurd (omega (arith, h))
more_words bytes (word ∷ other ∷ others) h = refl

pub returns-in-len2-up : goal.returns-in-len2-up
returns-in-len2-up c = more_words _ c.args.words.now c.in-len2-up.len_at_least
