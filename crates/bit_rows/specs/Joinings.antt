-- What the joinings of rows make of two bits and of two words. Cited by contracts of private functions.
use Rattle.std.specs.Prelude.{ℕ, Bool, not, ◌&&◌, ◌||◌, bit_and, bit_or}
use Rattle.bit_rows.specs.declared.joining.Joining.{Joining}
use Rattle.bit_rows.specs.declared.joining.Joining.TheVariants.{Or, And, Minus}
use Rattle.bit_rows.specs.Words.{minus_word}

-- of two bits
abbrev pub bit_join : Joining → Bool → Bool → Bool
bit_join Or = λ x y. x || y
bit_join And = λ x y. x && y
bit_join Minus = λ x y. x && not y

-- of two words
abbrev pub word_join : Joining → ℕ → ℕ → ℕ
word_join Or = bit_or
word_join And = bit_and
word_join Minus = minus_word
