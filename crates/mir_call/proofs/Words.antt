-- Laws of the words that bytes spell, one byte after the other.
use Rattle.std.proofs.Common.{ℕ, ◌≡◌, ◌+◌, ◌<◌, List, [], ◌∷◌, ◌++◌, length, drop, get_or, Option, None, Some, ap, sym, ◌∙◌, append_assoc, arith}
use Rattle.std.proofs.lemmas.Bool.{cond-true, cond-false, false_from_ne_true}
use Rattle.std.proofs.lemmas.Bool.Decides.{nat_tests}
use Rattle.std.proofs.lemmas.List.{drop_more}
use Rattle.std.proofs.lemmas.Str.{IsUtf8-from_is_utf8, is_utf8-from_IsUtf8}
use Rattle.std.specs.Option.{option_map}
use Rattle.std.specs.Prelude.{◌==◌}
use Rattle.std.specs.Str.{IsUtf8, is_utf8}
use Rattle.mir_call.specs.Spelled.{with_word, words_after}

-- words before others
abbrev pub before : List (List ℕ) → Option (List (List ℕ)) → Option (List (List ℕ))
before words later = option_map (λ more. words ++ more) later

-- at a zero byte the word ends
pub at_zero : (bytes word : List ℕ) (i : ℕ) → i < length bytes → get_or bytes i 0 ≡ 0
    → words_after word (drop i bytes) ≡ with_word word (words_after [] (drop (i + 1) bytes))
at_zero bytes word i below zero =
    ap (words_after word) (drop_more bytes i 0 below) ∙ ap (λ (n : ℕ). words_after word (n ∷ drop (i + 1) bytes)) zero

-- and goes on at any other
pub at_other : (bytes word : List ℕ) (i : ℕ) → i < length bytes → (get_or bytes i 0 ≡ 0 → ⊥)
    → words_after word (drop i bytes) ≡ words_after (word ++ get_or bytes i 0 ∷ []) (drop (i + 1) bytes)
at_other bytes word i below other =
    ap (words_after word) (drop_more bytes i 0 below) ∙ cond-false (get_or bytes i 0 == 0) (with_word word (words_after [] (drop (i + 1) bytes))) (words_after (word ++ get_or bytes i 0 ∷ []) (drop (i + 1) bytes)) (grind (arith, nat_tests, other))

-- a word that is not UTF-8 is none
pub refused : (words : List (List ℕ)) (word : List ℕ) (later : Option (List (List ℕ))) → (IsUtf8 word → ⊥)
    → before words (with_word word later) ≡ None
refused words word later other =
    ap (before words) (cond-false (is_utf8 word) _ None (false_from_ne_true _ (λ e. other (IsUtf8-from_is_utf8 word e))))

-- one that is stands behind those before it
pub taken : (words : List (List ℕ)) (word : List ℕ) (later : Option (List (List ℕ))) → IsUtf8 word
    → before words (with_word word later) ≡ before (words ++ word ∷ []) later
taken words word None is =
    ap (before words) (cond-true (is_utf8 word) _ None (is_utf8-from_IsUtf8 word is))
taken words word (Some more) is =
    ap (before words) (cond-true (is_utf8 word) _ None (is_utf8-from_IsUtf8 word is))
    ∙ ap (λ (l : List (List ℕ)). Some l) (sym (append_assoc words (word ∷ []) more))
