-- Bytes are a reserved word where they are one of those of their length.
use Rattle.std.proofs.Common.{◌≡◌, ℕ, Bool, true, false, ◌||◌, nat_eq, List, [], ◌∷◌, length, map, Option, Some, None, if◌then◌else◌, refl, sym, ap, ◌∙◌}
use Rattle.std.specs.List.{list_any}
use Rattle.std.specs.Option.{is_some}
use Rattle.std.specs.Cmp.Lexicographic.{same_text}
use Rattle.std.proofs.lemmas.Bool.{eq-eqb}
use Rattle.mir_base.specs.declared.words.Word.{Word}
use Rattle.mir_base.specs.Names.{is_reserved}
use Rattle.mir_base.specs.Words.{is_text, first_word, reserved_word, word_text, words}

-- the word of the table that these bytes spell
abbrev pub word_of : List ℕ → List Word → Option Word
word_of bytes table = first_word word_text (λ word. word) bytes table

-- the words whose texts have this length
abbrev pub of_length : ℕ → List Word → List Word
of_length n [] = []
of_length n (word ∷ table) = if nat_eq (length (word_text word)) n then word ∷ of_length n table else of_length n table

-- a text of another length is another text
other_length : (text bytes : List ℕ) → nat_eq (length text) (length bytes) ≡ false → is_text text bytes ≡ false
other_length text bytes other = by (is_text text bytes) refl
  where
    by : (b : Bool) → is_text text bytes ≡ b → b ≡ false
    by true is = let alike : nat_eq (length text) (length bytes) ≡ true = eq-eqb _ _ (ap length (same_text text bytes (sym is))) in absurd (cc)
    by false is = refl

-- so words of another length need no comparison
among_length : (table : List Word) (bytes : List ℕ) → word_of bytes table ≡ word_of bytes (of_length (length bytes) table)
among_length [] bytes = refl
among_length (word ∷ table) bytes = by (nat_eq (length (word_text word)) (length bytes)) refl (among_length table bytes)
  where
    by : (b : Bool) → nat_eq (length (word_text word)) (length bytes) ≡ b → word_of bytes table ≡ word_of bytes (of_length (length bytes) table)
        → word_of bytes (word ∷ table) ≡ word_of bytes (if b then word ∷ of_length (length bytes) table else of_length (length bytes) table)
    by true is later = ap (λ o. if is_text (word_text word) bytes then Some word else o) later
    by false is later = ap (λ b. if b then Some word else word_of bytes table) (other_length (word_text word) bytes is) ∙ later

-- the reserved words of other lengths need not be looked at
pub by_length : (n : ℕ) (bytes : List ℕ) → length bytes ≡ n → reserved_word bytes ≡ word_of bytes (of_length n words)
unfolding reserved_word
by_length n bytes long = among_length words bytes ∙ ap (λ k. word_of bytes (of_length k words)) long

-- no reserved word has another length
pub none_of_length : (n : ℕ) (bytes : List ℕ) → nat_eq 2 n ≡ false → nat_eq 3 n ≡ false → nat_eq 4 n ≡ false → nat_eq 5 n ≡ false → nat_eq 6 n ≡ false → nat_eq 7 n ≡ false → nat_eq 8 n ≡ false → word_of bytes (of_length n words) ≡ None
none_of_length n bytes e2 e3 e4 e5 e6 e7 e8 = simp (e2, e3, e4, e5, e6, e7, e8)

-- a word is found where one of the texts is these bytes
some_word : (table : List Word) (bytes : List ℕ) → is_some (word_of bytes table) ≡ list_any (λ text. is_text text bytes) (map word_text table)
some_word [] bytes = refl
some_word (word ∷ table) bytes = by (is_text (word_text word) bytes) (some_word table bytes)
  where
    by : (b : Bool) → is_some (word_of bytes table) ≡ list_any (λ text. is_text text bytes) (map word_text table)
        → is_some (if b then Some word else word_of bytes table) ≡ (b || list_any (λ text. is_text text bytes) (map word_text table))
    by true later = refl
    by false later = later

-- the bytes are reserved where a reserved word is found
pub found_reserved : (bytes : List ℕ) → is_some (reserved_word bytes) ≡ is_reserved bytes
unfolding reserved_word is_reserved
found_reserved bytes = some_word words bytes
