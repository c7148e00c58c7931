-- Which words bytes spell. Cited by contracts.
use Rattle.std.specs.Prelude.{ℕ, ◌==◌, List, [], ◌∷◌, ◌++◌, Option, Some, None, if◌then◌else◌}
use Rattle.std.specs.Str.{is_utf8}
use Rattle.std.specs.Option.{option_map}

-- no words, where no word was begun
abbrev pub at_end : List ℕ → Option (List (List ℕ))
at_end [] = Some []
at_end (byte ∷ bytes) = None

-- a word before others, where it is UTF-8
abbrev pub with_word : List ℕ → Option (List (List ℕ)) → Option (List (List ℕ))
with_word word later = if is_utf8 word then option_map (λ words. word ∷ words) later else None

-- the words that bytes spell behind the begun one
abbrev pub words_after : List ℕ → List ℕ → Option (List (List ℕ))
words_after word [] = at_end word
words_after word (byte ∷ bytes) =
    if byte == 0 then with_word word (words_after [] bytes)
    else words_after (word ++ byte ∷ []) bytes

-- the words that bytes spell, each ended by a zero byte
abbrev pub words_in : List ℕ → Option (List (List ℕ))
words_in bytes = words_after [] bytes
