-- The reserved words: how each is spelled, and which one bytes are. Cited by contracts.
use Rattle.std.specs.Prelude.{ℕ, List, [], ◌∷◌, codes, Option, None, Some, if◌then◌else◌, Bool, nat_eq}
use Rattle.std.specs.Cmp.Lexicographic.{pointwise}
use Rattle.mir_base.specs.declared.words.Word.{Word}
use Rattle.mir_base.specs.declared.words.Word.TheVariants.{Begin, End, Receive, Goto, If, Call, Return, Print, Mod, Min, Max, Shl, Shr, Shra, And, Or, Xor, Trap, Global, Sequence}

-- the bytes are this text
abbrev pub is_text : List ℕ → List ℕ → Bool
is_text text bytes = pointwise nat_eq text bytes

-- how a reserved word is spelled
abbrev pub word_text : Word → List ℕ
word_text Begin = codes "begin"
word_text End = codes "end"
word_text Receive = codes "receive"
word_text Goto = codes "goto"
word_text If = codes "if"
word_text Call = codes "call"
word_text Return = codes "return"
word_text Print = codes "print"
word_text Mod = codes "mod"
word_text Min = codes "min"
word_text Max = codes "max"
word_text Shl = codes "shl"
word_text Shr = codes "shr"
word_text Shra = codes "shra"
word_text And = codes "and"
word_text Or = codes "or"
word_text Xor = codes "xor"
word_text Trap = codes "trap"
word_text Global = codes "global"
word_text Sequence = codes "sequence"

-- the reserved words
abbrev pub words : List Word
words =
    Begin ∷ End ∷ Receive ∷ Goto ∷ If ∷ Call ∷ Return ∷ Print ∷ Mod ∷ Min ∷ Max ∷ Shl ∷ Shr ∷ Shra
    ∷ And ∷ Or ∷ Xor ∷
    Trap ∷ Global ∷ Sequence
    ∷ []

-- the word of the first entry whose spelling the bytes are
abbrev pub first_word : {Entry : Type 0} → (Entry → List ℕ) → (Entry → Word) → List ℕ → List Entry
    → Option Word
first_word text word bytes [] = None
first_word text word bytes (entry ∷ entries) =
    if is_text (text entry) bytes then Some (word entry) else first_word text word bytes entries

-- the reserved word that these bytes are
unfoldable pub reserved_word : List ℕ → Option Word
reserved_word bytes = first_word word_text (λ word. word) bytes words
