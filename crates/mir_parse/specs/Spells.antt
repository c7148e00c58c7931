-- Texts and the raw programs that they spell: a text has tokens, and these are derived by the grammar. Cited by
-- contracts.
use Rattle.std.specs.Prelude.{ℕ, ◌≡◌, List}
use Rattle.mir_lex.specs.declared.tokens.Token.{Token}
use Rattle.mir_lex.specs.Terminals.{terminals}
use Rattle.mir_lex.specs.Spelling.{IsTokens, IsRefusal, IsLexMemory}
use Rattle.mir_parse.specs.declared.raw.Raw.{Raw}
use Rattle.mir_parse.specs.declared.faults.ParseFault.{ParseFault}
use Rattle.mir_parse.specs.declared.faults.ParseFault.TheVariants.{Unexpected, Unfinished, Memory}
use Rattle.mir_parse.specs.declared.faults.TextFault.{TextFault}
use Rattle.mir_parse.specs.declared.faults.TextFault.TheVariants.{Lex, Parse}
use Rattle.mir_parse.specs.Fault.{IsParseMemory}
use Rattle.mir_parse.specs.Grammar.{IsText, IsUnexpected, IsUnfinished}

-- the bytes have tokens, and these are a text of the raw program
pub record Spells (bytes : List ℕ) (raw : Raw) : Type 0 where
  pub items : List Token
  pub tokens : IsTokens bytes items
  pub text : IsText (terminals bytes items) raw

-- the tokens of the bytes are refused for this cause
abbrev pub TokensRefused : List ℕ → List Token → ParseFault → Type 0
TokensRefused bytes items (Unexpected line) = IsUnexpected (terminals bytes items) line
TokensRefused bytes items Unfinished = IsUnfinished (terminals bytes items)
TokensRefused bytes items (Memory refused) = ⊥

-- the bytes spell no raw program, for this cause
abbrev pub IsTextRefusal : List ℕ → TextFault → Type 0
IsTextRefusal bytes (Lex fault) = IsRefusal bytes fault
IsTextRefusal bytes (Parse fault) = (items : List Token) × IsTokens bytes items
    × TokensRefused bytes items fault

-- running out of memory
abbrev pub IsTextMemory : TextFault → Type 0
IsTextMemory (Lex fault) = IsLexMemory fault
IsTextMemory (Parse fault) = IsParseMemory fault

-- the text spells at most one raw program
abbrev pub RawIsUnique : List ℕ → Type 0
RawIsUnique text = (one other : Raw) → Spells text one → Spells text other → one ≡ other

-- the text is refused for at most one cause
abbrev pub TextRefusalIsUnique : List ℕ → Type 0
TextRefusalIsUnique text = (one other : TextFault) → IsTextRefusal text one
    → IsTextRefusal text other → one ≡ other

-- a text that is refused spells no raw program
abbrev pub RefusedSpellsNothing : List ℕ → Type 0
RefusedSpellsNothing text = (fault : TextFault) → IsTextRefusal text fault → (raw : Raw)
    → Spells text raw → ⊥
