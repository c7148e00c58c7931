-- Tokens as the grammar reads them: a terminal symbol, and the line where it stands. Cited by contracts.
use Rattle.std.specs.Prelude.{ℕ, ◌≡◌, List, map, slice_get, Some}
use Rattle.mir_lex.specs.declared.words.Kind.{Kind}
use Rattle.mir_lex.specs.declared.words.Kind.TheVariants.{Name as NameKind, Word as WordKind, Number as NumberKind, Mark as MarkKind, LineEnd as LineEndKind}
use Rattle.mir_lex.specs.declared.tokens.Token.{Token}
use Rattle.mir_lex.specs.declared.terminals.Symbol.{Symbol}
use Rattle.mir_lex.specs.declared.terminals.Symbol.TheVariants.{Name, Word, Number, Mark, LineEnd}
use Rattle.mir_lex.specs.declared.terminals.Terminal.{Terminal}
use Rattle.mir_lex.specs.Tokens.{token_bytes}

-- the symbol of a token of this kind and these bytes
abbrev pub symbol_of : Kind → List ℕ → Symbol
symbol_of NameKind bytes = Name bytes
symbol_of (WordKind word) bytes = Word word
symbol_of (NumberKind value) bytes = Number value
symbol_of (MarkKind mark) bytes = Mark mark
symbol_of LineEndKind bytes = LineEnd

-- a token of a text as the grammar reads it
abbrev pub terminal_of : List ℕ → Token → Terminal
terminal_of text
    token = record { symbol = symbol_of token.kind (token_bytes text token); line = token.line }

-- the tokens of a text as the grammar reads them
abbrev pub terminals : List ℕ → List Token → List Terminal
terminals text items = map (terminal_of text) items

-- the token of this number, counted from 0, is read so
abbrev pub IsTerminalAt : List ℕ → List Token → ℕ → Terminal → Type 0
IsTerminalAt text items number terminal = slice_get (terminals text items) number ≡ Some terminal
