-- The tokens of a text: each lies in the text, after the one before it, and has its line. Cited by contracts.
use Rattle.std.specs.Prelude.{ℕ, ◌≡◌, ◌+◌, ◌≤◌, ◌==◌, List, length, take, drop}
use Rattle.std.specs.List.{All, AllPairs, count_by}
use Rattle.mir_base.specs.Names.{IsName}
use Rattle.mir_lex.specs.declared.words.Kind.{Kind}
use Rattle.mir_lex.specs.declared.words.Kind.TheVariants.{Name}
use Rattle.mir_lex.specs.declared.tokens.Token.{Token}

-- a text with its tokens
pub record TokensShape : Type 0 where
  pub text : List ℕ
  pub items : List Token

-- how many of the bytes are line feeds
abbrev pub line_feeds : List ℕ → ℕ
line_feeds bytes = count_by (λ byte. byte == 10) bytes

-- the line of what stands after these bytes: 1 and the line feeds among them
abbrev pub line_after : List ℕ → ℕ
line_after prefix = 1 + line_feeds prefix

-- the bytes of a token
abbrev pub token_bytes : List ℕ → Token → List ℕ
token_bytes text token = take token.length (drop token.start text)

-- the bytes of a name are spelled as a name
abbrev pub NameIsSpelled : Kind → List ℕ → Type 0
NameIsSpelled Name bytes = IsName bytes
NameIsSpelled kind bytes = Unit {0}

-- a token lies in its text, has its line, and is spelled as its kind says
pub record IsTokenOf (text : List ℕ) (token : Token) : Type 0 where
  pub inside : token.start + token.length ≤ length text
  pub line : token.line ≡ line_after (take token.start text)
  pub name : NameIsSpelled token.kind (token_bytes text token)

-- the first token ends where the second begins, or before
abbrev pub EndsBefore : Token → Token → Type 0
EndsBefore first second = first.start + first.length ≤ second.start

-- tokens of a text, in its order
pub record AreTokens (text : List ℕ) (items : List Token) : Type 0 where
  pub each : All (IsTokenOf text) items
  pub in_order : AllPairs EndsBefore items
