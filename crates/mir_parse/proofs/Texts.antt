-- What the tokens of a text say of the text.
use Rattle.std.proofs.Common.{◌≡◌, ◌⊎◌, ℕ, List, sym, ◌∙◌, ap, subst, inl, inr, refl}
use Rattle.mir_lex.specs.declared.tokens.Token.{Token}
use Rattle.mir_lex.specs.declared.terminals.Terminal.{Terminal}
use Rattle.mir_lex.specs.declared.faults.LexFault.{LexFault}
use Rattle.mir_lex.specs.Terminals.{terminals}
use Rattle.mir_lex.specs.Spelling.{IsTokens, IsRefusal, IsLexMemory, TokensAreUnique, RefusalIsUnique, HasNoTokensIfRefused}
use Rattle.mir_parse.specs.declared.raw.Raw.{Raw}
use Rattle.mir_parse.specs.declared.faults.ParseFault.{ParseFault}
use Rattle.mir_parse.specs.declared.faults.ParseFault.TheVariants.{Unexpected, Unfinished, Memory}
use Rattle.mir_parse.specs.declared.faults.TextFault.{TextFault}
use Rattle.mir_parse.specs.declared.faults.TextFault.TheVariants.{Lex, Parse}
use Rattle.mir_parse.specs.Fault.{IsParseMemory}
use Rattle.mir_parse.specs.Grammar.{IsText, IsUnexpected, IsUnfinished}
use Rattle.mir_parse.specs.Spells.{Spells, IsTextRefusal, TokensRefused}
use Rattle.mir_parse.proofs.Exact.{text_same, unexpected_stopped, outside_unexpected, outside_unfinished, stopped_unfinished}
use Rattle.mir_parse.proofs.Complete.{text_run}

-- a fact of the terminals of a text, at a text and tokens that are the same
pub moved : (P : List Terminal → Type 0) (bytes text : List ℕ) (others items : List Token) → text ≡ bytes → items ≡ others → P (terminals bytes others) → P (terminals text items)
moved P bytes text others items same_text same_items h =
    subst (λ (l : List ℕ). P (terminals l items)) (sym same_text) (subst (λ (ts : List Token). P (terminals bytes ts)) (sym same_items) h)

-- no text spells two raw programs, where it has at most one list of tokens
pub spells_same : (bytes : List ℕ) → TokensAreUnique bytes → (one other : Raw) → Spells bytes one → Spells bytes other → one ≡ other
spells_same bytes unique one other is also =
    let items = unique is.items also.items is.tokens also.tokens in
    text_same (terminals bytes is.items) one other is.text (moved (λ ts. IsText ts other) bytes bytes also.items is.items refl items also.text)

-- a refusal, by its cause
pub by_cause : (bytes : List ℕ) (P : TextFault → Type 0)
    → ((fault : LexFault) → IsRefusal bytes fault → P (Lex fault))
    → ((line : ℕ) (items : List Token) → IsTokens bytes items → IsUnexpected (terminals bytes items) line → P (Parse (Unexpected line)))
    → ((items : List Token) → IsTokens bytes items → IsUnfinished (terminals bytes items) → P (Parse Unfinished))
    → (fault : TextFault) → IsTextRefusal bytes fault → P fault
by_cause bytes P lex unexpected unfinished (Lex fault) h = lex fault h
by_cause bytes P lex unexpected unfinished (Parse (Unexpected line)) h = unexpected line h.0 h.1 h.2
by_cause bytes P lex unexpected unfinished (Parse Unfinished) h = unfinished h.0 h.1 h.2
by_cause bytes P lex unexpected unfinished (Parse (Memory refused)) h = absurd h.2

-- the same refusal of the tokens, or running out of memory, as a refusal of the text
pub same_parse : (other fault : ParseFault) → (other ≡ fault) ⊎ IsParseMemory other → (Parse other ≡ Parse fault) ⊎ IsParseMemory other
same_parse other fault (inl same) = inl (ap Parse same)
same_parse other fault (inr memory) = inr memory

-- the same refusal by `lex`, or running out of memory, as a refusal of the text
pub same_lex : (other fault : LexFault) → (other ≡ fault) ⊎ IsLexMemory other → (Lex other ≡ Lex fault) ⊎ IsLexMemory other
same_lex other fault (inl same) = inl (ap Lex same)
same_lex other fault (inr memory) = inr memory

-- ---- one refusal

-- tokens are refused for at most one cause
tokens_refused_same : (bytes : List ℕ) (items : List Token) (one other : ParseFault) → TokensRefused bytes items one → TokensRefused bytes items other → one ≡ other
tokens_refused_same bytes items (Unexpected m) (Unexpected n) is also = let e = sym (unexpected_stopped _ m is) ∙ unexpected_stopped _ n also in cc
tokens_refused_same bytes items (Unexpected m) Unfinished is also = absurd (stopped_unfinished _ m (sym (unexpected_stopped _ m is)) also)
tokens_refused_same bytes items (Unexpected m) (Memory refusal) is also = absurd also
tokens_refused_same bytes items Unfinished (Unexpected n) is also = absurd (stopped_unfinished _ n (sym (unexpected_stopped _ n also)) is)
tokens_refused_same bytes items Unfinished Unfinished is also = refl
tokens_refused_same bytes items Unfinished (Memory refusal) is also = absurd also
tokens_refused_same bytes items (Memory refusal) other is also = absurd is

-- and those that are a text are not refused
tokens_refused_none : (bytes : List ℕ) (items : List Token) (fault : ParseFault) (units : Raw) → TokensRefused bytes items fault → IsText (terminals bytes items) units → ⊥
tokens_refused_none bytes items (Unexpected line) units is text = outside_unexpected _ units (sym (text_run (terminals bytes items) units text)) line is
tokens_refused_none bytes items Unfinished units is text = outside_unfinished _ units (sym (text_run (terminals bytes items) units text)) is
tokens_refused_none bytes items (Memory refusal) units is text = is

-- a text is refused for at most one cause, where this is so of its tokens
pub refusals_same : (bytes : List ℕ) → TokensAreUnique bytes → RefusalIsUnique bytes → HasNoTokensIfRefused bytes → (one other : TextFault) → IsTextRefusal bytes one → IsTextRefusal bytes other → one ≡ other
refusals_same bytes unique fault none (Lex one) (Lex other) is also = ap Lex (fault one other is also)
refusals_same bytes unique fault none (Lex one) (Parse other) is also = absurd (none one is also.0 also.1)
refusals_same bytes unique fault none (Parse one) (Lex other) is also = absurd (none other also is.0 is.1)
refusals_same bytes unique fault none (Parse one) (Parse other) is also =
    ap Parse (tokens_refused_same bytes is.0 one other is.2 (subst (λ (items : List Token). TokensRefused bytes items other) (unique also.0 is.0 also.1 is.1) also.2))

-- and one that spells a raw program is not refused
pub refusal_spells : (bytes : List ℕ) → TokensAreUnique bytes → HasNoTokensIfRefused bytes → (fault : TextFault) → IsTextRefusal bytes fault → (raw : Raw) → Spells bytes raw → ⊥
refusal_spells bytes unique none (Lex fault) is raw spells = none fault is spells.items spells.tokens
refusal_spells bytes unique none (Parse fault) is raw spells =
    tokens_refused_none bytes spells.items fault raw (subst (λ (items : List Token). TokensRefused bytes items fault) (unique is.0 spells.items is.1 spells.tokens) is.2) spells.text
