-- The tokens of a text lie in it, one behind the other, each on its line.
use Rattle.mir_lex.specs.declared.words.Kind.{Kind}
use Rattle.mir_lex.specs.declared.words.Kind.TheVariants.{Name as NameKind, Word as WordKind, Number as NumberKind, Mark as MarkKind, LineEnd as LineEndKind}
use Rattle.mir_lex.specs.declared.tokens.Token.{Token}
use Rattle.mir_lex.specs.declared.scan.Previous.{Previous}
use Rattle.mir_lex.specs.declared.scan.Previous.TheVariants.{LineEnd as AfterLineEnd, Operand as AfterOperand, Other as AfterOther}
use Rattle.std.proofs.Common.{◌≡◌, ℕ, ◌+◌, ◌≤◌, List, [], ◌∷◌, ◌++◌, length, take, drop, refl, sym, ◌∙◌, ap, subst, append_assoc, arith}
use Rattle.std.proofs.lemmas.List.{append-nil, take_at, drop_at, length-append}
use Rattle.mir_lex.specs.Spelling.{with_line_end, IsToken, comment_text, Spelled, start as spelled_start, token as spelled_token, blank as spelled_blank, comment as spelled_comment, line_feed as spelled_line_feed, IsTokens}
use Rattle.mir_lex.specs.Tokens.{line_after, NameIsSpelled, IsTokenOf, EndsBefore, AreTokens}
use Rattle.std.specs.List.{All}
use Rattle.std.proofs.lemmas.List.Elements.{All-push, All-nil}
use Rattle.std.proofs.lemmas.List.Quantifiers.{all_pairs_push}

-- ---- tokens that end before a place

-- they are tokens of the text, and end at this place or before
record Within (text : List ℕ) (end : ℕ) (items : List Token) : Type 0 where
  tokens : AreTokens text items
  before : All (λ token. token.start + token.length ≤ end) items

-- no token at all
no_tokens : (text : List ℕ) (end : ℕ) → Within text end []
no_tokens text end = record {
  tokens = record { each = All-nil (IsTokenOf text); in_order = λ i j d below short. absurd (omega (arith, short)) };
  before = All-nil (λ token. token.start + token.length ≤ end);
}

-- they end before each later place
farther : (text : List ℕ) (end later : ℕ) (items : List Token) → end ≤ later → Within text end items → Within text later items
farther text end later items far h = record { tokens = h.tokens; before = λ k d short. let near = h.before k d short in omega (arith, near, far) }

-- one more token that begins behind them
one_more : (text : List ℕ) (end later : ℕ) (items : List Token) (token : Token) → Within text end items → IsTokenOf text token → end ≤ token.start → token.start + token.length ≤ later → Within text later (items ++ token ∷ [])
one_more text end later items token h is starts ends = record {
  tokens = record {
    each = All-push (IsTokenOf text) items token h.tokens.each is;
    in_order = all_pairs_push EndsBefore items token h.tokens.in_order (λ k d short. let near = h.before k d short in omega (arith, near, starts));
  };
  before = All-push (λ token. token.start + token.length ≤ later) items token (λ k d short. let near = h.before k d short in omega (arith, near, starts, ends)) ends;
}

-- ---- the tokens of a text

-- the token of these bytes
placed : (text prefix bytes rest : List ℕ) (kind : Kind) → text ≡ prefix ++ bytes ++ rest → NameIsSpelled kind bytes → IsTokenOf text (record { kind = kind; start = length prefix; length = length bytes; line = line_after prefix })
placed text prefix bytes rest kind is spelled = record {
  inside = omega (arith, ap length is, length-append (prefix ++ bytes) rest, length-append prefix bytes);
  line = ap line_after (sym (ap (take (length prefix)) (is ∙ append_assoc prefix bytes rest) ∙ take_at prefix (bytes ++ rest) (length prefix) refl));
  name = subst (NameIsSpelled kind) (sym sliced) spelled;
}
  where
    sliced : take (length bytes) (drop (length prefix) text) ≡ bytes
    sliced =
        ap (λ (l : List ℕ). take (length bytes) (drop (length prefix) l)) (is ∙ append_assoc prefix bytes rest) ∙ ap (take (length bytes)) (drop_at prefix (bytes ++ rest) (length prefix) refl)
        ∙ take_at bytes rest (length bytes) refl

-- the bytes of a name are spelled so
spelled : (previous : Previous) (bytes after : List ℕ) (kind : Kind) → IsToken previous bytes after kind → NameIsSpelled kind bytes
spelled previous bytes after NameKind is = is
spelled previous bytes after (WordKind word) is = tt
spelled previous bytes after (NumberKind value) is = tt
spelled previous bytes after (MarkKind mark) is = tt
spelled previous bytes after LineEndKind is = tt

-- a line end, unless the token before is one
line_end : (text prefix bytes rest : List ℕ) (items : List Token) (previous : Previous) → text ≡ prefix ++ bytes ++ rest → Within text (length prefix) items → Within text (length (prefix ++ bytes)) (with_line_end items previous (line_after prefix) (length prefix) (length bytes))
line_end text prefix bytes rest items AfterLineEnd is h = farther text (length prefix) (length (prefix ++ bytes)) items (omega (arith, length-append prefix bytes)) h
line_end text prefix bytes rest items AfterOperand is h = one_more text (length prefix) (length (prefix ++ bytes)) items _ h (placed text prefix bytes rest LineEndKind is tt) (omega arith) (omega (arith, length-append prefix bytes))
line_end text prefix bytes rest items AfterOther is h = one_more text (length prefix) (length (prefix ++ bytes)) items _ h (placed text prefix bytes rest LineEndKind is tt) (omega arith) (omega (arith, length-append prefix bytes))

-- of what spells a prefix, the tokens lie in it
spelled_within : (text prefix : List ℕ) (items : List Token) (previous : Previous) → Spelled text prefix items previous → Within text (length prefix) items
spelled_within _ _ _ _ (spelled_start {text}) = no_tokens text 0
spelled_within _ _ _ _ (spelled_token {text} {prefix} {items} {previous} bytes after kind before split token longest) =
    one_more text (length prefix) (length (prefix ++ bytes)) items _ (spelled_within text prefix items previous before) (placed text prefix bytes after kind split (spelled previous bytes after kind token)) (omega arith)
    (omega (arith, length-append prefix bytes))
spelled_within _ _ _ _ (spelled_blank {text} {prefix} {items} {previous} byte after before split blank) =
    farther text (length prefix) (length (prefix ++ byte ∷ [])) items (omega (arith, length-append prefix (byte ∷ []))) (spelled_within text prefix items previous before)
spelled_within _ _ _ _ (spelled_comment {text} {prefix} {items} {previous} body after before split no_feed ends) =
    farther text (length prefix) (length (prefix ++ comment_text body)) items (omega (arith, length-append prefix (comment_text body))) (spelled_within text prefix items previous before)
spelled_within _ _ _ _ (spelled_line_feed {text} {prefix} {items} {previous} after before split) =
    line_end text prefix (10 ∷ []) after items previous (split ∙ sym (append_assoc prefix (10 ∷ []) after)) (spelled_within text prefix items previous before)

-- the tokens of a text are tokens of it, in its order
pub tokens_each : (text : List ℕ) (items : List Token) → IsTokens text items → AreTokens text items
tokens_each text items h =
    let whole : text ≡ text ++ [] ++ [] = sym (ap (λ (l : List ℕ). l ++ []) (append-nil text) ∙ append-nil text) in
    subst (AreTokens text) (sym h.items_are) (line_end text text [] [] h.before h.previous whole (spelled_within text text h.before h.previous h.spelled)).tokens
