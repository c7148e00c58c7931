-- Laws: a text that is made of pieces in turn grows by one piece, and so does what a function appends. For proofs only,
-- those of the crates above too.
use Rattle.std.proofs.Common.{◌≡◌, ℕ, zero, suc, ◌+◌, List, [], ◌++◌, Vec, refl, sym, subst, ◌∙◌, ap, append_assoc, add-one}
use Rattle.std.proofs.lemmas.List.{append-nil}
use Rattle.table_text.specs.Turns.{AppendsSome, InTurn}

-- before the first piece
pub no_turn : {A : Type 0} (IsPiece : ℕ → List ℕ → Type 0) (start : Vec ℕ A) → AppendsSome (InTurn IsPiece 0) start start
no_turn IsPiece start = ([], refl, sym (append-nil start.items))

-- behind the first n pieces comes that of number n
pub next_turn : {A : Type 0} (IsPiece : ℕ → List ℕ → Type 0) (n : ℕ) (start before after : Vec ℕ A)
    → AppendsSome (InTurn IsPiece n) start before → AppendsSome (IsPiece n) before after
    → AppendsSome (InTurn IsPiece (n + 1)) start after
next_turn IsPiece n start before after p q =
    subst (λ (k : ℕ). AppendsSome (InTurn IsPiece k) start after) (sym (add-one n)) (
      p.0 ++ q.0,
      (p.0, q.0, p.1, q.1, refl),
      q.2 ∙ ap (λ (l : List ℕ). l ++ q.0) p.2 ∙ append_assoc start.items p.0 q.0,
    )

-- two texts that are appended one after the other; for three, begin with the first two
pub two_pieces : {A : Type 0} (start mid end : Vec ℕ A) (a b : List ℕ) → mid.items ≡ start.items ++ a
    → end.items ≡ mid.items ++ b → end.items ≡ start.items ++ (a ++ b)
two_pieces start mid end a b first second = second ∙ ap (λ (l : List ℕ). l ++ b) first ∙ append_assoc start.items a b

-- nothing is appended
pub no_piece : {A : Type 0} (Is : List ℕ → Type 0) (start : Vec ℕ A) → Is [] → AppendsSome Is start start
no_piece Is start is = ([], is, sym (append-nil start.items))

-- what is so of each piece is said of all of them
pub turns_as : (IsPiece IsOther : ℕ → List ℕ → Type 0) → ((n : ℕ) (piece : List ℕ) → IsPiece n piece → IsOther n piece)
    → (count : ℕ) (text : List ℕ) → InTurn IsPiece count text → InTurn IsOther count text
turns_as IsPiece IsOther becomes zero text is = is
turns_as IsPiece IsOther becomes (suc n) text is = (is.0, is.1, turns_as IsPiece IsOther becomes n is.0 is.2, becomes n is.1 is.3, is.4)
