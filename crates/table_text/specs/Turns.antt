-- Texts that are written one after the other, each of which is known by a statement about its number. Cited by
-- contracts of the crates above.
use Rattle.std.specs.Prelude.{◌≡◌, ℕ, zero, suc, List, [], ◌++◌, Vec}

-- the text is made of one piece for each of the first so many numbers, in their order
abbrev pub InTurn : (ℕ → List ℕ → Type 0) → ℕ → List ℕ → Type 0
InTurn IsPiece zero text = text ≡ []
InTurn IsPiece (suc n) text =
    (front : List ℕ) × (piece : List ℕ) × InTurn IsPiece n front × IsPiece n piece
    × (text ≡ front ++ piece)

-- the text is this line, and behind it one piece for each of so many numbers
pub record IsTableText (line : List ℕ) (IsPiece : ℕ → List ℕ → Type 0) (count : ℕ)
    (text : List ℕ) : Type 0 where
  pub pieces : List ℕ
  pub are : InTurn IsPiece count pieces
  pub text_is : text ≡ line ++ pieces

-- ---- for the functions that write them

-- the vector ends as it was with a text behind of which this is so
abbrev pub AppendsSome : {A : Type 0} → (List ℕ → Type 0) → Vec ℕ A → Vec ℕ A → Type 0
AppendsSome Is old new = (piece : List ℕ) × Is piece × (new.items ≡ old.items ++ piece)
