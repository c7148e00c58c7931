-- Numbers that stand for terms. Cited by contracts.
use Rattle.std.specs.Prelude.{◌≡◌, ℕ, ◌<◌, List, length, slice_get, slice_index_or, Option, Some, None}
use Rattle.value_number.specs.declared.terms.TermKey.{TermKey}
use Rattle.value_number.specs.declared.terms.TermKey.TheVariants as keys
use Rattle.value_number.specs.Terms.{Term, Terms, Initial, Opaque, Number, UnaryOf, BinaryOf}

-- the entry of this number is that of the term, and so are those of its operands
abbrev pub Stands : List TermKey → ℕ → Term → Type 0
Stands table n (Initial v root) = slice_get table n ≡ Some (keys.Initial v root)
Stands table n (Opaque k v) = slice_get table n ≡ Some (keys.Opaque k v)
Stands table n (Number c) = slice_get table n ≡ Some (keys.Number c)
Stands table n (UnaryOf op t) = (a : ℕ) × (slice_get table n ≡ Some (keys.Unary op a))
    × Stands table a t
Stands table n (BinaryOf op t u) = (a : ℕ) × (b : ℕ)
    × (slice_get table n ≡ Some (keys.Binary op a b))
    × Stands table a t × Stands table b u

-- entries keep their numbers
abbrev pub Stay : List TermKey → List TermKey → Type 0
Stay old new = (i : ℕ) (key : TermKey) → slice_get old i ≡ Some key → slice_get new i ≡ Some key

-- each number of the table stands for a term
abbrev pub AllStand : List TermKey → Type 0
AllStand table = (k : ℕ) → k < length table → (t : Term) × Stands table k t

-- the number of the term of a variable, where there is one
abbrev pub variable_number : List (Option ℕ) → ℕ → Option ℕ
variable_number numbers v = slice_index_or numbers v None

-- a number that there is stands for the term; where none is, the variable has its leaf of the root
abbrev pub RepresentsAt : List TermKey → ℕ → ℕ → Option ℕ → Term → Type 0
RepresentsAt table root v None t = t ≡ Initial v root
RepresentsAt table root v (Some n) t = Stands table n t

-- so it is for each variable
pub record Represent (table : List TermKey) (numbers : List (Option ℕ)) (root : ℕ)
    (terms : Terms) : Type 0 where
  pub each : (v : ℕ) → v < length numbers
      → RepresentsAt table root v (variable_number numbers v) (terms v)

-- where these numbers stand for some terms, each number of the new table stands for a term, if each of the old one did
abbrev pub StandOn : List TermKey → List (Option ℕ) → ℕ → List TermKey → Type 0
StandOn old numbers root new = (terms : Terms) → Represent old numbers root terms → AllStand old
    → AllStand new
