-- Marks that are set one after the other.
use Rattle.std.proofs.Common.{◌≡◌, inl, inr, ℕ, ◌<◌, ◌≤◌, Bool, true, false, ◌||◌, nat_eq, List, [], ◌∷◌, length, replicate, slice_get, slice_set, Some, refl, sym, ap, ◌∙◌, arith}
use Rattle.std.proofs.lemmas.Bool.{cases_eq, eq-eqb, eqb-true}
use Rattle.std.proofs.lemmas.List.{get_or-replicate, length-replicate, length-set}
use Rattle.std.proofs.lemmas.Option.{slice_get-get_or}
use Rattle.flow_graph.specs.ListLaws.{set_elsewhere, set_here}
use Rattle.flow_graph.specs.Numbering.{is_in}
use Rattle.program_pass.specs.Marks.{AreMarksOf}

-- x is one of the numbers exactly where its mark is set or it is one of the rest, which are not marked yet
pub record IsSet (numbers rest : List ℕ) (marks : List Bool) (x : ℕ) : Type 0 where
  pub mark : Bool
  pub here : slice_get marks x ≡ Some mark
  pub told : mark || is_in x rest ≡ is_in x numbers

-- the marks are set for all numbers but the rest
pub record AreSet (numbers rest : List ℕ) (count : ℕ) (marks : List Bool) : Type 0 where
  pub long : length marks ≡ count
  pub each : (x : ℕ) → x < count → IsSet numbers rest marks x

-- at first no mark is set
pub none_set : (numbers : List ℕ) (count : ℕ) (marks : List Bool) → marks ≡ replicate count false → AreSet numbers numbers count marks
none_set numbers count marks are = record {
  long = ap (λ l. length l) are ∙ length-replicate count false;
  each = λ x lt.
      let within : x < length (replicate count false) = let long = length-replicate count false in omega (arith, lt, long) in
      record {
        mark = false;
        here = ap (λ l. slice_get l x) are ∙ slice_get-get_or (replicate count false) x false within ∙ ap Some (get_or-replicate count x false false lt);
        told = refl;
      };
}

-- with a set number, whatever was marked
or_set : (b : Bool) → b || true ≡ true
or_set true = refl
or_set false = refl

-- of different numbers the test tells so
apart_told : (x y : ℕ) → (x ≡ y → ⊥) → nat_eq y x ≡ false
apart_told x y apart = go (nat_eq y x) refl
  where
    go : (b : Bool) → nat_eq y x ≡ b → nat_eq y x ≡ false
    go true is = absurd (apart (sym (eqb-true y x is)))
    go false is = is

-- a number that is none of the rest changes nothing for others
pub set_apart : (numbers rest : List ℕ) (y : ℕ) (marks marks' : List Bool) (x : ℕ) → (x ≡ y → ⊥) → slice_get marks' x ≡ slice_get marks x → IsSet numbers (y ∷ rest) marks x → IsSet numbers rest marks' x
set_apart numbers rest y marks marks' x apart same is = record {
  mark = is.mark;
  here = same ∙ is.here;
  told = ap (λ b. is.mark || (b || is_in x rest)) (sym (apart_told x y apart)) ∙ is.told;
}

-- one more mark
pub set_more : (numbers rest : List ℕ) (y count : ℕ) (marks marks' : List Bool) → y < count → marks' ≡ slice_set marks y true → AreSet numbers (y ∷ rest) count marks → AreSet numbers rest count marks'
set_more numbers rest y count marks marks' within are s = record {
  long = ap (λ l. length l) are ∙ length-set marks y true ∙ s.long;
  each = λ x lt. elim (cases_eq x y) [
    | inl same ↦
        let at : y < length marks = let long = s.long in omega (arith, within, long) in
        let is = s.each x lt in
        record {
          mark = true;
          here = ap (λ l. slice_get l x) are ∙ ap (slice_get (slice_set marks y true)) same ∙ set_here marks y true at;
          told = sym (sym is.told ∙ ap (λ b. is.mark || (b || is_in x rest)) (eq-eqb y x (sym same)) ∙ or_set is.mark);
        }
    | inr apart ↦ set_apart numbers rest y marks marks' x apart (ap (λ l. slice_get l x) are ∙ set_elsewhere marks y x true apart) (s.each x lt)
  ];
}

-- a number that has no mark
pub set_passed : (numbers rest : List ℕ) (y count : ℕ) (marks marks' : List Bool) → count ≤ y → marks' ≡ marks → AreSet numbers (y ∷ rest) count marks → AreSet numbers rest count marks'
set_passed numbers rest y count marks marks' late are s = record {
  long = ap (λ l. length l) are ∙ s.long;
  each = λ x lt. set_apart numbers rest y marks marks' x (λ same. omega (arith, same, lt, late)) (ap (λ l. slice_get l x) are) (s.each x lt);
}

-- all marks
pub all_set : (numbers rest : List ℕ) (count : ℕ) (marks : List Bool) → rest ≡ [] → AreSet numbers rest count marks → AreMarksOf numbers count marks
all_set numbers rest count marks none s = record {
  long = s.long;
  are = λ x lt.
      let is = s.each x lt in
      is.here ∙ ap Some (alone is.mark ∙ ap (λ l. is.mark || is_in x l) (sym none) ∙ is.told);
}
  where
    alone : (b : Bool) → b ≡ b || false
    alone true = refl
    alone false = refl
