-- A program that grows by units.
use Rattle.std.proofs.Common.{◌≡◌, ◌<◌, ◌+◌, ◌-◌, ◌==◌, ℕ, suc, Bool, false, inl, inr, List, [], ◌∷◌, ◌++◌, refl, sym, ◌∙◌, ap, subst, arith, append_assoc}
use Rattle.std.proofs.lemmas.Bool.{cases_Bool}
use Rattle.std.proofs.lemmas.Bool.Decides.{nat_tests}
use Rattle.std.proofs.lemmas.List.{append-nil}
use Rattle.mir_base.specs.Shapes.{UnitShape}
use Rattle.mir_trial.specs.Trial.{groups, unit_of, units_from}

-- after some of the units: what there is, and so many units from number j and this state on, are all of it
pub record ListedSoFar (count number left j : ℕ) (items : List UnitShape) (state : ℕ) : Type 0 where
  pub listed : units_from count 0 number ≡ items ++ units_from left j state

-- at first there is nothing, and all is still to come
pub listing_begins : (count number : ℕ) → ListedSoFar count number (count - 0) 0 [] number
listing_begins count number = subst (λ (n : ℕ). ListedSoFar count number n 0 [] number) (omega arith) (record { listed = refl })

-- one more turn of the loop lists one more unit
list_one : (count number left j : ℕ) (items : List UnitShape) (state : ℕ) → ListedSoFar count number (suc left) j items state → ListedSoFar count number left (j + 1) (items ++ unit_of j (left == 0) state ∷ []) (groups 60 2 state).state
list_one count number left j items state so =
    let next : suc j ≡ j + 1 = omega arith in
    subst (λ (n : ℕ). ListedSoFar count number left n (items ++ unit_of j (left == 0) state ∷ []) (groups 60 2 state).state) next
    (record { listed = so.listed ∙ sym (append_assoc items (unit_of j (left == 0) state ∷ []) (units_from left (suc j) (groups 60 2 state).state)) })

-- a unit is the last where no turns are left
last_same : (count j : ℕ) → j < count → ((count - (j + 1)) == 0) ≡ (j + 1 == count)
last_same count j below = elim (cases_Bool (j + 1 == count)) [
  | inl is ↦ (let same : j + 1 ≡ count = grind (arith, nat_tests) in let none : count - (j + 1) ≡ 0 = omega arith in ap (λ (n : ℕ). n == 0) none ∙ sym is)
  | inr isnt ↦ (let more : 0 < count - (j + 1) = grind (arith, nat_tests) in let other : ((count - (j + 1)) == 0) ≡ false = grind (arith, nat_tests) in other ∙ sym isnt)
]

-- one unit more at the end
pub listing_goes_on : (count number j : ℕ) (items : List UnitShape) (state : ℕ) (last : Bool) (unit : UnitShape) (new : List UnitShape) (next : ℕ) → j < count → ListedSoFar count number (count - j) j items state
    → last ≡ (j + 1 == count) → unit ≡ unit_of j last state → new ≡ items ++ unit ∷ [] → next ≡ (groups 60 2 state).state → ListedSoFar count number (count - (j + 1)) (j + 1) new next
listing_goes_on count number j items state last unit new next below so last_is unit_is new_is next_is =
    let one : count - j ≡ suc (count - (j + 1)) = omega arith in
    let whole = list_one count number (count - (j + 1)) j items state (subst (λ (n : ℕ). ListedSoFar count number n j items state) one so) in
    let same : unit_of j ((count - (j + 1)) == 0) state ≡ unit = ap (λ (b : Bool). unit_of j b state) (last_same count j below ∙ sym last_is) ∙ sym unit_is in
    subst (λ (l : List UnitShape). ListedSoFar count number (count - (j + 1)) (j + 1) l next) (sym new_is)
    (subst (λ (z : ℕ). ListedSoFar count number (count - (j + 1)) (j + 1) (items ++ unit ∷ []) z) (sym next_is)
    (subst (λ (u : UnitShape). ListedSoFar count number (count - (j + 1)) (j + 1) (items ++ u ∷ []) (groups 60 2 state).state) same whole))

-- at the end there is all
pub listing_ends : (count number j : ℕ) (items : List UnitShape) (state : ℕ) → j ≡ count → ListedSoFar count number (count - j) j items state → units_from count 0 number ≡ items
listing_ends count number j items state is so =
    let none : count - j ≡ 0 = omega arith in
    so.listed ∙ ap (λ (n : ℕ). items ++ units_from n j state) none ∙ append-nil items
