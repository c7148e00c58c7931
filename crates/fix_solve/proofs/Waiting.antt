-- The one list of the nodes that wait.
use Rattle.std.proofs.Common.{◌≡◌, ◌≢◌, ℕ, ◌+◌, Bool, true, false, ◌&&◌, not, eqb, List, [], ◌∷◌, length, refl, ap, ◌∙◌, arith, eq-eqb}
use Rattle.std.proofs.Math.Bool.{and-false, and-true}
use Rattle.std.proofs.lemmas.Bool.{ne_eqb, lt-ltb}
use Rattle.node_list.specs.Lists.{list_at, times_in, times, is_listed}

-- ---- a node leaves the list

-- the others wait as before
pub leaves_other : (l l' : ℕ → Bool) (node n : ℕ) → ((k : ℕ) → l' k ≡ (l k && not (eqb k node))) → n ≢ node → l' n ≡ l n
leaves_other l l' node n listed d = listed n ∙ ap (λ b. l n && not b) (ne_eqb n node d) ∙ and-true (l n)

-- it waits no longer
pub leaves_here : (l l' : ℕ → Bool) (node : ℕ) → ((k : ℕ) → l' k ≡ (l k && not (eqb k node))) → l' node ≡ false
leaves_here l l' node listed = listed node ∙ ap (λ b. l node && not b) (eq-eqb node node refl) ∙ and-false (l node)

-- the first node of a list waits, and none does where the one list is empty
pub first_waits : (lists : List (List ℕ)) (node : ℕ) (rest : List ℕ) → length lists ≡ 1 → list_at lists 0 ≡ node ∷ rest → is_listed lists node ≡ true
first_waits [] node rest one is = absurd (omega arith)
first_waits (xs ∷ lists) node rest one is = lt-ltb 0 (times (xs ∷ lists) node) (let here : times_in node xs ≡ 1 + times_in node rest = rw (is, eq-eqb node node refl) refl in omega arith)

-- in an empty list none waits
pub none_waits : (lists : List (List ℕ)) (n : ℕ) → length lists ≡ 1 → list_at lists 0 ≡ [] → is_listed lists n ≡ false
none_waits [] n one is = absurd (omega arith)
none_waits (xs ∷ []) n one is = rw is refl
none_waits (xs ∷ ys ∷ lists) n one is = absurd (omega arith)
