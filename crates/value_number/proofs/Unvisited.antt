-- Nodes that have not been visited stay so, but for the one that is visited.
use Rattle.std.proofs.Common.{◌≡◌, ℕ, Bool, true, false, if◌then◌else◌, List, [], ◌∷◌, ◌++◌, slice_get, slice_index_or, slice_set, Option, Some, None, inl, inr, refl, sym, subst}
use Rattle.flow_graph.specs.MarkLaws.{marked_before}
use Rattle.value_number.specs.declared.walk.Step.{Step}
use Rattle.value_number.specs.declared.walk.Step.TheVariants.{Visit, Restore}
use Rattle.value_number.specs.TermWalks.{IsToVisit, IsUnvisited, LeavesUnvisited, VisitRoots, listed_after, steps_after}
use Rattle.value_number.proofs.TermWalks.{no_visit, set_again, visit_left, visit_put, visit_stays}

-- once a number is restored
pub restore_leaves : (v : ℕ) (old : Option ℕ) (listed : List Bool) (steps : List Step) → LeavesUnvisited (Restore v old) listed steps listed steps
restore_leaves v old listed steps = λ n other unvisited at. no_visit n v old steps (unvisited at)

-- when one node is listed
one_listed : (n root s : ℕ) (listed : List Bool) (steps : List Step) → IsUnvisited n listed steps → (b : Bool) → slice_index_or listed s false ≡ b → IsUnvisited n (slice_set listed s true) (if b then steps else steps ++ Visit s root ∷ [])
one_listed n root s listed steps unvisited true is = subst (λ l. IsUnvisited n l steps) (sym (set_again listed s is)) unvisited
one_listed n root s listed steps unvisited false is = λ at. elim (marked_before listed s n at) as (λ _. IsToVisit n (steps ++ Visit s root ∷ [])) [
  | inl same ↦ subst (λ k. IsToVisit k (steps ++ Visit s root ∷ [])) (sym same) (visit_put s root steps)
  | inr was ↦ visit_stays n steps (Visit s root ∷ []) (unvisited was)
]

-- when several are
several_listed : (n root : ℕ) (succs : List ℕ) (listed : List Bool) (steps : List Step) → IsUnvisited n listed steps → IsUnvisited n (listed_after succs listed) (steps_after root succs listed steps)
several_listed n root [] listed steps unvisited = unvisited
several_listed n root (s ∷ succs) listed steps unvisited =
    several_listed n root succs (slice_set listed s true) (if slice_index_or listed s false then steps else steps ++ Visit s root ∷ []) (one_listed n root s listed steps unvisited (slice_index_or listed s false) refl)

-- so once a node has been visited, as the code does it
pub visit_leaves : (n root : ℕ) (succs : List ℕ) (listed listed' : List Bool) (steps changed steps' : List Step) → ((m : ℕ) → IsToVisit m steps → IsToVisit m changed) → listed' ≡ listed_after succs listed → steps' ≡ steps_after root succs listed changed → LeavesUnvisited (Visit n root) listed steps listed' steps'
visit_leaves n root succs listed listed' steps changed steps' stay listed_are steps_are = λ m other unvisited.
    let kept : IsUnvisited m listed changed = λ at. elim (visit_left m n root steps (unvisited at)) as (λ _. IsToVisit m changed) [ inl left ↦ stay m left | inr same ↦ absurd (other same) ] in
    subst (IsUnvisited m listed') (sym steps_are) (subst (λ l. IsUnvisited m l (steps_after root succs listed changed)) (sym listed_are) (several_listed m root succs listed changed kept))

-- before the first step no node has been visited
pub none_visited : (roots : List Bool) (steps : List Step) → VisitRoots roots steps → (n : ℕ) → IsUnvisited n roots steps
none_visited roots steps visits n at = let v = visits.has n at in (v.0, n, v.1)

-- and where no step is left, one that is listed has been visited
pub none_left : (n : ℕ) (listed : List Bool) → IsUnvisited n listed [] → slice_get listed n ≡ Some true → ⊥
none_left n listed unvisited at = let v = unvisited at in let none : None ≡ Some (Visit n v.1) = v.2 in cc
