-- Each step of the walk makes what is left less.
use Rattle.std.proofs.Common.{◌≡◌, ℕ, suc, ◌+◌, ◌*◌, ◌<◌, ◌≤◌, Bool, true, false, if◌then◌else◌, List, [], ◌∷◌, ◌++◌, length, slice_index_or, slice_set, Option, Some, None, refl, sym, ap, ◌∙◌, subst, arith}
use Rattle.std.proofs.lemmas.List.{length-set}
use Rattle.mir_base.specs.Shapes.{AllBelow}
use Rattle.flow_graph.specs.MarkLaws.{unmarked_same, unmarked_set}
use Rattle.flow_graph.specs.ReachWalks.{unmarked}
use Rattle.value_number.specs.declared.finding.NewTerm.{NewTerm}
use Rattle.value_number.specs.declared.walk.Step.{Step}
use Rattle.value_number.specs.declared.walk.Step.TheVariants.{Visit, Restore}
use Rattle.value_number.specs.TermWalks.{undoing, listed_after, steps_after, steps_weight, weight_left}

-- a product of one more
times_suc : (k n : ℕ) → k * suc n ≡ k * n + k
times_suc k n = omega arith

-- equal numbers are in order
le_same : {a b : ℕ} → a ≡ b → a ≤ b
le_same e = omega (arith, e)

-- the weights of steps one after the other
pub weight_append : (shared : ℕ) (xs ys : List Step) → steps_weight shared (xs ++ ys) ≡ steps_weight shared xs + steps_weight shared ys
weight_append shared [] ys = omega arith
weight_append shared (x ∷ xs) ys = omega (arith, weight_append shared xs ys)

-- a change weighs at most one
pub undoing_light : (shared : ℕ) (steps : List Step) (numbers : List (Option ℕ)) (change : Option NewTerm) → steps_weight shared (undoing steps numbers change) ≤ 1
undoing_light shared steps numbers None = omega arith
undoing_light shared [] numbers (Some change) = omega arith
undoing_light shared (step ∷ steps) numbers (Some change) = omega arith

-- one mark more is worth a visit and one step
mark_light : (shared more fewer : ℕ) → suc fewer ≡ more → (shared + 3) * more ≡ (shared + 3) * fewer + (shared + 3)
mark_light shared more fewer is = sym (ap (λ k. (shared + 3) * k) is) ∙ times_suc (shared + 3) fewer

-- a successor that is listed makes no more
list_light : (shared root s : ℕ) (listed : List Bool) (steps : List Step) → s < length listed → (b : Bool) → slice_index_or listed s false ≡ b → weight_left shared (slice_set listed s true) (if b then steps else steps ++ Visit s root ∷ []) ≤ weight_left shared listed steps
list_light shared root s listed steps lt true is = le_same (ap (λ k. (shared + 3) * k + steps_weight shared steps) (unmarked_same listed s is))
list_light shared root s listed steps lt false is = omega (arith, mark_light shared (unmarked listed) (unmarked (slice_set listed s true)) (let e = unmarked_set listed s lt is in omega (arith, e)), weight_append shared steps (Visit s root ∷ []))

-- nor do all of them
list_all_light : (shared root : ℕ) (succs : List ℕ) (listed : List Bool) (steps : List Step) → AllBelow (length listed) succs → weight_left shared (listed_after succs listed) (steps_after root succs listed steps) ≤ weight_left shared listed steps
list_all_light shared root [] listed steps below = omega arith
list_all_light shared root (s ∷ succs) listed steps below =
    let rest = list_all_light shared root succs (slice_set listed s true) (if slice_index_or listed s false then steps else steps ++ Visit s root ∷ []) (subst (λ k. AllBelow k succs) (sym (length-set listed s true)) below.1) in
    let one = list_light shared root s listed steps below.0 (slice_index_or listed s false) refl in
    omega (arith, rest, one)

-- a visit makes it less, where it puts on one step for each global and one more
pub visit_light : (shared n root : ℕ) (succs : List ℕ) (listed : List Bool) (steps changed : List Step) → AllBelow (length listed) succs → steps_weight shared changed ≤ suc shared + steps_weight shared steps
    → weight_left shared (listed_after succs listed) (steps_after root succs listed changed) < weight_left shared listed (steps ++ Visit n root ∷ [])
visit_light shared n root succs listed steps changed below light =
    omega (arith, list_all_light shared root succs listed changed below, light, weight_append shared steps (Visit n root ∷ []))

-- and so does a number that is restored
pub restore_light : (shared v : ℕ) (old : Option ℕ) (listed : List Bool) (steps : List Step) → weight_left shared listed steps < weight_left shared listed (steps ++ Restore v old ∷ [])
restore_light shared v old listed steps = omega (arith, weight_append shared steps (Restore v old ∷ []))
