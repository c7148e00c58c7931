-- Laws of bounds: an edge leaves a node of the list, at slot 0 or 1, and the successors of a node are below a bound
-- where each edge leads below it. For proofs only; the crates above cite them too.
use Rattle.std.proofs.Common.{◌≡◌, ℕ, zero, suc, ◌<◌, List, [], ◌∷◌, length, slice_get, Some, refl, ap, ◌∙◌, arith, Bool, true, false, if◌then◌else◌}
use Rattle.mir_base.specs.Shapes.{AllBelow}
use Rattle.flow_graph.specs.declared.nodes.Node.{Node}
use Rattle.flow_graph.specs.declared.nodes.Node.TheVariants.{Start, Skip, Assign, Print, Guard, Call, Test, Return}
use Rattle.flow_graph.specs.Graphs.{node_succs, succs_of, succs_at, AllWithin, IsEdge, SuccsBelow, Reached, at_start, along, slot_of}
use Rattle.flow_graph.specs.Paths.{HasEdge}

-- ---- a number from which an edge leads is that of a node

-- where it leads from a slot
pub slot_within : (nodes : List Node) (m slot s : ℕ) → IsEdge nodes m slot s → m < length nodes
slot_within [] m slot s e = cc
slot_within (node ∷ nodes) zero slot s e = omega arith
slot_within (node ∷ nodes) (suc m) slot s e = omega (arith, slot_within nodes m slot s e)

-- where it leads from any slot
pub edge_within : (nodes : List Node) (m s : ℕ) → HasEdge nodes m s → m < length nodes
edge_within nodes m s edge = slot_within nodes m edge.0 s edge.1

-- a node that is reached is one of the list, where each edge leads to one
pub reached_within : (nodes : List Node) → 0 < length nodes
    → ((m slot s : ℕ) → IsEdge nodes m slot s → s < length nodes) → (n : ℕ) → Reached nodes n → n < length nodes
reached_within nodes some within zero at_start = some
reached_within nodes some within n (along m slot s reached edge) = within m slot n edge

-- a node has at most two successors
pub slot_low : (node : Node) (slot s : ℕ) → slice_get (node_succs node) slot ≡ Some s → slot < 2
slot_low node zero s e = omega arith
slot_low node (suc zero) s e = omega arith
slot_low (Start next) (suc (suc slot)) s e = cc
slot_low (Skip next) (suc (suc slot)) s e = cc
slot_low (Assign x rhs next) (suc (suc slot)) s e = cc
slot_low (Print a next) (suc (suc slot)) s e = cc
slot_low (Guard test number next) (suc (suc slot)) s e = cc
slot_low (Call into unit operands next) (suc (suc slot)) s e = cc
slot_low (Test test taken other) (suc (suc slot)) s e = cc
slot_low (Return a) (suc (suc slot)) s e = cc

-- the slot that a test takes leads to the successor that it takes
pub slot_leads : (taken other : ℕ) (holds : Bool) → slice_get (taken ∷ other ∷ []) (slot_of holds) ≡ Some (if holds then taken else other)
slot_leads taken other true = refl
slot_leads taken other false = refl

-- ---- successors below a bound: by the cases of a node, and as a list

-- a list is below a bound where each item is
pub all_below : (m : ℕ) (xs : List ℕ) → ((i x : ℕ) → slice_get xs i ≡ Some x → x < m) → AllBelow m xs
all_below m [] low = tt
all_below m (x ∷ xs) low = (low 0 x refl, all_below m xs (λ i. low (suc i)))

-- the successors of a node are below a bound where each of them is
pub node_succs_below : (m : ℕ) (node : Node) → ((slot s : ℕ) → slice_get (node_succs node) slot ≡ Some s → s < m) → SuccsBelow m node
node_succs_below m (Start next) low = low 0 next refl
node_succs_below m (Skip next) low = low 0 next refl
node_succs_below m (Assign x rhs next) low = low 0 next refl
node_succs_below m (Print a next) low = low 0 next refl
node_succs_below m (Guard test number next) low = low 0 next refl
node_succs_below m (Call into unit operands next) low = low 0 next refl
node_succs_below m (Test test taken other) low = (low 0 taken refl, low 1 other refl)
node_succs_below m (Return a) low = tt

module _ (nodes : List Node) (n : ℕ) (node : Node) (within : AllWithin nodes) (here : slice_get nodes n ≡ Some node) where
  leads_within : (slot s : ℕ) → slice_get (node_succs node) slot ≡ Some s → s < length nodes
  leads_within slot s e = within n slot s (ap (λ o. slice_get (succs_of o) slot) here ∙ e)

  pub succs_below : SuccsBelow (length nodes) node
  succs_below = node_succs_below (length nodes) node leads_within

  pub succs_all_below : AllBelow (length nodes) (node_succs node)
  succs_all_below = all_below (length nodes) (node_succs node) leads_within

-- the same of the successors of a number, which may have no node
pub succs_at_below : (nodes : List Node) (n : ℕ) → AllWithin nodes → AllBelow (length nodes) (succs_at nodes n)
succs_at_below nodes n within = all_below (length nodes) (succs_at nodes n) (within n)
