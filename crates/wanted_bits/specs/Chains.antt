-- Which bits are wanted, by chains: each leads from where a node needs bits back to where they are wanted. Cited by
-- contracts.
use Rattle.std.specs.Prelude.{◌≡◌, ◌↔◌, ℕ, ◌<◌, ◌≤◌, false, List, length, slice_get, Option, Some}
use Rattle.mir_base.specs.declared.instructions.Rhs.{Rhs}
use Rattle.node_list.specs.Lists.{list_at}
use Rattle.flow_graph.specs.declared.nodes.Node.{Node}
use Rattle.flow_graph.specs.declared.nodes.Node.TheVariants.{Assign}
use Rattle.flow_graph.specs.Graphs.{GraphShape, IsEdge, assigns}
use Rattle.wanted_bits.specs.declared.picking.Shift.{Shift}
use Rattle.wanted_bits.specs.MostRemoved.{TellShifts}
use Rattle.wanted_bits.specs.Walking.{bits_at}
use Rattle.wanted_bits.specs.Wanted.{Asked, all_asked, wanted_at, wanted_rhs}

-- no bit of any variable
abbrev pub none_wanted : ℕ → ℕ → ℕ
none_wanted n x = 0

-- A chain shows that the k lowest bits of x are wanted before node n: the node needs them, whatever is wanted behind it;
-- or it assigns y a right side, of which such a chain shows m bits behind it, and that wants k of x for them; or it does
-- not assign x, of which such a chain shows k before a successor
pub data IsCarried (asked : Asked) (graph : GraphShape) (shifts : ℕ → ℕ → Option Shift)
    : ℕ → ℕ → ℕ → Type 0 where
  needed : (n x k : ℕ) (node : Node) → slice_get graph.nodes n ≡ Some node
      → k ≤ wanted_at graph asked (shifts n) none_wanted node x → IsCarried asked graph shifts n x k
  through : (n x k y m next : ℕ) (rhs : Rhs)
      → slice_get graph.nodes n ≡ Some (Assign y rhs next) → k ≤ wanted_rhs (shifts n) rhs m x
      → IsCarried asked graph shifts next y m → IsCarried asked graph shifts n x k
  passed_on : (n slot s x k : ℕ) (node : Node) → slice_get graph.nodes n ≡ Some node
      → IsEdge graph.nodes n slot s → assigns graph x node ≡ false
      → IsCarried asked graph shifts s x k → IsCarried asked graph shifts n x k

-- so many bits are wanted of each variable before each node as a chain shows, by the shifts that hold, where so many
-- are asked for around the unit
pub record AreCarriedBy (asked : Asked) (graph : GraphShape) (rows : List (List ℕ)) : Type 0 where
  pub shifts : ℕ → ℕ → Option Shift
  pub tell : TellShifts graph shifts
  pub carried : (n x k : ℕ) → n < length graph.nodes → x < length graph.vars
      → (k ≤ bits_at (list_at rows n) x) ↔ IsCarried asked graph shifts n x k

-- where all bits are asked for
abbrev pub AreCarried : GraphShape → List (List ℕ) → Type 0
AreCarried = AreCarriedBy all_asked
