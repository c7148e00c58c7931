-- That the narrowed graph is without the most assignments. Cited by contracts.
use Rattle.std.specs.Prelude.{◌≡◌, ◌<◌, ◌≤◌, ◌↔◌, ℕ, Bool, true, false, length, slice_get, Option, Some}
use Rattle.mir_base.specs.declared.instructions.Rhs.{Rhs}
use Rattle.mir_base.specs.Expressions.{divides}
use Rattle.flow_graph.specs.declared.nodes.Node.{Node}
use Rattle.flow_graph.specs.declared.nodes.Node.TheVariants.{Assign, Skip}
use Rattle.flow_graph.specs.Graphs.{GraphShape, IsEdge, assigns}
use Rattle.wanted_bits.specs.declared.picking.Shift.{Shift}
use Rattle.wanted_bits.specs.Shifts.{IsShiftedAt}
use Rattle.wanted_bits.specs.Wanted.{Asked, all_asked, wanted_at}

-- these are the shifts that hold at each node
abbrev pub TellShifts : GraphShape → (ℕ → ℕ → Option Shift) → Type 0
TellShifts graph shifts = (n t : ℕ) (shift : Shift) → n < length graph.nodes
    → (shifts n t ≡ Some shift) ↔ IsShiftedAt graph t shift n

-- A removal of these nodes keeps what is wanted, where so many bits are taken for wanted: at most 64, at least what each
-- node wants that stays, and at least what is taken behind a node, unless it assigns the variable; and each node that is
-- removed is an assignment that does not divide, of a variable of which no bit is taken behind it
pub record KeepsTaken (asked : Asked) (graph : GraphShape) (shifts : ℕ → ℕ → Option Shift)
    (removed : ℕ → Bool) (taken : ℕ → ℕ → ℕ) : Type 0 where
  pub most : (n x : ℕ) → taken n x ≤ 64
  pub stays : (n x : ℕ) (node : Node) → slice_get graph.nodes n ≡ Some node
      → removed n ≡ false → wanted_at graph asked (shifts n) taken node x ≤ taken n x
  pub behind : (n slot s x : ℕ) (node : Node) → slice_get graph.nodes n ≡ Some node
      → IsEdge graph.nodes n slot s → assigns graph x node ≡ false → taken s x ≤ taken n x
  pub gone : (n : ℕ) (node : Node) → slice_get graph.nodes n ≡ Some node → removed n ≡ true
      → (x : ℕ) × (rhs : Rhs) × (next : ℕ) × (node ≡ Assign x rhs next)
      × (divides rhs ≡ false) × (taken next x ≡ 0)

-- each assignment that is removed where what is wanted is kept, whatever is taken for it, is a Skip here
abbrev pub RemovesMostBy : Asked → GraphShape → GraphShape → Type 0
RemovesMostBy asked graph narrowed =
    (shifts : ℕ → ℕ → Option Shift) (removed : ℕ → Bool) (taken : ℕ → ℕ → ℕ)
    → TellShifts graph shifts → KeepsTaken asked graph shifts removed taken
    → (n x next : ℕ) (rhs : Rhs) → slice_get graph.nodes n ≡ Some (Assign x rhs next)
    → removed n ≡ true → slice_get narrowed.nodes n ≡ Some (Skip next)

-- where all bits are asked for around the unit
abbrev pub RemovesMost : GraphShape → GraphShape → Type 0
RemovesMost = RemovesMostBy all_asked
