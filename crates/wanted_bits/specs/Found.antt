-- What the code finds: what each right side shifts back, how many bits are wanted of what each node assigns, and the
-- nodes by them. Cited by contracts of private functions.
use Rattle.std.specs.Prelude.{◌≡◌, ◌<◌, ◌≤◌, ◌⊎◌, ◌↔◌, ℕ, suc, if◌then◌else◌, List, drop, length, slice_get, slice_index_or, Option, Some, None, option_map}
use Rattle.flow_graph.specs.declared.nodes.Node.{Node}
use Rattle.flow_graph.specs.declared.nodes.Node.TheVariants.{Skip, Assign, Call, Return}
use Rattle.flow_graph.specs.Graphs.{GraphShape}
use Rattle.flow_graph.specs.NumberTables.{number_at}
use Rattle.wanted_bits.specs.declared.picking.Shift.{Shift}
use Rattle.wanted_bits.specs.BitsOrder.{HasFew}
use Rattle.wanted_bits.specs.Narrowed.{all_handed, goes, handed, narrowed_node, narrowed_past}
use Rattle.wanted_bits.specs.Shifts.{IsShiftedAt}
use Rattle.wanted_bits.specs.Walking.{HaveBacks, assigned_bits, back_in, before_list}
use Rattle.wanted_bits.specs.Wanted.{AreLeastWantedBy, AreShifts, Asked}

-- what each right side shifts back, by the shifts that hold
pub record AreBacks (graph : GraphShape) (backs : List (Option Shift)) : Type 0 where
  pub long : length backs ≡ length graph.nodes
  pub shifts : ℕ → ℕ → Option Shift
  pub shifts_are : (n t : ℕ) (shift : Shift) → n < length graph.nodes
      → (shifts n t ≡ Some shift) ↔ IsShiftedAt graph t shift n
  pub shifts_hold : AreShifts graph shifts
  pub have : HaveBacks graph shifts (back_in backs)

-- the bits that are wanted behind a node of the variable to which it assigns a right side
abbrev pub behind_bits : (ℕ → ℕ → ℕ) → Option Node → ℕ
behind_bits wanted None = 0
behind_bits wanted (Some (Assign x rhs next)) = wanted next x
behind_bits wanted (Some node) = 0

-- by the least numbers they are so many at each node, where the shifts shift these back
pub record AreBehind (graph : GraphShape) (asked : Asked) (backs : List (Option Shift))
    (behind : List ℕ)
    : Type 0 where
  pub long : length behind ≡ length graph.nodes
  pub few : HasFew behind
  pub are : (shifts : ℕ → ℕ → Option Shift) → HaveBacks graph shifts (back_in backs)
      → (wanted : ℕ → ℕ → ℕ) × AreLeastWantedBy asked graph shifts wanted
      × ((n : ℕ) → n < length graph.nodes
      → number_at behind n ≡ behind_bits wanted (slice_get graph.nodes n))

-- how many of the lowest bits are wanted of the variable that a node assigns, where these numbers hold behind the node; 0
-- where there is no node
abbrev pub noted_past : Option Node → List ℕ → ℕ
noted_past None bits = 0
noted_past (Some node) bits = assigned_bits node bits

-- for the nodes of a block from this place on, behind which these are wanted, what is noted of the node and of the
-- numbers behind it is put in their places
pub record NotesFrom {A : Type 0} (note : ℕ → Option Node → List ℕ → A) (blank : A)
    (graph : GraphShape) (asked : Asked) (back : ℕ → Option Shift) (list bits : List ℕ)
    (place : ℕ) (old new : List A) : Type 0 where
  pub long : length new ≡ length old
  pub noted : (i n : ℕ) → place ≤ i → slice_get list i ≡ Some n → slice_index_or new n blank
      ≡ note n (slice_get graph.nodes n) (before_list graph asked back (drop (suc i) list) bits)
  pub others : (n : ℕ) → ((i : ℕ) × (slice_get list i ≡ Some n))
      ⊎ (slice_index_or new n blank ≡ slice_index_or old n blank)

-- for all of them, the numbers of what they assign
abbrev pub NotesBlock : GraphShape → Asked → (ℕ → Option Shift) → List ℕ → List ℕ → List ℕ
    → List ℕ → Type 0
NotesBlock graph asked back list bits old new =
    NotesFrom (λ n. noted_past) 0 graph asked back list bits 0 old new

-- what a node becomes, whose right side shifts this back, and of whose variable k bits are wanted behind it, where so
-- many bits are asked for around the unit
abbrev pub narrowed_by : Asked → Option Shift → ℕ → Node → Node
narrowed_by asked back k (Assign x rhs next) =
    if goes x rhs (narrowed_past back rhs k) k then Skip next
    else Assign x (narrowed_past back rhs k) next
narrowed_by asked back k (Call into unit operands next) =
    Call into unit (all_handed (asked.arguments unit) 0 operands) next
narrowed_by asked back k (Return a) = Return (handed asked.result a)
narrowed_by asked back k node = node

-- the list has what each node becomes by these
abbrev pub AreListed : GraphShape → Asked → List (Option Shift) → List ℕ → List Node → Type 0
AreListed graph asked backs behind nodes = (n : ℕ) → slice_get nodes n
    ≡ option_map (narrowed_by asked (back_in backs n) (number_at behind n))
    (slice_get graph.nodes n)

-- the nodes by the shifts that hold and the least wanted bits
pub record AreFoundNodes (asked : Asked) (graph : GraphShape) (nodes : List Node) : Type 0 where
  pub shifts : ℕ → ℕ → Option Shift
  pub wanted : ℕ → ℕ → ℕ
  pub shifts_are : (n t : ℕ) (shift : Shift) → n < length graph.nodes
      → (shifts n t ≡ Some shift) ↔ IsShiftedAt graph t shift n
  pub shifts_hold : AreShifts graph shifts
  pub least : AreLeastWantedBy asked graph shifts wanted
  pub nodes_are : (n : ℕ) → slice_get nodes n
      ≡ option_map (narrowed_node asked (shifts n) wanted) (slice_get graph.nodes n)
