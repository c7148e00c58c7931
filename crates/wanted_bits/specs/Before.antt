-- How many bits are wanted before each node, as lists. Cited by contracts.
use Rattle.std.specs.Prelude.{◌≡◌, ◌<◌, ℕ, List, length, Option}
use Rattle.node_list.specs.Lists.{list_at}
use Rattle.flow_graph.specs.declared.nodes.Node.{Node}
use Rattle.flow_graph.specs.Graphs.{GraphShape}
use Rattle.wanted_bits.specs.declared.picking.Shift.{Shift}
use Rattle.wanted_bits.specs.MostRemoved.{TellShifts}
use Rattle.wanted_bits.specs.Walking.{HaveBacks, back_in, bits_at, bits_past}
use Rattle.wanted_bits.specs.Wanted.{AreLeastWantedBy, Asked, all_asked}

-- a list for each node has these numbers of its variables
pub record HaveNumbers (graph : GraphShape) (wanted : ℕ → ℕ → ℕ) (rows : List (List ℕ))
    : Type 0 where
  pub long : length rows ≡ length graph.nodes
  pub numbers : (n x : ℕ) → n < length graph.nodes → x < length graph.vars
      → bits_at (list_at rows n) x ≡ wanted n x

-- the least numbers before each node, by the shifts that hold, where so many bits are asked for around the unit
pub record AreWantedBeforeBy (asked : Asked) (graph : GraphShape) (rows : List (List ℕ))
    : Type 0 where
  pub shifts : ℕ → ℕ → Option Shift
  pub tell : TellShifts graph shifts
  pub wanted : ℕ → ℕ → ℕ
  pub least : AreLeastWantedBy asked graph shifts wanted
  pub are : HaveNumbers graph wanted rows

-- where all bits are asked for
abbrev pub AreWantedBefore : GraphShape → List (List ℕ) → Type 0
AreWantedBefore = AreWantedBeforeBy all_asked

-- where each right side shifts back what this list has for its node
abbrev pub AreBefore : Asked → GraphShape → List (Option Shift) → List (List ℕ) → Type 0
AreBefore asked graph backs rows = (shifts : ℕ → ℕ → Option Shift)
    → HaveBacks graph shifts (back_in backs)
    → (wanted : ℕ → ℕ → ℕ) × AreLeastWantedBy asked graph shifts wanted
    × HaveNumbers graph wanted rows

-- the numbers before node n, where these are behind it
abbrev pub row_past : GraphShape → Asked → (ℕ → Option Shift) → ℕ → Option Node → List ℕ → List ℕ
row_past graph asked back n o bits = bits_past graph asked (back n) o bits
