-- What is kept of a unit while more is asked for around it: numbers that lie below all that solve it. Cited by contracts.
use Rattle.std.specs.Prelude.{◌≡◌, ◌<◌, ◌≤◌, ℕ, suc, max, List, [], ◌∷◌, map, length, slice_get, Option, Some}
use Rattle.std.specs.List.{range_with_len}
use Rattle.mir_base.specs.declared.instructions.Operand.{Operand}
use Rattle.node_list.specs.Lists.{list_at}
use Rattle.flow_graph.specs.declared.nodes.Node.TheVariants.{Call}
use Rattle.flow_graph.specs.FlowEdges.{edge_at}
use Rattle.flow_graph.specs.Graphs.{GraphShape, succs_at}
use Rattle.flow_graph.specs.NumberTables.{number_at}
use Rattle.wanted_bits.specs.declared.kept.Kept.{Kept}
use Rattle.wanted_bits.specs.declared.picking.Shift.{Shift}
use Rattle.wanted_bits.specs.declared.preparing.Prepared.{Prepared}
use Rattle.wanted_bits.specs.Asks.{back_list}
use Rattle.wanted_bits.specs.BitsOrder.{joined_bits}
use Rattle.wanted_bits.specs.MostRemoved.{TellShifts}
use Rattle.wanted_bits.specs.Walking.{HaveBacks, back_in, bits_at}
use Rattle.wanted_bits.specs.WalkLaws.{FewerEach}
use Rattle.wanted_bits.specs.Wanted.{AreWantedBy, Asked}

-- ---- behind blocks

-- the last item
abbrev pub end_node : List ℕ → ℕ
end_node [] = 0
end_node (k ∷ []) = k
end_node (k ∷ l ∷ list) = end_node (l ∷ list)

-- the greatest number among some nodes
abbrev pub greatest : (ℕ → ℕ) → List ℕ → ℕ
greatest f [] = 0
greatest f (s ∷ list) = max (f s) (greatest f list)

-- a number for each variable
abbrev pub by_vars : ℕ → (ℕ → ℕ) → List ℕ
by_vars vars f = map f (range_with_len 0 vars)

-- behind a block the greatest numbers before the successors of its last node
abbrev pub behind_rows : GraphShape → List (List ℕ) → (ℕ → ℕ → ℕ) → ℕ → List ℕ
behind_rows graph lists wanted b = by_vars (length graph.vars)
    (λ x. greatest (λ s. wanted s x) (succs_at graph.nodes (end_node (list_at lists b))))

-- ---- what is kept

-- a row for each block, with a number for each variable
pub record AreRows (graph : GraphShape) (lists rows : List (List ℕ)) : Type 0 where
  pub long : length rows ≡ length lists
  pub each : (b : ℕ) → b < length rows → length (list_at rows b) ≡ length graph.vars

-- rows for the blocks, a place for what each node asks for, and room for a row
pub record FitsKept (graph : GraphShape) (prepared : Prepared) (kept : Kept) : Type 0 where
  pub rows : AreRows graph prepared.crossed.blocks.lists kept.rows.items
  pub asks : length kept.asks.items ≡ length graph.nodes
  pub room : length kept.room.items ≡ length graph.vars

-- the rows lie below these numbers of wanted bits
abbrev pub RowsBelow : GraphShape → List (List ℕ) → (ℕ → ℕ → ℕ) → List (List ℕ) → Type 0
RowsBelow graph lists wanted rows =
    (b : ℕ) → FewerEach (list_at rows b) (behind_rows graph lists wanted b)

-- what a call asks for behind it, of numbers that lie below those behind it
pub record AsksFewBack (graph : GraphShape) (wanted : ℕ → ℕ → ℕ) (into : Option ℕ) (next : ℕ)
    (ask : List ℕ) : Type 0 where
  pub lower : List ℕ
  pub is : ask ≡ back_list graph.shared into (bits_at lower)
  pub fewer : (x : ℕ) → x < length graph.vars → bits_at lower x ≤ wanted next x

-- and so does what is asked for, where something is
pub record AsksBelow (graph : GraphShape) (wanted : ℕ → ℕ → ℕ) (asks : List (Option (List ℕ)))
    : Type 0 where
  pub start : (l : List ℕ) → slice_get asks 0 ≡ Some (Some l)
      → (x : ℕ) → x < length graph.vars → bits_at l x ≤ wanted 0 x
  pub calls : (n : ℕ) (into : Option ℕ) (unit : ℕ) (operands : List Operand) (next : ℕ)
      (l : List ℕ) → slice_get graph.nodes n ≡ Some (Call into unit operands next)
      → slice_get asks n ≡ Some (Some l) → AsksFewBack graph wanted into next l

-- both
pub record LieBelow (graph : GraphShape) (prepared : Prepared) (wanted : ℕ → ℕ → ℕ) (kept : Kept)
    : Type 0 where
  pub rows : RowsBelow graph prepared.crossed.blocks.lists wanted kept.rows.items
  pub asks : AsksBelow graph wanted kept.asks.items

-- nothing lies below whatever is wanted
abbrev pub LieLowest : GraphShape → Prepared → Kept → Type 0
LieLowest graph prepared kept = (wanted : ℕ → ℕ → ℕ) → LieBelow graph prepared wanted kept

-- what lies below numbers that solve the unit, where so much is asked for around it, still does
abbrev pub StayBelow : Asked → GraphShape → Prepared → Kept → Kept → Type 0
StayBelow asked graph prepared old new =
    (shifts : ℕ → ℕ → Option Shift) → TellShifts graph shifts
    → (wanted : ℕ → ℕ → ℕ) → AreWantedBy asked graph shifts wanted
    → LieBelow graph prepared wanted old → LieBelow graph prepared wanted new

-- ---- on the way

-- rows that lie below numbers still do, and fit
pub record PassedRows (asked : Asked) (graph : GraphShape) (prepared : Prepared)
    (old new : List (List ℕ)) : Type 0 where
  pub rows : AreRows graph prepared.crossed.blocks.lists new
  pub below : (shifts : ℕ → ℕ → Option Shift) → HaveBacks graph shifts
      (back_in prepared.backs.items)
      → (wanted : ℕ → ℕ → ℕ) → AreWantedBy asked graph shifts wanted
      → RowsBelow graph prepared.crossed.blocks.lists wanted old
      → RowsBelow graph prepared.crossed.blocks.lists wanted new

-- each row has so many numbers
abbrev pub AreLong : ℕ → List (List ℕ) → Type 0
AreLong long rows = (b : ℕ) → b < length rows → length (list_at rows b) ≡ long

-- the edges from a block are there, and each leads to one of so many rows
pub record AreOut (prepared : Prepared) (block rows : ℕ) : Type 0 where
  pub first : suc block < length prepared.crossed.between.firsts.items
  pub last : number_at prepared.crossed.between.firsts.items (suc block)
      ≤ length prepared.crossed.between.edges.items
  pub target : (e : ℕ) → e < length prepared.crossed.between.edges.items
      → (edge_at prepared.crossed.between.edges.items e).target < rows
  pub source : (e : ℕ) → number_at prepared.crossed.between.firsts.items block ≤ e
      → e < number_at prepared.crossed.between.firsts.items (suc block)
      → (edge_at prepared.crossed.between.edges.items e).source ≡ block

-- rows that are raised at most to numbers that go along the edges from a block: they stay under all that these are under
pub record SpreadFrom (prepared : Prepared) (block : ℕ) (room : List ℕ) (old new : List (List ℕ))
    : Type 0 where
  pub long : length new ≡ length old
  pub each : AreLong (length room) new
  pub under : (tops : ℕ → List ℕ)
      → ((e : ℕ) → e < length prepared.crossed.between.edges.items
      → (edge_at prepared.crossed.between.edges.items e).source ≡ block
      → FewerEach room (tops (edge_at prepared.crossed.between.edges.items e).target))
      → ((b : ℕ) → FewerEach (list_at old b) (tops b))
      → (b : ℕ) → FewerEach (list_at new b) (tops b)

-- so does what is asked for by rows that do
abbrev pub PassedAsks : Asked → GraphShape → Prepared → List (List ℕ) → List (Option (List ℕ))
    → List (Option (List ℕ)) → Type 0
PassedAsks asked graph prepared rows old new =
    (shifts : ℕ → ℕ → Option Shift) → HaveBacks graph shifts (back_in prepared.backs.items)
    → (wanted : ℕ → ℕ → ℕ) → AreWantedBy asked graph shifts wanted
    → RowsBelow graph prepared.crossed.blocks.lists wanted rows
    → AsksBelow graph wanted old → AsksBelow graph wanted new

-- numbers that are raised at most to others
pub record RaisesBelow (others old new : List ℕ) : Type 0 where
  pub long : length new ≡ length old
  pub below : FewerEach new (joined_bits old others)
