-- Demands that are raised until they serve all units. Cited by contracts of private functions.
use Rattle.std.specs.Prelude.{◌≡◌, ℕ, suc, ◌+◌, ◌-◌, ◌<◌, ◌≤◌, min, max, Bool, true, false, List, [], ◌∷◌, length, map, replicate, slice_get, slice_set, Option, Some, None}
use Rattle.mir_base.specs.declared.instructions.Operand.{Operand}
use Rattle.mir_base.specs.Frames.{shared_vars}
use Rattle.node_list.specs.Lists.{list_at}
use Rattle.flow_graph.specs.declared.nodes.Node.{Node}
use Rattle.flow_graph.specs.declared.nodes.Node.TheVariants.{Call}
use Rattle.flow_graph.specs.Graphs.{GraphShape}
use Rattle.program_pass.specs.GraphPrograms.{shared_in}
use Rattle.wanted_bits.specs.Asking.{width_at}
use Rattle.wanted_bits.specs.Asks.{AreAsks}
use Rattle.wanted_bits.specs.BitsOrder.{HasFew, joined_bits}
use Rattle.wanted_bits.specs.Walking.{bits_at}
use Rattle.wanted_bits.specs.WalkLaws.{FewerEach}
use Rattle.wanted_bits.specs.Wanted.{Asked}
use Rattle.program_wanted.specs.declared.raising.UnitAsks.{UnitAsks}
use Rattle.program_wanted.specs.Demands.{AreServed, AskNoMore, Demands, FewerRows, FitGraphs, IsServed}

-- ---- graphs

-- there is a graph, they have equally many globals, and their calls are of units that there are
pub record FitTogether (graphs : List GraphShape) : Type 0 where
  pub some : 0 < length graphs
  pub share : (u : ℕ) (graph : GraphShape) → slice_get graphs u ≡ Some graph
      → graph.shared ≡ shared_in graphs
  pub calls : (u : ℕ) (graph : GraphShape) → slice_get graphs u ≡ Some graph
      → (n : ℕ) (into : Option ℕ) (v : ℕ) (operands : List Operand) (next : ℕ)
      → slice_get graph.nodes n ≡ Some (Call into v operands next) → v < length graphs

-- ---- what a unit asks for

-- of the variable x at Start
abbrev pub entry_at : List (Option (List ℕ)) → ℕ → ℕ
entry_at [] x = 64
entry_at (None ∷ asks) x = 64
entry_at (Some widths ∷ asks) x = width_at widths x

-- of each global, of each argument, and at calls
pub record AreUnitAsks (asked : Asked) (graph : GraphShape) (asks : UnitAsks) : Type 0 where
  pub are : AreAsks asked graph asks.calls.items
  pub globals : asks.globals ≡ map (entry_at asks.calls.items) (shared_vars graph.shared)
  pub arguments : asks.arguments ≡ map (entry_at asks.calls.items) graph.received

-- ---- rows

-- how far numbers are from all bits
abbrev pub row_room : List ℕ → ℕ
row_room [] = 0
row_room (x ∷ xs) = 65 - min x 65 + row_room xs

-- of rows
abbrev pub rows_room : List (List ℕ) → ℕ
rows_room [] = 0
rows_room (row ∷ rows) = row_room row + rows_room rows

-- of demands
abbrev pub demands_room : Demands → ℕ
demands_room demands =
    rows_room demands.globals + (rows_room demands.arguments + rows_room demands.backs)

-- the rows after a node has asked for this
abbrev pub with_call : Node → Option (List ℕ) → List (List ℕ) → List (List ℕ)
with_call (Call into v operands next) (Some ask) rows =
    slice_set rows v (joined_bits (list_at rows v) ask)
with_call node ask rows = rows

-- there is a row for what a node asks for, as long as that, and it asks for at most 64 bits of each
abbrev pub FitsRow : Node → Option (List ℕ) → List (List ℕ) → Type 0
FitsRow node ask rows = (into : Option ℕ) (v : ℕ) (operands : List Operand) (next : ℕ)
    (l : List ℕ) → node ≡ Call into v operands next → ask ≡ Some l
    → (v < length rows) × (length l ≡ length (list_at rows v)) × HasFew l

-- for what the nodes of a graph ask for
pub record CallsFitRows (graph : GraphShape) (asks : List (Option (List ℕ)))
    (rows : List (List ℕ)) : Type 0 where
  pub few : (u : ℕ) → HasFew (list_at rows u)
  pub long : length asks ≡ length graph.nodes
  pub fit : (n : ℕ) (node : Node) (ask : Option (List ℕ)) → slice_get graph.nodes n ≡ Some node
      → slice_get asks n ≡ Some ask → FitsRow node ask rows

-- the rows have what the nodes ask for, up to this one
abbrev pub HaveAsked : GraphShape → List (Option (List ℕ)) → ℕ → List (List ℕ) → Type 0
HaveAsked graph asks count rows = (n : ℕ) (into : Option ℕ) (v : ℕ) (operands : List Operand)
    (next : ℕ) (l : List ℕ) → n < count
    → slice_get graph.nodes n ≡ Some (Call into v operands next)
    → slice_get asks n ≡ Some (Some l) → FewerEach l (list_at rows v)

-- each row is as long as it was
pub record StayLong (old new : List (List ℕ)) : Type 0 where
  pub long : length new ≡ length old
  pub each : (u : ℕ) → length (list_at new u) ≡ length (list_at old u)
  pub few : (u : ℕ) → HasFew (list_at new u)

-- rows that are raised as little as serves the nodes up to this one, and whether one was
pub record RaisesTo (graph : GraphShape) (asks : List (Option (List ℕ))) (count : ℕ)
    (old new : List (List ℕ)) (raised : Bool) : Type 0 where
  pub stay : StayLong old new
  pub rise : FewerRows old new
  pub have : HaveAsked graph asks count new
  pub least : (tops : List (List ℕ)) → FewerRows old tops
      → HaveAsked graph asks (length graph.nodes) tops → FewerRows new tops
  pub room : rows_room new ≤ rows_room old
  pub changes : raised ≡ true → rows_room new < rows_room old
  pub stays : raised ≡ false → new ≡ old

-- for all nodes
abbrev pub RaisesBacks : GraphShape → List (Option (List ℕ)) → List (List ℕ) → List (List ℕ)
    → Bool → Type 0
RaisesBacks graph asks old new raised = RaisesTo graph asks (length graph.nodes) old new raised

-- ---- demands

-- on the way to the least demands: they are at most all that serve all units
pub record IsProgress (graphs : List GraphShape) (demands : Demands) : Type 0 where
  pub fit : FitGraphs graphs demands
  pub whole : 64 ≤ bits_at (list_at demands.backs 0) (shared_in graphs)
  pub below : (others : Demands) → AreServed graphs others → AskNoMore demands others

-- demands that are raised to what a unit wants by them; where nothing was raised, they serve it
pub record Serves (graphs : List GraphShape) (u : ℕ) (old new : Demands) (raised : Bool)
    : Type 0 where
  pub progress : IsProgress graphs new
  pub room : demands_room new ≤ demands_room old
  pub changes : raised ≡ true → demands_room new < demands_room old
  pub stays : raised ≡ false → new ≡ old
  pub served : raised ≡ false → (graph : GraphShape) → slice_get graphs u ≡ Some graph
      → IsServed new graph u

-- of all units up to this one
pub record SweepsTo (graphs : List GraphShape) (Done : ℕ → Type 0) (old new : Demands)
    (raised : Bool) : Type 0 where
  pub progress : IsProgress graphs new
  pub room : demands_room new ≤ demands_room old
  pub changes : raised ≡ true → demands_room new < demands_room old
  pub stays : raised ≡ false → new ≡ old
  pub served : raised ≡ false → (u : ℕ) (graph : GraphShape) → Done u
      → slice_get graphs u ≡ Some graph → IsServed new graph u

-- of all units
abbrev pub Sweeps : List GraphShape → Demands → Demands → Bool → Type 0
Sweeps graphs old new raised = SweepsTo graphs (λ u. u < length graphs) old new raised

-- ---- at first

-- rows of zeros
pub record AreZeros (graphs : List GraphShape) (count : GraphShape → ℕ) (rows : List (List ℕ))
    : Type 0 where
  pub long : length rows ≡ length graphs
  pub each : (u : ℕ) (graph : GraphShape) → slice_get graphs u ≡ Some graph
      → list_at rows u ≡ replicate (count graph) 0

-- but for the result of the first unit, of which all bits are asked for
pub record AreFirstBacks (graphs : List GraphShape) (rows : List (List ℕ)) : Type 0 where
  pub zeros : List (List ℕ)
  pub are : AreZeros graphs (λ graph. suc graph.shared) zeros
  pub is : rows ≡ slice_set zeros 0 (slice_set (list_at zeros 0) (shared_in graphs)
      (max (bits_at (list_at zeros 0) (shared_in graphs)) 64))
