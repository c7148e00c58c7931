-- What a pass from graph to graph ensures of its answer, in one word each. Cited by contracts of the passes above.
use Rattle.std.specs.Prelude.{◌≡◌, ℕ}
use Rattle.mir_base.specs.UnitRuns.{UnitCheaper, UnitSame}
use Rattle.flow_graph.specs.Calls.{CallsAmong, NodesCall}
use Rattle.flow_graph.specs.Dividing.{DividesStay, DividesUnchanged}
use Rattle.flow_graph.specs.Edges.{IsSplit}
use Rattle.flow_graph.specs.Graphs.{GraphShape, succs_at}
use Rattle.flow_graph.specs.Keeps.{AsGraph, Keeps}
use Rattle.flow_graph.specs.Machines.{machine_of}

-- the second graph does the same as the first
abbrev pub GraphSame : GraphShape → GraphShape → Type 0
GraphSame first second = UnitSame (machine_of first) (machine_of second)

-- it evaluates no more operators
abbrev pub GraphCheaper : GraphShape → GraphShape → Type 0
GraphCheaper first second = UnitCheaper (machine_of first) (machine_of second)

-- it makes no calls but those of the first
abbrev pub GraphCalls : GraphShape → GraphShape → Type 0
GraphCalls first second = CallsAmong (NodesCall second.nodes) (NodesCall first.nodes)

-- each dividing assignment of the first stays as it is, with its operands
abbrev pub GraphDividesUnchanged : GraphShape → GraphShape → Type 0
GraphDividesUnchanged first second = DividesUnchanged first.nodes second.nodes

-- each dividing assignment of the first stays, with its variable and its operator
abbrev pub GraphDivides : GraphShape → GraphShape → Type 0
GraphDivides first second = DividesStay first.nodes second.nodes

-- all that a pass keeps of a unit
abbrev pub GraphKeeps : GraphShape → GraphShape → Type 0
GraphKeeps first second = Keeps (AsGraph first) (AsGraph second)

-- ---- what a pass that puts each node anew in its place keeps of the edges

-- each node has the successors that it had
abbrev pub KeepsSuccs : GraphShape → GraphShape → Type 0
KeepsSuccs first second = (n : ℕ) → succs_at second.nodes n ≡ succs_at first.nodes n

-- a split graph stays split
abbrev pub KeepsSplit : GraphShape → GraphShape → Type 0
KeepsSplit first second = IsSplit first.nodes → IsSplit second.nodes
