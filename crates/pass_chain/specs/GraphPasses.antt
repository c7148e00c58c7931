-- What the functions of passes on graphs make. Cited by contracts of private functions.
use Rattle.std.specs.Prelude.{◌≡◌, ℕ, List}
use Rattle.mir_base.specs.Shapes.{UnitShape}
use Rattle.flow_graph.specs.Graphs.{GraphShape}
use Rattle.flow_graph.specs.Passes.{GraphKeeps}
use Rattle.program_pass.specs.PassPrograms.{AllPassed, CleanedLaid, PassRelation, PassedAt}

-- the exact result of a pass on a graph, of which there is no other
pub record IsOnlyResult (Exact : GraphShape → GraphShape → Type 0)
    (graph result : GraphShape) : Type 0 where
  pub is : Exact graph result
  pub only : (other : GraphShape) → Exact graph other → result ≡ other

-- the unit is that of the only result of the pass on the graph, which keeps the graph
pub record IsMadeOf (Exact : GraphShape → GraphShape → Type 0) (graph : GraphShape)
    (unit : UnitShape) : Type 0 where
  pub passed : GraphShape
  pub result : IsOnlyResult Exact graph passed
  pub keeps : GraphKeeps graph passed
  pub laid : CleanedLaid passed unit

-- the relation on the units of a program that a relation on graphs gives: the same for the unit of each number
abbrev pub OnlyResults : (GraphShape → GraphShape → Type 0) → PassRelation
OnlyResults Exact number = IsOnlyResult Exact

-- and no graph comes between a graph and its result but the graph itself
abbrev pub Itself : PassRelation
Itself number graph middle = middle ≡ graph

-- the unit is what is made of the one of this number
abbrev pub MadeAt : (GraphShape → GraphShape → Type 0) → List UnitShape → ℕ → UnitShape → Type 0
MadeAt Exact = PassedAt (OnlyResults Exact) Itself

-- the units are what is made of these
abbrev pub AllMadeBy : (GraphShape → GraphShape → Type 0) → List UnitShape → List UnitShape → Type 0
AllMadeBy Exact = AllPassed (OnlyResults Exact) Itself
