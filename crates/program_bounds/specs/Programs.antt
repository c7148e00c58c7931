-- The program whose units know the facts over all units. Cited by contracts.
use Rattle.std.specs.Prelude.{◌≡◌, ℕ, List}
use Rattle.mir_base.specs.Shapes.{ProgramShape, UnitShape}
use Rattle.flow_graph.specs.Graphs.{GraphShape}
use Rattle.program_pass.specs.Fronts.{AreGraphsOf}
use Rattle.program_pass.specs.PassPrograms.{AllPassed, IsPassedProgram, PassRelation, PassedAt}
use Rattle.bounds.specs.Facts.{BelowFact}
use Rattle.cond_flow.specs.Rewritten.{IsRewritten, become_graph}
use Rattle.program_bounds.specs.Facts.{AreLeastFacts, ProgramFacts, rules_at}

-- each graph is rewritten by what is known around its unit
abbrev pub BoundedBy : ProgramFacts → PassRelation
BoundedBy known u graph bounded = IsRewritten BelowFact (rules_at known u) graph bounded

-- each unit is lowered, cleaned, rewritten by the surest facts over all units, cleaned and laid out
pub record IsBoundedProgram (source target : ProgramShape) : Type 0 where
  pub graphs : List GraphShape
  pub are_graphs : AreGraphsOf source.units graphs
  pub known : ProgramFacts
  pub least : AreLeastFacts graphs known
  pub passed : IsPassedProgram (BoundedBy known) source target

-- ---- what the functions of this crate make

-- the graph in between has what the nodes become by the least states, reached or not
pub record IsBoundedBetween (known : ProgramFacts) (u : ℕ)
    (graph middle : GraphShape) : Type 0 where
  pub bounded : GraphShape
  pub rewritten : IsRewritten BelowFact (rules_at known u) graph bounded
  pub is : middle ≡ become_graph (rules_at known u) rewritten.states graph

-- what was made of the unit of this number
abbrev pub BoundedUnit : ProgramFacts → List UnitShape → ℕ → UnitShape → Type 0
BoundedUnit known = PassedAt (BoundedBy known) (IsBoundedBetween known)

-- of all units
abbrev pub BoundedUnits : ProgramFacts → List UnitShape → List UnitShape → Type 0
BoundedUnits known = AllPassed (BoundedBy known) (IsBoundedBetween known)
