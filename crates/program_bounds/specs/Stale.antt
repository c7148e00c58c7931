-- Units that may not be served, and are marked as stale. Cited by contracts of private functions.
use Rattle.std.specs.Prelude.{◌≡◌, ℕ, Bool, true, false, List, length, slice_get, Option, Some}
use Rattle.flow_graph.specs.Graphs.{GraphShape}
use Rattle.flow_graph.specs.Numbering.{is_in}
use Rattle.unit_callers.specs.Stale.{is_stale}
use Rattle.bounds.specs.declared.facts.Fact.{Fact}
use Rattle.bounds.specs.Facts.{BelowFact}
use Rattle.cond_flow.specs.Rewritten.{IsMadeWithin}
use Rattle.cond_flow.specs.States.{Knows}
use Rattle.program_bounds.specs.Facts.{IsServed, ProgramFacts, row_at, rules_at}

-- there is a mark for each unit, and those that are entered and not stale are served; what was made of those that are
-- not stale is what is made of them by these facts
pub record FreshAreServed (graphs : List GraphShape) (known : ProgramFacts) (stale : List Bool)
    (made : List (Option GraphShape)) : Type 0 where
  pub long : length stale ≡ length graphs
  pub made_long : length made ≡ length graphs
  pub served : (u : ℕ) (graph : GraphShape) (facts : List Fact) → slice_get graphs u ≡ Some graph
      → row_at known.entries u ≡ Knows facts → is_stale stale u ≡ false → IsServed known graph u
  pub is_made : (u : ℕ) (graph bounded : GraphShape) → slice_get graphs u ≡ Some graph
      → is_stale stale u ≡ false → slice_get made u ≡ Some (Some bounded)
      → IsMadeWithin BelowFact (rules_at known u) graph bounded

-- The unit u, which these call, has raised facts. No mark is taken away; a unit that is not marked then is entered with
-- what it was entered with, and if these have all that call a unit, what that hands back stays for those that are not
-- marked
pub record RaisedMarked (callers : List ℕ) (u : ℕ) (known more : ProgramFacts)
    (old new : List Bool) : Type 0 where
  pub long : length new ≡ length old
  pub keeps : (w : ℕ) → is_stale new w ≡ false
      → (is_stale old w ≡ false) × (row_at more.entries w ≡ row_at known.entries w)
  pub backs : (w v : ℕ) → is_stale new w ≡ false → (v ≡ u → is_in w callers ≡ true)
      → row_at more.backs v ≡ row_at known.backs v
