-- From each insertion of the lazy placement a run of the graph comes to a use of the expression, and traps there where
-- its evaluation traps. So no insertion traps where the graph would not.
use Rattle.std.proofs.Common.{◌≡◌, ◌<◌, ℕ, true, if◌then◌else◌, List, length, ap, ◌∙◌, subst, sym}
use Rattle.mir_base.specs.declared.instructions.Expr.{Expr}
use Rattle.mir_base.specs.declared.operators.Trap.TheVariants.{ZeroDivisor}
use Rattle.mir_base.specs.EqualValues.{EqualOn, traps_equal}
use Rattle.mir_base.specs.ExpressionLaws.{assign_is}
use Rattle.mir_base.specs.Expressions.{rhs_count, rhs_traps, rhs_value}
use Rattle.mir_base.specs.ExpressionVars.{rhs_of, rhs_of_vars}
use Rattle.mir_base.specs.Frames.{Continues, Traps}
use Rattle.mir_base.specs.Units.{assigned}
use Rattle.flow_graph.specs.Graphs.{GraphShape, IsGraph}
use Rattle.flow_graph.specs.Machines.{node_transition}
use Rattle.motion_rewrite.specs.declared.placement.Placement.{Placement}
use Rattle.motion_rewrite.specs.Placements.{InsertionsTrapAlike, TrapsFrom, places_of}
use Rattle.motion_rewrite.specs.UseLaws.{uses_assign}
use Rattle.latest_place.specs.DelayLaws.{lazy_down}
use Rattle.latest_place.specs.Lazy.{AreLazy}
use Rattle.div_move.specs.MustCome.{MustComeTo, RunsComeTo}
use Rattle.div_move.specs.MustComeLaws.{must_come_laws}
use Rattle.div_move.specs.Moves.{InsertionsCome}
use Rattle.div_move.proofs.RunsCome.{must_run}

-- it traps at the use, whose operands have the same values
pub run_traps : (graph : GraphShape) (e : Expr) (n : ℕ) → RunsComeTo graph e n → TrapsFrom graph e n
run_traps graph e n come arguments v trap =
    let run = come arguments v in
    let f = run.there in
    let found = uses_assign graph e f.place run.used in
    let same : rhs_traps f.values (rhs_of e) ≡ true = traps_equal f.values v (rhs_of e) (subst (λ l. EqualOn l f.values v) (sym (rhs_of_vars e)) run.operands) ∙ trap in (
      run.steps,
      record {
        there = f;
        cost = run.counted;
        silent = run.silent;
        counted = 1;
        is = ap (λ o. node_transition graph.shared graph.received o f) found.2 ∙ assign_is found.0 (rhs_of e) found.1 f
            ∙ ap (λ b. (if b then Traps ZeroDivisor 1 else Continues (rhs_count (rhs_of e)) (assigned found.0 (rhs_value f.values (rhs_of e)) found.1 f))) same;
      },
    )

-- so no insertion traps where the graph would not
pub come_traps : (graph : GraphShape) (table : List Expr) (p : Placement) → InsertionsCome graph table p → InsertionsTrapAlike graph table p
come_traps graph table p come i e at n lt set = run_traps graph e n (come i e at n lt set)

-- the lazy placement inserts only where the expression must be come to
pub lazy_comes : (graph : GraphShape) (table : List Expr) (p : Placement) → IsGraph graph.vars graph.received graph.nodes → AreLazy graph table (MustComeTo graph) p → InsertionsCome graph table p
lazy_comes graph table p is_graph lazy i e at n lt set =
    must_run graph e (λ m slot s edge. (is_graph.can.succs m slot s edge).1) n lt
    (lazy_down graph e (MustComeTo graph e) (must_come_laws graph e is_graph) is_graph (places_of p i) (lazy i e at) n lt set)
