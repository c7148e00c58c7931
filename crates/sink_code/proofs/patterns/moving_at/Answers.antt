use Rattle.std.proofs.Common.{◌≡◌, ℕ, Option, Some, None, ap, sym, ◌∙◌, subst}
use Rattle.mir_base.specs.declared.instructions.Rhs.{Rhs}
use Rattle.flow_graph.specs.declared.nodes.Node.{Node}
use Rattle.flow_graph.specs.declared.nodes.Node.TheVariants.{Assign}
use Rattle.flow_graph.specs.Graphs.{GraphShape}
use Rattle.sink_code.specs.declared.patterns.Pattern.{Pattern}
use Rattle.sink_code.specs.Moving.{IsHeldUp, MovesFrom, MovesOn}
use Rattle.sink_code.specs.PatternTables.{pattern_of}
use Rattle.sink_code.proofs.HeldUp.{pattern_is}
use Rattle.sink_code.proofs.patterns.moving_at.Goals as goal

-- an assignment has one successor
moves_from : (graph : GraphShape) (node : Node) (x next : ℕ) (t : Rhs) → node ≡ Assign x t next → (found : Option Pattern) → MovesOn graph node next found → MovesFrom graph node found
moves_from graph node x next t is None holds_up = λ p k at here.
    let one : Assign x t next ≡ Assign p.var p.rhs k = sym is ∙ at in
    let same : next ≡ k = cc in
    subst (IsHeldUp graph p) same (holds_up p here)
moves_from graph node x next t is (Some p) moves =
    let one = pattern_is x next t p (sym (ap pattern_of is) ∙ moves.0) in
    (moves.0, (next, is ∙ ap (λ (q : Pattern). Assign q.var q.rhs next) one, moves.1))

pub returns-in-Assign : goal.returns-in-Assign
returns-in-Assign c = moves_from c.args.graph.now c.args.node.now c.in-Assign.field-0 c.in-Assign.next c.in-Assign.field-1 c.in-Assign.is c.moving_on.result c.moving_on.ensures
