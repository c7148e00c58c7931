use Rattle.std.proofs.Common.{◌≡◌, ℕ, ◌+◌, ◌∷◌, drop, get_or, length, ap, sym, ◌∙◌, subst, arith}
use Rattle.graph_edit.specs.Editing.{graph_put_all}
use Rattle.motion_rewrite.specs.EditingOrder.{put_length}
use Rattle.flow_graph.specs.Graphs.{GraphShape}
use Rattle.graph_edit.specs.Insertions.{InsertionsBelow}
use Rattle.motion_rewrite.specs.Flatten.{insertions_of, set_from}
use Rattle.motion_rewrite.proofs.Rewriting.{one_more}
use Rattle.motion_rewrite.proofs.SetBits.{bits_step, bits_end}
use Rattle.motion_rewrite.proofs.editing.put_before.Goals as goal
use Rattle.motion_rewrite.proofs.editing.put_before.Goals.{In-Some, After-rhs_of}

rest_is : (c : In-Some) → set_from c.loop-from.from (drop c.loop-from.from c.args.row.now) ≡ c.in-Some.number ∷ set_from (c.in-Some.number + 1) (drop (c.in-Some.number + 1) c.args.row.now)
rest_is c = let found = c.in-Some.ensures.found in bits_step c.loop-from.from c.in-Some.number c.args.row.now found.0 found.1 c.in-Some.ensures.first found.2

puts_are : (c : After-rhs_of) → insertions_of (λ i. get_or c.args.temps.now i 0) c.args.table.now (set_from c.loop-from.from (drop c.loop-from.from c.args.row.now)) ≡ record { var = get_or c.args.temps.now c.in-Some.number 0; rhs = c.rhs_of.result } ∷ insertions_of (λ i. get_or c.args.temps.now i 0) c.args.table.now (set_from (c.in-Some.number + 1) (drop (c.in-Some.number + 1) c.args.row.now))
puts_are c =
    let temp : ℕ → ℕ = λ i. get_or c.args.temps.now i 0 in
    let rest = set_from (c.in-Some.number + 1) (drop (c.in-Some.number + 1) c.args.row.now) in
    ap (insertions_of temp c.args.table.now) (rest_is (goal.at.After-rhs_of c).In-Some)
    ∙ one_more temp c.args.table.now c.in-Some.number c.get.result.now rest c.get.ensures
    ∙ ap (λ r. (record { var = temp c.in-Some.number; rhs = r }) ∷ insertions_of temp c.args.table.now rest) (sym c.rhs_of.ensures)

below : (c : After-rhs_of) → InsertionsBelow (length c.loop-from.editor.graph.vars) (record { var = get_or c.args.temps.now c.in-Some.number 0; rhs = c.rhs_of.result } ∷ insertions_of (λ i. get_or c.args.temps.now i 0) c.args.table.now (set_from (c.in-Some.number + 1) (drop (c.in-Some.number + 1) c.args.row.now)))
below c = subst (InsertionsBelow (length c.loop-from.editor.graph.vars)) (puts_are c) c.loop-from.invariant.vars

pub put_before-requires-clause-spare : goal.put_before-requires-clause-spare
put_before-requires-clause-spare c =
    let one = ap length (rest_is (goal.at.put_before-requires-clause-spare c).In-Some) in
    omega (arith, one, c.loop-from.invariant.spare, c.requires.room)

pub put_before-requires-clause-some : goal.put_before-requires-clause-some
put_before-requires-clause-some c =
    let one = ap length (rest_is (goal.at.put_before-requires-clause-some c).In-Some) in
    c.requires.some (omega (arith, one, c.loop-from.invariant.some))

pub put_before-requires-clause-x : goal.put_before-requires-clause-x
put_before-requires-clause-x c = (below (goal.at.put_before-requires-clause-x c).After-rhs_of).0.0

pub put_before-requires-clause-rhs : goal.put_before-requires-clause-rhs
put_before-requires-clause-rhs c = (below (goal.at.put_before-requires-clause-rhs c).After-rhs_of).0.1

pub loop-from-preserved : goal.loop-from-preserved
loop-from-preserved c =
    let temp : ℕ → ℕ = λ i. get_or c.args.temps.now i 0 in
    let rest = set_from (c.in-Some.number + 1) (drop (c.in-Some.number + 1) c.args.row.now) in
    let known = (goal.at.loop-from-preserved c).After-rhs_of in
    let one = ap length (rest_is (goal.at.loop-from-preserved c).In-Some) in
    let graph = c.put_before.ensures.graph in
    let inv = c.loop-from.invariant in
    let longer = ap (λ (g : GraphShape). length g.nodes) graph in
    let same_vars = ap (λ (g : GraphShape). length g.vars) graph in
    record {
      within = omega (arith, c.in-Some.ensures.found.1);
      node = omega (arith, longer, put_length c.args.node (temp c.in-Some.number) c.rhs_of.result c.loop-from.editor.graph.nodes, inv.node);
      some = omega (arith, one, inv.some);
      vars = subst (λ k. InsertionsBelow k (insertions_of temp c.args.table.now rest)) (sym same_vars) (below known).1;
      all = ap (graph_put_all c.args.node (insertions_of temp c.args.table.now rest)) graph ∙ ap (λ l. graph_put_all c.args.node l c.loop-from.editor.graph) (sym (puts_are known)) ∙ inv.all;
      spare = omega (arith, one, inv.spare, c.put_before.ensures.spare);
    }

pub returns-in-None-clause-graph : goal.returns-in-None-clause-graph
returns-in-None-clause-graph c =
    let none = bits_end c.loop-from.from c.args.row.now c.loop-from.invariant.within c.in-None.ensures.none in
    sym (ap (λ l. graph_put_all c.args.node (insertions_of (λ i. get_or c.args.temps.now i 0) c.args.table.now l) c.loop-from.editor.graph) none) ∙ c.loop-from.invariant.all

pub returns-in-None-clause-spare : goal.returns-in-None-clause-spare
returns-in-None-clause-spare c =
    let none = ap length (bits_end c.loop-from.from c.args.row.now c.loop-from.invariant.within c.in-None.ensures.none) in
    omega (arith, none, c.loop-from.invariant.spare)
