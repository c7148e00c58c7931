use Rattle.std.proofs.Common.{◌≡◌, ◌≤◌, ◌+◌, List, ap, ◌∙◌, sym, length, slice_get, Option, None, Some, inl, inr, subst, arith}
use Rattle.std.proofs.lemmas.List.Sorted.{Contains-permutation, IsPermutation-sym}
use Rattle.std.proofs.lemmas.Option.{slice_get-get_or, slice_get_within}
use Rattle.flow_graph.specs.BoundLaws.{node_succs_below}
use Rattle.flow_graph.specs.declared.nodes.Node.{Node}
use Rattle.flow_graph.specs.declared.nodes.Node.TheVariants.{Assign}
use Rattle.flow_graph.specs.Graphs.{SuccsBelow, succs_of}
use Rattle.key_table.specs.Keys.{IsWithSome}
use Rattle.key_table.specs.KeyLaws.{place_of}
use Rattle.sink_code.specs.declared.patterns.Pattern.{Pattern}
use Rattle.sink_code.specs.Moving.{MovesFrom}
use Rattle.sink_code.proofs.Found.{AreMovingUpTo, MovesAt, found_more, found_none}
use Rattle.sink_code.proofs.KeptTies.{ties_kept}
use Rattle.sink_code.proofs.patterns.moving_patterns.Goals as goal
use Rattle.sink_code.proofs.patterns.moving_patterns.Goals.{After-moving_at, in-Some+in_ok-number, in_default}
use Rattle.mir_base.specs.ItemLaws.{contained_at}

pub loop-node-init : goal.loop-node-init
loop-node-init c = found_none c.args.graph.now (length c.args.graph.now.vars) c.nodes-nodes.result.now c.new-found.result c.new-found.ensures

more : (c : After-moving_at) (found : Option Pattern) (new : List Pattern) → c.moving_at.result ≡ found → IsWithSome c.loop-node.found found new → AreMovingUpTo c.args.graph.now (length c.args.graph.now.vars) c.nodes-nodes.result.now (c.loop-node.node-index + 1) new
more c found new is put =
    let nodes = c.nodes-nodes.result.now in
    let i = c.loop-node.node-index in
    let at = slice_get-get_or nodes i c.node-item.result c.loop-node-test.true ∙ ap Some (sym c.node-item.is) in
    found_more c.args.graph.now (length c.args.graph.now.vars) nodes i c.node-item.result found c.loop-node.found new at (c.nodes-nodes.ensures.graph.can.below i c.node-item.result at) (subst (MovesFrom c.args.graph.now c.node-item.result) is c.moving_at.ensures) put c.loop-node.invariant

pub loop-node-preserved : goal.loop-node-preserved
loop-node-preserved c =
    let known = (goal.at.loop-node-preserved c).After-moving_at in
    elim c.match-moving_at.branch [
      | in-Some+in_ok-number w ↦ more known (Some w.in-Some.pattern) c.match-moving_at.found w.in-Some.is (subst (IsWithSome known.loop-node.found (Some w.in-Some.pattern)) (sym w.found-is) w.in_ok-number.ensures.with_key)
      | in_default w ↦ more known None c.match-moving_at.found w.in_default.is w.found-is
    ]

pub moving_at-requires-clause-below : goal.moving_at-requires-clause-below
moving_at-requires-clause-below c =
    let nodes = c.nodes-nodes.result.now in
    let i = c.loop-node.node-index in
    let at = slice_get-get_or nodes i c.node-item.result c.loop-node-test.true ∙ ap Some (sym c.node-item.is) in
    subst (λ (l : List Node). SuccsBelow (length l) c.node-item.result) c.nodes-nodes.ensures.value
    (node_succs_below (length nodes) c.node-item.result (λ slot s there. (c.nodes-nodes.ensures.graph.can.succs i slot s (ap (λ (o : Option Node). slice_get (succs_of o) slot) at ∙ there)).1))

pub returns : goal.returns
returns c =
    let nodes = c.nodes-nodes.result.now in
    let late : length c.nodes-nodes.result.now ≤ c.loop-node.node-index = c.loop-node-test.false in
    let old = c.loop-node.found in
    let new = c.in_ok-table.table in
    let sorted = c.in_ok-table.ensures in
    let same = c.nodes-nodes.ensures.value in
    record {
      ordered = sorted.ordered;
      ties = λ i j p q less at_i at_j one m moves.
          let stood = ties_kept (λ (r : Pattern). r.var) old new sorted.stable i j p q less at_i at_j one in
          let first = c.loop-node.invariant.in_turn stood.0 stood.1 p q stood.2 stood.3 stood.4 m (subst (λ (l : List Node). MovesAt c.args.graph.now l q m) (sym same) moves) in
          (first.0, first.1, subst (λ (l : List Node). MovesAt c.args.graph.now l p first.0) same first.2);
      all = λ n next p at is.
          let here : slice_get nodes n ≡ Some (Assign p.var p.rhs next) = ap (λ (l : List Node). slice_get l n) same ∙ at in
          elim (c.loop-node.invariant.all n next p (omega (arith, late, slice_get_within nodes n (Assign p.var p.rhs next) here)) here is) [
            | inl there ↦ inl (Contains-permutation old new p sorted.same there)
            | inr held_up ↦ inr held_up
          ];
      moves = λ k p at.
          let there = place_of old p (Contains-permutation new old p (IsPermutation-sym old new sorted.same) (contained_at new p k at)) in
          let one = c.loop-node.invariant.moves there.0 p there.1 in
          (one.0, subst (λ (l : List Node). MovesAt c.args.graph.now l p one.0) same one.2);
      each = λ k p at. (let there = place_of old p (Contains-permutation new old p (IsPermutation-sym old new sorted.same) (contained_at new p k at)) in c.loop-node.invariant.each there.0 p there.1);
    }
