use Rattle.std.proofs.Common.{◌≡◌, ◌∙◌, ℕ, List, length, slice_get, Option, Some, option_map, ap, sym, subst, arith}
use Rattle.std.proofs.lemmas.Option.{slice_get-get_or, slice_get_past}
use Rattle.mir_base.specs.declared.instructions.Rhs.{Rhs}
use Rattle.flow_graph.specs.declared.nodes.Node.{Node}
use Rattle.held_assign.specs.declared.held.HeldAssigns.{HeldAssigns}
use Rattle.held_assign.specs.HeldPasses.{AreMadeByRows, IsMadeByRow}
use Rattle.held_assign.specs.Making.{made_all, made_more}
use Rattle.held_assign.specs.Rows.{held_at}
use Rattle.held_assign.proofs.passes.nodes_by_rows.Goals as goal

-- what a node becomes stands in its place
made_here : (becomes : (ℕ → Option Rhs) → Node → Node) (held : HeldAssigns) (old : List Node) (n : ℕ) (node made : Node) → slice_get old n ≡ Some node → made ≡ becomes (held_at held n) node → IsMadeByRow becomes held old n (Some made)
made_here becomes held old n node made at is = ap Some is ∙ sym (ap (option_map (becomes (held_at held n))) at)

pub loop-n-preserved : goal.loop-n-preserved
loop-n-preserved g c =
    let becomes = g.P.HeldPass.becomes in
    let held = c.args.held.now in
    let old = c.nodes-old.result.now in
    let n = c.loop-n.n in
    let node = c.index-old-n.result in
    let at : slice_get old n ≡ Some node = slice_get-get_or old n node c.loop-n-test.true ∙ ap Some (sym c.index-old-n.is) in
    made_more (IsMadeByRow becomes held old) n c.in_ok-node.node c.loop-n.nodes.items c.push.new.self.items
    (made_here becomes held old n node c.in_ok-node.node at c.in_ok-node.ensures) c.in_ok-push.ensures.items c.loop-n.invariant

pub returns : goal.returns
returns g c =
    let becomes = g.P.HeldPass.becomes in
    let held = c.args.held.now in
    let old = c.nodes-old.result.now in
    let end : length c.nodes-old.result.now ≡ c.loop-n.n = omega (arith, c.loop-n-test.false, c.loop-n.auto.n-end) in
    subst (λ l. AreMadeByRows becomes held l c.loop-n.nodes.items) c.nodes-old.ensures.value
    (made_all (IsMadeByRow becomes held old) c.loop-n.n c.loop-n.nodes.items (λ m ge. sym (ap (option_map (becomes (held_at held m))) (slice_get_past old m (omega (arith, ge, end))))) c.loop-n.invariant)
