use Rattle.std.proofs.Common.{◌≡◌, ◌∙◌, sym, subst, arith, length}
use Rattle.std.proofs.lemmas.Option.{slice_get-get_or}
use Rattle.flow_graph.specs.declared.plan.Item.TheVariants.{Placed}
use Rattle.flow_graph.specs.Placing.{AreClosed}
use Rattle.flow_graph.proofs.Scans.{item_within, first_open_marked, first_open_none, closed_past}
use Rattle.flow_graph.proofs.plan.pass_closed.Goals as goal

pub open_at-requires-clause-item : goal.open_at-requires-clause-item
open_at-requires-clause-item c =
    item_within (length c.args.nodes.now) c.args.items.now c.loop-number.number _ c.requires.items (slice_get-get_or c.args.items.now c.loop-number.number (Placed 0) (omega arith))

pub returns-then-is_some-clause-open : goal.returns-then-is_some-clause-open
returns-then-is_some-clause-open c =
    let here = slice_get-get_or c.args.items.now c.loop-number.number (Placed 0) (omega arith) in
    first_open_marked c.args.nodes.now c.args.placed.now c.args.items.now c.loop-number.number _ c.open_at.result c.requires.within c.requires.placed c.loop-number.invariant here c.open_at.ensures (sym c.is_some.ensures ∙ c.if-is_some.true)

pub loop-number-preserved : goal.loop-number-preserved
loop-number-preserved c =
    closed_past c.args.nodes.now c.args.placed.now c.args.items.now c.loop-number.number _ c.open_at.result c.requires.within c.requires.placed c.loop-number.invariant
    (slice_get-get_or c.args.items.now c.loop-number.number (Placed 0) (omega arith)) c.open_at.ensures (sym c.is_some.ensures ∙ c.if-is_some.false)

pub returns-clause-open : goal.returns-clause-open
returns-clause-open c =
    let items = c.args.items.now in
    let end : c.loop-number.number ≡ length items = omega arith in
    first_open_none c.args.nodes.now items (length items) (subst (AreClosed c.args.nodes.now items) end c.loop-number.invariant) (omega arith)
