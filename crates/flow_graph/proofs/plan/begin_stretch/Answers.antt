use Rattle.std.proofs.Common.{◌≡◌, arith, length, slice_get, Some, None}
use Rattle.std.proofs.lemmas.Grind.{common_steps}
use Rattle.std.proofs.lemmas.Option.{gets}
use Rattle.flow_graph.proofs.Scans.{item_within, stretch_at, stretch_none}
use Rattle.flow_graph.proofs.plan.begin_stretch.Goals as goal

pub open_at-requires-clause-item : goal.open_at-requires-clause-item
open_at-requires-clause-item c =
    let here : slice_get c.args.items.now c.args.closed ≡ Some c.in-Some.item.now = grind (arith, common_steps, gets) in
    item_within (length c.args.nodes.now) c.args.items.now c.args.closed c.in-Some.item.now c.requires.items here

pub returns-in-None : goal.returns-in-None
returns-in-None c =
    let here : slice_get c.args.items.now c.args.closed ≡ None = grind (arith, common_steps, gets) in
    stretch_none c.args.nodes.now c.args.items.now c.args.closed c.requires.open here

pub returns-in-None-open_at : goal.returns-in-None-open_at
returns-in-None-open_at c =
    let here : slice_get c.args.items.now c.args.closed ≡ Some c.in-Some.item.now = grind (arith, common_steps, gets) in
    stretch_at c.args.nodes.now c.args.placed.now c.args.items.now c.args.closed c.in-Some.item.now None c.requires.within c.requires.placed c.requires.open here c.in-None-open_at.ensures

pub returns-in-Some-open_at : goal.returns-in-Some-open_at
returns-in-Some-open_at c =
    let here : slice_get c.args.items.now c.args.closed ≡ Some c.in-Some.item.now = grind (arith, common_steps, gets) in
    stretch_at c.args.nodes.now c.args.placed.now c.args.items.now c.args.closed c.in-Some.item.now (Some c.in-Some-open_at.node) c.requires.within c.requires.placed c.requires.open here c.in-Some-open_at.ensures
