use Rattle.std.proofs.Common.{◌≡◌, suc, ◌++◌, ◌∷◌, [], ◌∙◌, Some, get_or, length, refl, slice_get, ap, sym, subst, arith}
use Rattle.std.proofs.lemmas.Option.{slice_get-get_or}
use Rattle.mir_base.specs.Shapes.{AllBelow, rhs_vars}
use Rattle.key_table.specs.KeyLaws.{put_stays}
use Rattle.sink_code.specs.declared.inserting.PutBefore.{PutBefore}
use Rattle.sink_code.specs.Inside.{stop_from}
use Rattle.sink_code.proofs.Noted.{stop_first}
use Rattle.sink_code.proofs.Sinks.{gone_found, left_found, put_found, sinkable_here, sinkable_more}
use Rattle.sink_code.proofs.inside.sinks.Goals as goal

pub stop_of-stop-requires-clause-var : goal.stop_of-stop-requires-clause-var
stop_of-stop-requires-clause-var c =
    let is = sinkable_here c.args.at.now.graph.now c.nodes-nodes.result.now c.args.at.now.list.now c.args.index c.args.pattern c.nodes-nodes.ensures.value c.nodes-nodes.ensures.graph.can.below c.requires.occurs in
    let var = is.1.0 in let long = c.requires.places.access_long in omega (arith, var, long)

pub stop_of-stop-requires-clause-rhs : goal.stop_of-stop-requires-clause-rhs
stop_of-stop-requires-clause-rhs c =
    let is = sinkable_here c.args.at.now.graph.now c.nodes-nodes.result.now c.args.at.now.list.now c.args.index c.args.pattern c.nodes-nodes.ensures.value c.nodes-nodes.ensures.graph.can.below c.requires.occurs in
    subst (λ n. AllBelow n (rhs_vars c.args.pattern.rhs)) (sym c.requires.places.assign_long) is.1.1

pub returns-in_ok-push : goal.returns-in_ok-push
returns-in_ok-push c =
    let at = c.args.at.now in
    let is = sinkable_here at.graph.now c.nodes-nodes.result.now at.list.now c.args.index c.args.pattern c.nodes-nodes.ensures.value c.nodes-nodes.ensures.graph.can.below c.requires.occurs in
    let stop : c.stop_of-stop.result ≡ stop_from at.graph.now at.list.now (suc c.args.index) c.args.pattern
    = c.stop_of-stop.ensures ∙ stop_first at.graph.now at.block (suc c.args.index) at.list.now c.args.places.now c.args.pattern c.requires.places is.1.0 is.1.1 in
    let n = get_or at.list.now c.stop_of-stop.result 0 in
    let here : slice_get at.list.now c.stop_of-stop.result ≡ Some n = slice_get-get_or at.list.now c.stop_of-stop.result 0 c.if-stop-at.true in
    put_found at.graph.now at.blocks.now.lists at.block c.args.index at.list.now c.requires.block.is c.args.pattern c.requires.occurs c.args.found.now _ c.requires.found n
    (ap (slice_get at.list.now) (sym stop) ∙ here)
    (c.in_ok-push.ensures.items ∙ ap (λ (put : PutBefore). c.args.found.now.puts.items ++ put ∷ []) c.put_of.ensures)
    refl refl

pub returns-in_ok-push-2 : goal.returns-in_ok-push-2
returns-in_ok-push-2 c =
    let at = c.args.at.now in
    let is = sinkable_here at.graph.now c.nodes-nodes.result.now at.list.now c.args.index c.args.pattern c.nodes-nodes.ensures.value c.nodes-nodes.ensures.graph.can.below c.requires.occurs in
    let stop : c.stop_of-stop.result ≡ stop_from at.graph.now at.list.now (suc c.args.index) c.args.pattern
    = c.stop_of-stop.ensures ∙ stop_first at.graph.now at.block (suc c.args.index) at.list.now c.args.places.now c.args.pattern c.requires.places is.1.0 is.1.1 in
    left_found at.graph.now at.blocks.now.lists at.block c.args.index at.list.now c.requires.block.is c.args.pattern c.requires.occurs c.args.found.now _ c.requires.found c.in_ok-number.number
    (omega (arith, stop, c.if-stop-at.false))
    (sym c.requires.block.on ∙ c.if-at.true)
    (sinkable_more (length at.graph.now.vars) c.args.found.now.table c.number.new.self c.args.pattern c.in_ok-number.ensures.with_key is c.requires.found.sunk.sinkable)
    (put_stays c.args.found.now.table c.args.pattern c.number.new.self c.in_ok-number.ensures.with_key)
    c.in_ok-number.ensures.here
    refl
    c.in_ok-push-2.ensures.items

pub returns-else-at : goal.returns-else-at
returns-else-at c =
    let at = c.args.at.now in
    let is = sinkable_here at.graph.now c.nodes-nodes.result.now at.list.now c.args.index c.args.pattern c.nodes-nodes.ensures.value c.nodes-nodes.ensures.graph.can.below c.requires.occurs in
    let stop : c.stop_of-stop.result ≡ stop_from at.graph.now at.list.now (suc c.args.index) c.args.pattern
    = c.stop_of-stop.ensures ∙ stop_first at.graph.now at.block (suc c.args.index) at.list.now c.args.places.now c.args.pattern c.requires.places is.1.0 is.1.1 in
    gone_found at.graph.now at.blocks.now.lists at.block c.args.index at.list.now c.requires.block.is c.args.pattern c.requires.occurs c.args.found.now _ c.requires.found
    (omega (arith, stop, c.if-stop-at.false))
    (sym c.requires.block.on ∙ c.if-at.false)
    refl
