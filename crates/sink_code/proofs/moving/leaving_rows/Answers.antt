use Rattle.std.proofs.Common.{◌∙◌, false, get_or, length, replicate, ap}
use Rattle.std.proofs.lemmas.Option.{slice_get-get_or}
use Rattle.sink_code.specs.declared.inside.Leaving.{Leaving}
use Rattle.sink_code.proofs.ListedBits.{listed_all, listed_more, listed_none}
use Rattle.sink_code.proofs.moving.leaving_rows.Goals as goal

pub loop-left-init : goal.loop-left-init
loop-left-init c = listed_none (length c.args.over.now.blocks.now.lists) (length c.args.over.now.table.now) c.args.leaving.now c.in_ok-rows.rows
    (c.in_ok-rows.ensures ∙ ap (λ n. replicate n (replicate c.len-2.result false)) c.len.ensures ∙ ap (λ n. replicate (length c.args.over.now.blocks.now.lists) (replicate n false)) c.len-2.ensures.len)

pub loop-left-preserved : goal.loop-left-preserved
loop-left-preserved c =
    let leaving = c.args.leaving.now in
    let i = c.loop-left.left-index in
    let none : Leaving = record { block = 0; number = 0 } in
    let left = get_or leaving i none in
    let at = slice_get-get_or leaving i none c.loop-left-test.true in
    let within = c.requires.within i left at in
    listed_more (length c.args.over.now.blocks.now.lists) (length c.args.over.now.table.now) leaving i left c.loop-left.rows c.set.new.self at within.0 within.1 c.set.ensures c.loop-left.invariant

pub returns-clause-rows : goal.returns-clause-rows
returns-clause-rows c = record {
  shape = c.loop-left.invariant.shape;
  are = listed_all (length c.args.over.now.blocks.now.lists) (length c.args.over.now.table.now) c.args.leaving.now c.loop-left.left-index c.loop-left.rows c.loop-left-test.false c.loop-left.invariant;
}
