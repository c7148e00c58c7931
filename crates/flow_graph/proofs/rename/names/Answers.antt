use Rattle.std.proofs.Common.{[], length, slice_index_or}
use Rattle.std.proofs.lemmas.Option.{slice_get-get_or}
use Rattle.mir_base.specs.BelowLaws.{all_below_at}
use Rattle.flow_graph.specs.RenamingLaws.{names_more}
use Rattle.flow_graph.proofs.rename.names.Goals as goal

pub name_at-requires : goal.name_at-requires
name_at-requires c = all_below_at (length c.args.vars.now) c.args.seen.now c.loop-x.x-index _ c.requires (slice_get-get_or c.args.seen.now c.loop-x.x-index 0 c.loop-x-test.true)

pub loop-x-preserved : goal.loop-x-preserved
loop-x-preserved c =
    let x = slice_index_or c.args.seen.now c.loop-x.x-index 0 in
    let here = slice_get-get_or c.args.seen.now c.loop-x.x-index 0 c.loop-x-test.true in
    let lt = all_below_at (length c.args.vars.now) c.args.seen.now c.loop-x.x-index x c.requires here in
    names_more c.args.vars.now c.args.seen.now c.loop-x.names.items c.push.new.self.items c.loop-x.x-index x (slice_index_or c.args.vars.now x []) c.in_ok-name_at.field-0 here (slice_get-get_or c.args.vars.now x [] lt) c.in_ok-name_at.ensures c.in_ok-push.ensures.items c.loop-x.invariant
