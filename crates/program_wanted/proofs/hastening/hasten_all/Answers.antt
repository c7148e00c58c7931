use Rattle.std.proofs.Common.{◌∙◌, ◌<◌, length, Some, sym, ap, arith}
use Rattle.std.proofs.lemmas.Option.{slice_get-get_or}
use Rattle.program_wanted.proofs.UnitHastens.{kept_put}
use Rattle.program_wanted.proofs.hastening.hasten_all.Goals as goal

pub hasten_unit-requires-clause-kept : goal.hasten_unit-requires-clause-kept
hasten_unit-requires-clause-kept c =
    let kept = c.loop-count.kept.items in
    let u = c.turned-unit.result in
    let lt : u < length kept = omega (arith, c.turned-unit.ensures, c.len.ensures, c.args.graphs.now.ok.0, c.loop-count.invariant.kept.long) in
    c.loop-count.invariant.kept.each u c.index_mut-one.result.now (slice_get-get_or kept u c.index_mut-one.result.now lt ∙ ap Some (sym c.index_mut-one.ensures.value))

pub loop-count-preserved : goal.loop-count-preserved
loop-count-preserved c =
    let graphs = c.args.graphs.now.items in
    let kept = c.loop-count.kept.items in
    let u = c.turned-unit.result in
    let lt : u < length kept = omega (arith, c.turned-unit.ensures, c.len.ensures, c.args.graphs.now.ok.0, c.loop-count.invariant.kept.long) in
    record {
      progress = c.in_ok-raised.ensures.progress;
      kept = kept_put graphs c.args.prepared.now.items (length graphs) u c.hasten_unit.new.kept kept lt c.loop-count.invariant.kept c.in_ok-raised.ensures.kept;
    }
