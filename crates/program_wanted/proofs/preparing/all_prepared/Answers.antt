use Rattle.std.proofs.Common.{◌≡◌, ◌∙◌, length, slice_get, Some, sym, ap, subst, arith}
use Rattle.std.proofs.lemmas.Option.{slice_get-get_or}
use Rattle.program_wanted.specs.Preparing.{ArePreparedBelow}
use Rattle.program_wanted.proofs.Prepares.{prepared_more}
use Rattle.program_wanted.proofs.preparing.all_prepared.Goals as goal

pub loop-unit-preserved : goal.loop-unit-preserved
loop-unit-preserved c =
    let graphs = c.args.graphs.now.items in
    let unit = c.loop-unit.unit in
    let graph = c.index.result.now in
    let at : slice_get graphs unit ≡ Some graph = slice_get-get_or graphs unit graph (omega (arith, c.loop-unit-test.true, c.len-unit-end.ensures, c.args.graphs.now.ok.0)) ∙ ap Some (sym c.index.ensures) in
    prepared_more graphs unit graph c.in_ok-one.one c.loop-unit.all.items c.push.new.self.items at c.loop-unit.invariant c.in_ok-one.ensures c.in_ok-push.ensures.items

pub returns : goal.returns
returns c =
    let graphs = c.args.graphs.now.items in
    let end : c.loop-unit.unit ≡ length graphs = omega (arith, c.loop-unit-test.false, c.loop-unit.auto.unit-end, c.len-unit-end.ensures, c.args.graphs.now.ok.0) in
    subst (λ n. ArePreparedBelow graphs n c.loop-unit.all.items) end c.loop-unit.invariant
