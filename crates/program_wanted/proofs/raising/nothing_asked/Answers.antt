use Rattle.std.proofs.Common.{◌≡◌, ◌∙◌, length, slice_get, Some, sym, ap, subst, arith}
use Rattle.std.proofs.lemmas.Option.{slice_get-get_or}
use Rattle.program_wanted.specs.Preparing.{AreAskListsBelow}
use Rattle.program_wanted.proofs.Prepares.{lists_more}
use Rattle.program_wanted.proofs.raising.nothing_asked.Goals as goal

pub loop-unit-preserved : goal.loop-unit-preserved
loop-unit-preserved c =
    let graphs = c.args.graphs.now.items in
    let unit = c.loop-unit.unit in
    let graph = c.index.result.now in
    let at : slice_get graphs unit ≡ Some graph = slice_get-get_or graphs unit graph (omega (arith, c.loop-unit-test.true, c.len-unit-end.ensures, c.args.graphs.now.ok.0)) ∙ ap Some (sym c.index.ensures) in
    lists_more graphs unit c.in_ok-one.one c.loop-unit.all.items c.push.new.self.items c.loop-unit.invariant
    (λ other there.
    let both : Some graph ≡ Some other = sym at ∙ there in
    let same : graph ≡ other = cc in
    c.in_ok-one.ensures ∙ ap (λ g. length g.nodes) same) c.in_ok-push.ensures.items

pub returns : goal.returns
returns c =
    let graphs = c.args.graphs.now.items in
    let end : c.loop-unit.unit ≡ length graphs = omega (arith, c.loop-unit-test.false, c.loop-unit.auto.unit-end, c.len-unit-end.ensures, c.args.graphs.now.ok.0) in
    subst (λ n. AreAskListsBelow graphs n c.loop-unit.all.items) end c.loop-unit.invariant
