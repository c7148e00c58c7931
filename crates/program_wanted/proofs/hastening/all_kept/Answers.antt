use Rattle.std.proofs.Common.{◌≡◌, ◌∙◌, ◌<◌, length, slice_get, Some, sym, ap, subst, arith}
use Rattle.std.proofs.lemmas.Option.{slice_get-get_or}
use Rattle.program_wanted.specs.Hastening.{AreKeptBelow, IsKept, KeptOf}
use Rattle.program_wanted.proofs.UnitHastens.{kept_first, kept_more}
use Rattle.program_wanted.proofs.hastening.all_kept.Goals as goal

pub none-requires : goal.none-requires
none-requires c =
    let graphs = c.args.graphs.now.items in
    let all = c.args.prepared.now.items in
    let u = c.loop-unit.unit in
    let lt : u < length graphs = omega (arith, c.loop-unit-test.true, c.len-unit-end.ensures, c.args.graphs.now.ok.0) in
    c.requires.are u c.index.result.now c.index-in-loop-unit.result.now (slice_get-get_or graphs u c.index.result.now lt ∙ ap Some (sym c.index.ensures))
    (slice_get-get_or all u c.index-in-loop-unit.result.now (omega (arith, lt, c.requires.long)) ∙ ap Some (sym c.index-in-loop-unit.ensures))

pub loop-unit-preserved : goal.loop-unit-preserved
loop-unit-preserved c =
    let graphs = c.args.graphs.now.items in
    let all = c.args.prepared.now.items in
    let u = c.loop-unit.unit in
    let lt : u < length graphs = omega (arith, c.loop-unit-test.true, c.len-unit-end.ensures, c.args.graphs.now.ok.0) in
    let at : slice_get graphs u ≡ Some c.index.result.now = slice_get-get_or graphs u c.index.result.now lt ∙ ap Some (sym c.index.ensures) in
    let at' : slice_get all u ≡ Some c.index-in-loop-unit.result.now = slice_get-get_or all u c.index-in-loop-unit.result.now (omega (arith, lt, c.requires.long)) ∙ ap Some (sym c.index-in-loop-unit.ensures) in
    let is : IsKept graphs all u c.in_ok-one.one = λ graph ready here here'.
    (let both : Some c.index.result.now ≡ Some graph = sym at ∙ here in
    let both' : Some c.index-in-loop-unit.result.now ≡ Some ready = sym at' ∙ here' in
    let same : c.index.result.now ≡ graph = cc in
    let same' : c.index-in-loop-unit.result.now ≡ ready = cc in
    subst (λ r. KeptOf graphs u graph r c.in_ok-one.one) same' (subst (λ g. KeptOf graphs u g c.index-in-loop-unit.result.now c.in_ok-one.one) same
    (kept_first graphs u c.index.result.now c.index-in-loop-unit.result.now c.in_ok-one.one c.in_ok-one.ensures.fits c.in_ok-one.ensures.lowest))) in
    kept_more graphs all u c.in_ok-one.one c.loop-unit.all.items c.push.new.self.items c.loop-unit.invariant is c.in_ok-push.ensures.items

pub returns : goal.returns
returns c =
    let graphs = c.args.graphs.now.items in
    let end : c.loop-unit.unit ≡ length graphs = omega (arith, c.loop-unit-test.false, c.loop-unit.auto.unit-end, c.len-unit-end.ensures, c.args.graphs.now.ok.0) in
    subst (λ n. AreKeptBelow graphs c.args.prepared.now.items n c.loop-unit.all.items) end c.loop-unit.invariant
