use Rattle.std.proofs.Common.{◌≡◌, length, refl, subst, ◌∙◌, slice_get, Some, slice_index_or, arith}
use Rattle.std.proofs.lemmas.Option.{slice_get-get_or}
use Rattle.cond_flow.specs.FactLists.{decoded_each}
use Rattle.cond_flow.specs.Raising.{IsRaisedTo}
use Rattle.cond_flow.proofs.RaisingLaws.{keeps_none, keeps_then, raise_none, raise_then, tells_then}
use Rattle.cond_flow.proofs.code_joins.raise_lists.Goals as goal

pub loop-i-init : goal.loop-i-init
loop-i-init g c = record {
  long = refl;
  numbers_long = refl;
  raised = raise_none g.met.K.Knowledge.laws.order g.met.K.Knowledge.laws.rising _ _ _;
  tells = (λ _. refl, λ _. refl);
  keeps = keeps_none g.K.Knowledge.rules _ _;
}

pub loop-i-preserved : goal.loop-i-preserved
loop-i-preserved g c =
    let laws = g.met.K.Knowledge.laws in
    let d = g.K.Coded.decoded in
    let i = c.loop-i.i in
    let at : slice_get c.args.raised.now i ≡ Some (slice_index_or c.args.raised.now i 0) = slice_get-get_or c.args.raised.now i 0 (omega (arith, c.loop-i-test.true)) in
    let inv = c.loop-i.invariant in
    let e = c.raise_at-changed.ensures in
    record {
      long = e.long ∙ inv.long;
      numbers_long = e.numbers_long ∙ inv.numbers_long;
      raised = raise_then laws.order laws.rising c.args.raised.now i _ _ _ _ _ inv.raised at e.raised;
      tells = tells_then laws.order laws.rising _ _ _ c.loop-i.changed c.raise_at-changed.result inv.raised.above e.raised.above inv.tells e.unchanged;
      keeps = keeps_then g.K.Knowledge.rules _ _ _ _ _ _ inv.keeps e.keeps;
    }

pub returns-clause-raised : goal.returns-clause-raised
returns-clause-raised g c =
    let end : c.loop-i.i ≡ length c.args.raised.now = omega (arith, c.loop-i-test.false, c.loop-i.auto.i-end) in
    let d = g.K.Coded.decoded in
    subst (λ n. IsRaisedTo g.K.Knowledge.below g.K.Knowledge.rules c.args.raised.now n (decoded_each d c.args.other_kinds.now c.args.other_numbers.now) (decoded_each d c.args.kinds.now c.args.numbers.now) (decoded_each d c.loop-i.kinds c.loop-i.numbers)) end c.loop-i.invariant.raised
