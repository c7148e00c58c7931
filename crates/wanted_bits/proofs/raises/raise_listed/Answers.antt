use Rattle.std.proofs.Common.{◌∙◌, ◌+◌, drop, get_or, refl, sym, ap, arith, le_refl}
use Rattle.std.proofs.lemmas.List.{drop_more}
use Rattle.wanted_bits.specs.Touching.{raised_bits}
use Rattle.wanted_bits.specs.Walking.{bits_at}
use Rattle.wanted_bits.proofs.Keeping.{keeps_none, keeps_then, one_above, one_tells, tells_then}
use Rattle.wanted_bits.proofs.raises.raise_listed.Goals as goal

pub loop-i-init : goal.loop-i-init
loop-i-init c = record {
  raised = refl;
  above = λ k. le_refl (bits_at c.args.bits.now k);
  tells = (λ _. refl, λ _. refl);
  keeps = keeps_none c.args.news.now c.args.bits.now;
}

pub loop-i-preserved : goal.loop-i-preserved
loop-i-preserved c =
    let others = c.args.others.now in
    let variables = c.args.variables.now in
    let old = c.args.bits.now in
    let bits = c.loop-i.bits in
    let i = c.loop-i.i in
    let x = get_or variables i 0 in
    let inv = c.loop-i.invariant in
    let one = c.raise_one-changed in
    let long = c.requires ∙ sym inv.keeps.long in
    let more = one_above others bits one.new.bits x long one.ensures.raised in
    record {
      raised = ap (raised_bits others (drop (i + 1) variables)) one.ensures.raised ∙ sym (ap (λ l. raised_bits others l bits) (drop_more variables i 0 c.loop-i-test.true)) ∙ inv.raised;
      above = λ k. omega (arith, inv.above k, more k);
      tells = tells_then old bits one.new.bits c.loop-i.changed one.result one.ensures.keeps.long inv.keeps.long inv.above more inv.tells (one_tells others bits one.new.bits x one.result long one.ensures.raised one.ensures.unchanged);
      keeps = keeps_then c.args.news.now c.loop-i.news one.new.news old bits one.new.bits inv.keeps one.ensures.keeps;
    }
