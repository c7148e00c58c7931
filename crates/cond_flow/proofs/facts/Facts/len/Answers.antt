use Rattle.std.proofs.Common.{length, ap, arith}
use Rattle.cond_flow.proofs.FactLaws.{length_facts}
use Rattle.cond_flow.proofs.facts.Facts.len.Goals as goal

pub returns : goal.returns
returns g c =
    let i = c.self.inside in
    let kept = length_facts g.K.Coded.decoded i.kinds.items i.numbers.items c.self.invariant in
    let seen = ap length c.self.view_is in
    omega (arith, ap length c.as_slice.ensures, kept, seen)
