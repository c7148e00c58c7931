use Rattle.std.proofs.Common.{length, ap, arith}
use Rattle.cond_flow.proofs.FactLaws.{length_facts}
use Rattle.cond_flow.proofs.facts.Facts.join_noting.Goals as goal

pub join_noted-requires-clause-other : goal.join_noted-requires-clause-other
join_noted-requires-clause-other g c =
    let i = c.self.inside in
    let o = c.other.inside in
    let d = g.K.Coded.decoded in
    omega (
      arith,
      c.requires,
      ap length c.as_mut_slice.ensures.value,
      ap length c.as_slice.ensures,
      length_facts d i.kinds.items i.numbers.items c.self.invariant,
      ap length c.self.view_is,
      length_facts d o.kinds.items o.numbers.items c.other.invariant,
      ap length c.other.view_is,
    )

pub join_noted-requires-clause-other_long : goal.join_noted-requires-clause-other_long
join_noted-requires-clause-other_long g c =
    let i = c.self.inside in
    let o = c.other.inside in
    let d = g.K.Coded.decoded in
    omega (
      arith,
      c.requires,
      ap length c.as_mut_slice.ensures.value,
      ap length c.as_slice-2.ensures,
      length_facts d i.kinds.items i.numbers.items c.self.invariant,
      ap length c.self.view_is,
      length_facts d o.kinds.items o.numbers.items c.other.invariant,
      ap length c.other.view_is,
      c.other.invariant,
    )
