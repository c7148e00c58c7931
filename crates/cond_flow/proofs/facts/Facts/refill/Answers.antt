use Rattle.std.proofs.Common.{length, ap, arith}
use Rattle.cond_flow.proofs.FactLaws.{length_facts}
use Rattle.cond_flow.proofs.facts.Facts.refill.Goals as goal

pub copy_from_slice-requires : goal.copy_from_slice-requires
copy_from_slice-requires g c =
    let i = c.self.inside in
    let o = c.from.inside in
    let d = g.K.Coded.decoded in
    omega (
      arith,
      c.requires,
      ap length c.as_mut_slice.ensures.value,
      ap length c.as_slice.ensures,
      length_facts d i.kinds.items i.numbers.items c.self.invariant,
      ap length c.self.view_is,
      length_facts d o.kinds.items o.numbers.items c.from.invariant,
      ap length c.from.view_is,
    )

pub copy_from_slice-requires-2 : goal.copy_from_slice-requires-2
copy_from_slice-requires-2 g c =
    let i = c.self.inside in
    let o = c.from.inside in
    let d = g.K.Coded.decoded in
    omega (
      arith,
      c.requires,
      ap length c.as_mut_slice-2.ensures.value,
      ap length c.as_slice-2.ensures,
      length_facts d i.kinds.items i.numbers.items c.self.invariant,
      ap length c.self.view_is,
      c.self.invariant,
      length_facts d o.kinds.items o.numbers.items c.from.invariant,
      ap length c.from.view_is,
      c.from.invariant,
    )
