use Rattle.std.proofs.Common.{◌≡◌, ◌∙◌, ◌++◌, drop, length, sym, ap, subst, take, arith}
use Rattle.wanted_bits.specs.BitsOrder.{HasFew}
use Rattle.wanted_bits.specs.JoinedBits.{joined_few}
use Rattle.wanted_bits.specs.KeptRows.{RaisesBelow}
use Rattle.wanted_bits.proofs.Raising.{written_back}
use Rattle.wanted_bits.proofs.around.Widths.raise_some.Goals as goal
use Rattle.wanted_bits.proofs.around.Widths.raise_some.Goals.{After-raise_some}

-- what is written is what was raised
written : (c : After-raise_some) → take c.self.inside.bits.len (c.raise_some.new.bits ++ drop (length c.raise_some.new.bits) c.self.inside.bits.items) ≡ c.raise_some.new.bits
written c = written_back c.self.inside.bits.len c.raise_some.new.bits c.self.inside.bits.items (c.raise_some.ensures.long ∙ ap length c.as_mut_slice.ensures.value) (sym c.self.inside.bits.ok.0)

pub invariant_of-self : goal.invariant_of-self
invariant_of-self c =
    let known = (goal.at.invariant_of-self c).After-raise_some in
    let bits = c.as_mut_slice.result.now in
    let long : length c.args.others.now ≡ length bits = c.requires.long ∙ sym (ap length (c.as_mut_slice.ensures.value ∙ c.self.view_is)) in
    let few : HasFew bits = subst HasFew (sym c.as_mut_slice.ensures.value) c.self.invariant in
    subst HasFew (sym (written known)) (λ x. omega (arith, c.raise_some.ensures.below x, joined_few bits c.args.others.now long few c.requires.few x))

pub returns : goal.returns
returns c =
    let known = (goal.at.returns c).After-raise_some in
    subst (RaisesBelow c.args.others.now c.args.self.now) (sym (written known)) (subst (λ l. RaisesBelow c.args.others.now l c.raise_some.new.bits) (c.as_mut_slice.ensures.value ∙ c.self.view_is) c.raise_some.ensures)
