use Rattle.std.proofs.Common.{◌≡◌, ◌∙◌, ◌++◌, drop, length, sym, ap, subst, take}
use Rattle.wanted_bits.specs.BitsOrder.{HasFew, joined_bits}
use Rattle.wanted_bits.specs.JoinedBits.{joined_few, joined_long}
use Rattle.wanted_bits.proofs.Raising.{written_back}
use Rattle.wanted_bits.proofs.around.Widths.raise_all.Goals as goal
use Rattle.wanted_bits.proofs.around.Widths.raise_all.Goals.{After-raise_each}

-- the two lists are equally long
long : (c : After-raise_each) → length c.others.inside.bits.items ≡ length c.self.inside.bits.items
long c = ap length c.others.view_is ∙ c.requires ∙ sym (ap length c.self.view_is)

-- what is written is the join
joined : (c : After-raise_each) → c.raise_each.new.bits ≡ joined_bits c.self.inside.bits.items c.others.inside.bits.items
joined c = c.raise_each.ensures.joined ∙ ap (λ l. joined_bits l c.as_slice.result.now) c.as_mut_slice.ensures.value ∙ ap (joined_bits c.self.inside.bits.items) c.as_slice.ensures.value

-- and the list behind it
written : (c : After-raise_each) → take c.self.inside.bits.len (c.raise_each.new.bits ++ drop (length c.raise_each.new.bits) c.self.inside.bits.items) ≡ joined_bits c.self.inside.bits.items c.others.inside.bits.items
written c = written_back c.self.inside.bits.len c.raise_each.new.bits c.self.inside.bits.items (ap length (joined c) ∙ joined_long c.self.inside.bits.items c.others.inside.bits.items (long c)) (sym c.self.inside.bits.ok.0) ∙ joined c

pub invariant_of-self : goal.invariant_of-self
invariant_of-self c =
    let known = (goal.at.invariant_of-self c).After-raise_each in
    subst HasFew (sym (written known)) (joined_few c.self.inside.bits.items c.others.inside.bits.items (long known) c.self.invariant c.others.invariant)

pub returns-clause-raised : goal.returns-clause-raised
returns-clause-raised c =
    let known = (goal.at.returns-clause-raised c).After-raise_each in
    written known ∙ ap (λ l. joined_bits l c.others.inside.bits.items) c.self.view_is ∙ ap (joined_bits c.args.self.now) c.others.view_is

pub returns-clause-unchanged : goal.returns-clause-unchanged
returns-clause-unchanged c =
    let known = (goal.at.returns-clause-unchanged c).After-raise_each in (
      λ off. written known ∙ sym (joined known) ∙ c.raise_each.ensures.unchanged.0 off ∙ c.as_mut_slice.ensures.value ∙ c.self.view_is,
      λ same. c.raise_each.ensures.unchanged.1 (joined known ∙ sym (written known) ∙ same ∙ sym c.self.view_is ∙ sym c.as_mut_slice.ensures.value),
    )
