use Rattle.std.proofs.Common.{◌≡◌, ◌∙◌, ◌++◌, drop, length, sym, ap, subst, take}
use Rattle.fix_solve.specs.Order.{IsLeastUpper}
use Rattle.wanted_bits.specs.BitsOrder.{BelowLists, HasFew, few_each, joined_bits, lists_join}
use Rattle.wanted_bits.specs.JoinedBits.{joined_few, joined_long}
use Rattle.wanted_bits.proofs.Raising.{written_back}
use Rattle.wanted_bits.proofs.lists.WantedListLattice.join_from.Goals as goal
use Rattle.wanted_bits.proofs.lists.WantedListLattice.join_from.Goals.{After-raise_each}

-- the two lists are equally long
long : (c : After-raise_each) → length c.other.inside.bits.items ≡ length c.self.inside.bits.items
long c = ap length c.other.view_is ∙ sym (ap length c.self.view_is ∙ c.requires)

-- what is written is the join
joined : (c : After-raise_each) → c.raise_each.new.bits ≡ joined_bits c.self.inside.bits.items c.other.inside.bits.items
joined c = c.raise_each.ensures.joined ∙ ap (λ l. joined_bits l c.as_slice.result.now) c.as_mut_slice.ensures.value ∙ ap (joined_bits c.self.inside.bits.items) c.as_slice.ensures.value

-- and the list behind it
written : (c : After-raise_each) → take c.self.inside.bits.len (c.raise_each.new.bits ++ drop (length c.raise_each.new.bits) c.self.inside.bits.items) ≡ joined_bits c.self.inside.bits.items c.other.inside.bits.items
written c = written_back c.self.inside.bits.len c.raise_each.new.bits c.self.inside.bits.items (ap length (joined c) ∙ joined_long c.self.inside.bits.items c.other.inside.bits.items (long c)) (sym c.self.inside.bits.ok.0) ∙ joined c

pub invariant_of-self : goal.invariant_of-self
invariant_of-self c =
    let known = (goal.at.invariant_of-self c).After-raise_each in (
      subst HasFew (sym (written known)) (joined_few c.self.inside.bits.items c.other.inside.bits.items (long known) c.self.invariant.0 c.other.invariant.0),
      c.self.invariant.1,
      c.self.invariant.2 ∙ sym (ap length (written known) ∙ joined_long c.self.inside.bits.items c.other.inside.bits.items (long known)),
    )

pub returns-clause-joined : goal.returns-clause-joined
returns-clause-joined c =
    let known = (goal.at.returns-clause-joined c).After-raise_each in
    let xs = c.self.inside.bits.items in
    let ys = c.other.inside.bits.items in
    subst (λ z. IsLeastUpper BelowLists c.args.self.now c.args.other.now z) (sym (written known))
    (subst (λ y. IsLeastUpper BelowLists c.args.self.now y (joined_bits xs ys)) c.other.view_is
    (subst (λ x. IsLeastUpper BelowLists x ys (joined_bits xs ys)) c.self.view_is (lists_join xs ys (sym (long known)) (few_each xs c.self.invariant.0) (few_each ys c.other.invariant.0))))
