use Rattle.std.proofs.Common.{◌≡◌, ◌∙◌, slice_set, sym, subst}
use Rattle.mir_base.specs.declared.instructions.Rhs.{Rhs}
use Rattle.wanted_bits.specs.Walking.{raised_own}
use Rattle.wanted_bits.proofs.Staying.{all_stay}
use Rattle.wanted_bits.proofs.walking.stays.Goals as goal

pub returns-then-wants_both : goal.returns-then-wants_both
returns-then-wants_both c on =
    let bits = c.args.bits.now in
    let k = c.args.k in
    let here = c.in-Binary in
    subst (λ (r : Rhs). bits ≡ raised_own (slice_set bits c.args.x 0) r k) (sym here.is)
    (all_stay bits c.args.x here.op here.a here.b k c.requires.number (c.is_variable.ensures c.if-is_variable.true) (sym c.wants_both.ensures ∙ c.if-wants_both.true) (c.has_number.ensures on))
