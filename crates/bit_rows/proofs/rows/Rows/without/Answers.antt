use Rattle.std.proofs.Common.{◌≡◌, ◌&&◌, not, length, refl}
use Rattle.bit_rows.proofs.Views.{minus_bitwise, rewritten_whole}
use Rattle.bit_rows.proofs.Whole.{HoldEach, all_long, joined_all}
use Rattle.bit_rows.proofs.rows.Rows.without.Goals as goal
use Rattle.bit_rows.proofs.rows.Rows.without.Goals.{In_ok-words_without}

pub words_without-requires : goal.words_without-requires
words_without-requires c = rw (c.deref.ensures.value, c.deref-2.ensures.value) (all_long c.self.inside.rows c.self.inside.bits c.self.inside.stride c.self.inside.words.items c.args.self.now c.self.invariant c.self.view_is c.other.inside.rows c.other.inside.bits c.other.inside.stride c.other.inside.words.items c.args.other.now c.other.invariant c.other.view_is c.requires)

len_is : (c : In_ok-words_without) → length c.in_ok-words_without.field-0.items ≡ length c.self.inside.words.items
len_is c = rw c.deref.ensures.value at c.in_ok-words_without.ensures.len

made : (c : In_ok-words_without) → HoldEach c.self.inside.rows c.self.inside.bits c.self.inside.stride (λ x y. x && not y) c.in_ok-words_without.field-0.items c.args.self.now c.args.other.now
made c =
    rw (rewritten_whole (length c.self.inside.words.items) c.self.inside.words.items c.in_ok-words_without.field-0.items refl (len_is c)) at
    (joined_all c.self.inside.rows c.self.inside.bits c.self.inside.stride c.self.inside.words.items c.args.self.now c.self.invariant c.self.view_is c.other.inside.rows c.other.inside.bits c.other.inside.stride c.other.inside.words.items c.args.other.now c.other.invariant c.other.view_is c.requires
    (length c.self.inside.words.items) c.in_ok-words_without.field-0.items refl (len_is c) _ _ minus_bitwise
    (rw (c.deref.ensures.value, c.deref-2.ensures.value) at c.in_ok-words_without.ensures.minus))

pub invariant_of-result : goal.invariant_of-result
invariant_of-result c = (made (goal.at.invariant_of-result c).In_ok-words_without).fit

pub returns-clause-alike : goal.returns-clause-alike
returns-clause-alike c = (made (goal.at.returns-clause-alike c).In_ok-words_without).alike

pub returns-clause-rows : goal.returns-clause-rows
returns-clause-rows c = (made (goal.at.returns-clause-rows c).In_ok-words_without).each

pub returns-clause-bits : goal.returns-clause-bits
returns-clause-bits c = (made (goal.at.returns-clause-bits c).In_ok-words_without).bit
