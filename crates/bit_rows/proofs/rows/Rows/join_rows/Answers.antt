use Rattle.std.proofs.Common.{◌++◌, length, take, drop}
use Rattle.bit_rows.specs.Joinings.{bit_join}
use Rattle.bit_rows.proofs.Whole.{HoldEach, all_long, joined_all}
use Rattle.bit_rows.proofs.Views.{joining_bitwise}
use Rattle.bit_rows.proofs.rows.Rows.join_rows.Goals as goal
use Rattle.bit_rows.proofs.rows.Rows.join_rows.Goals.{After-join_words}

pub join_words-requires : goal.join_words-requires
join_words-requires c = rw (c.deref_mut.ensures.value, c.deref.ensures.value) (all_long c.self.inside.rows c.self.inside.bits c.self.inside.stride c.self.inside.words.items c.args.self.now c.self.invariant c.self.view_is c.other.inside.rows c.other.inside.bits c.other.inside.stride c.other.inside.words.items c.args.other.now c.other.invariant c.other.view_is c.requires)

done : (c : After-join_words) → HoldEach c.self.inside.rows c.self.inside.bits c.self.inside.stride (bit_join c.args.how) (take c.self.inside.words.len (c.join_words.new.into ++ drop (length c.join_words.new.into) c.self.inside.words.items)) c.args.self.now c.args.other.now
done c =
    joined_all c.self.inside.rows c.self.inside.bits c.self.inside.stride c.self.inside.words.items c.args.self.now c.self.invariant c.self.view_is c.other.inside.rows c.other.inside.bits c.other.inside.stride c.other.inside.words.items c.args.other.now c.other.invariant c.other.view_is c.requires
    c.self.inside.words.len c.join_words.new.into c.self.inside.words.ok.0 (rw c.deref_mut.ensures.value at c.join_words.ensures.len) _ _ (joining_bitwise c.args.how)
    (rw (c.deref_mut.ensures.value, c.deref.ensures.value) at c.join_words.ensures.each)

pub invariant_of-self : goal.invariant_of-self
invariant_of-self c = (done (goal.at.invariant_of-self c).After-join_words).fit

pub returns-clause-alike : goal.returns-clause-alike
returns-clause-alike c = (done (goal.at.returns-clause-alike c).After-join_words).alike

pub returns-clause-rows : goal.returns-clause-rows
returns-clause-rows c = (done (goal.at.returns-clause-rows c).After-join_words).each

pub returns-clause-bits : goal.returns-clause-bits
returns-clause-bits c = (done (goal.at.returns-clause-bits c).After-join_words).bit
