use Rattle.std.proofs.Common.{◌≡◌, ◌++◌, length, take, drop, replicate, false, refl}
use Rattle.std.proofs.lemmas.List.{length-replicate}
use Rattle.bit_rows.proofs.Ops.{row_len}
use Rattle.bit_rows.proofs.Views.{Holds, rewritten_whole, zeros_hold}
use Rattle.bit_rows.proofs.row.Row.clear.Goals as goal
use Rattle.bit_rows.proofs.row.Row.clear.Goals.{After-clear_words}

done : (c : After-clear_words) → Holds c.self.inside.bits (take (length c.self.inside.words.items) (c.clear_words.new.words ++ drop (length c.clear_words.new.words) c.self.inside.words.items)) (replicate (length c.args.self.now) false)
done c =
    let items = c.self.inside.words.items in
    let is : c.clear_words.new.words ≡ replicate (length items) 0 = rw c.as_mut_slice.ensures.value at c.clear_words.ensures in
    rw (rewritten_whole (length items) items c.clear_words.new.words refl (rw is (length-replicate (length items) 0)), is, row_len c.self.inside.bits items c.args.self.now c.self.view_is)
    (zeros_hold c.self.inside.bits (length items) c.self.invariant.len)

pub invariant_of-self : goal.invariant_of-self
invariant_of-self c = (done (goal.at.invariant_of-self c).After-clear_words).fits

pub returns : goal.returns
returns c = (done (goal.at.returns c).After-clear_words).view
