use Rattle.std.proofs.Common.{List, subst, sym}
use Rattle.std.proofs.lemmas.List.Sorted.{Contains-permutation, IsPermutation-sym}
use Rattle.mir_base.specs.ItemLaws.{contained_at}
use Rattle.key_table.specs.KeyLaws.{place_of}
use Rattle.sink_code.specs.declared.inserting.PutBefore.{PutBefore}
use Rattle.sink_code.specs.FoundPuts.{AreOnce, AreSorted}
use Rattle.sink_code.proofs.ordering.in_order.Goals as goal

pub without_repeats-requires : goal.without_repeats-requires
without_repeats-requires c = subst AreSorted (sym c.as_slice.ensures.value) c.in_ok-sorted.ensures.sorted

pub returns : goal.returns
returns c =
    let puts = c.args.puts.items in
    let sorted = c.in_ok-sorted.sorted.items in
    let once = subst (λ (l : List PutBefore). AreOnce l c.in_ok-once.once.items) c.as_slice.ensures.value c.in_ok-once.ensures in
    record {
      ascend = once.ascend;
      among = λ i put e. Contains-permutation sorted puts put (IsPermutation-sym puts sorted c.in_ok-sorted.ensures.same) (once.among i put e);
      all = λ i put e. (let there = place_of sorted put (Contains-permutation puts sorted put c.in_ok-sorted.ensures.same (contained_at puts put i e)) in once.all there.0 put there.1);
    }
