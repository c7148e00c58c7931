-- What a push along an edge of the flow of wanted bits leaves.
use Rattle.std.proofs.Common.{◌≡◌, ◌∙◌, ℕ, List, length, Option, refl, sym, ap, subst}
use Rattle.fix_solve.specs.Order.{IsLeastUpper}
use Rattle.flow_graph.specs.Graphs.{GraphShape}
use Rattle.wanted_bits.specs.declared.picking.Shift.{Shift}
use Rattle.wanted_bits.specs.BitsOrder.{BelowLists, HasFew, few_each, joined_bits, lists_join}
use Rattle.wanted_bits.specs.JoinedBits.{joined_few}
use Rattle.wanted_bits.specs.Wanted.{Asked}
use Rattle.wanted_bits.specs.Walking.{before_list}
use Rattle.wanted_bits.specs.WalkLaws.{AsksFew, list_few, list_long}
use Rattle.wanted_bits.specs.WantedNet.{capped}
use Rattle.wanted_bits.specs.WantedNetLaws.{capped_same}

module _ (graph : GraphShape) (asked : Asked) (asks : AsksFew asked) (back : ℕ → Option Shift) (list from into passed : List ℕ) (passed_is : passed ≡ before_list graph asked back list from) (long : length from ≡ length into) (from_few : HasFew from) where
  -- as many numbers come before the block as are behind it
  pub passed_long : length passed ≡ length into
  passed_long = ap length passed_is ∙ list_long graph asked back list from ∙ long

  -- and each is at most 64
  pub passed_few : HasFew passed
  passed_few = subst HasFew (sym passed_is) (list_few graph asked back list from asks from_few)

  -- they are joined
  pub push_joins : HasFew into → IsLeastUpper BelowLists into (capped (before_list graph asked back list from)) (joined_bits into passed)
  push_joins few =
      subst (λ t. IsLeastUpper BelowLists into t (joined_bits into passed)) (passed_is ∙ sym (capped_same (before_list graph asked back list from) (list_few graph asked back list from asks from_few)))
      (lists_join into passed (sym passed_long) (few_each into few) (few_each passed passed_few))

-- where numbers were raised to those that pass
module _ (graph : GraphShape) (asked : Asked) (asks : AsksFew asked) (back : ℕ → Option Shift) (list from into new : List ℕ) (long : length from ≡ length into) (from_few : HasFew from) (few : HasFew into) (new_is : new ≡ joined_bits into (before_list graph asked back list from)) where
  -- each is at most 64
  pub news_few : HasFew new
  news_few =
      let passed = before_list graph asked back list from in
      subst HasFew (sym new_is) (joined_few into passed (passed_long graph asked asks back list from into passed refl long from_few) few (passed_few graph asked asks back list from into passed refl long from_few))

  -- and they are joined
  pub news_joins : IsLeastUpper BelowLists into (capped (before_list graph asked back list from)) new
  news_joins =
      subst (IsLeastUpper BelowLists into (capped (before_list graph asked back list from))) (sym new_is)
      (push_joins graph asked asks back list from into (before_list graph asked back list from) refl long from_few few)
