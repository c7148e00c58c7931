use Rattle.std.proofs.Common.{◌≡◌, ◌∷◌, length, sym, ap, ◌∙◌, subst}
use Rattle.std.specs.BinaryHeap.{heap_items, heap_len}
use Rattle.std.specs.List.Sorted.{IsPermutation}
use Rattle.std.specs.Option.{IfNone, IfSome}
use Rattle.value_number.specs.declared.candidates.Candidates.{Candidates}
use Rattle.value_number.proofs.Covers.{drop_stay, empty_stay}
use Rattle.value_number.proofs.candidates.Candidates.drop_first.Goals as goal
use Rattle.value_number.proofs.candidates.Candidates.drop_first.Goals.{in-None, in-Some}

pub returns-clause-stay : goal.returns-clause-stay
returns-clause-stay c =
    let old = c.args.self.now in
    let new : Candidates = record { first = c.match-pop.self; others = c.pop.new.self } in
    elim c.match-pop.branch [
      | in-None w ↦
          let none = subst (λ r. IfNone r (heap_len old.others ≡ 0)) w.in-None.is c.pop.ensures.none in
          empty_stay old new (sym (ap length c.as_slice-others.ensures.value) ∙ c.as_slice-others.ensures.len ∙ none)
      | in-Some w ↦ drop_stay old new _ w.self-is (subst (λ r. IfSome r (λ x. IsPermutation (heap_items old.others) (x ∷ heap_items new.others))) w.in-Some.is c.pop.ensures.permutation)
    ]
