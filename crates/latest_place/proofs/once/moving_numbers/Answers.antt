use Rattle.std.proofs.Common.{◌≡◌, ◌+◌, ◌∙◌, ℕ, slice_get, Some, Vec, Global, refl, ap, sym, subst, arith}
use Rattle.std.proofs.lemmas.Option.{get_or_from_slice_get, slice_get-get_or, slice_get_within}
use Rattle.latest_place.specs.Parts.{IsSeenFrom}
use Rattle.latest_place.specs.declared.once.SeenUse.TheVariants.{More}
use Rattle.latest_place.proofs.Moving.{AreListedTo, listed_in, listed_none, listed_out}
use Rattle.latest_place.proofs.once.moving_numbers.Goals as goal
use Rattle.latest_place.proofs.once.moving_numbers.Goals.{then-not-is_once+in_ok-push, else-not-is_once}

pub loop-number-init : goal.loop-number-init
loop-number-init c = subst (AreListedTo c.in_ok-seen.seen.items 0) (sym c.in_ok-numbers.ensures.items) (listed_none c.in_ok-seen.seen.items)

-- what is read of the list stands there
here : (c : goal.Joined-not-is_once) → slice_get c.in_ok-seen.seen.items c.loop-number.number ≡ Some c.index.result.now
here c =
    let inside = c.loop-number-test.true in
    let len = c.len-number-end.ensures.len in
    let long = c.in_ok-seen.ensures.long in
    slice_get-get_or c.in_ok-seen.seen.items c.loop-number.number c.index.result.now (omega (arith, inside, len, long)) ∙ ap Some (sym c.index.ensures)

pub loop-number-preserved : goal.loop-number-preserved
loop-number-preserved c =
    let seen = c.in_ok-seen.seen.items in
    let number = c.loop-number.number in
    let numbers = c.loop-number.numbers.items in
    elim c.if-not-is_once.branch [
      | then-not-is_once+in_ok-push w ↦ subst (AreListedTo seen (number + 1)) (sym (ap (λ (v : Vec ℕ Global). v.items) w.numbers-is ∙ w.in_ok-push.ensures.items)) (listed_in seen number numbers c.loop-number.invariant)
      | else-not-is_once w ↦ subst (AreListedTo seen (number + 1)) (sym (ap (λ (v : Vec ℕ Global). v.items) w.numbers-is))
          (listed_out seen number numbers c.loop-number.invariant (get_or_from_slice_get seen number c.index.result.now More (here c) ∙ w.if-not-is_once.ensures.0 refl))
    ]

pub returns : goal.returns
returns c =
    let listed = c.loop-number.invariant in
    let bound = c.loop-number.auto.number-end in
    let all = c.loop-number-test.false in
    let len = c.len-number-end.ensures.len in
    record {
      below = λ k i at. let low = listed.below k i at in omega (arith, low, bound, len);
      differ = listed.differ;
      others = λ i e at none.
          let inside = slice_get_within c.args.table.now i e at in
          subst (IsSeenFrom c.args.graph.now e 0) (listed.others i (omega (arith, inside, all, len)) none) (c.in_ok-seen.ensures.each i e at);
    }
