-- What a walk against the numbers of the nodes sees of expressions, and the numbers of those that are to be placed.
use Rattle.std.proofs.Common.{◌≡◌, ◌≢◌, ◌<◌, ◌≤◌, ◌+◌, ◌↔◌, ℕ, suc, Bool, true, false, List, [], ◌∷◌, ◌++◌, length, get_or, set, slice_get, Option, Some, None, refl, sym, ap, subst, ◌∙◌, inl, inr, arith, true≢false, get_or-set_same, get_or-set_other}
use Rattle.std.proofs.lemmas.List.{length-set}
use Rattle.std.proofs.lemmas.Option.{slice_get-get_or, slice_get_within}
use Rattle.std.proofs.lemmas.Bool.{cases_eq}
use Rattle.mir_base.specs.declared.instructions.Expr.{Expr}
use Rattle.mir_base.specs.Shapes.{AllDiffer}
use Rattle.mir_base.specs.ItemLaws.{get_last, get_left, one_place}
use Rattle.flow_graph.specs.ListLaws.{get_push}
use Rattle.flow_graph.specs.Graphs.{GraphShape, succs_at}
use Rattle.motion_rewrite.specs.Expressions.{uses}
use Rattle.latest_place.specs.Parts.{AreNumbersBelow, AreSeenFrom, HasNumber, IsPassedOnce, IsSeenFrom, LeadsFrom, seen_again, seen_at}
use Rattle.latest_place.specs.Stable.{split_bit}
use Rattle.latest_place.specs.declared.once.SeenUse.{SeenUse}
use Rattle.latest_place.specs.declared.once.SeenUse.TheVariants.{Never, Once, More}

-- ---- one node more

module _ (graph : GraphShape) (n : ℕ) where
  -- what is at n or after it
  from_n : (m : ℕ) → n ≤ m → (m ≢ n → suc n ≤ m)
  from_n m low other = omega (arith, low, other)

  -- where the nodes after n lead, and n does
  pub leads_more : (least next : ℕ) → LeadsFrom graph (suc n) least → next ≤ least → ((slot s : ℕ) → slice_get (succs_at graph.nodes n) slot ≡ Some s → next ≤ s) → LeadsFrom graph n next
  leads_more least next leads lower here m s low edge = elim (cases_eq m n) as (λ _. next ≤ s) [
    | inl same ↦ here edge.0 s (subst (λ k. slice_get (succs_at graph.nodes k) edge.0 ≡ Some s) same edge.1)
    | inr other ↦ (let bound = leads m s (from_n m low other) edge in omega (arith, bound, lower))
  ]

  -- so n is passed once where none leads to it or below it
  passed_here : (least : ℕ) → LeadsFrom graph n least → n < least → IsPassedOnce graph n
  passed_here least leads above m s low edge = let bound = leads m s low edge in omega (arith, bound, above)

  module _ (e : Expr) where
    -- an expression that n does not use
    unused_more : uses graph e n ≡ false → (s : SeenUse) → IsSeenFrom graph e (suc n) s → IsSeenFrom graph e n s
    unused_more off Never seen = λ m low. elim (cases_eq m n) as (λ _. uses graph e m ≡ false) [ inl same ↦ rw same off | inr other ↦ seen m (from_n m low other) ]
    unused_more off Once seen = (
      seen.0,
      record {
        high = let high = seen.1.high in omega (arith, high);
        used = seen.1.used;
        only = λ m low on. elim (cases_eq m n) as (λ _. m ≡ seen.0) [
          | inl same ↦ absurd (true≢false (sym on ∙ ap (uses graph e) same ∙ off))
          | inr other ↦ seen.1.only m (from_n m low other) on
        ];
        passed = seen.1.passed;
      },
    )
    unused_more off More seen = seen

    -- one that it uses
    used_more : uses graph e n ≡ true → (passed : Bool) → (passed ≡ true → IsPassedOnce graph n) → (s : SeenUse) → IsSeenFrom graph e (suc n) s → IsSeenFrom graph e n (seen_again passed s)
    used_more on true once Never seen = (
      n,
      record {
        high = omega arith;
        used = on;
        only = λ m low on'. elim (cases_eq m n) as (λ _. m ≡ n) [ inl same ↦ same | inr other ↦ absurd (true≢false (sym on' ∙ seen m (from_n m low other))) ];
        passed = once refl;
      },
    )
    used_more on false once Never seen = tt
    used_more on passed once Once seen = tt
    used_more on passed once More seen = tt

  -- so it is of all in the table
  pub seen_more : (table : List Expr) (seen new : List SeenUse) (found : Option ℕ) (passed : Bool) (least : ℕ) → AreSeenFrom graph table (suc n) seen → LeadsFrom graph n least → (passed ≡ true → n < least)
      → ((i : ℕ) (e : Expr) → slice_get table i ≡ Some e → (uses graph e n ≡ true) ↔ (found ≡ Some i)) → new ≡ seen_at seen passed found → AreSeenFrom graph table n new
  seen_more table seen new None passed least was leads above finds is = subst (AreSeenFrom graph table n) (sym is) (record {
    long = was.long;
    each = λ i e at. unused_more e (split_bit (uses graph e n) (λ on. absurd (let none : None ≡ Some i = (finds i e at).0 on in cc)) (λ off. off)) (get_or seen i More) (was.each i e at);
  })
  seen_more table seen new (Some k) passed least was leads above finds is = subst (AreSeenFrom graph table n) (sym is) (record {
    long = length-set seen k (seen_again passed (get_or seen k More)) ∙ was.long;
    each = λ i e at. elim (cases_eq i k) as (λ _. IsSeenFrom graph e n (get_or (set seen k (seen_again passed (get_or seen k More))) i More)) [
      | inl same ↦ (
          let below : k < length seen = let lt = slice_get_within table i e at in let long = was.long in omega (arith, lt, long, same) in
          let used = used_more e ((finds i e at).1 (ap Some (sym same))) passed (λ once. passed_here least leads (above once)) (get_or seen i More) (was.each i e at) in
          subst (IsSeenFrom graph e n) (ap (λ j. seen_again passed (get_or seen j More)) same ∙ sym (get_or-set_same seen k (seen_again passed (get_or seen k More)) More below) ∙ ap (λ j. get_or (set seen k (seen_again passed (get_or seen k More))) j More) (sym same)) used)
      | inr other ↦ subst (IsSeenFrom graph e n) (sym (get_or-set_other seen k i (seen_again passed (get_or seen k More)) More other))
          (unused_more e (split_bit (uses graph e n) (λ on. absurd (let one : Some k ≡ Some i = (finds i e at).0 on in let same : i ≡ k = cc in other same)) (λ off. off)) (get_or seen i More) (was.each i e at))
    ];
  })

-- ---- the numbers

-- the numbers below this one, without those of expressions that were seen once
pub record AreListedTo (seen : List SeenUse) (end : ℕ) (numbers : List ℕ) : Type 0 where
  pub below : AreNumbersBelow end numbers
  pub differ : AllDiffer numbers
  pub others : (i : ℕ) → i < end → (HasNumber i numbers → ⊥) → get_or seen i More ≡ Once

-- at the start
pub listed_none : (seen : List SeenUse) → AreListedTo seen 0 []
listed_none seen = record {
  below = λ k i at. absurd (let low = slice_get_within {A = ℕ} [] k i at in omega (arith, low));
  differ = λ i j low low' same. absurd (omega (arith, low));
  others = λ i low none. absurd (omega (arith, low));
}

-- one that is left out
pub listed_out : (seen : List SeenUse) (end : ℕ) (numbers : List ℕ) → AreListedTo seen end numbers → get_or seen end More ≡ Once → AreListedTo seen (end + 1) numbers
listed_out seen end numbers listed once = record {
  below = λ k i at. let low = listed.below k i at in omega (arith, low);
  differ = listed.differ;
  others = λ i low none. elim (cases_eq i end) as (λ _. get_or seen i More ≡ Once) [ inl same ↦ rw same once | inr other ↦ listed.others i (omega (arith, low, other)) none ];
}

-- one that is put in
pub listed_in : (seen : List SeenUse) (end : ℕ) (numbers : List ℕ) → AreListedTo seen end numbers → AreListedTo seen (end + 1) (numbers ++ end ∷ [])
listed_in seen end numbers listed = record {
  below = λ k i at. elim (get_push numbers end i k at) as (λ _. i < end + 1) [ inl old ↦ (let low = listed.below k i old in omega (arith, low)) | inr new ↦ (let same = new.1 in omega (arith, same)) ];
  differ = λ i j low low' same.
      let at : slice_get (numbers ++ end ∷ []) i ≡ Some (get_or (numbers ++ end ∷ []) i 0) = slice_get-get_or (numbers ++ end ∷ []) i 0 low in
      one i j (get_or (numbers ++ end ∷ []) i 0) at (sym same ∙ at);
  others = λ i low none. elim (cases_eq i end) as (λ _. get_or seen i More ≡ Once) [
    | inl same ↦ absurd (none (length numbers, get_last numbers end ∙ ap Some (sym same)))
    | inr other ↦ listed.others i (omega (arith, low, other)) (λ among. none (among.0, get_left numbers (end ∷ []) among.0 (slice_get_within numbers among.0 i among.1) ∙ among.1))
  ];
}
  where
    one : (i j x : ℕ) → slice_get (numbers ++ end ∷ []) i ≡ Some x → slice_get (numbers ++ end ∷ []) j ≡ Some x → i ≡ j
    one i j x at at' = elim (get_push numbers end x i at) as (λ _. i ≡ j) [
      | inl old ↦ elim (get_push numbers end x j at') as (λ _. i ≡ j) [
        | inl old' ↦ one_place numbers listed.differ i j x old old'
        | inr new' ↦ absurd (let low = listed.below i x old in let same = new'.1 in omega (arith, low, same))
      ]
      | inr new ↦ elim (get_push numbers end x j at') as (λ _. i ≡ j) [
        | inl old' ↦ absurd (let low = listed.below j x old' in let same = new.1 in omega (arith, low, same))
        | inr new' ↦ new.0 ∙ sym new'.0
      ]
    ]
