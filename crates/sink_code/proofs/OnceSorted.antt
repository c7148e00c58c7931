-- Insertions in order of their nodes and variables, and those of one node and variable left out but for the first.
use Rattle.std.proofs.Common.{◌≡◌, ℕ, suc, ◌+◌, ◌-◌, ◌<◌, ◌≤◌, ◌++◌, Bool, true, false, nat_eq, if◌then◌else◌, List, [], ◌∷◌, get_or, length, slice_get, Option, Some, None, refl, sym, ap, inl, inr, ◌∙◌, subst, arith, eqb-true, true≢false}
use Rattle.std.proofs.lemmas.Bool.{and_from, and_parts, cases_eq, cases_lt, eq-eqb}
use Rattle.std.proofs.lemmas.Option.{get_or_from_slice_get, none-some, slice_get_within}
use Rattle.std.proofs.lemmas.Cmp.{nat_cmp_total, on_total, then_total}
use Rattle.std.proofs.lemmas.List.Sorted.{ranks_by, sorted_far}
use Rattle.std.specs.Cmp.{IsStrictWeakOrder, nat_cmp_is}
use Rattle.std.specs.declared.cmp.Ordering.{Ordering}
use Rattle.std.specs.declared.cmp.Ordering.TheVariants.{Equal, Less}
use Rattle.std.specs.List.Sorted.{IsSortedByKey}
use Rattle.std.specs.Ordering.{is_lt, nat_cmp, ordering_then}
use Rattle.mir_base.specs.ItemLaws.{contained_at}
use Rattle.flow_graph.specs.ListLaws.{get_left_some, get_push, get_seam}
use Rattle.sink_code.specs.declared.inserting.PutBefore.{PutBefore}
use Rattle.sink_code.specs.FoundPuts.{AreOnce, AreSorted, PutsAscend, ComesBefore, ends_at_site, have_one_site, is_at_site, with_new}

-- ---- in order

-- where an insertion stands: its node and its variable
abbrev pub site : PutBefore → ℕ × ℕ
site put = (put.node, put.var)

-- by node, and of one node by variable
abbrev pub site_cmp : ℕ × ℕ → ℕ × ℕ → Ordering
site_cmp x y = ordering_then (nat_cmp x.0 y.0) (nat_cmp x.1 y.1)

-- what comes before another is less
comes_less : (a b : PutBefore) → ComesBefore a b → is_lt (site_cmp (site a) (site b)) ≡ true
comes_less a b (inl less) = ap (λ o. is_lt (ordering_then o (nat_cmp a.var b.var))) (sym (nat_cmp_is a.node b.node Less less))
comes_less a b (inr same) =
    ap (λ o. is_lt (ordering_then o (nat_cmp a.var b.var))) (sym (nat_cmp_is a.node b.node Equal same.0)) ∙ ap is_lt (sym (nat_cmp_is a.var b.var Less same.1))

-- sorted by node and variable
pub sites_sorted : (puts : List PutBefore) → IsSortedByKey site site_cmp puts → AreSorted puts
sites_sorted puts up i j a b lt at_i at_j before =
    let order : IsStrictWeakOrder (λ (x y : PutBefore). is_lt (site_cmp (site x) (site y))) = ranks_by (then_total (on_total (λ (t : ℕ × ℕ). t.0) nat_cmp_total) (on_total (λ (t : ℕ × ℕ). t.1) nat_cmp_total)) site in
    let far = sorted_far (λ (x y : PutBefore). is_lt (site_cmp (site x) (site y))) order puts up i j a (omega (arith, lt)) (slice_get_within puts j b at_j) in
    let first : get_or puts i a ≡ a = get_or_from_slice_get puts i a a at_i in
    let second : get_or puts j a ≡ b = get_or_from_slice_get puts j b a at_j in
    true≢false (sym (comes_less b a before) ∙ ap (λ p. is_lt (site_cmp (site p) (site a))) (sym second) ∙ ap (λ p. is_lt (site_cmp (site (get_or puts j a)) (site p))) (sym first) ∙ far)

-- ---- without repeats

-- of those below an index one for each node and variable, in order
pub record AreOnceTo (puts : List PutBefore) (index : ℕ) (once : List PutBefore) : Type 0 where
  pub ascend : PutsAscend once
  pub among : (i : ℕ) (put : PutBefore) → slice_get once i ≡ Some put → (j : ℕ) × (j < index) × (slice_get puts j ≡ Some put)
  pub all : (i : ℕ) (put : PutBefore) → i < index → slice_get puts i ≡ Some put → (j : ℕ) × (other : PutBefore) × (slice_get once j ≡ Some other) × (other.node ≡ put.node) × (other.var ≡ put.var)

-- of none
pub once_none : (puts once : List PutBefore) → once ≡ [] → AreOnceTo puts 0 once
once_none puts once is = record {
  ascend = subst PutsAscend (sym is) tt;
  among = λ i put e. absurd (none-some put (ap (λ l. slice_get l i) (sym is) ∙ e));
  all = λ i put lt. absurd (omega (arith, lt));
}

-- of all
pub once_all : (puts once : List PutBefore) (index : ℕ) → length puts ≤ index → AreOnceTo puts index once → AreOnce puts once
once_all puts once index past are = record {
  ascend = are.ascend;
  among = λ i put e. (let from = are.among i put e in contained_at puts put from.0 from.2);
  all = λ i put e. are.all i put (let within = slice_get_within puts i put e in omega (arith, past, within)) e;
}

-- the last of the list comes before one more
ascend_push : (once : List PutBefore) (put : PutBefore) → PutsAscend once → ((last : PutBefore) → slice_get once (length once - 1) ≡ Some last → ComesBefore last put) → PutsAscend (once ++ put ∷ [])
ascend_push [] put up before = tt
ascend_push (a ∷ []) put up before = (before a refl, tt)
ascend_push (a ∷ b ∷ once) put up before =
    let at : length (a ∷ b ∷ once) - 1 ≡ suc (length (b ∷ once) - 1) = omega arith in
    (up.0, ascend_push (b ∷ once) put up.1 (λ last e. before last (ap (slice_get (a ∷ b ∷ once)) at ∙ e)))

-- the first of two in order, where they differ in node or variable
apart_before : (a b : PutBefore) → have_one_site a b ≡ false → (ComesBefore b a → ⊥) → ComesBefore a b
apart_before a b apart never = elim (cases_lt a.node b.node) [
  | inl lt ↦ inl lt
  | inr ge ↦ elim (cases_eq a.node b.node) [
    | inr differ ↦ absurd (never (inl (omega (arith, ge, differ))))
    | inl same ↦ elim (cases_lt a.var b.var) [
      | inl lt ↦ inr (same, lt)
      | inr late ↦ elim (cases_eq a.var b.var) [
        | inr differ ↦ absurd (never (inr (sym same, omega (arith, late, differ))))
        | inl one ↦ absurd (true≢false (sym (and_from (nat_eq a.node b.node) (nat_eq a.var b.var) (eq-eqb a.node b.node same) (eq-eqb a.var b.var one)) ∙ apart))
      ]
    ]
  ]
]

module _ (puts once : List PutBefore) (index : ℕ) (put : PutBefore) (at : slice_get puts index ≡ Some put) (are : AreOnceTo puts index once) where
  -- what holds below the next index
  one_more : {P : ℕ → PutBefore → Type 0} → ((i : ℕ) (other : PutBefore) → i < index → slice_get puts i ≡ Some other → P i other) → P index put → (i : ℕ) (other : PutBefore) → i < index + 1 → slice_get puts i ≡ Some other → P i other
  one_more {P} below here i other lt e = elim (cases_eq i index) [
    | inl same ↦
        let both : Some put ≡ Some other = sym at ∙ ap (slice_get puts) (sym same) ∙ e in
        let is : put ≡ other = cc in
        subst (λ j. P j other) (sym same) (subst (P index) is here)
    | inr differ ↦ below i other (omega (arith, lt, differ)) e
  ]

  -- one whose node and variable the last of them has is left out
  pub once_skip : ends_at_site once put ≡ true → AreOnceTo puts (index + 1) once
  once_skip ends = record {
    ascend = are.ascend;
    among = λ i other e. (let from = are.among i other e in (from.0, (let lt = from.1 in omega (arith, lt)), from.2));
    all = one_more {P = λ i other. (j : ℕ) × (same : PutBefore) × (slice_get once j ≡ Some same) × (same.node ≡ other.node) × (same.var ≡ other.var)} are.all (by (slice_get once (length once - 1)) refl ends);
  }
    where
      by : (o : Option PutBefore) → slice_get once (length once - 1) ≡ o → is_at_site o put ≡ true → (j : ℕ) × (same : PutBefore) × (slice_get once j ≡ Some same) × (same.node ≡ put.node) × (same.var ≡ put.var)
      by None is e = absurd (true≢false (sym e))
      by (Some last) is e = (
          let parts = and_parts (nat_eq last.node put.node) (nat_eq last.var put.var) e in
          (length once - 1, last, is, eqb-true last.node put.node parts.0, eqb-true last.var put.var parts.1))

  -- and another is put at the end
  pub once_push : AreSorted puts → ends_at_site once put ≡ false → (new : List PutBefore) → new ≡ once ++ put ∷ [] → AreOnceTo puts (index + 1) new
  once_push sorted apart new is = record {
    ascend = subst PutsAscend (sym is) (ascend_push once put are.ascend last_before);
    among = λ i other e. elim (get_push once put other i (ap (λ l. slice_get l i) (sym is) ∙ e)) [
      | inl was ↦ (let from = are.among i other was in (from.0, (let lt = from.1 in omega (arith, lt)), from.2))
      | inr last ↦ (index, omega arith, at ∙ ap Some last.1)
    ];
    all = one_more {P = λ i other. (j : ℕ) × (same : PutBefore) × (slice_get new j ≡ Some same) × (same.node ≡ other.node) × (same.var ≡ other.var)}
        (λ i other lt e. (let was = are.all i other lt e in (was.0, was.1, ap (λ l. slice_get l was.0) is ∙ get_left_some once (put ∷ []) was.0 was.1 was.2, was.3, was.4)))
        (length once, put, ap (λ l. slice_get l (length once)) is ∙ get_seam once [] put, refl, refl);
  }
    where
      last_before : (last : PutBefore) → slice_get once (length once - 1) ≡ Some last → ComesBefore last put
      last_before last e =
          let from = are.among (length once - 1) last e in
          apart_before last put (sym (ap (λ o. is_at_site o put) e) ∙ apart) (sorted from.0 index last put from.1 from.2 at)

  -- so it is with one more
  pub once_more : AreSorted puts → (new : List PutBefore) → new ≡ with_new once put → AreOnceTo puts (index + 1) new
  once_more sorted new is = by (ends_at_site once put) refl is
    where
      by : (b : Bool) → ends_at_site once put ≡ b → new ≡ (if b then once else once ++ put ∷ []) → AreOnceTo puts (index + 1) new
      by true ends same = subst (AreOnceTo puts (index + 1)) (sym same) (once_skip ends)
      by false apart same = once_push sorted apart new same
