-- Units of a list that are marked as stale.
use Rattle.std.proofs.Common.{◌≡◌, ℕ, zero, suc, ◌+◌, Bool, true, false, ◌||◌, nat_eq, List, [], ◌∷◌, length, slice_get, slice_set, take, Some, refl, sym, ap, ◌∙◌, subst, arith, true≢false}
use Rattle.std.proofs.lemmas.Bool.{ne_eqb}
use Rattle.std.proofs.lemmas.List.{length-set}
use Rattle.flow_graph.specs.Numbering.{is_in}
use Rattle.unit_callers.specs.Stale.{AllStale, CallersMarked, is_stale}
use Rattle.unit_callers.specs.StaleLaws.{set_others}

-- of no unit
pub all_none : (units : List ℕ) (marks : List Bool) → AllStale (take 0 units) marks marks
all_none units marks = record { long = refl; keeps = λ w off. (off, refl) }

-- one more item of a list
taken_in : (units : List ℕ) (i u w : ℕ) → slice_get units i ≡ Some u → is_in w (take i units) ≡ false → (w ≡ u → ⊥) → is_in w (take (suc i) units) ≡ false
taken_in [] i u w at off ne = cc
taken_in (x ∷ units) zero u w at off ne = let same : x ≡ u = cc in ap (λ b. b || false) (ne_eqb x w (λ e. ne (sym e ∙ same)))
taken_in (x ∷ units) (suc i) u w at off ne = by (nat_eq x w) refl off (λ h. taken_in units i u w at h ne)
  where
    by : (b : Bool) → nat_eq x w ≡ b → (b || is_in w (take i units)) ≡ false → (is_in w (take i units) ≡ false → is_in w (take (suc i) units) ≡ false) → (nat_eq x w || is_in w (take (suc i) units)) ≡ false
    by true is h rest = absurd (true≢false h)
    by false is h rest = ap (λ c. c || is_in w (take (suc i) units)) is ∙ rest h

-- of one unit more
pub all_more : (units : List ℕ) (i u : ℕ) (old now new : List Bool) → slice_get units i ≡ Some u → AllStale (take i units) old now → new ≡ slice_set now u true → AllStale (take (i + 1) units) old new
all_more units i u old now new at so_far is = record {
  long = ap (λ (l : List Bool). length l) is ∙ length-set now u true ∙ so_far.long;
  keeps = λ w off.
      let before = set_others now u w (ap (λ l. is_stale l w) (sym is) ∙ off) in
      let kept = so_far.keeps w before.0 in
      let more : suc i ≡ i + 1 = omega arith in
      (kept.0, subst (λ k. is_in w (take k units) ≡ false) more (taken_in units i u w at kept.1 before.1));
}

-- where something was raised
pub callers_marked : (units : List ℕ) (old new : List Bool) → AllStale units old new → CallersMarked true units old new
callers_marked units old new all = record { long = all.long; keeps = λ w off. ((all.keeps w off).0, λ on. (all.keeps w off).1) }

-- where nothing was raised
pub callers_left : (units : List ℕ) (marks : List Bool) → CallersMarked false units marks marks
callers_left units marks = record { long = refl; keeps = λ w off. (off, λ on. absurd (true≢false (sym on))) }
