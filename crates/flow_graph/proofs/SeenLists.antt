-- The table of the variables seen keeps their places, one variable at a time.
use Rattle.std.proofs.Common.{◌≡◌, ◌≢◌, ℕ, zero, suc, ◌<◌, Bool, true, false, cond, eqb, ◌||◌, List, [], ◌∷◌, ◌++◌, length, set, slice_get, replicate, is_none, Option, Some, None, inl, inr, refl, sym, ap, ◌∙◌, subst, arith, length-set}
use Rattle.std.proofs.lemmas.Bool.{eq-eqb, eqb-true, cases_eq}
use Rattle.flow_graph.specs.ListLaws.{set_here, set_elsewhere}
use Rattle.flow_graph.specs.Numbering.{is_in, first_index}
use Rattle.flow_graph.specs.NumberingLaws.{is_in_last}
use Rattle.flow_graph.specs.Placing.{ArePositions, place_of}
use Rattle.std.proofs.lemmas.Option.{same_Some}

-- ---- the places of the variables seen

-- numbers that differ are tested to differ
not_eqb : (a b : ℕ) → a ≢ b → eqb a b ≡ false
not_eqb a b differ = chosen (eqb a b) refl
  where
    chosen : (v : Bool) → eqb a b ≡ v → v ≡ false
    chosen true is = absurd (differ (eqb-true a b is))
    chosen false is = refl

-- another variable at the end changes no place of a variable
place_other : (seen : List ℕ) (x y : ℕ) → x ≢ y → place_of (seen ++ x ∷ []) y ≡ place_of seen y
place_other seen x y differ =
    ap (λ b. cond b (Some (first_index (seen ++ x ∷ []) y)) None) (in_same seen) ∙ chosen (is_in y seen) refl
  where
    in_same : (zs : List ℕ) → is_in y (zs ++ x ∷ []) ≡ is_in y zs
    in_same [] = ap (λ b. b || false) (not_eqb x y differ)
    in_same (z ∷ zs) = ap (λ b. eqb z y || b) (in_same zs)

    at_same : (zs : List ℕ) → is_in y zs ≡ true → first_index (zs ++ x ∷ []) y ≡ first_index zs y
    at_same [] e = cc
    at_same (z ∷ zs) e = by (eqb z y) e (at_same zs)
      where
        by : (b : Bool) → b || is_in y zs ≡ true → (is_in y zs ≡ true → first_index (zs ++ x ∷ []) y ≡ first_index zs y) → cond b 0 (suc (first_index (zs ++ x ∷ []) y)) ≡ cond b 0 (suc (first_index zs y))
        by true h ih = refl
        by false h ih = ap suc (ih h)

    chosen : (b : Bool) → is_in y seen ≡ b → cond b (Some (first_index (seen ++ x ∷ []) y)) None ≡ cond b (Some (first_index seen y)) None
    chosen true e = ap Some (at_same seen e)
    chosen false e = refl

-- a new variable stands at the end
place_last : (seen : List ℕ) (x : ℕ) → is_in x seen ≡ false → place_of (seen ++ x ∷ []) x ≡ Some (length seen)
place_last seen x new = ap (λ b. cond b (Some (first_index (seen ++ x ∷ []) x)) None) (is_in_last x seen) ∙ ap Some (at_end seen new)
  where
    at_end : (zs : List ℕ) → is_in x zs ≡ false → first_index (zs ++ x ∷ []) x ≡ length zs
    at_end [] e = ap {B = ℕ} (λ b. cond b 0 1) (eq-eqb x x refl)
    at_end (z ∷ zs) e = by (eqb z x) e (at_end zs)
      where
        by : (b : Bool) → b || is_in x zs ≡ false → (is_in x zs ≡ false → first_index (zs ++ x ∷ []) x ≡ length zs) → cond b 0 (suc (first_index (zs ++ x ∷ []) x)) ≡ suc (length zs)
        by true h ih = cc
        by false h ih = ap suc (ih h)

-- what the table says of one variable
pub unseen_entry : (seen : List ℕ) (table : List (Option ℕ)) (x : ℕ) → ArePositions seen table → x < length table → slice_get table x ≡ Some None → is_in x seen ≡ false
unseen_entry seen table x are lt e = chosen (is_in x seen) refl
  where
    chosen : (b : Bool) → is_in x seen ≡ b → b ≡ false
    chosen true is = let h : cond true (Some (first_index seen x)) None ≡ None = ap (λ b. cond b (Some (first_index seen x)) None) (sym is) ∙ same_Some _ _ (sym (are.are x lt) ∙ e) in cc
    chosen false is = refl

-- a variable that has a place was seen
pub seen_placed : (seen : List ℕ) (table : List (Option ℕ)) (x p : ℕ) → ArePositions seen table → x < length table → slice_get table x ≡ Some (Some p) → is_in x seen ≡ true
seen_placed seen table x p are lt e = chosen (is_in x seen) refl
  where
    chosen : (b : Bool) → is_in x seen ≡ b → b ≡ true
    chosen true is = refl
    chosen false is = let h : cond false (Some (first_index seen x)) None ≡ Some p = ap (λ b. cond b (Some (first_index seen x)) None) (sym is) ∙ same_Some _ _ (sym (are.are x lt) ∙ e) in cc

-- so was one whose entry is not None
pub seen_entry : (seen : List ℕ) (table : List (Option ℕ)) (x : ℕ) (o : Option ℕ) → ArePositions seen table → x < length table → slice_get table x ≡ Some o → is_none o ≡ false → is_in x seen ≡ true
seen_entry seen table x None are lt e is = cc
seen_entry seen table x (Some p) are lt e is = seen_placed seen table x p are lt e

-- a variable that is not in the list has its length for its first_index
pub position_none : (seen : List ℕ) (x : ℕ) → is_in x seen ≡ false → first_index seen x ≡ length seen
position_none [] x e = refl
position_none (z ∷ zs) x e = by (eqb z x) e (position_none zs x)
  where
    by : (b : Bool) → b || is_in x zs ≡ false → (is_in x zs ≡ false → first_index zs x ≡ length zs) → cond b 0 (suc (first_index zs x)) ≡ suc (length zs)
    by true h ih = cc
    by false h ih = ap suc (ih h)

-- the table with one more variable
pub positions_more : (seen : List ℕ) (table : List (Option ℕ)) (x : ℕ) → ArePositions seen table → x < length table → is_in x seen ≡ false → ArePositions (seen ++ x ∷ []) (set table x (Some (length seen)))
positions_more seen table x are lt new = record {
  are = λ y below. elim (cases_eq x y) [
    | inl e ↦ subst (λ z. slice_get (set table x (Some (length seen))) z ≡ Some (place_of (seen ++ x ∷ []) z)) e (set_here table x (Some (length seen)) lt ∙ ap Some (sym (place_last seen x new)))
    | inr differ ↦ set_elsewhere table x y (Some (length seen)) (λ e. differ (sym e)) ∙ are.are y (omega (arith, below, length-set table x (Some (length seen)))) ∙ ap Some (sym (place_other seen x y differ))
  ];
}

-- before the first variable no variable has a place
pub positions_none : (n : ℕ) (seen : List ℕ) (table : List (Option ℕ)) → seen ≡ [] → table ≡ replicate n None → ArePositions seen table
positions_none n seen table e e' = record {
  are = λ x lt. all_none n table e' x lt ∙ ap (λ l. Some (place_of l x)) (sym e);
}
  where
    all_none : (k : ℕ) (ts : List (Option ℕ)) → ts ≡ replicate k None → (x : ℕ) → x < length ts → slice_get ts x ≡ Some None
    all_none k [] h x lt = absurd (omega (arith, lt))
    all_none zero (t ∷ ts) h x lt = cc
    all_none (suc k) (t ∷ ts) h zero lt = let same : t ≡ None = cc in ap Some same
    all_none (suc k) (t ∷ ts) h (suc x) lt = let rest : ts ≡ replicate k None = cc in all_none k ts rest x (omega (arith, lt))
