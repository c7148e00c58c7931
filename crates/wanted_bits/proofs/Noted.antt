-- Variables that are put to others, one after the other.
use Rattle.std.proofs.Common.{◌≡◌, ◌∙◌, inl, inr, ℕ, ◌+◌, Bool, true, false, ◌||◌, List, [], ◌∷◌, ◌++◌, length, slice_get, Option, Some, refl, sym, ap, subst}
use Rattle.std.proofs.Math.Bool.{or_assoc}
use Rattle.std.proofs.lemmas.List.{length_push}
use Rattle.std.proofs.lemmas.Option.{get_or_from_slice_get}
use Rattle.node_list.specs.Lists.{list_at}
use Rattle.flow_graph.specs.Graphs.{GraphShape}
use Rattle.flow_graph.specs.ListLaws.{get_push}
use Rattle.flow_graph.specs.Numbering.{is_in}
use Rattle.wanted_bits.specs.GlobalNumbers.{is_in_append}
use Rattle.wanted_bits.specs.declared.picking.Shift.{Shift}
use Rattle.wanted_bits.specs.NewsShapes.{AreMeant, AreNoted, VariablesShape, is_meant}
use Rattle.wanted_bits.specs.Touching.{touched_in}

-- none
pub noted_none : (some : VariablesShape) → AreNoted [] some some
noted_none some = record { kept = λ k on. on; noted = λ k on. absurd (cc) }

-- one list after the other
pub noted_append : (xs ys : List ℕ) (a b c : VariablesShape) → AreNoted xs a b → AreNoted ys b c → AreNoted (xs ++ ys) a c
noted_append xs ys a b c first second = record {
  kept = λ k on. second.kept k (first.kept k on);
  noted = λ k on. by k (is_in k xs) refl (sym (is_in_append k xs ys) ∙ on);
}
  where
    by : (k : ℕ) (t : Bool) → is_in k xs ≡ t → (t || is_in k ys) ≡ true → is_meant c k ≡ true
    by k true is on = second.kept k (first.noted k is)
    by k false is on = second.noted k on

-- one that is pushed
pub noted_pushed : (x : ℕ) (old new : VariablesShape) → new.whole ≡ old.whole → new.listed ≡ old.listed ++ x ∷ [] → AreNoted (x ∷ []) old new
noted_pushed x old new whole listed = record {
  kept = λ k on. sum k ∙ ap (λ b. b || is_in k (x ∷ [])) on;
  noted = λ k on. sum k ∙ ap (λ b. is_meant old k || b) on ∙ or_true (is_meant old k);
}
  where
    or_true : (b : Bool) → (b || true) ≡ true
    or_true true = refl
    or_true false = refl

    sum : (k : ℕ) → is_meant new k ≡ (is_meant old k || is_in k (x ∷ []))
    sum k = ap (λ b. b || is_in k new.listed) whole ∙ ap (λ b. old.whole || b) (ap (is_in k) listed ∙ is_in_append k old.listed (x ∷ [])) ∙ sym (or_assoc old.whole (is_in k old.listed) (is_in k (x ∷ [])))

-- and where all are meant
pub noted_all : (xs : List ℕ) (old new : VariablesShape) → new.whole ≡ true → AreNoted xs old new
noted_all xs old new whole = record { kept = λ k on. all k; noted = λ k on. all k }
  where
    all : (k : ℕ) → is_meant new k ≡ true
    all k = ap (λ b. b || is_in k new.listed) whole

-- ---- block by block

-- the first blocks have some variables, among them those that they touch
pub record TouchedBelow (graph : GraphShape) (back : ℕ → Option Shift) (lists : List (List ℕ)) (count : ℕ) (touched : List VariablesShape) : Type 0 where
  pub long : length touched ≡ count
  pub meant : (b : ℕ) (some : VariablesShape) → slice_get touched b ≡ Some some → AreMeant (touched_in graph back (list_at lists b)) some

module _ (graph : GraphShape) (back : ℕ → Option Shift) (lists : List (List ℕ)) where
  -- none yet
  pub touched_none : TouchedBelow graph back lists 0 []
  touched_none = record { long = refl; meant = λ b some at. absurd (cc) }

  -- one more
  pub touched_more : (count : ℕ) (list : List ℕ) (touched : List VariablesShape) (none some : VariablesShape) → slice_get lists count ≡ Some list → TouchedBelow graph back lists count touched → AreNoted (touched_in graph back list) none some
      → TouchedBelow graph back lists (count + 1) (touched ++ some ∷ [])
  touched_more count list touched none some at before noted = record {
    long = length_push touched some ∙ ap (λ n. n + 1) before.long;
    meant = λ b other there. elim (get_push touched some other b there) as (λ _. AreMeant (touched_in graph back (list_at lists b)) other) [
      | inl was ↦ before.meant b other was
      | inr now ↦
          let here : list_at lists b ≡ list = ap (list_at lists) (now.0 ∙ before.long) ∙ get_or_from_slice_get lists count list [] at in
          subst (λ l. AreMeant (touched_in graph back l) other) (sym here) (subst (AreMeant (touched_in graph back list)) now.1 noted.noted)
    ];
  }
