-- Lists that are made item by item.
use Rattle.std.proofs.Common.{◌≡◌, ℕ, ◌+◌, ◌<◌, Bool, true, false, List, [], ◌∷◌, ◌++◌, length, take, slice_get, slice_index_or, Some, inl, inr, refl, sym, ap, ◌∙◌, subst, arith}
use Rattle.std.proofs.lemmas.Bool.{cases_eq}
use Rattle.std.proofs.lemmas.List.{length-append, length-take-le}
use Rattle.std.proofs.lemmas.Option.{get_or_from_slice_get, slice_get_within}
use Rattle.flow_graph.specs.declared.nodes.Node.{Node}
use Rattle.flow_graph.specs.declared.nodes.Node.TheVariants.{Skip}
use Rattle.flow_graph.specs.Graphs.{GraphShape}
use Rattle.flow_graph.specs.ListLaws.{get_left_some, get_push, get_seam, take_one}
use Rattle.value_number.specs.declared.walk.Step.{Step}
use Rattle.value_number.specs.declared.walk.Step.TheVariants.{Visit}
use Rattle.value_number.specs.Numbered.{AreNumbered, BecomeNumbered, numbered_node}
use Rattle.value_number.specs.TermWalks.{AreHolders, VisitRoots, with_root}
use Rattle.std.specs.Prelude.{Option, None}

-- the list of the first n values of a function
pub record IsListOf {A : Type 0} (f : ℕ → A) (n : ℕ) (xs : List A) : Type 0 where
  pub long : length xs ≡ n
  pub each : (m : ℕ) → m < n → slice_get xs m ≡ Some (f m)

-- of one more
pub list_more : {A : Type 0} (f : ℕ → A) (n : ℕ) (xs new : List A) (x : A) → new ≡ xs ++ x ∷ [] → x ≡ f n → IsListOf f n xs → IsListOf f (n + 1) new
list_more {A} f n xs new x is value all = record {
  long = ap length is ∙ length-append xs (x ∷ []) ∙ ap (λ k. k + 1) all.long;
  each = λ m lt. ap (λ l. slice_get l m) is ∙ at m lt;
}
  where
    at : (m : ℕ) → m < n + 1 → slice_get (xs ++ x ∷ []) m ≡ Some (f m)
    at m lt = elim (cases_eq m n) [
      | inl same ↦ ap (slice_get (xs ++ x ∷ [])) (same ∙ sym all.long) ∙ get_seam xs [] x ∙ ap Some (value ∙ ap f (sym same))
      | inr apart ↦ get_left_some xs (x ∷ []) m (f m) (all.each m (omega (arith, lt, apart)))
    ]

-- a visit of one more root
pub roots_more : (roots : List Bool) (n : ℕ) (steps new : List Step) (b : Bool) → slice_get roots n ≡ Some b → new ≡ with_root steps n b → VisitRoots (take n roots) steps → VisitRoots (take (n + 1) roots) new
roots_more roots n steps new b at is visits = subst (VisitRoots (take (n + 1) roots)) (sym is) (subst (λ l. VisitRoots l (with_root steps n b)) (sym (take_one roots n b at)) (by b refl))
  where
    long : length (take n roots) ≡ n
    long = length-take-le n roots (let lt : n < length roots = slice_get_within roots n b at in omega (arith, lt))

    true_is_not : {A : Type 0} → false ≡ true → A
    true_is_not e = cc

    by : (c : Bool) → b ≡ c → VisitRoots (take n roots ++ b ∷ []) (with_root steps n c)
    by true e = record {
      has = λ m on. elim (get_push (take n roots) b true m on) as (λ _. (i : ℕ) × (slice_get (steps ++ Visit n n ∷ []) i ≡ Some (Visit m m))) [
        | inl there ↦ (let v = visits.has m there in (v.0, get_left_some steps (Visit n n ∷ []) v.0 (Visit m m) v.1))
        | inr last ↦ (let same : n ≡ m = sym long ∙ sym last.0 in (length steps, get_seam steps [] (Visit n n) ∙ ap (λ k. Some (Visit k k)) same))
      ];
      only = λ i step there. elim (get_push steps (Visit n n) step i there) as (λ _. (m : ℕ) × (step ≡ Visit m m) × (slice_get (take n roots ++ b ∷ []) m ≡ Some true)) [
        | inl h ↦ (let v = visits.only i step h in (v.0, v.1, get_left_some (take n roots) (b ∷ []) v.0 true v.2))
        | inr last ↦ (n, sym last.1, ap (slice_get (take n roots ++ b ∷ [])) (sym long) ∙ get_seam (take n roots) [] b ∙ ap Some e)
      ];
    }
    by false e = record {
      has = λ m on. elim (get_push (take n roots) b true m on) as (λ _. (i : ℕ) × (slice_get steps i ≡ Some (Visit m m))) [
        | inl there ↦ visits.has m there
        | inr last ↦ true_is_not (sym e ∙ last.1)
      ];
      only = λ i step there. let v = visits.only i step there in (v.0, v.1, get_left_some (take n roots) (b ∷ []) v.0 true v.2);
    }

-- all nodes
pub all_become : (nodes : List Node) (holders : List (Option ℕ)) (n : ℕ) (result : List Node) → n ≡ length nodes → IsListOf (λ m. numbered_node (slice_index_or nodes m (Skip 0)) (slice_index_or holders m None)) n result → BecomeNumbered nodes holders result
all_become nodes holders n result whole all = record {
  long = all.long ∙ whole;
  are = λ m node at. all.each m (subst (λ k. m < k) (sym whole) (slice_get_within nodes m node at)) ∙ ap (λ k. Some (numbered_node k (slice_index_or holders m None))) (get_or_from_slice_get nodes m node (Skip 0) at);
}

-- nodes that become what they are by their holders are numbered
pub become_numbered : (graph : GraphShape) (holders : List (Option ℕ)) (result : List Node) → AreHolders graph holders → BecomeNumbered graph.nodes holders result → AreNumbered graph.shared (length graph.vars) graph.nodes result
become_numbered graph holders result held become = record {
  long = become.long;
  each = λ n node here. record { holder = slice_index_or holders n None; holds = held.each n node here; is = become.are n node here };
}
