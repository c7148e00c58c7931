-- The values of the variables after the assignments that are put before a node: each temporary that is assigned has the
-- value of its expression, and every other variable keeps its own. And which expression it is that traps there.
use Rattle.std.proofs.Common.{◌≡◌, ℕ, ◌≤◌, true, false, not, ◌&&◌, eqb, List, [], ◌∷◌, slice_get, Some, inl, inr, refl, sym, ap, ◌∙◌, subst, arith}
use Rattle.std.proofs.lemmas.Bool.{and_parts, cases_Bool, or_cases, eqb-true, not-true, true≢false, false≢true}
use Rattle.std.proofs.lemmas.Option.{same_Some}
use Rattle.mir_base.specs.declared.instructions.Expr.{Expr}
use Rattle.mir_base.specs.EqualValues.{EqualOn, equal_below, traps_equal, value, value_equal, with_other, with_same}
use Rattle.mir_base.specs.Expressions.{rhs_traps}
use Rattle.mir_base.specs.ExpressionVars.{expr_vars, rhs_of, rhs_of_vars}
use Rattle.mir_base.specs.Frames.{Values, with_value}
use Rattle.mir_base.specs.Shapes.{AllBelow}
use Rattle.graph_edit.specs.InsertionRuns.{values_after, none_traps}
use Rattle.flow_graph.specs.Numbering.{is_in}
use Rattle.motion_rewrite.specs.Flatten.{insertions_of}
use Rattle.motion_rewrite.proofs.Insertions.{among_head, among_tail}
use Rattle.motion_rewrite.proofs.Rewriting.{one_more}
use Rattle.motion_rewrite.proofs.RowNumbers.{AllKnown}

module _ (temp : ℕ → ℕ) (table : List Expr) where
  -- what is none of these temporaries keeps its value
  pub others_keep : (numbers : List ℕ) → AllKnown table numbers → (v : Values) (x : ℕ) → ((j : ℕ) → is_in j numbers ≡ true → temp j ≡ x → ⊥) → values_after (insertions_of temp table numbers) v x ≡ v x
  others_keep [] known v x differ = refl
  others_keep (i ∷ numbers) known v x differ =
      let e = known.0.0 in
      ap (λ l. values_after l v x) (one_more temp table i e numbers known.0.1)
      ∙ others_keep numbers known.1 (with_value (temp i) (value v e) v) x (λ j among. differ j (among_tail j i numbers among))
      ∙ with_other (temp i) x (value v e) v (λ same. differ i (among_head i numbers) (sym same))

  -- each of these temporaries has the value of its expression
  pub after_sets : (m : ℕ) → ((j : ℕ) → m ≤ temp j) → (i : ℕ) (e : Expr) → slice_get table i ≡ Some e → AllBelow m (expr_vars e) → (numbers : List ℕ) → AllKnown table numbers → (v : Values) → is_in i numbers ≡ true → ((j : ℕ) → is_in j numbers ≡ true → temp j ≡ temp i → j ≡ i) → values_after (insertions_of temp table numbers) v (temp i) ≡ value v e
  after_sets m fresh i e at_i below [] known v among differ = absurd (false≢true among)
  after_sets m fresh i e at_i below (k ∷ numbers) known v among differ =
      let d = known.0.0 in
      let w = with_value (temp k) (value v d) v in
      ap (λ l. values_after l v (temp i)) (one_more temp table k d numbers known.0.1) ∙ elim (cases_Bool (is_in i numbers)) [
        | inl later ↦
            let equal : EqualOn (expr_vars e) w v = equal_below m (expr_vars e) w v below (λ x lt. with_other (temp k) x (value v d) v (λ same. omega (arith, fresh k, lt, same))) in
            after_sets m fresh i e at_i below numbers known.1 w later (λ j is. differ j (among_tail j k numbers is)) ∙ value_equal e w v equal
        | inr last ↦
            let this : k ≡ i = elim (or_cases (eqb k i) (is_in i numbers) among) [ inl is ↦ eqb-true k i is | inr later ↦ absurd (true≢false (sym later ∙ last)) ] in
            let same : d ≡ e = same_Some d e (sym known.0.1 ∙ ap (slice_get table) this ∙ at_i) in
            others_keep numbers known.1 w (temp i) (λ j is alike. true≢false (sym (ap (λ q. is_in q numbers) (sym (differ j (among_tail j k numbers is) alike)) ∙ is) ∙ last))
            ∙ ap (λ q. with_value (temp q) (value v d) v (temp i)) this
            ∙ with_same (temp i) (value v d) v
            ∙ ap (value v) same
      ]

  -- what is assigned to a temporary changes no trap
  same_before : (m : ℕ) → ((j : ℕ) → m ≤ temp j) → ((i : ℕ) (e : Expr) → slice_get table i ≡ Some e → AllBelow m (expr_vars e)) → (k : ℕ) (d : Expr) (v : Values) (e : Expr) → AllBelow m (expr_vars e) → rhs_traps (with_value (temp k) (value v d) v) (rhs_of e) ≡ rhs_traps v (rhs_of e)
  same_before m fresh over k d v e below =
      traps_equal (with_value (temp k) (value v d) v) v (rhs_of e)
      (subst (λ l. EqualOn l (with_value (temp k) (value v d) v) v) (sym (rhs_of_vars e)) (equal_below m (expr_vars e) (with_value (temp k) (value v d) v) v below (λ x lt. with_other (temp k) x (value v d) v (λ same. omega (arith, fresh k, lt, same)))))

  -- where none of them traps, no expression among them does: the variables that it reads keep their values up to it
  pub none_of_them : (m : ℕ) → ((j : ℕ) → m ≤ temp j) → ((i : ℕ) (e : Expr) → slice_get table i ≡ Some e → AllBelow m (expr_vars e)) → (numbers : List ℕ) → AllKnown table numbers → (v : Values) → none_traps (insertions_of temp table numbers) v ≡ true
      → (i : ℕ) (e : Expr) → slice_get table i ≡ Some e → is_in i numbers ≡ true → rhs_traps v (rhs_of e) ≡ false
  none_of_them m fresh over [] known v untrapped i e at_i among = absurd (false≢true among)
  none_of_them m fresh over (k ∷ numbers) known v untrapped i e at_i among =
      let d = known.0.0 in
      let w = with_value (temp k) (value v d) v in
      let parts = and_parts (not (rhs_traps v (rhs_of d))) (none_traps (insertions_of temp table numbers) w) (sym (ap (λ l. none_traps l v) (one_more temp table k d numbers known.0.1)) ∙ untrapped) in
      elim (or_cases (eqb k i) (is_in i numbers) among) [
        | inl this ↦
            let same : d ≡ e = same_Some d e (sym known.0.1 ∙ ap (slice_get table) (eqb-true k i this) ∙ at_i) in
            ap (λ x. rhs_traps v (rhs_of x)) (sym same) ∙ not-true (rhs_traps v (rhs_of d)) parts.0
        | inr later ↦ sym (same_before m fresh over k d v e (over i e at_i)) ∙ none_of_them m fresh over numbers known.1 w parts.1 i e at_i later
      ]

  -- where one of them traps, it is an expression that traps before all of them
  pub one_of_them : (m : ℕ) → ((j : ℕ) → m ≤ temp j) → ((i : ℕ) (e : Expr) → slice_get table i ≡ Some e → AllBelow m (expr_vars e)) → (numbers : List ℕ) → AllKnown table numbers → (v : Values) → none_traps (insertions_of temp table numbers) v ≡ false
      → (i : ℕ) × (e : Expr) × (slice_get table i ≡ Some e) × (is_in i numbers ≡ true) × (rhs_traps v (rhs_of e) ≡ true)
  one_of_them m fresh over [] known v trapped = absurd (true≢false trapped)
  one_of_them m fresh over (k ∷ numbers) known v trapped =
      let d = known.0.0 in
      let w = with_value (temp k) (value v d) v in
      let both : (not (rhs_traps v (rhs_of d)) && none_traps (insertions_of temp table numbers) w) ≡ false = sym (ap (λ l. none_traps l v) (one_more temp table k d numbers known.0.1)) ∙ trapped in
      elim (cases_Bool (rhs_traps v (rhs_of d))) [
        | inl now ↦ (k, d, known.0.1, among_head k numbers, now)
        | inr untrapped ↦
            let rest = one_of_them m fresh over numbers known.1 w (ap (λ b. not b && none_traps (insertions_of temp table numbers) w) (sym untrapped) ∙ both) in
            (rest.0, rest.1, rest.2, among_tail rest.0 k numbers rest.3, sym (same_before m fresh over k d v rest.1 (over rest.0 rest.1 rest.2)) ∙ rest.4)
      ]
