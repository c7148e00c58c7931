-- One step of the loops: one argument more of a call that is noted, and one received variable more.
use Rattle.std.proofs.Common.{◌≡◌, inl, inr, ℕ, zero, suc, ◌+◌, ◌<◌, List, [], ◌∷◌, ◌++◌, append_assoc, drop, length, map, slice_get, slice_index_or, slice_set, ℤ, Option, Some, None, sym, ap, ◌∙◌, subst, arith}
use Rattle.std.proofs.lemmas.Bool.{cases_eq, cases_lt}
use Rattle.std.proofs.lemmas.List.{drop_all, get_or_past, length-set}
use Rattle.std.proofs.lemmas.Option.{slice_get-get_or, slice_get_within}
use Rattle.mir_base.specs.declared.instructions.Operand.{Operand}
use Rattle.mir_base.specs.Shapes.{AllBelow}
use Rattle.flow_graph.specs.ListLaws.{drop_at, set_elsewhere, set_here}
use Rattle.graph_edit.specs.Insertions.{Insertion}
use Rattle.constant_args.specs.declared.states.ArgumentState.{ArgumentState}
use Rattle.constant_args.specs.ConstantArguments.{constant_put, constant_puts}
use Rattle.constant_args.specs.Gathered.{JoinsArguments, JoinsArgument, kept_var}
use Rattle.constant_args.proofs.Constants.{puts_none}

-- ---- what a call gives

-- one argument more
pub join_more : (i : ℕ) (operands : List Operand) (kept : List (Option ℕ)) (old now : List ArgumentState) (state new : ArgumentState) → slice_get now i ≡ Some state
    → JoinsArgument operands kept i state new → JoinsArguments i operands kept old now → JoinsArguments (i + 1) operands kept old (slice_set now i new)
join_more i operands kept old now state new at joins all = record {
  long = length-set now i new ∙ all.long;
  joined = λ j a b low at_a at_b. elim (cases_eq j i) [
    | inl same ↦
        let was : Some a ≡ Some state = sym at_a ∙ ap (slice_get old) same ∙ sym (all.others i (omega arith)) ∙ at in
        let is : Some new ≡ Some b = sym (set_here now i new (slice_get_within now i state at)) ∙ ap (slice_get (slice_set now i new)) (sym same) ∙ at_b in
        let one : state ≡ a = cc in
        let other : new ≡ b = cc in
        subst (λ k. JoinsArgument operands kept k a b) (sym same) (subst (λ h. JoinsArgument operands kept i h b) one (subst (JoinsArgument operands kept i state) other joins))
    | inr apart ↦ all.joined j a b (below j low apart) at_a (sym (set_elsewhere now i j new apart) ∙ at_b)
  ];
  others = λ j high. set_elsewhere now i j new (λ same. omega (arith, same, high)) ∙ all.others j (omega (arith, high));
}
  where
    below : (j : ℕ) → j < i + 1 → (j ≡ i → ⊥) → j < i
    below j low apart = elim (cases_lt j i) [ inl lt ↦ lt | inr ge ↦ absurd (apart (omega (arith, low, ge))) ]

-- ---- assignments

-- those from one received variable on
pub puts_next : (received : List ℕ) (constants : List (Option ℤ)) (i x : ℕ) → slice_get received i ≡ Some x
    → constant_puts (drop i received) (drop i constants) ≡ constant_put x (slice_index_or constants i None) ++ constant_puts (drop (i + 1) received) (drop (i + 1) constants)
puts_next received constants i x at = ap (λ l. constant_puts l (drop i constants)) (drop_at received i x at) ∙ elim (cases_lt i (length constants)) [
  | inl lt ↦ ap (constant_puts (x ∷ drop (i + 1) received)) (drop_at constants i (slice_index_or constants i None) (slice_get-get_or constants i None lt))
  | inr ge ↦
      let none = drop_all i constants ge in
      let none' = drop_all (i + 1) constants (omega (arith, ge)) in
      ap (constant_puts (x ∷ drop (i + 1) received)) none ∙ sym (ap (λ k. constant_put x k ++ constant_puts (drop (i + 1) received) (drop (i + 1) constants)) (get_or_past constants i None ge) ∙ ap (constant_puts (drop (i + 1) received)) none' ∙ puts_none (drop (i + 1) received))
]

-- one step of the loop
pub puts_more : (received : List ℕ) (constants : List (Option ℤ)) (i x : ℕ) (now new all : List Insertion) → slice_get received i ≡ Some x → new ≡ now ++ constant_put x (slice_index_or constants i None)
    → now ++ constant_puts (drop i received) (drop i constants) ≡ all → new ++ constant_puts (drop (i + 1) received) (drop (i + 1) constants) ≡ all
puts_more received constants i x now new all at is before =
    let put = constant_put x (slice_index_or constants i None) in
    let rest = constant_puts (drop (i + 1) received) (drop (i + 1) constants) in
    ap (λ l. l ++ rest) is ∙ append_assoc now put rest ∙ ap (λ l. now ++ l) (sym (puts_next received constants i x at)) ∙ before

-- ---- variables that no node assigns

-- an item of a list whose items are below a number
pub below_at : (m : ℕ) (xs : List ℕ) (i x : ℕ) → AllBelow m xs → slice_get xs i ≡ Some x → x < m
below_at m [] i x below at = cc
below_at m (y ∷ xs) zero x below at = let same : y ≡ x = cc in subst (λ z. z < m) same below.0
below_at m (y ∷ xs) (suc i) x below at = below_at m xs i x below.1 at

-- one received variable more
pub kept_more : (assigned received : List ℕ) (i x : ℕ) (now new all : List (Option ℕ)) → slice_get received i ≡ Some x → new ≡ now ++ kept_var assigned x ∷ []
    → now ++ map (kept_var assigned) (drop i received) ≡ all → new ++ map (kept_var assigned) (drop (i + 1) received) ≡ all
kept_more assigned received i x now new all at is before =
    ap (λ l. l ++ map (kept_var assigned) (drop (i + 1) received)) is ∙ append_assoc now (kept_var assigned x ∷ []) (map (kept_var assigned) (drop (i + 1) received)) ∙ ap (λ l. now ++ map (kept_var assigned) l) (sym (drop_at received i x at)) ∙ before
