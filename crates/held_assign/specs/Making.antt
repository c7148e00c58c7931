-- Nodes that have been made one after the other, each of which is what its place asks for. For proofs only, here and above.
use Rattle.std.proofs.Common.{◌≡◌, ℕ, ◌+◌, ◌<◌, ◌≤◌, inl, inr, List, [], ◌∷◌, ◌++◌, length, slice_get, Option, Some, None, sym, ap, ◌∙◌, subst, arith}
use Rattle.std.proofs.lemmas.Bool.{cases_eq, cases_lt}
use Rattle.std.proofs.lemmas.Option.{slice_get_past}
use Rattle.std.proofs.lemmas.List.{length-append}
use Rattle.flow_graph.specs.declared.nodes.Node.{Node}
use Rattle.flow_graph.specs.ListLaws.{get_left, get_seam}

module _ (asked : ℕ → Option Node → Type 0) where
  -- so many nodes have been made
  pub record MadeBelow (n : ℕ) (nodes : List Node) : Type 0 where
    pub long : length nodes ≡ n
    pub are : (m : ℕ) → m < n → asked m (slice_get nodes m)

  -- one more
  pub made_more : (n : ℕ) (made : Node) (nodes new : List Node) → asked n (Some made) → new ≡ nodes ++ made ∷ [] → MadeBelow n nodes → MadeBelow (n + 1) new
  made_more n made nodes new is put before = rw put (record {
    long = length-append nodes (made ∷ []) ∙ ap (λ k. k + 1) before.long;
    are = λ m lt. elim (cases_eq m n) as (λ _. asked m (slice_get (nodes ++ made ∷ []) m)) [
      | inl same ↦ rw same (subst (asked n) (sym (ap (slice_get (nodes ++ made ∷ [])) (sym before.long) ∙ get_seam nodes [] made)) is)
      | inr other ↦
          let low : m < n = omega (arith, lt, other) in
          subst (asked m) (sym (get_left nodes (made ∷ []) m (rw before.long low))) (before.are m low)
    ];
  })

  -- all of them, where no more is asked for
  pub made_all : (n : ℕ) (nodes : List Node) → ((m : ℕ) → n ≤ m → asked m None) → MadeBelow n nodes → (m : ℕ) → asked m (slice_get nodes m)
  made_all n nodes none is m = elim (cases_lt m n) as (λ _. asked m (slice_get nodes m)) [
    | inl lt ↦ is.are m lt
    | inr ge ↦
        let past : n ≤ m = omega (arith, ge) in
        subst (asked m) (sym (slice_get_past nodes m (omega (arith, ge, is.long)))) (none m past)
  ]
