-- Nodes, and what their right sides shift back, that are listed one after the other.
use Rattle.std.proofs.Common.{◌≡◌, ℕ, ◌+◌, ◌<◌, ◌≤◌, inl, inr, List, [], ◌∷◌, ◌++◌, length, slice_get, Option, Some, None, option_map, sym, ap, ◌∙◌, arith}
use Rattle.std.proofs.lemmas.Bool.{cases_eq, cases_lt}
use Rattle.std.proofs.lemmas.List.{get_or_append_left}
use Rattle.std.proofs.lemmas.Option.{get_or_from_slice_get, slice_get_past}
use Rattle.flow_graph.specs.declared.nodes.Node.{Node}
use Rattle.flow_graph.specs.ListLaws.{get_left, get_seam}
use Rattle.wanted_bits.specs.declared.picking.Shift.{Shift}
use Rattle.wanted_bits.specs.Walking.{back_in}

module _ (f : ℕ → Node → Node) (old : List Node) where
  -- one more
  pub listed_more : (n : ℕ) (made : Node) (nodes new : List Node) → length nodes ≡ n → ((m : ℕ) → m < n → slice_get nodes m ≡ option_map (f m) (slice_get old m)) → Some made ≡ option_map (f n) (slice_get old n) → new ≡ nodes ++ made ∷ []
      → (m : ℕ) → m < n + 1 → slice_get new m ≡ option_map (f m) (slice_get old m)
  listed_more n made nodes new long are is put m lt = rw put (elim (cases_eq m n) as (λ _. slice_get (nodes ++ made ∷ []) m ≡ option_map (f m) (slice_get old m)) [
    | inl same ↦ rw same (ap (slice_get (nodes ++ made ∷ [])) (sym long) ∙ get_seam nodes [] made ∙ is)
    | inr other ↦ (let low : m < n = omega (arith, lt, other) in get_left nodes (made ∷ []) m (rw long low) ∙ are m low)
  ])

  -- all of them
  pub listed_all : (n : ℕ) (nodes : List Node) → length old ≤ n → length nodes ≡ n → ((m : ℕ) → m < n → slice_get nodes m ≡ option_map (f m) (slice_get old m)) → (m : ℕ) → slice_get nodes m ≡ option_map (f m) (slice_get old m)
  listed_all n nodes end long are m = elim (cases_lt m n) as (λ _. slice_get nodes m ≡ option_map (f m) (slice_get old m)) [
    | inl lt ↦ are m lt
    | inr ge ↦ slice_get_past nodes m (omega (arith, ge, long)) ∙ sym (ap (option_map (f m)) (slice_get_past old m (omega (arith, ge, end))))
  ]

-- what one right side more shifts back
pub backs_more : (nodes : List Node) (f : ℕ → Node → Option Shift) (n : ℕ) (back : Option Shift) (backs new : List (Option Shift)) → length backs ≡ n → ((m : ℕ) (node : Node) → m < n → slice_get nodes m ≡ Some node → back_in backs m ≡ f m node)
    → ((node : Node) → slice_get nodes n ≡ Some node → back ≡ f n node) → new ≡ backs ++ back ∷ [] → (m : ℕ) (node : Node) → m < n + 1 → slice_get nodes m ≡ Some node → back_in new m ≡ f m node
backs_more nodes f n back backs new long are is put m node lt here = elim (cases_eq m n) as (λ _. back_in new m ≡ f m node) [
  | inl same ↦
      let at : slice_get new m ≡ Some back = ap (λ l. slice_get l m) put ∙ ap (slice_get (backs ++ back ∷ [])) (same ∙ sym long) ∙ get_seam backs [] back in
      get_or_from_slice_get new m back None at ∙ is node (ap (slice_get nodes) (sym same) ∙ here) ∙ ap (λ k. f k node) (sym same)
  | inr other ↦
      let low : m < n = omega (arith, lt, other) in
      ap (λ l. back_in l m) put ∙ get_or_append_left backs (back ∷ []) None m (omega (arith, low, long)) ∙ are m node low here
]
