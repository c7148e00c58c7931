-- Each bit of the least rows is true exactly where it has come from a seed.
use Rattle.std.proofs.Common.{◌≡◌, ℕ, zero, suc, ◌<◌, ◌↔◌, ◌⊎◌, Bool, true, false, not, List, [], ◌∷◌, length, get_or, refl, sym, ap, inl, inr, arith, ◌∙◌}
use Rattle.std.proofs.lemmas.Bool.{and_from, and_parts, not-true, or_cases}
use Rattle.std.proofs.lemmas.List.{get_or_default}
use Rattle.std.proofs.lemmas.Option.{slice_get-get_or}
use Rattle.fix_solve.specs.Arising.{arising_hold}
use Rattle.fix_solve.specs.Net.{IsLeastSolution, value_at}
use Rattle.fix_solve.specs.Order.{IsLeastUpper}
use Rattle.bit_rows.specs.BitLaws.{minus_bit, or_bit}
use Rattle.bit_rows.specs.Bits.{minus_bits, or_bits, row_of}
use Rattle.flow_graph.specs.declared.edges.Edge.{Edge}
use Rattle.path_laws.specs.Leads.{Leads, at_seed, one_more}
use Rattle.flow_graph.specs.FlowEdges.{StepAlong, edge_at}
use Rattle.path_laws.specs.Nets.{IsBitFlow, bit_flow}
use Rattle.path_laws.specs.Order.{BelowBits}
use Rattle.path_laws.specs.OrderLaws.{below_bit, below_length, or_joins}
use Rattle.path_laws.specs.Paths.{has_bit}

-- what holds at each place holds of the rows
pub below_from_bits : (xs ys : List Bool) → length xs ≡ length ys → ((k : ℕ) → get_or xs k false ≡ true → get_or ys k false ≡ true) → BelowBits xs ys
below_from_bits [] [] e h = tt
below_from_bits [] (y ∷ ys) e h = absurd (omega (arith, e))
below_from_bits (x ∷ xs) [] e h = absurd (omega (arith, e))
below_from_bits (x ∷ xs) (y ∷ ys) e h = (h zero, below_from_bits xs ys (let e' : suc (length xs) ≡ suc (length ys) = e in omega arith) (λ k. h (suc k)))

-- what is left of a row was in it, and is not in the other
minus_true : (xs ys : List Bool) (k : ℕ) → get_or (minus_bits xs ys) k false ≡ true → (get_or xs k false ≡ true) × (not (get_or ys k false) ≡ true)
minus_true [] ys k h = absurd (cc)
minus_true (x ∷ xs) [] k h = absurd (cc)
minus_true (x ∷ xs) (y ∷ ys) zero h = and_parts x (not y) h
minus_true (x ∷ xs) (y ∷ ys) (suc k) h = minus_true xs ys k h

-- a true bit of a least upper bound is one of either part
joined_bit : (xs ys zs : List Bool) (k : ℕ) → IsLeastUpper BelowBits xs ys zs → get_or zs k false ≡ true → (get_or xs k false ≡ true) ⊎ (get_or ys k false ≡ true)
joined_bit xs ys zs k joined t =
    let same : length xs ≡ length ys = below_length xs zs joined.left ∙ sym (below_length ys zs joined.right) in
    let upper = or_joins xs ys same in
    let on = below_bit zs (or_bits xs ys) k (joined.least (or_bits xs ys) upper.left upper.right) t in
    or_cases (get_or xs k false) (get_or ys k false) (sym (or_bit xs ys k same) ∙ on)

module _ (nodes : ℕ) (edges : List Edge) (out : ℕ → ℕ) (bits : ℕ) (first bar : List (List Bool)) (valid : IsBitFlow nodes edges out bits first bar) (v : ℕ → List Bool) (least : IsLeastSolution BelowBits (bit_flow nodes edges out bits first bar) v) (b : ℕ) where
  abbrev src : ℕ → ℕ
  src e = (edge_at edges e).source

  abbrev tgt : ℕ → ℕ
  tgt e = (edge_at edges e).target

  -- the bit has come to a node from a seed
  abbrev Led : ℕ → Type 0
  Led n = Leads (StepAlong edges) (has_bit first b) (has_bit bar b) n

  -- what is true at a node has come from a seed: so it is of the first rows, and it goes over the edges
  pub leads_from_true : (n : ℕ) → n < nodes → get_or (v n) b false ≡ true → Led n
  leads_from_true n h =
      arising_hold BelowBits (bit_flow nodes edges out bits first bar) (λ m x. get_or x b false ≡ true → Led m) (λ m seed. at_seed m seed)
      (λ e from old new within before here joined now. elim (joined_bit old (minus_bits from (row_of bar (tgt e))) new b joined now) as (λ _. Led (tgt e)) [
        | inl was ↦ here was
        | inr passed ↦
            let parts = minus_true from (row_of bar (tgt e)) b passed in
            one_more (tgt e) (src e) (e, within, refl, refl) (not-true (has_bit bar b (tgt e)) parts.1) (before parts.0)
      ])
      n (v n) (least.arises n h)

  ends_in : (e : ℕ) → e < length edges → (src e < nodes) × (tgt e < nodes)
  ends_in e h = valid.are.ends e (edge_at edges e) (slice_get-get_or edges e _ h)

  v_length : (n : ℕ) → n < nodes → length (v n) ≡ bits
  v_length n h = sym (below_length (row_of first n) (v n) (least.solves.above_first n h)) ∙ valid.first_rows.each n h

  -- a bit that is true at the source of an edge is true at its target, where that one does not bar it
  goes_over : (e : ℕ) → e < length edges → has_bit bar b (tgt e) ≡ false → get_or (v (src e)) b false ≡ true → get_or (v (tgt e)) b false ≡ true
  goes_over e h free t =
      below_bit (minus_bits (v (src e)) (row_of bar (tgt e))) (v (tgt e)) b (least.solves.above_edges e h)
      (minus_bit (v (src e)) (row_of bar (tgt e)) b (v_length (src e) (ends_in e h).0 ∙ sym (valid.bar_rows.each (tgt e) (ends_in e h).1))
      ∙ and_from (get_or (v (src e)) b false) (not (get_or (row_of bar (tgt e)) b false)) t (ap not free))

  pub true_from_leads : (n : ℕ) → n < nodes → Led n → get_or (v n) b false ≡ true
  true_from_leads n h (at_seed k seed) = below_bit (row_of first n) (v n) b (least.solves.above_first n h) seed
  true_from_leads n h (one_more m k step free rest) =
      let e = step in
      let before : get_or (v (src e.0)) b false ≡ true = rw e.2 (true_from_leads k (rw (← e.2) (ends_in e.0 e.1).0) rest) in
      rw (← e.3) (goes_over e.0 e.1 (rw e.3 free) before)

-- the same of a list of rows
pub rows_lead : (nodes : ℕ) (edges : List Edge) (out : ℕ → ℕ) (bits : ℕ) (first bar rows : List (List Bool)) → IsBitFlow nodes edges out bits first bar → length rows ≡ nodes
    → IsLeastSolution BelowBits (bit_flow nodes edges out bits first bar) (value_at (bit_flow nodes edges out bits first bar) rows)
    → (n b : ℕ) → n < nodes → b < bits → (has_bit rows b n ≡ true) ↔ Leads (StepAlong edges) (has_bit first b) (has_bit bar b) n
rows_lead nodes edges out bits first bar rows valid len least n b h b_in =
    let v = value_at (bit_flow nodes edges out bits first bar) rows in
    rw (get_or_default rows n [] (row_of first n) (rw len h))
    (leads_from_true nodes edges out bits first bar valid v least b n h, true_from_leads nodes edges out bits first bar valid v least b n h)
