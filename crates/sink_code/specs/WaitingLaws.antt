-- Laws of patterns that wait on one path: an occurrence has been passed, and no node since blocks. They have different
-- variables, and none assigns what another reads; and they are over the graph's variables. For proofs only.
use Rattle.std.proofs.Common.{◌≡◌, ◌<◌, ℕ, true, false, nat_eq, List, [], ◌∷◌, length, slice_get, Some, inl, inr, sym, ap, ◌∙◌}
use Rattle.std.proofs.lemmas.Bool.{true≢false, eq-eqb}
use Rattle.std.proofs.lemmas.Option.{same_Some}
use Rattle.mir_base.specs.declared.instructions.Rhs.{Rhs}
use Rattle.mir_base.specs.Expressions.{divides}
use Rattle.mir_base.specs.Shapes.{AllBelow, rhs_vars}
use Rattle.flow_graph.specs.declared.nodes.Node.TheVariants.{Assign}
use Rattle.flow_graph.specs.Graphs.{GraphShape, IsGraph}
use Rattle.flow_graph.specs.Numbering.{is_in}
use Rattle.flow_graph.specs.NumberingLaws.{in_any}
use Rattle.path_laws.specs.Paths.{Since}
use Rattle.graph_edit.specs.Accesses.{blocks_at, blocks_pattern, occurs_at}
use Rattle.graph_edit.specs.OccurrenceLaws.{lets_pass, occurrence_blocks, occurrence_is}

-- the pattern x <- t waits at the end of this path
abbrev pub Waits : GraphShape → ℕ → Rhs → List ℕ → Type 0
Waits graph x t before = Since (occurs_at x t graph) (blocks_at x t graph) before

-- two assignments at one node are one
one_assignment : (x y : ℕ) (t u : Rhs) (next next' : ℕ) → Assign x t next ≡ Assign y u next' → (x ≡ y) × (t ≡ u)
one_assignment x y t u next next' e = (cc, cc)

module _ (graph : GraphShape) where
  -- an occurrence of x <- t is a node that assigns t to x, and t does not divide
  at_occurrence : (x : ℕ) (t : Rhs) (m : ℕ) → occurs_at x t graph m ≡ true
      → (next : ℕ) × (slice_get graph.nodes m ≡ Some (Assign x t next)) × (divides t ≡ false)
  at_occurrence x t m is = occurrence_is x t (slice_get graph.nodes m) is

  -- of one variable one pattern waits
  pub one_waits : (x : ℕ) (t u : Rhs) (before : List ℕ) → Waits graph x t before → Waits graph x u before → t ≡ u
  one_waits x t u [] s s' = absurd s
  one_waits x t u (m ∷ before) (inl o) (inl o') =
      let w = at_occurrence x t m o in
      let w' = at_occurrence x u m o' in
      (one_assignment x x t u w.0 w'.0 (same_Some (Assign x t w.0) (Assign x u w'.0) (sym w.1 ∙ w'.1))).1
  one_waits x t u (m ∷ before) (inl o) (inr s') = absurd (true≢false (sym (occurrence_blocks graph x t u (slice_get graph.nodes m) o) ∙ s'.0))
  one_waits x t u (m ∷ before) (inr s) (inl o') = absurd (true≢false (sym (occurrence_blocks graph x u t (slice_get graph.nodes m) o') ∙ s.0))
  one_waits x t u (m ∷ before) (inr s) (inr s') = one_waits x t u before s.1 s'.1

  -- of two variables neither pattern reads what the other assigns
  pub waits_apart : (x y : ℕ) (t u : Rhs) (before : List ℕ) → Waits graph x t before
      → Waits graph y u before → nat_eq x y ≡ false → is_in y (rhs_vars t) ≡ false
  waits_apart x y t u [] s s' differ = absurd s
  waits_apart x y t u (m ∷ before) (inl o) (inl o') differ =
      let w = at_occurrence x t m o in
      let w' = at_occurrence y u m o' in
      let same = (one_assignment x y t u w.0 w'.0 (same_Some (Assign x t w.0) (Assign y u w'.0) (sym w.1 ∙ w'.1))).0 in
      absurd (true≢false (sym (eq-eqb x y same) ∙ differ))
  waits_apart x y t u (m ∷ before) (inl o) (inr s') differ =
      let w = at_occurrence x t m o in
      (lets_pass graph y u (Assign x t w.0) (sym (ap (blocks_pattern graph y u) w.1) ∙ s'.0)).reads
  waits_apart x y t u (m ∷ before) (inr s) (inl o') differ =
      let w' = at_occurrence y u m o' in
      in_any y (rhs_vars t) ∙ (lets_pass graph x t (Assign y u w'.0) (sym (ap (blocks_pattern graph x t) w'.1) ∙ s.0)).operands
  waits_apart x y t u (m ∷ before) (inr s) (inr s') differ = waits_apart x y t u before s.1 s'.1 differ

  -- and no pattern that waits divides
  pub waits_sinkable : (x : ℕ) (t : Rhs) (before : List ℕ) → Waits graph x t before → divides t ≡ false
  waits_sinkable x t [] s = absurd s
  waits_sinkable x t (m ∷ before) (inl o) = (at_occurrence x t m o).2
  waits_sinkable x t (m ∷ before) (inr s) = waits_sinkable x t before s.1

module _ (graph : GraphShape) (is_graph : IsGraph graph.vars graph.received graph.nodes) where
  -- a pattern that occurs is over the graph's variables
  occurs_below : (n x : ℕ) (t : Rhs) → occurs_at x t graph n ≡ true
      → (x < length graph.vars) × AllBelow (length graph.vars) (rhs_vars t)
  occurs_below n x t o = let w = at_occurrence graph x t n o in is_graph.can.below n (Assign x t w.0) w.1

  -- so is one that waits
  pub waits_below : (x : ℕ) (t : Rhs) (before : List ℕ) → Waits graph x t before
      → (x < length graph.vars) × AllBelow (length graph.vars) (rhs_vars t)
  waits_below x t [] s = absurd s
  waits_below x t (m ∷ before) (inl o) = occurs_below m x t o
  waits_below x t (m ∷ before) (inr s) = waits_below x t before s.1
