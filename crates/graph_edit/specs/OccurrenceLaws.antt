-- Laws of what nodes do with a pattern: which node is an occurrence, and what a node does that does not block. For proofs
-- only; the crates above cite them.
use Rattle.std.proofs.Common.{◌≡◌, ℕ, true, false, not, ◌&&◌, ◌||◌, nat_eq, Option, Some, None, refl, sym, ap, ◌∙◌, eqb-true}
use Rattle.std.proofs.lemmas.Bool.{false≢true, and_parts, and_from, eq-eqb, not-true, or_left, or_parts, or_right}
use Rattle.std.specs.List.{list_any}
use Rattle.mir_base.specs.declared.instructions.Rhs.{Rhs}
use Rattle.mir_base.specs.Expressions.{divides}
use Rattle.mir_base.specs.Shapes.{rhs_vars}
use Rattle.flow_graph.specs.declared.nodes.Node.{Node}
use Rattle.flow_graph.specs.declared.nodes.Node.TheVariants.{Start, Skip, Assign, Print, Guard, Call, Test, Return}
use Rattle.flow_graph.specs.Graphs.{GraphShape, assigns, is_start, node_reads}
use Rattle.flow_graph.specs.Numbering.{is_in}
use Rattle.graph_edit.specs.Accesses.{same_rhs, is_occurrence, blocks_pattern, is_sinkable}
use Rattle.graph_edit.specs.SameRhs.{same_rhs_is, same_rhs_itself}

-- ---- occurrences

-- a node where x <- t occurs assigns t to x, and t does not divide
pub occurrence_is : (x : ℕ) (t : Rhs) (o : Option Node) → is_occurrence x t o ≡ true
    → (next : ℕ) × (o ≡ Some (Assign x t next)) × (divides t ≡ false)
occurrence_is x t None is = absurd (false≢true is)
occurrence_is x t (Some (Start next)) is = absurd (false≢true is)
occurrence_is x t (Some (Skip next)) is = absurd (false≢true is)
occurrence_is x t (Some (Assign y rhs next)) is =
    let parts = and_parts (nat_eq x y && same_rhs t rhs) (not (divides t)) is in
    let same = and_parts (nat_eq x y) (same_rhs t rhs) parts.0 in
    let var : x ≡ y = eqb-true x y same.0 in
    let rhs_same : t ≡ rhs = same_rhs_is t rhs same.1 in
    (next, ap (λ z. Some (Assign z rhs next)) (sym var) ∙ ap (λ r. Some (Assign x r next)) (sym rhs_same), not-true (divides t) parts.1)
occurrence_is x t (Some (Print a next)) is = absurd (false≢true is)
occurrence_is x t (Some (Guard test number next)) is = absurd (false≢true is)
occurrence_is x t (Some (Call into unit operands next)) is = absurd (false≢true is)
occurrence_is x t (Some (Test test taken other)) is = absurd (false≢true is)
occurrence_is x t (Some (Return a)) is = absurd (false≢true is)

-- and back
pub is_occurrence_of : (x : ℕ) (t : Rhs) (next : ℕ) → divides t ≡ false
    → is_occurrence x t (Some (Assign x t next)) ≡ true
is_occurrence_of x t next sinkable =
    and_from (nat_eq x x && same_rhs t t) (not (divides t)) (and_from (nat_eq x x) (same_rhs t t) (eq-eqb x x refl) (same_rhs_itself t)) (ap not sinkable)

-- an occurrence never divides
pub occurrence_sinkable : (x : ℕ) (t : Rhs) (o : Option Node) → is_occurrence x t o ≡ true → is_sinkable o ≡ true
occurrence_sinkable x t o is = let w = occurrence_is x t o is in ap is_sinkable w.1 ∙ ap not w.2

-- a sinkable node is an assignment, and its right side does not divide
pub sinkable_is : (o : Option Node) → is_sinkable o ≡ true
    → (x : ℕ) × (t : Rhs) × (next : ℕ) × (o ≡ Some (Assign x t next)) × (divides t ≡ false)
sinkable_is None is = absurd (false≢true is)
sinkable_is (Some (Start next)) is = absurd (false≢true is)
sinkable_is (Some (Skip next)) is = absurd (false≢true is)
sinkable_is (Some (Assign x rhs next)) is = (x, rhs, next, refl, not-true (divides rhs) is)
sinkable_is (Some (Print a next)) is = absurd (false≢true is)
sinkable_is (Some (Guard test number next)) is = absurd (false≢true is)
sinkable_is (Some (Call into unit operands next)) is = absurd (false≢true is)
sinkable_is (Some (Test test taken other)) is = absurd (false≢true is)
sinkable_is (Some (Return a)) is = absurd (false≢true is)

-- ---- nodes that do not block

-- a node that does not block is not Start, reads and assigns no x, and assigns nothing that t reads
pub record LetsPass (graph : GraphShape) (x : ℕ) (t : Rhs) (node : Node) : Type 0 where
  pub start : is_start node ≡ false
  pub reads : is_in x (node_reads graph node) ≡ false
  pub sets : assigns graph x node ≡ false
  pub operands : list_any (λ y. assigns graph y node) (rhs_vars t) ≡ false

module _ (graph : GraphShape) (x : ℕ) (t : Rhs) (node : Node) where
  pub lets_pass : blocks_pattern graph x t (Some node) ≡ false → LetsPass graph x t node
  lets_pass free =
      let first = or_parts (is_start node) (is_in x (node_reads graph node) || (assigns graph x node || list_any (λ y. assigns graph y node) (rhs_vars t))) free in
      let second = or_parts (is_in x (node_reads graph node)) (assigns graph x node || list_any (λ y. assigns graph y node) (rhs_vars t)) first.1 in
      let third = or_parts (assigns graph x node) (list_any (λ y. assigns graph y node) (rhs_vars t)) second.1 in
      record { start = first.0; reads = second.0; sets = third.0; operands = third.1 }

  -- what assigns x blocks, and what reads x
  pub assigning_blocks : assigns graph x node ≡ true → blocks_pattern graph x t (Some node) ≡ true
  assigning_blocks is =
      or_right (is_start node) _ (or_right (is_in x (node_reads graph node)) _ (or_left (assigns graph x node) (list_any (λ y. assigns graph y node) (rhs_vars t)) is))

  pub reading_blocks : is_in x (node_reads graph node) ≡ true → blocks_pattern graph x t (Some node) ≡ true
  reading_blocks is =
      or_right (is_start node) _ (or_left (is_in x (node_reads graph node)) (assigns graph x node || list_any (λ y. assigns graph y node) (rhs_vars t)) is)

-- an occurrence of a pattern of x blocks every pattern of x
pub occurrence_blocks : (graph : GraphShape) (x : ℕ) (t u : Rhs) (o : Option Node)
    → is_occurrence x t o ≡ true → blocks_pattern graph x u o ≡ true
occurrence_blocks graph x t u o is =
    let w = occurrence_is x t o is in
    ap (blocks_pattern graph x u) w.1 ∙ assigning_blocks graph x u (Assign x t w.0) (eq-eqb x x refl)
