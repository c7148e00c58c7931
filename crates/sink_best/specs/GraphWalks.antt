-- Paths of a graph, newest node first, and what its nodes do: a source of images. For proofs only.
use Rattle.std.proofs.Common.{◌≡◌, ◌⊎◌, ◌<◌, ℕ, Bool, true, false, not, List, [], ◌∷◌, ◌++◌, length, slice_get, Option, Some, None, inl, inr, refl, sym, ap, ◌∙◌, arith}
use Rattle.std.proofs.lemmas.Bool.{true≢false, eq-eqb}
use Rattle.std.proofs.lemmas.Option.{none-some, slice_get_within}
use Rattle.mir_base.specs.ItemLaws.{one_item}
use Rattle.mir_base.specs.Expressions.{divides}
use Rattle.flow_graph.specs.declared.nodes.Node.{Node}
use Rattle.flow_graph.specs.declared.nodes.Node.TheVariants.{Start, Skip, Assign, Print, Guard, Call, Test, Return}
use Rattle.flow_graph.specs.Graphs.{GraphShape, IsGraph, succs_of}
use Rattle.flow_graph.specs.Paths.{HasEdge, Trace, from_start, goes_on}
use Rattle.graph_edit.specs.Insertions.{Insertion}
use Rattle.graph_edit.specs.Accesses.{assigns_var, is_occurrence, is_sinkable, reads_var}
use Rattle.graph_edit.specs.OccurrenceLaws.{occurrence_is, sinkable_is}
use Rattle.path_images.specs.Images.{Ask, Is, Reads, Sets}

-- the nodes of a path from Start, the newest first
abbrev pub IsWalk : List Node → List ℕ → Type 0
IsWalk nodes [] = ⊥
IsWalk nodes (n ∷ before) = Trace nodes n before

-- what a node of the graph does, where there is one
abbrev pub node_does : GraphShape → Ask Insertion → Option Node → Bool
node_does graph (Reads y) o = reads_var graph y o
node_does graph (Sets y) o = assigns_var graph y o
node_does graph (Is p) o = is_occurrence p.var p.rhs o

-- what the node of this number does
abbrev pub graph_does : GraphShape → Ask Insertion → ℕ → Bool
graph_does graph q n = node_does graph q (slice_get graph.nodes n)

-- the node, where there is one, is no Skip and no assignment that may be moved
abbrev pub is_firm : Option Node → Bool
is_firm None = false
is_firm (Some (Start next)) = true
is_firm (Some (Skip next)) = false
is_firm (Some (Assign x rhs next)) = divides rhs
is_firm (Some (Print a next)) = true
is_firm (Some (Guard test number next)) = true
is_firm (Some (Call into unit operands next)) = true
is_firm (Some (Test test taken other)) = true
is_firm (Some (Return a)) = true

-- the node of this number is firm
abbrev pub firm_at : List Node → ℕ → Bool
firm_at nodes n = is_firm (slice_get nodes n)

-- a node that is not firm has one successor
one_way : (o : Option Node) → is_firm o ≡ false → (i j a c : ℕ) → slice_get (succs_of o) i ≡ Some a → slice_get (succs_of o) j ≡ Some c → a ≡ c
one_way None e i j a c p q = absurd (none-some a p)
one_way (Some (Start next)) e i j a c p q = absurd (true≢false e)
one_way (Some (Skip next)) e i j a c p q = sym (one_item next a i p) ∙ one_item next c j q
one_way (Some (Assign x rhs next)) e i j a c p q = sym (one_item next a i p) ∙ one_item next c j q
one_way (Some (Print b next)) e i j a c p q = absurd (true≢false e)
one_way (Some (Guard test number next)) e i j a c p q = absurd (true≢false e)
one_way (Some (Call into unit operands next)) e i j a c p q = absurd (true≢false e)
one_way (Some (Test test taken other)) e i j a c p q = absurd (true≢false e)
one_way (Some (Return b)) e i j a c p q = absurd (true≢false e)

-- what occurs is not firm
pub sinkable_loose : (o : Option Node) → is_sinkable o ≡ true → is_firm o ≡ false
sinkable_loose o is = let w = sinkable_is o is in ap is_firm w.3 ∙ w.4

-- an occurrence of a plain or movable assignment is not firm
pub occurrence_loose : (p : Insertion) (o : Option Node) → is_occurrence p.var p.rhs o ≡ true → is_firm o ≡ false
occurrence_loose p o is = let w = occurrence_is p.var p.rhs o is in ap is_firm w.1 ∙ w.2

-- what is not firm and reads or assigns is an assignment
pub loose_assigns : (graph : GraphShape) (o : Option Node) → is_firm o ≡ false
    → (y : ℕ) × ((node_does graph (Reads y) o ≡ true) ⊎ (node_does graph (Sets y) o ≡ true))
    → (y : ℕ) × (node_does graph (Sets y) o ≡ true)
loose_assigns graph None e acts = absurd (elim acts.1 [ inl r ↦ true≢false (sym r) | inr w ↦ true≢false (sym w) ])
loose_assigns graph (Some (Start next)) e acts = absurd (true≢false e)
loose_assigns graph (Some (Skip next)) e acts = absurd (elim acts.1 [ inl r ↦ true≢false (sym r) | inr w ↦ true≢false (sym w) ])
loose_assigns graph (Some (Assign x rhs next)) e acts = (x, eq-eqb x x refl)
loose_assigns graph (Some (Print a next)) e acts = absurd (true≢false e)
loose_assigns graph (Some (Guard test number next)) e acts = absurd (true≢false e)
loose_assigns graph (Some (Call into unit operands next)) e acts = absurd (true≢false e)
loose_assigns graph (Some (Test test taken other)) e acts = absurd (true≢false e)
loose_assigns graph (Some (Return a)) e acts = absurd (true≢false e)

module _ (nodes : List Node) where
  -- the edge at the end of a walk
  pub last_edge : (a n : ℕ) (p : List ℕ) → IsWalk nodes (a ∷ n ∷ p) → HasEdge nodes n a
  last_edge a n p (goes_on m k before trace edge) = edge

  pub walk_before : (a n : ℕ) (p : List ℕ) → IsWalk nodes (a ∷ n ∷ p) → IsWalk nodes (n ∷ p)
  walk_before a n p (goes_on m k before trace edge) = trace

  pub walk_shorter : (f : List ℕ) (n : ℕ) (p : List ℕ) → IsWalk nodes (f ++ (n ∷ p)) → IsWalk nodes (n ∷ p)
  walk_shorter [] n p walk = walk
  walk_shorter (a ∷ []) n p walk = walk_before a n p walk
  walk_shorter (a ∷ m ∷ f) n p walk = walk_shorter (m ∷ f) n p (walk_before a m (f ++ (n ∷ p)) walk)

  pub walk_single : (a c n : ℕ) (p : List ℕ) → IsWalk nodes (a ∷ n ∷ p) → IsWalk nodes (c ∷ n ∷ p) → firm_at nodes n ≡ false → a ≡ c
  walk_single a c n p w w' not = let e = last_edge a n p w in let e' = last_edge c n p w' in one_way (slice_get nodes n) not e.0 e'.0 a c e.1 e'.1

  -- of edges too
  pub edge_single : (a c n : ℕ) → HasEdge nodes n a → HasEdge nodes n c → firm_at nodes n ≡ false → a ≡ c
  edge_single a c n e e' not = one_way (slice_get nodes n) not e.0 e'.0 a c e.1 e'.1

  pub walk_joint : (e : List ℕ) (s : ℕ) (b b' : List ℕ) → IsWalk nodes (e ++ (s ∷ b)) → IsWalk nodes (s ∷ b') → IsWalk nodes (e ++ (s ∷ b'))
  walk_joint [] s b b' w w' = w'
  walk_joint (a ∷ []) s b b' w w' = goes_on s a b' w' (last_edge a s b w)
  walk_joint (a ∷ m ∷ e) s b b' w w' = goes_on m a (e ++ (s ∷ b')) (walk_joint (m ∷ e) s b b' (walk_before a m (e ++ (s ∷ b)) w) w') (last_edge a m (e ++ (s ∷ b)) w)

  pub walk_alone : (s : ℕ) → IsWalk nodes (s ∷ []) → s ≡ 0
  walk_alone s from_start = refl

module _ (graph : GraphShape) (is_graph : IsGraph graph.vars graph.received graph.nodes) where
  -- no edge leads to Start
  pub walk_unentered : (s n : ℕ) (b : List ℕ) → IsWalk graph.nodes (s ∷ n ∷ b) → IsWalk graph.nodes (s ∷ []) → ⊥
  walk_unentered s n b w w' =
      let edge = last_edge graph.nodes s n b w in
      let low = (is_graph.can.succs n edge.0 s edge.1).0 in
      let zero = walk_alone graph.nodes s w' in
      omega (arith, low, zero)

  -- a walk comes to a node
  pub walk_within : (n : ℕ) (before : List ℕ) → IsWalk graph.nodes (n ∷ before) → n < length graph.nodes
  walk_within n before from_start = slice_get_within graph.nodes 0 (Start is_graph.can.start.0) is_graph.can.start.1
  walk_within n before (goes_on m k earlier trace edge) = (is_graph.can.succs m edge.0 n edge.1).1
