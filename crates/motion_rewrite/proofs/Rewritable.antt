-- What `flatten` and `flatten_dividing` require of a graph, a table and a placement, and what follows at once: no
-- insertion stands before Start, and each replaced node uses its expression, which is inserted somewhere.
use Rattle.std.proofs.Common.{◌≡◌, ℕ, ◌+◌, ◌<◌, ◌≤◌, Bool, true, cond, List, [], ◌∷◌, length, slice_get, Some, inl, inr, refl, sym, ap, ◌∙◌, subst, arith}
use Rattle.mir_base.specs.declared.instructions.Expr.{Expr}
use Rattle.flow_graph.specs.declared.nodes.Node.{Node}
use Rattle.flow_graph.specs.Graphs.{GraphShape, IsGraph}
use Rattle.flow_graph.specs.PathLaws.{reached_trace}
use Rattle.graph_edit.specs.Insertions.{Rewriting}
use Rattle.flow_graph.specs.ListLaws.{some_at}
use Rattle.flow_graph.specs.Numbering.{is_in}
use Rattle.path_laws.specs.Paths.{AreRows, has_bit}
use Rattle.motion_rewrite.specs.declared.placement.Placement.{Placement}
use Rattle.motion_rewrite.specs.Expressions.{kills, uses}
use Rattle.motion_rewrite.specs.Flatten.{by_placement, inserted}
use Rattle.motion_rewrite.specs.Placements.{CanFlattenBy, ReachesAlong}
use Rattle.motion_rewrite.specs.ExprTables.{AreOver}
use Rattle.motion_rewrite.specs.Temporaries.{temporaries_before, temporary}
use Rattle.motion_rewrite.proofs.Insertions.{among_inserted, among_head}
use Rattle.motion_rewrite.proofs.RowNumbers.{AllKnown, inserted_bit, row_known, set_within}
use Rattle.motion_rewrite.proofs.TemporaryNumbers.{bit_inserted, temporaries_mono}

-- what both require
pub record IsRewritable (graph : GraphShape) (table : List Expr) (p : Placement) : Type 0 where
  pub is_graph : IsGraph graph.vars graph.received graph.nodes
  pub least : graph.shared ≤ length graph.vars
  pub over : AreOver (length graph.vars) table
  pub insert : AreRows (length graph.nodes) (length table) p.insert
  pub replace : AreRows (length graph.nodes) (length table) p.replace
  pub placed : CanFlattenBy graph table p

-- so it is where the nodes are those of a graph
pub rewritable : (graph : GraphShape) (table : List Expr) (p : Placement) (nodes : List Node) → nodes ≡ graph.nodes → IsGraph graph.vars graph.received nodes → graph.shared ≤ length graph.vars → AreOver (length graph.vars) table → AreRows (length graph.nodes) (length table) p.insert → AreRows (length graph.nodes) (length table) p.replace
    → CanFlattenBy graph table p → IsRewritable graph table p
rewritable graph table p nodes is is_graph least over insert replace placed = record { is_graph = subst (IsGraph graph.vars graph.received) is is_graph; least = least; over = over; insert = insert; replace = replace; placed = placed }

-- the temporaries of a placement
abbrev pub temps_of : GraphShape → Placement → ℕ → ℕ
temps_of graph p = temporary (length graph.vars) p.insert

-- the rewriting by it
abbrev pub rewriting_by : GraphShape → List Expr → Placement → Rewriting
rewriting_by graph table p = by_placement (temps_of graph p) table p

-- what is available after some nodes is evaluated at one of them
pub evaluated_at : (Evaluates : ℕ → Type 0) (kill : ℕ → Bool) (before : List ℕ) → ReachesAlong Evaluates kill before → (m : ℕ) × Evaluates m
evaluated_at Evaluates kill [] s = absurd s
evaluated_at Evaluates kill (m ∷ before) s = elim s.1 [ inl here ↦ (m, here) | inr earlier ↦ evaluated_at Evaluates kill before earlier ]

module _ {graph : GraphShape} {table : List Expr} {p : Placement} (r : IsRewritable graph table p) where
  -- the numbers that a row of insertions lists are those of expressions
  pub known : (n : ℕ) → AllKnown table (inserted p.insert n)
  known = row_known (length graph.nodes) table p.insert r.insert

  -- a node whose bit is set uses the expression
  pub replaced_use : (n i : ℕ) → has_bit p.replace i n ≡ true → (e : Expr) × (slice_get table i ≡ Some e) × (uses graph e n ≡ true)
  replaced_use n i set =
      let within = set_within (length graph.nodes) (length table) p.replace r.replace n i set in
      let e = some_at table i within.1 in
      (e.0, e.1, (r.placed i e.0 e.1).replaced_uses n within.0 set)

  -- the first number that a row of uses lists has its bit set
  pub first_bit : (n i : ℕ) (rest : List ℕ) → inserted p.replace n ≡ i ∷ rest → has_bit p.replace i n ≡ true
  first_bit n i rest first = sym (among_inserted p.replace n i) ∙ ap (is_in i) first ∙ among_head i rest

  -- the temporary of an expression with an insertion is one of those that the graph gets
  pub temporary_within : (n i : ℕ) → has_bit p.insert i n ≡ true → temporary (length graph.vars) p.insert i < length graph.vars + temporaries_before p.insert (length table)
  temporary_within n i set =
      let lt = (set_within (length graph.nodes) (length table) p.insert r.insert n i set).1 in
      let one = ap {B = ℕ} (λ b. cond b 1 0) (bit_inserted p.insert n i set) in
      omega (arith, one, temporaries_mono p.insert i (length table) lt)

  -- what is read from a temporary is inserted somewhere
  pub replaced_inserted : (n i : ℕ) → has_bit p.replace i n ≡ true → (m : ℕ) × (has_bit p.insert i m ≡ true)
  replaced_inserted n i set =
      let w = set_within (length graph.nodes) (length table) p.replace r.replace n i set in
      let e = some_at table i w.1 in
      let trace = reached_trace graph.nodes n (r.is_graph.reached n w.0) in
      elim ((r.placed i e.0 e.1).available n trace.0 set trace.1) [
        | inl here ↦ (n, here)
        | inr earlier ↦ evaluated_at (λ m. has_bit p.insert i m ≡ true) (kills graph e.0) trace.0 earlier
      ]

  -- no bit is set in the row of Start
  start_clear : (i : ℕ) → has_bit p.insert i 0 ≡ true → ⊥
  start_clear i set =
      let w = set_within (length graph.nodes) (length table) p.insert r.insert 0 i set in
      let e = some_at table i w.1 in
      let never = sym set ∙ (r.placed i e.0 e.1).at_start in
      absurd (cc)

  -- nothing is inserted before Start
  pub start_free : inserted p.insert 0 ≡ []
  start_free = none (inserted p.insert 0) (λ j i at. start_clear i (inserted_bit p.insert 0 j i at))
    where
      none : (numbers : List ℕ) → ((j i : ℕ) → slice_get numbers j ≡ Some i → ⊥) → numbers ≡ []
      none [] h = refl
      none (i ∷ numbers) h = absurd (h 0 i refl)
