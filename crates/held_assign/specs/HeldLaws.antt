-- Laws: at most one right side holds for a variable before a node, and it is one of the graph. For proofs only, here and above.
use Rattle.std.proofs.Common.{◌≡◌, ℕ, ◌<◌, Bool, true, nat_eq, ◌||◌, inl, inr, List, [], ◌∷◌, length, slice_get, Option, Some, None, option_map, refl, sym, ap, ◌∙◌, eq-eqb, subst, true≢false}
use Rattle.std.proofs.Math.Path.{fun_ext}
use Rattle.std.proofs.lemmas.Option.{slice_get_within}
use Rattle.std.specs.List.{list_any}
use Rattle.mir_base.specs.declared.instructions.Rhs.{Rhs}
use Rattle.mir_base.specs.Shapes.{AllBelow, rhs_vars}
use Rattle.flow_graph.specs.declared.nodes.Node.{Node}
use Rattle.flow_graph.specs.declared.nodes.Node.TheVariants.{Assign}
use Rattle.flow_graph.specs.Graphs.{CanMake, GraphShape, node_vars}
use Rattle.flow_graph.specs.OneLaws.{same_places}
use Rattle.flow_graph.specs.PathLaws.{reached_trace}
use Rattle.graph_edit.specs.Accesses.{is_occurrence, occurs_at}
use Rattle.graph_edit.specs.OccurrenceLaws.{occurrence_is}
use Rattle.path_laws.specs.Paths.{Since}
use Rattle.held_assign.specs.Holding.{IsHeld, IsHeldRhs, assigns_one, ends_at}

-- ---- one node

-- a node assigns one right side to v at most
one_assigned : (v : ℕ) (rhs other : Rhs) (o : Option Node) → is_occurrence v rhs o ≡ true → is_occurrence v other o ≡ true → rhs ≡ other
one_assigned v rhs other o is is' = let a = occurrence_is v rhs o is in let b = occurrence_is v other o is' in by a.0 b.0 (sym a.1 ∙ b.1)
  where
    by : (n m : ℕ) → Some (Assign v rhs n) ≡ Some (Assign v other m) → rhs ≡ other
    by n m e = cc

-- and ends each other assignment of v
pub occurrence_ends : (graph : GraphShape) (v : ℕ) (rhs other : Rhs) (o : Option Node) → is_occurrence v rhs o ≡ true
    → assigns_one graph (v ∷ rhs_vars other) o ≡ true
occurrence_ends graph v rhs other o is = let a = occurrence_is v rhs o is in subst (λ n. assigns_one graph (v ∷ rhs_vars other) n ≡ true) (sym a.1) (by (nat_eq v v) (eq-eqb v v refl))
  where
    by : (b : Bool) → b ≡ true → b || list_any (λ x. nat_eq x v) (rhs_vars other) ≡ true
    by b is = rw is refl

-- ---- one path: of two assignments of v the nearer one ends the other

module _ (graph : GraphShape) (v : ℕ) (rhs other : Rhs) where
  since_one : (before : List ℕ) → Since (occurs_at v rhs graph) (ends_at graph v rhs) before
      → Since (occurs_at v other graph) (ends_at graph v other) before → rhs ≡ other
  since_one [] since since' = absurd since
  since_one (m ∷ before) (inl born) (inl born') = one_assigned v rhs other (slice_get graph.nodes m) born born'
  since_one (m ∷ before) (inl born) (inr later) =
      absurd (true≢false (sym (occurrence_ends graph v rhs other (slice_get graph.nodes m) born) ∙ later.0))
  since_one (m ∷ before) (inr later) (inl born) =
      absurd (true≢false (sym (occurrence_ends graph v other rhs (slice_get graph.nodes m) born) ∙ later.0))
  since_one (m ∷ before) (inr later) (inr later') = since_one before later.1 later'.1

-- so one right side holds for v at most
pub held_is_one : (graph : GraphShape) (v n : ℕ) (rhs other : Rhs) → IsHeld graph v rhs n → IsHeld graph v other n → rhs ≡ other
held_is_one graph v n rhs other is is' =
    let path = reached_trace graph.nodes n is.reached in
    since_one graph v rhs other path.0 (is.paths path.0 path.1) (is'.paths path.0 path.1)

-- and so the picked one that holds, or none, is one
pub held_rhs_is_one : (picked : ℕ → Rhs → Bool) (graph : GraphShape) (n v : ℕ) (a b : Option Rhs) → IsHeldRhs picked graph n v a → IsHeldRhs picked graph n v b → a ≡ b
held_rhs_is_one picked graph n v (Some rhs) (Some other) is is' = ap (λ r. Some r) (held_is_one graph v n rhs other is.1 is'.1)
held_rhs_is_one picked graph n v (Some rhs) None is none = absurd (none rhs is.0 is.1)
held_rhs_is_one picked graph n v None (Some other) none is' = absurd (none other is'.0 is'.1)
held_rhs_is_one picked graph n v None None none none' = refl

-- and all that is found before a node is
pub found_is_one : (picked : ℕ → Rhs → Bool) (graph : GraphShape) (n : ℕ) (a b : ℕ → Option Rhs) → ((v : ℕ) → IsHeldRhs picked graph n v (a v)) → ((v : ℕ) → IsHeldRhs picked graph n v (b v)) → a ≡ b
found_is_one picked graph n a b p q = fun_ext (λ v. held_rhs_is_one picked graph n v (a v) (b v) (p v) (q v))

-- so nodes that are made of it are one list
pub made_is_one : {K : Type 0} (becomes : K → Node → Node) (old nodes other : List Node) (a b : ℕ → K) → ((n : ℕ) → slice_get nodes n ≡ option_map (becomes (a n)) (slice_get old n)) → ((n : ℕ) → slice_get other n ≡ option_map (becomes (b n)) (slice_get old n)) → ((n : ℕ) → n < length old → a n ≡ b n) → nodes ≡ other
made_is_one becomes old nodes other a b p q same = same_places nodes other (λ n. p n ∙ by n (slice_get old n) refl ∙ sym (q n))
  where
    by : (n : ℕ) (o : Option Node) → slice_get old n ≡ o → option_map (becomes (a n)) o ≡ option_map (becomes (b n)) o
    by n None here = refl
    by n (Some node) here = ap (λ k. Some (becomes k node)) (same n (slice_get_within old n node here))

-- ---- the graph has the assignment

-- on a path on which it holds some node is it
since_node : (graph : GraphShape) (v : ℕ) (rhs : Rhs) (stop : ℕ → Bool) (before : List ℕ) → Since (occurs_at v rhs graph) stop before → (m : ℕ) × (occurs_at v rhs graph m ≡ true)
since_node graph v rhs stop [] since = absurd since
since_node graph v rhs stop (m ∷ before) (inl born) = (m, born)
since_node graph v rhs stop (m ∷ before) (inr later) = since_node graph v rhs stop before later.1

-- so some node of the graph is it
pub held_node : (graph : GraphShape) (v : ℕ) (rhs : Rhs) (n : ℕ) → IsHeld graph v rhs n → (m : ℕ) × (next : ℕ) × (slice_get graph.nodes m ≡ Some (Assign v rhs next))
held_node graph v rhs n held =
    let path = reached_trace graph.nodes n held.reached in
    let born = since_node graph v rhs (ends_at graph v rhs) path.0 (held.paths path.0 path.1) in
    let is = occurrence_is v rhs (slice_get graph.nodes born.0) born.1 in
    (born.0, is.0, is.1)

-- its right side reads variables of the graph
held_below : (graph : GraphShape) → CanMake graph.vars graph.received graph.nodes → (v n : ℕ) (rhs : Rhs) → IsHeld graph v rhs n → AllBelow (length graph.vars) (rhs_vars rhs)
held_below graph can v n rhs held =
    let node = held_node graph v rhs n held in
    let below : AllBelow (length graph.vars) (node_vars (Assign v rhs node.1)) = can.below node.0 (Assign v rhs node.1) node.2 in
    below.1

-- and so does each right side that is found before a node
pub found_below : (picked : ℕ → Rhs → Bool) (graph : GraphShape) → CanMake graph.vars graph.received graph.nodes → (n : ℕ) (held : ℕ → Option Rhs)
    → ((v : ℕ) → IsHeldRhs picked graph n v (held v)) → (v : ℕ) (rhs : Rhs) → held v ≡ Some rhs → AllBelow (length graph.vars) (rhs_vars rhs)
found_below picked graph can n held are v rhs is =
    let holds = subst (IsHeldRhs picked graph n v) is (are v) in
    held_below graph can v n rhs holds.1
