-- Laws of the removal of dead assignments: it is one rewriting, whose result does the same, evaluates no more
-- operators, stays split, and keeps its divisions; and each graph has one result. For proofs only, those of the crates
-- above too.
use Rattle.std.proofs.Common.{◌≡◌, ℕ, zero, suc, ◌+◌, ◌<◌, ◌||◌, Bool, true, false, List, [], ◌∷◌, ◌++◌, length, slice_get, Option, Some, None, option_map, inl, inr, refl, sym, ap, ◌∙◌, subst, arith, append-nil}
use Rattle.std.proofs.lemmas.Bool.{cases_Bool, eq-eqb, true≢false, or_right}
use Rattle.std.proofs.lemmas.Option.{slice_get_within, same_Some}
use Rattle.mir_base.specs.declared.instructions.Operand.{Operand}
use Rattle.mir_base.specs.declared.instructions.Rhs.TheVariants.{Binary}
use Rattle.mir_base.specs.Expressions.{divides}
use Rattle.mir_base.specs.ExpressionLaws.{never_traps_where_undivided}
use Rattle.mir_base.specs.declared.operators.Op.{Op}
use Rattle.mir_base.specs.UnitRuns.{UnitCheaper, UnitSame}
use Rattle.flow_graph.specs.declared.nodes.Node.{Node}
use Rattle.flow_graph.specs.declared.nodes.Node.TheVariants.{Assign}
use Rattle.flow_graph.specs.Calls.{NodesCall}
use Rattle.flow_graph.specs.Dividing.{DividesUnchanged}
use Rattle.flow_graph.specs.DividingLaws.{unchanged_in_place}
use Rattle.flow_graph.specs.Edges.{IsSplit}
use Rattle.flow_graph.specs.Graphs.{GraphShape, IsGraph, node_reads, succs_at, succs_of}
use Rattle.graph_edit.specs.InsertionGraphs.{rewritten_calls}
use Rattle.graph_edit.specs.InsertionSplit.{rewritten_split}
use Rattle.graph_edit.specs.Insertions.{Change, Removed, changed, olds, chains, entry, rewritten_nodes}
use Rattle.flow_graph.specs.KeepsLaws.{same_globals}
use Rattle.flow_graph.specs.Machines.{graph_machine, machine_of}
use Rattle.flow_graph.specs.NodeLaws.{redirected_none}
use Rattle.graph_edit.specs.ChangeLaws.{changed_succs}
use Rattle.flow_graph.specs.Numbering.{is_in}
use Rattle.flow_graph.specs.OneLaws.{same_places}
use Rattle.flow_graph.specs.Passes.{GraphCalls, GraphCheaper, GraphDividesUnchanged, GraphKeeps, GraphSame}
use Rattle.flow_graph.specs.Paths.{Begins, HasEdge, IsPath}
use Rattle.dead_code.specs.Removal.{AllLive, RemovesDead, removing, removal_cheaper, removal_same}
use Rattle.path_laws.specs.Paths.{EndsBorn}
use Rattle.graph_edit.specs.Accesses.{assigns_at, assigns_var, reads_at, reads_var}
use Rattle.dead_code.specs.LastLaws.{handed_live}
use Rattle.dead_code.specs.Liveness.{IsLiveBefore}
use Rattle.dead_code.specs.Pruned.{IsDeadAt, IsPruned, KeepsHandedOn, pruned_from, removed_if}
use Rattle.path_laws.specs.Says.{same_says}
use Rattle.flow_graph.specs.PathLaws.{assign_edge}

-- ---- what is live

-- what is live before a successor and is not assigned is live before the node
pub live_back : (graph : GraphShape) (x m n : ℕ) → HasEdge graph.nodes m n
    → assigns_at graph x m ≡ false → IsLiveBefore graph x n → IsLiveBefore graph x m
live_back graph x m n edge free live = lengthen live.path live.is_path live.begins live.ends
  where
    lengthen : (path : List ℕ) → IsPath graph.nodes path → Begins n path
        → EndsBorn (reads_at graph x) (assigns_at graph x) path → IsLiveBefore graph x m
    lengthen [] is_path begins ends = absurd is_path
    lengthen (k ∷ path) is_path begins ends = record {
      path = m ∷ k ∷ path;
      is_path = (subst (HasEdge graph.nodes m) (sym begins) edge, is_path);
      begins = refl;
      ends = (free, ends);
    }

-- what a node reads is live before it
pub live_read : (graph : GraphShape) (x n : ℕ) (node : Node) → slice_get graph.nodes n ≡ Some node
    → is_in x (node_reads graph node) ≡ true → IsLiveBefore graph x n
live_read graph x n node is read = record {
  path = n ∷ [];
  is_path = slice_get_within graph.nodes n node is;
  begins = refl;
  ends = ap (reads_var graph x) is ∙ read;
}

-- each item of a list stands in it
all_live : (Live : ℕ → Type 0) (xs : List ℕ) → ((x : ℕ) → is_in x xs ≡ true → Live x) → AllLive Live xs
all_live Live [] each = tt
all_live Live (x ∷ xs) each = (each x (ap (λ b. b || is_in x xs) (eq-eqb x x refl)), all_live Live xs (λ y later. each y (among y later)))
  where
    among : (y : ℕ) → is_in y xs ≡ true → is_in y (x ∷ xs) ≡ true
    among y later = or_right _ (is_in y xs) later

-- ---- the nodes

-- each node is changed where it stands
pub pruned_get : (dead : ℕ → Bool) (nodes : List Node) (k n : ℕ)
    → slice_get (pruned_from dead k nodes) n ≡ option_map (changed (removed_if (dead (k + n)))) (slice_get nodes n)
pruned_get dead [] k n = refl
pruned_get dead (node ∷ nodes) k zero = let same : k ≡ k + 0 = omega arith in ap (λ m. Some (changed (removed_if (dead m)) node)) same
pruned_get dead (node ∷ nodes) k (suc n) = let same : suc k + n ≡ k + suc n = omega arith in pruned_get dead nodes (suc k) n ∙ ap (λ m. option_map (changed (removed_if (dead m))) (slice_get nodes n)) same

-- the changes of the nodes
abbrev changes_of : (ℕ → Bool) → ℕ → Change
changes_of dead n = removed_if (dead n)

-- nothing is put before a node
nothing_put : (count n k : ℕ) → chains (λ n. []) count n k ≡ []
nothing_put zero n k = refl
nothing_put (suc count) n k = nothing_put count (suc n) (k + 0)

-- the old nodes stay at their numbers
olds_stay : (dead : ℕ → Bool) (to : ℕ → ℕ) → ((n : ℕ) → to n ≡ n) → (k : ℕ) (nodes : List Node)
    → olds (changes_of dead) to k nodes ≡ pruned_from dead k nodes
olds_stay dead to stays k [] = refl
olds_stay dead to stays k (node ∷ nodes) =
    ap (λ l. l ∷ olds (changes_of dead) to (suc k) nodes) (redirected_none to (changed (removed_if (dead k)) node) (λ slot s at. stays s))
    ∙ ap (λ l. changed (removed_if (dead k)) node ∷ l) (olds_stay dead to stays (suc k) nodes)

-- the removal as a rewriting
pub pruned_rewritten : (dead : ℕ → Bool) (nodes : List Node)
    → rewritten_nodes (removing (λ n. removed_if (dead n))) nodes ≡ pruned_from dead 0 nodes
pruned_rewritten dead nodes =
    ap (λ l. olds (changes_of dead) (entry (λ n. []) (length nodes)) 0 nodes ++ l) (nothing_put (length nodes) 0 (length nodes))
    ∙ append-nil (olds (changes_of dead) (entry (λ n. []) (length nodes)) 0 nodes)
    ∙ olds_stay dead (entry (λ n. []) (length nodes)) (λ n. refl) 0 nodes

-- ---- one result

-- nothing more is a number itself
zero_more : (n : ℕ) → 0 + n ≡ n
zero_more n = omega arith

-- nodes that are dead alike are changed alike
pub pruned_alike : (dead dead' : ℕ → Bool) (nodes : List Node)
    → ((n : ℕ) → n < length nodes → dead n ≡ dead' n)
    → pruned_from dead 0 nodes ≡ pruned_from dead' 0 nodes
pruned_alike dead dead' nodes alike =
    same_places (pruned_from dead 0 nodes) (pruned_from dead' 0 nodes) (λ n. pruned_get dead nodes 0 n ∙ at n (slice_get nodes n) refl ∙ sym (pruned_get dead' nodes 0 n))
  where
    at : (n : ℕ) (o : Option Node) → slice_get nodes n ≡ o
        → option_map (changed (removed_if (dead (0 + n)))) o ≡ option_map (changed (removed_if (dead' (0 + n)))) o
    at n None is = refl
    at n (Some node) is =
        let there = alike n (slice_get_within nodes n node is) in
        ap (λ m. Some (changed (removed_if (dead m)) node)) (zero_more n) ∙ ap (λ b. Some (changed (removed_if b) node)) there ∙ ap (λ m. Some (changed (removed_if (dead' m)) node)) (sym (zero_more n))

-- a graph has one graph without its dead assignments
pub pruned_is_one : (graph a b : GraphShape) → IsPruned graph a → IsPruned graph b → a ≡ b
pruned_is_one graph a b p q =
    let alike = pruned_alike p.dead q.dead graph.nodes (λ n lt. same_says (p.dead n) (q.dead n) (λ h. (q.dead_are n lt).1 ((p.dead_are n lt).0 h), λ h. (p.dead_are n lt).1 ((q.dead_are n lt).0 h))) in
    p.is ∙ ap (λ (l : List Node). record graph { nodes = l }) alike ∙ sym q.is

-- ---- globals

-- each assignment of a global whose value is handed on stays, since the global is live
pub handed_stays : (graph pruned : GraphShape) → IsPruned graph pruned → KeepsHandedOn graph pruned
handed_stays graph pruned p n x rhs next global is on =
    ap (λ (g : GraphShape). slice_get g.nodes n) p.is
    ∙ pruned_get p.dead graph.nodes 0 n
    ∙ ap (option_map (changed (removed_if (p.dead (0 + n))))) is
    ∙ ap (λ m. Some (changed (removed_if (p.dead m)) (Assign x rhs next))) (zero_more n)
    ∙ ap (λ b. Some (changed (removed_if b) (Assign x rhs next))) alive
  where
    alive : p.dead n ≡ false
    alive = elim (cases_Bool (p.dead n)) [
      | inl gone ↦
          let d = (p.dead_are n (slice_get_within graph.nodes n _ is)).0 gone in
          let same : Assign d.var d.rhs d.next ≡ Assign x rhs next = same_Some (Assign d.var d.rhs d.next) (Assign x rhs next) (sym d.is ∙ is) in
          let same_var : d.var ≡ x = cc in
          absurd (d.unread (next, assign_edge graph.nodes n x next rhs is, subst (λ y. IsLiveBefore graph y next) (sym same_var) (handed_live graph x next global on)))
      | inr left ↦ left
    ]

-- ---- what is kept

module _ (graph pruned : GraphShape) (is_graph : IsGraph graph.vars graph.received graph.nodes)
    (p : IsPruned graph pruned) where
  abbrev dead : ℕ → Bool
  dead = p.dead

  abbrev after : List Node
  after = pruned_from dead 0 graph.nodes

  -- a node that is marked is a dead assignment
  dead_at : (n : ℕ) (node : Node) → slice_get graph.nodes n ≡ Some node → changes_of dead n ≡ Removed → IsDeadAt graph n
  dead_at n node is removed = (p.dead_are n (slice_get_within graph.nodes n node is)).0 (marked (dead n) removed)
    where
      marked : (b : Bool) → removed_if b ≡ Removed → b ≡ true
      marked true e = refl
      marked false e = cc

  removes : RemovesDead graph (λ n. removed_if (p.dead n)) (λ n x. IsLiveBefore graph x n)
  removes = record {
    reads = λ n node is kept. all_live (λ x. IsLiveBefore graph x n) (node_reads graph node) (λ x read. live_read graph x n node is read);
    back = λ n s x node is edge live free. live_back graph x n s edge (ap (assigns_var graph x) is ∙ free) live;
    only = λ n node is. elim (cases_Bool (p.dead n)) [
      | inl gone ↦
          let d = (p.dead_are n (slice_get_within graph.nodes n node is)).0 gone in
          inr (ap removed_if gone, (d.var, d.rhs, d.next, same_Some node (Assign d.var d.rhs d.next) (sym is ∙ d.is)))
      | inr left ↦ inl (ap removed_if left)
    ];
    dead = λ n s x rhs is removed.
        let d = dead_at n (Assign x rhs s) is removed in
        let same : Assign d.var d.rhs d.next ≡ Assign x rhs s = same_Some (Assign d.var d.rhs d.next) (Assign x rhs s) (sym d.is ∙ is) in
        let same_var : d.var ≡ x = cc in
        let same_rhs : d.rhs ≡ rhs = cc in
        let same_next : d.next ≡ s = cc in (
          λ live. d.unread (s, assign_edge graph.nodes n x s rhs is, subst (λ y. IsLiveBefore graph y s) (sym same_var) live),
          λ v. never_traps_where_undivided v rhs (ap divides (sym same_rhs) ∙ d.sinkable),
        );
  }

  abbrev raw : List Node
  raw = rewritten_nodes (removing (λ n. removed_if (p.dead n))) graph.nodes

  raw_is : raw ≡ pruned.nodes
  raw_is = pruned_rewritten dead graph.nodes ∙ sym (ap (λ (g : GraphShape). g.nodes) p.is)

  received_is : graph.received ≡ pruned.received
  received_is = sym (ap (λ (g : GraphShape). g.received) p.is)

  shared_is : graph.shared ≡ pruned.shared
  shared_is = sym (ap (λ (g : GraphShape). g.shared) p.is)

  machine_is : graph_machine graph.shared graph.received raw ≡ machine_of pruned
  machine_is =
      ap (λ (l : List Node). graph_machine graph.shared graph.received l) raw_is
      ∙ ap (λ (l : List ℕ). graph_machine graph.shared l pruned.nodes) received_is
      ∙ ap (λ n. graph_machine n pruned.received pruned.nodes) shared_is

  -- it does the same, by the agreement of the two on what is live
  pub pruned_same : GraphSame graph pruned
  pruned_same =
      subst (UnitSame (machine_of graph)) machine_is (removal_same graph (λ n. removed_if (p.dead n)) (λ n x. IsLiveBefore graph x n) is_graph removes)

  -- it evaluates no more operators
  pub pruned_cheaper : GraphCheaper graph pruned
  pruned_cheaper =
      subst (UnitCheaper (machine_of graph)) machine_is (removal_cheaper graph (λ n. removed_if (p.dead n)) (λ n x. IsLiveBefore graph x n) is_graph removes)

  -- it makes no calls but those of the graph
  pub pruned_calls : GraphCalls graph pruned
  pruned_calls = λ called count c. rewritten_calls (removing (λ n. removed_if (p.dead n))) graph.nodes called count (subst (λ l. NodesCall l called count) (sym raw_is) c)

  -- so it keeps all of the unit
  pub pruned_keeps : GraphKeeps graph pruned
  pruned_keeps = record {
    name = ap (λ (g : GraphShape). g.name) p.is;
    globals = same_globals graph pruned (sym shared_is) (ap (λ (g : GraphShape). g.vars) p.is);
    same = pruned_same;
    cheaper = pruned_cheaper;
    calls = pruned_calls;
  }

  -- a split graph stays split
  pub pruned_splits : IsSplit graph.nodes → IsSplit pruned.nodes
  pruned_splits split =
      subst IsSplit raw_is (rewritten_split (removing (λ n. removed_if (p.dead n))) graph.nodes (λ m slot s edge. (is_graph.can.succs m slot s edge).1) split)

  -- each dividing assignment stays, with its operands
  pub pruned_divides : GraphDividesUnchanged graph pruned
  pruned_divides = subst (DividesUnchanged graph.nodes) (sym (ap (λ (g : GraphShape). g.nodes) p.is)) (unchanged_in_place graph.nodes after stays)
    where
      alive : (n x : ℕ) (op : Op) (left right : Operand) (next : ℕ)
          → divides (Binary op left right) ≡ true
          → slice_get graph.nodes n ≡ Some (Assign x (Binary op left right) next) → dead n ≡ false
      alive n x op left right next may is = elim (cases_Bool (dead n)) [
        | inl gone ↦
            let d = (p.dead_are n (slice_get_within graph.nodes n _ is)).0 gone in
            let same : Assign d.var d.rhs d.next ≡ Assign x (Binary op left right) next = same_Some (Assign d.var d.rhs d.next) (Assign x (Binary op left right) next) (sym d.is ∙ is) in
            let same_rhs : d.rhs ≡ Binary op left right = cc in
            absurd (true≢false (sym may ∙ ap divides (sym same_rhs) ∙ d.sinkable))
        | inr left ↦ left
      ]

      stays : (n x : ℕ) (op : Op) (left right : Operand) (next : ℕ)
          → divides (Binary op left right) ≡ true
          → slice_get graph.nodes n ≡ Some (Assign x (Binary op left right) next)
          → (to : ℕ) × (slice_get after n ≡ Some (Assign x (Binary op left right) to))
      stays n x op left right next may is = (
        next,
        pruned_get dead graph.nodes 0 n ∙ ap (option_map (changed (removed_if (dead (0 + n))))) is
            ∙ ap (λ m. Some (changed (removed_if (dead m)) (Assign x (Binary op left right) next))) (zero_more n)
            ∙ ap (λ b. Some (changed (removed_if b) (Assign x (Binary op left right) next))) (alive n x op left right next may is),
      )

  -- each node has the successors that it had
  pub pruned_succs : (n : ℕ) → succs_at pruned.nodes n ≡ succs_at graph.nodes n
  pruned_succs n = ap (λ (g : GraphShape). succs_of (slice_get g.nodes n)) p.is ∙ ap succs_of (pruned_get dead graph.nodes 0 n) ∙ at (slice_get graph.nodes n)
    where
      at : (o : Option Node) → succs_of (option_map (changed (removed_if (dead (0 + n)))) o) ≡ succs_of o
      at None = refl
      at (Some node) = changed_succs (removed_if (dead (0 + n))) node
