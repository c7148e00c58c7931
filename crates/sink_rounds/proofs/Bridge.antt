-- Liveness in a rewritten graph and liveness told on the nodes of the graph: each way.
use Rattle.std.proofs.Common.{◌≡◌, ◌⊎◌, ◌+◌, ◌<◌, ℕ, suc, true, false, if◌then◌else◌, nat_eq, List, [], ◌∷◌, length, slice_get, Option, Some, None, option_map, inl, inr, refl, sym, ap, ◌∙◌, subst, arith}
use Rattle.std.proofs.lemmas.Bool.{cases_eq, false≢true, ne_eqb}
use Rattle.std.proofs.lemmas.Option.{none-some}
use Rattle.mir_base.specs.ItemLaws.{one_item}
use Rattle.flow_graph.specs.declared.nodes.Node.{Node}
use Rattle.flow_graph.specs.declared.nodes.Node.TheVariants.{Start, Skip, Assign, Print, Guard, Call, Test, Return}
use Rattle.flow_graph.specs.BoundLaws.{edge_within}
use Rattle.flow_graph.specs.Graphs.{AllWithin, GraphShape, succs_of}
use Rattle.flow_graph.specs.ListLaws.{some_at}
use Rattle.flow_graph.specs.Paths.{Begins, HasEdge, IsPath}
use Rattle.flow_graph.specs.Retained.{redirected}
use Rattle.graph_edit.specs.InsertionNodes.{edge_cases, old_edge, old_get}
use Rattle.graph_edit.specs.InsertionPaths.{IsInsertionChain, chain_is}
use Rattle.graph_edit.specs.Insertions.{Insertion, Rewriting, changed, entry, entry_among, put_below, rewritten, rewritten_nodes}
use Rattle.sink_code.specs.Sinking.{put_for}
use Rattle.path_laws.specs.Paths.{EndsBorn}
use Rattle.graph_edit.specs.Accesses.{assigns_at, assigns_var, reads_at, reads_var}
use Rattle.dead_code.specs.Liveness.{IsLiveBefore}
use Rattle.dead_code.specs.PrunedLaws.{live_back, live_read}
use Rattle.sink_code.specs.PutLaws.{put_first, put_rest}
use Rattle.sink_rounds.proofs.LiveOver.{ContainsLive, LiveOver, ReadsFirst, goes_to, node_after, read_at, read_before}

module _ (graph : GraphShape) (r : Rewriting) (x : ℕ) where
  abbrev raw : List Node
  raw = rewritten_nodes r graph.nodes

  abbrev new : GraphShape
  new = rewritten r [] graph

  abbrev to : ℕ → ℕ
  to = entry r.inserts (length graph.nodes)

  abbrev first_new : ℕ → ℕ
  first_new n = length graph.nodes + put_below r.inserts n

  -- ---- a node with other numbers for its successors

  reads_redirected : (go : ℕ → ℕ) (node : Node) → reads_var new x (Some (redirected go node)) ≡ reads_var graph x (Some node)
  reads_redirected go (Start next) = refl
  reads_redirected go (Skip next) = refl
  reads_redirected go (Assign y rhs next) = refl
  reads_redirected go (Print a next) = refl
  reads_redirected go (Guard test number next) = refl
  reads_redirected go (Call into unit operands next) = refl
  reads_redirected go (Test test taken other) = refl
  reads_redirected go (Return a) = refl

  assigns_redirected : (go : ℕ → ℕ) (node : Node) → assigns_var new x (Some (redirected go node)) ≡ assigns_var graph x (Some node)
  assigns_redirected go (Start next) = refl
  assigns_redirected go (Skip next) = refl
  assigns_redirected go (Assign y rhs next) = refl
  assigns_redirected go (Print a next) = refl
  assigns_redirected go (Guard test number next) = refl
  assigns_redirected go (Call None unit operands next) = refl
  assigns_redirected go (Call (Some y) unit operands next) = refl
  assigns_redirected go (Test test taken other) = refl
  assigns_redirected go (Return a) = refl

  -- an old node reads what the node that it becomes reads
  reads_same : (m : ℕ) → m < length graph.nodes → reads_at new x m ≡ reads_var graph x (node_after graph r m)
  reads_same m lt =
      let node = some_at graph.nodes m lt in
      ap (reads_var new x) (old_get r graph.nodes m node.0 node.1) ∙ reads_redirected to (changed (r.changes m) node.0) ∙ ap (λ o. reads_var graph x (option_map (changed (r.changes m)) o)) (sym node.1)

  -- and assigns what that one assigns
  assigns_same : (m : ℕ) → m < length graph.nodes → assigns_at new x m ≡ assigns_var graph x (node_after graph r m)
  assigns_same m lt =
      let node = some_at graph.nodes m lt in
      ap (assigns_var new x) (old_get r graph.nodes m node.0 node.1) ∙ assigns_redirected to (changed (r.changes m) node.0) ∙ ap (λ o. assigns_var graph x (option_map (changed (r.changes m)) o)) (sym node.1)

  -- ---- into the rewritten graph

  -- what an insertion of a chain reads first is live before the chain
  pub live_first : (n k : ℕ) (puts : List Insertion) → IsInsertionChain raw n k puts → ReadsFirst x puts → IsLiveBefore new x (entry_among n k puts)
  live_first n k [] c first = absurd first
  live_first n k (put ∷ puts) c (inl reads) = live_read new x k (Assign put.var put.rhs (entry_among n (suc k) puts)) c.0 reads
  live_first n k (put ∷ puts) c (inr later) = live_back new x k (entry_among n (suc k) puts) (0, ap (λ (o : Option Node). slice_get (succs_of o) 0) c.0) (ap (assigns_var new x) c.0 ∙ later.0) (live_first n (suc k) puts c.1 later.1)

  -- what is live behind a chain that does not assign it is live before the chain
  pub live_enter : (n k : ℕ) (puts : List Insertion) → IsInsertionChain raw n k puts → put_for puts x ≡ None → IsLiveBefore new x n → IsLiveBefore new x (entry_among n k puts)
  live_enter n k [] c none live = live
  live_enter n k (put ∷ puts) c none live = elim (cases_eq x put.var) [
    | inl same ↦ absurd (none-some put.rhs (sym none ∙ ap (put_for (put ∷ puts)) same ∙ put_first put puts))
    | inr differ ↦ live_back new x k (entry_among n (suc k) puts) (0, ap (λ (o : Option Node). slice_get (succs_of o) 0) c.0) (ap (assigns_var new x) c.0 ∙ ne_eqb x put.var differ)
        (live_enter n (suc k) puts c.1 (sym (put_rest put puts x differ) ∙ none) live)
  ]

  -- so what is live in the rewritten graph contains what is live on the old nodes
  pub contains_live : AllWithin graph.nodes → ContainsLive graph r x (IsLiveBefore new x) (λ s. IsLiveBefore new x (to s))
  contains_live within = record {
    reads = λ m reads. read_there m (slice_get graph.nodes m) refl reads;
    back = λ m s edge free before. live_back new x m (to s) (edge.0, old_edge r graph.nodes m edge.0 s edge.1) (assigns_same m (edge_within graph.nodes m s edge) ∙ free) before;
    first = λ s lt first. live_first s (first_new s) (r.inserts s) (chain_is r graph.nodes s lt) first;
    enter = λ s lt none live. live_enter s (first_new s) (r.inserts s) (chain_is r graph.nodes s lt) none live;
  }
    where
      read_there : (m : ℕ) (o : Option Node) → slice_get graph.nodes m ≡ o → reads_var graph x (node_after graph r m) ≡ true → IsLiveBefore new x m
      read_there m None e reads = absurd (false≢true (sym (ap (λ o. reads_var graph x (option_map (changed (r.changes m)) o)) e) ∙ reads))
      read_there m (Some node) e reads = live_read new x m (redirected to (changed (r.changes m) node)) (old_get r graph.nodes m node e)
          (reads_redirected to (changed (r.changes m) node) ∙ sym (ap (λ o. reads_var graph x (option_map (changed (r.changes m)) o)) e) ∙ reads)

  -- ---- and back

  -- along a path in the rewritten graph, from a node of the chain before n
  walk : AllWithin graph.nodes → (q : List ℕ) (n k : ℕ) (puts : List Insertion) → IsInsertionChain raw n k puts → n < length graph.nodes → IsPath raw (entry_among n k puts ∷ q) → EndsBorn (reads_at new x) (assigns_at new x) (entry_among n k puts ∷ q)
      → ReadsFirst x puts ⊎ ((put_for puts x ≡ None) × LiveOver graph r x n)
  walk within [] n k [] c lt is ends = inr (refl, read_at n (sym (reads_same n lt) ∙ ends))
  walk within [] n k (put ∷ puts) c lt is ends = inl (inl (sym (ap (reads_var new x) c.0) ∙ ends))
  walk within (b ∷ q) n k [] c lt is ends = elim (edge_cases r graph.nodes n is.0.0 b is.0.1) [
    | inl old ↦
        let m = old.target in
        let edge : HasEdge graph.nodes n m = (is.0.0, old.edge) in
        let m_in = within n is.0.0 m old.edge in
        let free = sym (assigns_same n lt) ∙ ends.0 in
        elim (walk within q m (first_new m) (r.inserts m) (chain_is r graph.nodes m m_in) m_in (subst (λ u. IsPath raw (u ∷ q)) (sym old.is) is.1) (subst (λ u. EndsBorn (reads_at new x) (assigns_at new x) (u ∷ q)) (sym old.is) ends.1)) [
          | inl first ↦ inr (refl, read_before n m free edge first)
          | inr on ↦ inr (refl, goes_to n m free edge on.0 on.1)
        ]
    | inr w ↦ (let at = w.new.at in absurd (omega (arith, at, lt)))
  ]
  walk within (b ∷ q) n k (put ∷ puts) c lt is ends =
      let next : slice_get (entry_among n (suc k) puts ∷ []) is.0.0 ≡ Some b = ap (λ (o : Option Node). slice_get (succs_of o) is.0.0) (sym c.0) ∙ is.0.1 in
      let leads : entry_among n (suc k) puts ≡ b = one_item (entry_among n (suc k) puts) b is.0.0 next in
      let differ : nat_eq x put.var ≡ false = sym (ap (assigns_var new x) c.0) ∙ ends.0 in
      elim (walk within q n (suc k) puts c.1 lt (subst (λ u. IsPath raw (u ∷ q)) (sym leads) is.1) (subst (λ u. EndsBorn (reads_at new x) (assigns_at new x) (u ∷ q)) (sym leads) ends.1)) [
        | inl first ↦ inl (inr (differ, first))
        | inr on ↦ inr (ap (λ b. (if b then Some put.rhs else put_for puts x)) differ ∙ on.0, on.1)
      ]

  -- what is live before a chain is read first in it, or not assigned in it and live behind it
  pub live_over : AllWithin graph.nodes → (n k : ℕ) (puts : List Insertion) → IsInsertionChain raw n k puts → n < length graph.nodes → IsLiveBefore new x (entry_among n k puts) → ReadsFirst x puts ⊎ ((put_for puts x ≡ None) × LiveOver graph r x n)
  live_over within n k puts c lt live = by live.path live.is_path live.begins live.ends
    where
      by : (path : List ℕ) → IsPath raw path → Begins (entry_among n k puts) path → EndsBorn (reads_at new x) (assigns_at new x) path → ReadsFirst x puts ⊎ ((put_for puts x ≡ None) × LiveOver graph r x n)
      by [] is_path begins ends = absurd is_path
      by (a ∷ q) is_path begins ends = walk within q n k puts c lt (subst (λ u. IsPath raw (u ∷ q)) begins is_path) (subst (λ u. EndsBorn (reads_at new x) (assigns_at new x) (u ∷ q)) begins ends)
