-- Laws of paths of the rewritten graph: over each full path of the graph lies exactly one, through the same old nodes
-- and the chains before them, and no other full paths are there; and what is assigned on it is a sum along the path.
-- For proofs only; the crates above cite them.
use Rattle.std.proofs.Common.{◌≡◌, ℕ, suc, ◌+◌, ◌<◌, ◌≤◌, true, if◌then◌else◌, nat_lt, filter, List, [], ◌∷◌, length, slice_get, Option, Some, None, option_map, refl, sym, ap, ◌∙◌, subst, arith}
use Rattle.std.proofs.lemmas.Option.{slice_get_within}
use Rattle.std.proofs.lemmas.Bool.{lt-ltb, le-ltb, false≢true}
use Rattle.mir_base.specs.declared.instructions.Operand.{Operand}
use Rattle.mir_base.specs.declared.instructions.Rhs.{Rhs}
use Rattle.mir_base.specs.Shapes.{AllBelow}
use Rattle.flow_graph.specs.declared.nodes.Node.{Node}
use Rattle.flow_graph.specs.declared.nodes.Node.TheVariants.{Start, Skip, Assign, Print, Guard, Call, Test, Return}
use Rattle.flow_graph.specs.Graphs.{GraphShape, IsGraph, node_succs, succs_of, AllWithin}
use Rattle.flow_graph.specs.Paths.{HasEdge, IsPath, Begins, Ends, is_return, IsReturnAt, IsFullPath}
use Rattle.flow_graph.specs.Retained.{redirected}
use Rattle.graph_edit.specs.Over.{IsOver, through, over_path, weigh, weigh_all, weight_at, new_weight_at}
use Rattle.flow_graph.specs.Sums.{sum_on}
use Rattle.graph_edit.specs.Insertions.{Insertion, Change, Unchanged, Replaced, Removed, Rewriting, changed, put_below, entry_among, entry, chain, rewritten_nodes, CanRewrite}
use Rattle.flow_graph.specs.ListLaws.{some_at}
use Rattle.flow_graph.specs.BoundLaws.{slot_within}
use Rattle.graph_edit.specs.ChangeLaws.{rewritten_succs}
use Rattle.graph_edit.specs.InsertionNodes.{chain_slice, old_get, old_edge, rewritten_length}
use Rattle.graph_edit.specs.InsertionGraphs.{start_entry}
use Rattle.mir_base.specs.ItemLaws.{map_at, one_item}

-- ---- chains

-- from number k on there are new nodes before node n that make these assignments
abbrev pub IsInsertionChain : List Node → ℕ → ℕ → List Insertion → Type 0
IsInsertionChain nodes n k [] = Unit {0}
IsInsertionChain nodes n k (put ∷ puts) =
    (slice_get nodes k ≡ Some (Assign put.var put.rhs (entry_among n (suc k) puts)))
    × IsInsertionChain nodes n (suc k) puts

-- nodes that stand from k on as those of the chain form the insertion chain
chain_from : (nodes : List Node) (n k : ℕ) (puts : List Insertion)
    → ((j : ℕ) → j < length puts → slice_get nodes (k + j) ≡ slice_get (chain n k puts) j)
    → IsInsertionChain nodes n k puts
chain_from nodes n k [] are = tt
chain_from nodes n k (put ∷ puts) are =
    let none : k ≡ k + 0 = omega arith in
    (ap (slice_get nodes) none ∙ are 0 (omega arith), chain_from nodes n (suc k) puts (λ j lt. (let more : suc k + j ≡ k + suc j = omega arith in ap (slice_get nodes) more ∙ are (suc j) (omega (arith, lt)))))

-- the new nodes before a node are the chain of its insertions
pub chain_is : (r : Rewriting) (nodes : List Node) (n : ℕ) → n < length nodes
    → IsInsertionChain (rewritten_nodes r nodes) n (length nodes + put_below r.inserts n) (r.inserts n)
chain_is r nodes n below =
    chain_from (rewritten_nodes r nodes) n (length nodes + put_below r.inserts n) (r.inserts n) (λ j lt. (let same : (length nodes + put_below r.inserts n) + j ≡ length nodes + (put_below r.inserts n + j) = omega arith in ap (slice_get (rewritten_nodes r nodes)) same ∙ chain_slice r nodes n j below lt))

-- ---- one chain

-- a node that is tested to be a Return is one
return_is : (o : Option Node) → is_return o ≡ true → (a : Operand) × (o ≡ Some (Return a))
return_is None is = absurd (false≢true is)
return_is (Some (Start next)) is = absurd (false≢true is)
return_is (Some (Skip next)) is = absurd (false≢true is)
return_is (Some (Assign x rhs next)) is = absurd (false≢true is)
return_is (Some (Print a next)) is = absurd (false≢true is)
return_is (Some (Guard test number next)) is = absurd (false≢true is)
return_is (Some (Call into unit operands next)) is = absurd (false≢true is)
return_is (Some (Test test taken other)) is = absurd (false≢true is)
return_is (Some (Return a)) is = (a, refl)

-- an old node stays in the path of the old nodes
pub keep_old : (k n : ℕ) (path : List ℕ) → n < k
    → filter (λ m. nat_lt m k) (n ∷ path) ≡ n ∷ filter (λ m. nat_lt m k) path
keep_old k n path lt = ap (λ b. (if b then (n ∷ filter (λ m. nat_lt m k) path) else (filter (λ m. nat_lt m k) path))) (lt-ltb n k lt)

-- a new node is left out of it
pub skip_new : (k n : ℕ) (path : List ℕ) → k ≤ n → filter (λ m. nat_lt m k) (n ∷ path) ≡ filter (λ m. nat_lt m k) path
skip_new k n path le = ap (λ b. (if b then (n ∷ filter (λ m. nat_lt m k) path) else (filter (λ m. nat_lt m k) path))) (le-ltb n k le)

-- the old nodes of a path through a chain are those of the path
filter_through : (old k : ℕ) (puts : List Insertion) (path : List ℕ) → old ≤ k
    → filter (λ m. nat_lt m old) (through k puts path) ≡ filter (λ m. nat_lt m old) path
filter_through old k [] path le = refl
filter_through old k (put ∷ puts) path le = skip_new old k (through (suc k) puts path) le ∙ filter_through old (suc k) puts path (omega (arith, le))

module _ (nodes : List Node) (n : ℕ) where
  through_begins : (k : ℕ) (puts : List Insertion) (path : List ℕ)
      → Begins (entry_among n k puts) (through k puts (n ∷ path))
  through_begins k [] path = refl
  through_begins k (put ∷ puts) path = refl

  -- a node before the chain
  enters : (m k : ℕ) (puts : List Insertion) (path : List ℕ)
      → HasEdge nodes m (entry_among n k puts) → IsPath nodes (through k puts (n ∷ path))
      → IsPath nodes (m ∷ through k puts (n ∷ path))
  enters m k [] path edge is = (edge, is)
  enters m k (put ∷ puts) path edge is = (edge, is)

  through_path : (k : ℕ) (puts : List Insertion) (path : List ℕ) → IsInsertionChain nodes n k puts
      → IsPath nodes (n ∷ path) → IsPath nodes (through k puts (n ∷ path))
  through_path k [] path c is = is
  through_path k (put ∷ puts) path c is = enters k (suc k) puts path (0, ap (λ o. slice_get (succs_of o) 0) c.0) (through_path (suc k) puts path c.1 is)

  more_ends : (last m k : ℕ) (puts : List Insertion) (path : List ℕ)
      → Ends last (through k puts (n ∷ path)) → Ends last (m ∷ through k puts (n ∷ path))
  more_ends last m k [] path ends = ends
  more_ends last m k (put ∷ puts) path ends = ends

  through_ends : (last k : ℕ) (puts : List Insertion) (path : List ℕ) → Ends last (n ∷ path)
      → Ends last (through k puts (n ∷ path))
  through_ends last k [] path ends = ends
  through_ends last k (put ∷ puts) path ends = more_ends last k (suc k) puts path (through_ends last (suc k) puts path ends)

-- ---- sums

-- a path through a chain weighs as much more as the assignments put
through_weight : (weight : ℕ → Rhs → ℕ) (nodes : List Node) (n k : ℕ) (puts : List Insertion) (path : List ℕ)
    → IsInsertionChain nodes n k puts
    → sum_on (weight_at weight nodes) (through k puts path)
    ≡ weigh_all weight puts + sum_on (weight_at weight nodes) path
through_weight weight nodes n k [] path c = omega arith
through_weight weight nodes n k (put ∷ puts) path c =
    let first : weight_at weight nodes k ≡ weight put.var put.rhs = ap (weigh weight) c.0 in
    omega (arith, first, through_weight weight nodes n (suc k) puts path c.1)

-- a node weighs the same wherever its edges lead
redirected_weight : (weight : ℕ → Rhs → ℕ) (to : ℕ → ℕ) (change : Change) (node : Node)
    → weigh weight (Some (redirected to (changed change node))) ≡ weigh weight (Some (changed change node))
redirected_weight weight to change (Start next) = refl
redirected_weight weight to change (Skip next) = refl
redirected_weight weight to Unchanged (Assign x rhs next) = refl
redirected_weight weight to (Replaced other) (Assign x rhs next) = refl
redirected_weight weight to Removed (Assign x rhs next) = refl
redirected_weight weight to change (Print a next) = refl
redirected_weight weight to change (Guard test number next) = refl
redirected_weight weight to change (Call into unit operands next) = refl
redirected_weight weight to change (Test test taken other) = refl
redirected_weight weight to change (Return a) = refl

-- and is a Return where it was one
redirected_return : (to : ℕ → ℕ) (change : Change) (node : Node)
    → is_return (Some (redirected to (changed change node))) ≡ is_return (Some node)
redirected_return to change (Start next) = refl
redirected_return to change (Skip next) = refl
redirected_return to Unchanged (Assign x rhs next) = refl
redirected_return to (Replaced other) (Assign x rhs next) = refl
redirected_return to Removed (Assign x rhs next) = refl
redirected_return to change (Print a next) = refl
redirected_return to change (Guard test number next) = refl
redirected_return to change (Call into unit operands next) = refl
redirected_return to change (Test test taken other) = refl
redirected_return to change (Return a) = refl

-- ---- the corresponding path of a path

module _ (r : Rewriting) (nodes : List Node) where
  abbrev raw : List Node
  raw = rewritten_nodes r nodes

  abbrev to : ℕ → ℕ
  to = entry r.inserts (length nodes)

  abbrev over : List ℕ → List ℕ
  over path = over_path r.inserts (length nodes) path

  abbrev first_new : ℕ → ℕ
  first_new n = length nodes + put_below r.inserts n

  pub path_within : (path : List ℕ) → IsPath nodes path → AllBelow (length nodes) path
  path_within [] is = tt
  path_within (n ∷ []) is = (is, tt)
  path_within (n ∷ m ∷ path) is = (slot_within nodes n is.0.0 m is.0.1, path_within (m ∷ path) is.1)

  -- The weight of the assignments on the corresponding path of a path is a sum along the path: at each node, of what is
  -- put before it and of what becomes of it
  pub over_weight : (weight : ℕ → Rhs → ℕ) (path : List ℕ) → AllBelow (length nodes) path
      → sum_on (weight_at weight (rewritten_nodes r nodes)) (over_path r.inserts (length nodes) path)
      ≡ sum_on (new_weight_at weight r nodes) path
  over_weight weight [] within = refl
  over_weight weight (n ∷ path) within =
      let node = some_at nodes n within.0 in
      let chained = through_weight weight raw n (first_new n) (r.inserts n) (n ∷ over path) (chain_is r nodes n within.0) in
      let own : weight_at weight raw n ≡ weigh weight (option_map (changed (r.changes n)) (slice_get nodes n)) = ap (weigh weight) (old_get r nodes n node.0 node.1) ∙ redirected_weight weight to (r.changes n) node.0 ∙ ap (λ o. weigh weight (option_map (changed (r.changes n)) o)) (sym node.1) in
      omega (arith, chained, own, over_weight weight path within.1)

  filter_over : (path : List ℕ) → AllBelow (length nodes) path
      → filter (λ m. nat_lt m (length nodes)) (over path) ≡ path
  filter_over [] within = refl
  filter_over (n ∷ path) within =
      filter_through (length nodes) (first_new n) (r.inserts n) (n ∷ over path) (omega arith)
      ∙ keep_old (length nodes) n (over path) within.0
      ∙ ap (λ l. n ∷ l) (filter_over path within.1)

  path_over : (path : List ℕ) → IsPath nodes path → IsPath raw (over path)
  path_over [] is = is
  path_over (n ∷ []) is = through_path raw n (first_new n) (r.inserts n) [] (chain_is r nodes n is) (omega (arith, rewritten_length r nodes, is))
  path_over (n ∷ m ∷ path) is =
      through_path raw n (first_new n) (r.inserts n) (over (m ∷ path)) (chain_is r nodes n (slot_within nodes n is.0.0 m is.0.1))
      (enters raw m n (first_new m) (r.inserts m) (over path) (is.0.0, old_edge r nodes n is.0.0 m is.0.1) (path_over (m ∷ path) is.1))

  ends_over : (last : ℕ) (path : List ℕ) → Ends last path → Ends last (over path)
  ends_over last [] ends = ends
  ends_over last (n ∷ []) ends = through_ends raw n last (first_new n) (r.inserts n) [] ends
  ends_over last (n ∷ m ∷ path) ends =
      through_ends raw n last (first_new n) (r.inserts n) (over (m ∷ path))
      (more_ends raw m last n (first_new m) (r.inserts m) (over path) (ends_over last (m ∷ path) ends))

  begins_over : to 0 ≡ 0 → (path : List ℕ) → Begins 0 path → Begins 0 (over path)
  begins_over start [] begins = begins
  begins_over start (n ∷ path) begins =
      subst (λ k. Begins k (over (n ∷ path))) (ap to begins ∙ start) (through_begins raw n (first_new n) (r.inserts n) (over path))

  over_full : to 0 ≡ 0 → (path : List ℕ) → IsFullPath nodes path → IsOver nodes raw path (over path)
  over_full start path full =
      let returns = return_is (slice_get nodes full.last) full.returns in
      record {
        full = record {
          is_path = path_over path full.is_path;
          begins = begins_over start path full.begins;
          last = full.last;
          ends = ends_over full.last path full.ends;
          returns = ap is_return (old_get r nodes full.last (Return returns.0) returns.1);
        };
        same = filter_over path (path_within path full.is_path);
      }

  -- ---- it is the only one

  edge_back : (n u : ℕ) → n < length nodes → HasEdge raw n u → (m : ℕ) × HasEdge nodes n m × (to m ≡ u)
  edge_back n u lt edge =
      let node = some_at nodes n lt in
      let m = map_at to (node_succs node.0) edge.0 u (ap (λ l. slice_get l edge.0) (sym (rewritten_succs to (r.changes n) node.0)) ∙ ap (λ o. slice_get (succs_of o) edge.0) (sym (old_get r nodes n node.0 node.1)) ∙ edge.1) in
      (m.0, (edge.0, ap (λ o. slice_get (succs_of o) edge.0) node.1 ∙ m.1), m.2)

  -- a Return of the result that is an old node was one
  return_back : (n : ℕ) → n < length nodes → IsReturnAt raw n → IsReturnAt nodes n
  return_back n lt returns =
      let node = some_at nodes n lt in
      ap is_return node.1 ∙ sym (redirected_return to (r.changes n) node.0) ∙ sym (ap is_return (old_get r nodes n node.0 node.1)) ∙ returns

  -- a path from a node of the chain before n to a Return goes through the chains before its old nodes, and these are a
  -- path of the graph to that Return
  record Lies (n k : ℕ) (puts : List Insertion) (q : List ℕ) (last : ℕ) : Type 0 where
    rest : List ℕ
    same : filter (λ m. nat_lt m (length nodes)) (entry_among n k puts ∷ q) ≡ n ∷ rest
    is : entry_among n k puts ∷ q ≡ through k puts (n ∷ over_path r.inserts (length nodes) rest)
    way : IsPath nodes (n ∷ rest)
    comes : Ends last (n ∷ rest)
    stops : IsReturnAt nodes last

  module _ (within : AllWithin nodes) where
    lies : (q : List ℕ) (last n k : ℕ) (puts : List Insertion) → IsInsertionChain raw n k puts
        → length nodes ≤ k → n < length nodes → IsPath raw (entry_among n k puts ∷ q)
        → Ends last (entry_among n k puts ∷ q) → IsReturnAt raw last → Lies n k puts q last
    lies [] last n k [] c above lt is ends returns = record {
      rest = [];
      same = keep_old (length nodes) n [] lt;
      is = refl;
      way = lt;
      comes = ends;
      stops = subst (IsReturnAt nodes) ends (return_back n lt (subst (IsReturnAt raw) (sym ends) returns));
    }
    lies [] last n k (put ∷ puts) c above lt is ends returns =
        absurd (false≢true (sym (ap is_return c.0) ∙ ap (λ m. is_return (slice_get raw m)) ends ∙ returns))
    lies (b ∷ q) last n k [] c above lt is ends returns =
        let m = edge_back n b lt is.0 in
        let m_in = within n m.1.0 m.0 m.1.1 in
        let l = lies q last m.0 (first_new m.0) (r.inserts m.0) (chain_is r nodes m.0 m_in) (omega arith) m_in (subst (λ u. IsPath raw (u ∷ q)) (sym m.2) is.1) (subst (λ u. Ends last (u ∷ q)) (sym m.2) ends) returns in
        record {
          rest = m.0 ∷ l.rest;
          same = keep_old (length nodes) n (b ∷ q) lt ∙ ap (λ u. n ∷ u) (ap (λ u. filter (λ k. nat_lt k (length nodes)) (u ∷ q)) (sym m.2) ∙ l.same);
          is = ap (λ u. n ∷ u) (ap (λ u. u ∷ q) (sym m.2) ∙ l.is);
          way = (m.1, l.way);
          comes = l.comes;
          stops = l.stops;
        }
    lies (b ∷ q) last n k (put ∷ puts) c above lt is ends returns =
        let next : slice_get (entry_among n (suc k) puts ∷ []) is.0.0 ≡ Some b = ap (λ o. slice_get (succs_of o) is.0.0) (sym c.0) ∙ is.0.1 in
        let leads : entry_among n (suc k) puts ≡ b = one_item (entry_among n (suc k) puts) b is.0.0 next in
        let l = lies q last n (suc k) puts c.1 (omega (arith, above)) lt (subst (λ u. IsPath raw (u ∷ q)) (sym leads) is.1) (subst (λ u. Ends last (u ∷ q)) (sym leads) ends) returns in
        record {
          rest = l.rest;
          same = skip_new (length nodes) k (b ∷ q) above ∙ ap (λ u. filter (λ m. nat_lt m (length nodes)) (u ∷ q)) (sym leads) ∙ l.same;
          is = ap (λ u. k ∷ u) (ap (λ u. u ∷ q) (sym leads) ∙ l.is);
          way = l.way;
          comes = l.comes;
          stops = l.stops;
        }

    -- a full path from its second node on
    lies_whole : to 0 ≡ 0 → 0 < length nodes → (b : ℕ) (q : List ℕ) (full : IsFullPath raw (b ∷ q))
        → (b ≡ to 0) × Lies 0 (first_new 0) (r.inserts 0) q full.last
    lies_whole start some b q full =
        let first : b ≡ to 0 = full.begins ∙ sym start in
        (first, lies q full.last 0 (first_new 0) (r.inserts 0) (chain_is r nodes 0 some) (omega arith) some (subst (λ u. IsPath raw (u ∷ q)) first full.is_path) (subst (λ u. Ends full.last (u ∷ q)) first full.ends) full.returns)

    alone : to 0 ≡ 0 → 0 < length nodes → (path other : List ℕ) → IsOver nodes raw path other → other ≡ over path
    alone start some path [] is = absurd is.full.begins
    alone start some path (b ∷ q) is =
        let l = lies_whole start some b q is.full in
        let whole : path ≡ 0 ∷ l.1.rest = sym is.same ∙ ap (λ u. filter (λ k. nat_lt k (length nodes)) (u ∷ q)) l.0 ∙ l.1.same in
        ap (λ u. u ∷ q) l.0 ∙ l.1.is ∙ ap over (sym whole)

    -- the old nodes of a full path of the result are one of the graph
    under : to 0 ≡ 0 → 0 < length nodes → (other : List ℕ) → IsFullPath raw other
        → IsFullPath nodes (filter (λ n. nat_lt n (length nodes)) other)
    under start some [] full = absurd full.begins
    under start some (b ∷ q) full =
        let l = lies_whole start some b q full in
        let old : filter (λ k. nat_lt k (length nodes)) (b ∷ q) ≡ 0 ∷ l.1.rest = ap (λ u. filter (λ k. nat_lt k (length nodes)) (u ∷ q)) l.0 ∙ l.1.same in
        subst (IsFullPath nodes) (sym old) (record { is_path = l.1.way; begins = refl; last = full.last; ends = l.1.comes; returns = l.1.stops })

-- ---- the laws

module _ (r : Rewriting) (extra : List (List ℕ)) (graph : GraphShape)
    (fits : CanRewrite r extra graph) (is_graph : IsGraph graph.vars graph.received graph.nodes) where
  -- over each full path lies a path
  pub rewritten_over : (path : List ℕ) → IsFullPath graph.nodes path
      → IsOver graph.nodes (rewritten_nodes r graph.nodes) path (over_path r.inserts (length graph.nodes) path)
  rewritten_over path full = over_full r graph.nodes (start_entry r extra graph fits) path full

  -- and no other
  pub rewritten_alone : (path other : List ℕ)
      → IsOver graph.nodes (rewritten_nodes r graph.nodes) path other
      → other ≡ over_path r.inserts (length graph.nodes) path
  rewritten_alone path other is =
      alone r graph.nodes (λ m slot s edge. (is_graph.can.succs m slot s edge).1) (start_entry r extra graph fits) (slice_get_within graph.nodes 0 (Start is_graph.can.start.0) is_graph.can.start.1) path other is

  -- and each full path of the result lies over one
  pub rewritten_under : (other : List ℕ) → IsFullPath (rewritten_nodes r graph.nodes) other
      → IsFullPath graph.nodes (filter (λ n. nat_lt n (length graph.nodes)) other)
  rewritten_under other full =
      under r graph.nodes (λ m slot s edge. (is_graph.can.succs m slot s edge).1) (start_entry r extra graph fits) (slice_get_within graph.nodes 0 (Start is_graph.can.start.0) is_graph.can.start.1) other full
