-- The graph as it is written is the graph rewritten: insertions listed for all nodes make the chains of the nodes, and
-- edges lead to the entries.
use Rattle.std.proofs.Common.{◌≡◌, ◌<◌, ◌≤◌, ℕ, zero, suc, ◌+◌, if◌then◌else◌, drop, List, [], ◌∷◌, ◌++◌, map, length, slice_get, Some, inl, inr, refl, sym, ap, ◌∙◌, arith, length-append, length-set, append_assoc}
use Rattle.std.proofs.lemmas.Bool.{cases_eq, cases_lt, eq-eqb, ne_eqb}
use Rattle.std.proofs.lemmas.List.{get_or-set_same, get_or-set_other}
use Rattle.std.proofs.lemmas.Option.{get_or_from_slice_get, same_Some, slice_get_within}
use Rattle.flow_graph.specs.declared.nodes.Node.{Node}
use Rattle.flow_graph.specs.declared.nodes.Node.TheVariants.{Assign}
use Rattle.flow_graph.specs.Graphs.{AllWithin, IsEdge}
use Rattle.flow_graph.specs.ListLaws.{get_left, get_right_at}
use Rattle.flow_graph.specs.NodeLaws.{redirected_same}
use Rattle.flow_graph.specs.NumberTables.{number_at}
use Rattle.flow_graph.specs.Retained.{redirected}
use Rattle.graph_edit.specs.ChangeLaws.{changed_succs}
use Rattle.graph_edit.specs.Insertions.{Insertion, Change, changed, chain, chains, entry, entry_among, olds, put_below, rewritten_nodes}
use Rattle.sink_code.specs.declared.inserting.PutBefore.{PutBefore}
use Rattle.graph_edit.specs.Accesses.{is_sinkable}
use Rattle.sink_code.specs.Puts.{all_puts, puts_at}
use Rattle.sink_code.specs.SunkGraphs.{emptied}
use Rattle.sink_code.specs.Written.{AllPutBelow, edge_ends, linked, next_or_node, numbers_below, written_nodes, written_old}

-- ---- where the listed insertions stand

-- those of a later node are not before this one
among_at : (m n k : ℕ) (puts : List Insertion) (rest : List PutBefore) → n < m → next_or_node n k (slice_get rest 0) ≡ n → next_or_node n k (slice_get (puts_at m puts ++ rest) 0) ≡ n
among_at m n k [] rest lt none = none
among_at m n k (put ∷ puts) rest lt none = ap (λ b. if b then k else n) (ne_eqb m n (λ e. omega (arith, e, lt)))

-- so the next of the insertions before later nodes is not
none_among : (inserts : ℕ → List Insertion) (count m n k : ℕ) → n < m → next_or_node n k (slice_get (all_puts inserts count m) 0) ≡ n
none_among inserts zero m n k lt = refl
none_among inserts (suc count) m n k lt = among_at m n k (inserts m) (all_puts inserts count (suc m)) lt (none_among inserts count (suc m) n k (omega (arith, lt)))

-- those of one node, and then others, are below a bound
below_append : (a b : List PutBefore) (bound : ℕ) → AllPutBelow bound a → AllPutBelow bound b → AllPutBelow bound (a ++ b)
below_append [] b bound below below' i q at = below' i q at
below_append (put ∷ a) b bound below below' zero q at = below 0 q at
below_append (put ∷ a) b bound below below' (suc i) q at = below_append a b bound (λ j. below (suc j)) below' i q at

-- those of one node do, where the node does
below_at : (n : ℕ) (puts : List Insertion) (bound : ℕ) → n < bound → AllPutBelow bound (puts_at n puts)
below_at n [] bound lt i q at = absurd (omega (arith, slice_get_within [] i q at))
below_at n (put ∷ puts) bound lt zero q at = omega (arith, lt, ap (λ (p : PutBefore). p.node) (same_Some _ q at))
below_at n (put ∷ puts) bound lt (suc i) q at = below_at n puts bound lt i q at

-- each of the insertions of so many nodes stands before one of these
pub all_below : (inserts : ℕ → List Insertion) (count n bound : ℕ) → n + count ≤ bound → AllPutBelow bound (all_puts inserts count n)
all_below inserts zero n bound le i q at = absurd (omega (arith, slice_get_within [] i q at))
all_below inserts (suc count) n bound le i q at = below_append (puts_at n (inserts n)) (all_puts inserts count (suc n)) bound (below_at n (inserts n) bound (omega (arith, le))) (all_below inserts count (suc n) bound (omega (arith, le))) i q at

-- ---- the insertions

-- the insertions before one node are written as the chain before it
linked_at : (n k : ℕ) (puts : List Insertion) (rest : List PutBefore) → ((j : ℕ) → next_or_node n j (slice_get rest 0) ≡ n) → linked k (puts_at n puts ++ rest) ≡ chain n k puts ++ linked (k + length puts) rest
linked_at n k [] rest none = ap (λ j. linked j rest) (omega arith)
linked_at n k (put ∷ puts) rest none =
    ap (λ to. Assign put.var put.rhs to ∷ linked (suc k) (puts_at n puts ++ rest)) (leads puts)
    ∙ ap (λ l. Assign put.var put.rhs (entry_among n (suc k) puts) ∷ l) (linked_at n (suc k) puts rest none ∙ ap (λ j. chain n (suc k) puts ++ linked j rest) (omega arith))
  where
    leads : (ps : List Insertion) → next_or_node n (suc k) (slice_get (puts_at n ps ++ rest) 0) ≡ entry_among n (suc k) ps
    leads [] = none (suc k)
    leads (p ∷ ps) = ap (λ b. if b then suc k else n) (eq-eqb n n refl)

-- what is written from insertion number i on: its node, and then what is written from the next one on
pub one_linked : (puts : List PutBefore) (i k : ℕ) (put : PutBefore) → slice_get puts i ≡ Some put → linked k (drop i puts) ≡ Assign put.var put.rhs (next_or_node put.node (suc k) (slice_get puts (suc i))) ∷ linked (suc k) (drop (suc i) puts)
one_linked [] i k put at = absurd (omega (arith, slice_get_within [] i put at))
one_linked (p ∷ puts) zero k put at = ap (λ (q : PutBefore). Assign q.var q.rhs (next_or_node q.node (suc k) (slice_get puts 0)) ∷ linked (suc k) puts) (same_Some p put at)
one_linked (p ∷ puts) (suc i) k put at = one_linked puts i k put at

-- once one more insertion is written, what is written and what is still to be written make the whole
pub more_linked : (puts : List PutBefore) (i olds : ℕ) (put : PutBefore) (pushed whole : List Node) (next : ℕ) → slice_get puts i ≡ Some put → next ≡ next_or_node put.node (olds + i + 1) (slice_get puts (i + 1)) → pushed ++ linked (olds + i) (drop i puts) ≡ whole → (pushed ++ Assign put.var put.rhs next ∷ []) ++ linked (olds + (i + 1)) (drop (i + 1) puts) ≡ whole
more_linked puts i olds put pushed whole next at is all =
    let one : i + 1 ≡ suc i = omega arith in
    let sum : olds + (i + 1) ≡ suc (olds + i) = omega arith in
    let sum' : olds + i + 1 ≡ suc (olds + i) = omega arith in
    let leads = is ∙ ap (λ j. next_or_node put.node j (slice_get puts (i + 1))) sum' ∙ ap (λ j. next_or_node put.node (suc (olds + i)) (slice_get puts j)) one in
    let to = next_or_node put.node (suc (olds + i)) (slice_get puts (suc i)) in
    append_assoc pushed (Assign put.var put.rhs next ∷ []) (linked (olds + (i + 1)) (drop (i + 1) puts))
    ∙ ap (λ q. pushed ++ Assign put.var put.rhs q ∷ linked (olds + (i + 1)) (drop (i + 1) puts)) leads
    ∙ ap (λ k. pushed ++ Assign put.var put.rhs to ∷ linked k (drop (i + 1) puts)) sum
    ∙ ap (λ j. pushed ++ Assign put.var put.rhs to ∷ linked (suc (olds + i)) (drop j puts)) one
    ∙ ap (λ l. pushed ++ l) (sym (one_linked puts i (olds + i) put at))
    ∙ all

-- those of all nodes make all chains
linked_all : (inserts : ℕ → List Insertion) (count n k : ℕ) → linked k (all_puts inserts count n) ≡ chains inserts count n k
linked_all inserts zero n k = refl
linked_all inserts (suc count) n k =
    linked_at n k (inserts n) (all_puts inserts count (suc n)) (λ j. none_among inserts count (suc n) n j (omega arith))
    ∙ ap (λ l. chain n k (inserts n) ++ l) (linked_all inserts count (suc n) (k + length (inserts n)))

-- ---- where edges lead

-- there are as many numbers below this one
pub numbers_length : (n : ℕ) → length (numbers_below n) ≡ n
numbers_length zero = refl
numbers_length (suc n) = omega (arith, length-append (numbers_below n) (n ∷ []), numbers_length n)

-- each of them stands at its own place
number_below : (n m : ℕ) → m < n → slice_get (numbers_below n) m ≡ Some m
number_below zero m lt = absurd (omega (arith, lt))
number_below (suc n) m lt = elim (cases_lt m n) [
  | inl less ↦ get_left (numbers_below n) (n ∷ []) m (omega (arith, less, numbers_length n)) ∙ number_below n m less
  | inr ge ↦
      let is : n ≡ m = omega (arith, ge, lt) in
      get_right_at (numbers_below n) (n ∷ []) m 0 (omega (arith, is, numbers_length n)) ∙ ap Some is
]

-- there is one end for each node
pub entered_length : (to : List ℕ) (k : ℕ) (puts : List PutBefore) → length (edge_ends to k puts) ≡ length to
entered_length to k [] = refl
entered_length to k (put ∷ puts) = length-set (edge_ends to (suc k) puts) put.node k ∙ entered_length to (suc k) puts

module _ (to : List ℕ) (rest : List PutBefore) where
  -- insertions before another node leave it
  entered_other : (n m k : ℕ) (puts : List Insertion) → (m ≡ n → ⊥) → number_at (edge_ends to k (puts_at n puts ++ rest)) m ≡ number_at (edge_ends to (k + length puts) rest) m
  entered_other n m k [] differ = ap (λ j. number_at (edge_ends to j rest) m) (omega arith)
  entered_other n m k (put ∷ puts) differ =
      get_or-set_other (edge_ends to (suc k) (puts_at n puts ++ rest)) n m k 0 differ
      ∙ entered_other n m (suc k) puts differ
      ∙ ap (λ j. number_at (edge_ends to j rest) m) (omega arith)

  -- and the first of those before it is where edges to it lead
  entered_first : (n k : ℕ) (puts : List Insertion) → n < length to → number_at (edge_ends to (k + length puts) rest) n ≡ n → number_at (edge_ends to k (puts_at n puts ++ rest)) n ≡ entry_among n k puts
  entered_first n k [] lt none = ap (λ j. number_at (edge_ends to j rest) n) (omega arith) ∙ none
  entered_first n k (put ∷ puts) lt none =
      get_or-set_same (edge_ends to (suc k) (puts_at n puts ++ rest)) n k 0 (omega (arith, lt, entered_length to (suc k) (puts_at n puts ++ rest)))

module _ (inserts : ℕ → List Insertion) (old : ℕ) where
  abbrev to : List ℕ
  to = numbers_below old

  -- earlier nodes are edge_ends as before
  entered_early : (count n k m : ℕ) → m < n → m < old → number_at (edge_ends to k (all_puts inserts count n)) m ≡ m
  entered_early zero n k m lt within = get_or_from_slice_get to m m 0 (number_below old m within)
  entered_early (suc count) n k m lt within =
      entered_other to (all_puts inserts count (suc n)) n m k (inserts n) (λ e. omega (arith, e, lt))
      ∙ entered_early count (suc n) (k + length (inserts n)) m (omega (arith, lt)) within

  entered_there : (count n k m : ℕ) → n ≤ m → m < n + count → n + count ≤ old → k ≡ old + put_below inserts n → number_at (edge_ends to k (all_puts inserts count n)) m ≡ entry inserts old m
  entered_there zero n k m le lt within is = absurd (omega (arith, le, lt))
  entered_there (suc count) n k m le lt within is = elim (cases_eq m n) [
    | inl same ↦
        ap (number_at (edge_ends to k (all_puts inserts (suc count) n))) same
        ∙ entered_first to (all_puts inserts count (suc n)) n k (inserts n) (omega (arith, within, numbers_length old)) (entered_early count (suc n) (k + length (inserts n)) n (omega arith) (omega (arith, within)))
        ∙ ap (λ j. entry_among n j (inserts n)) is
        ∙ ap (entry inserts old) (sym same)
    | inr differ ↦
        entered_other to (all_puts inserts count (suc n)) n m k (inserts n) differ
        ∙ entered_there count (suc n) (k + length (inserts n)) m (omega (arith, le, differ)) (omega (arith, lt)) (omega (arith, within)) (omega (arith, is))
  ]

-- ---- the old nodes

-- they are changed, and their edges lead to the entries
olds_are : (nodes : List Node) (to : List ℕ) (lead : ℕ → ℕ) (changes : ℕ → Change) (k : ℕ) → ((m : ℕ) (node : Node) → slice_get nodes m ≡ Some node → changes (k + m) ≡ emptied (is_sinkable (Some node))) → ((m slot s : ℕ) → IsEdge nodes m slot s → number_at to s ≡ lead s) → map (written_old to) nodes ≡ olds changes lead k nodes
olds_are [] to lead changes k are leads = refl
olds_are (node ∷ nodes) to lead changes k are leads =
    let own : changes k ≡ emptied (is_sinkable (Some node)) = ap changes (omega arith) ∙ are 0 node refl in
    ap (λ q. q ∷ map (written_old to) nodes) (
    redirected_same (number_at to) lead (changed (emptied (is_sinkable (Some node))) node) (λ slot s at. leads 0 slot s (ap (λ l. slice_get l slot) (sym (changed_succs (emptied (is_sinkable (Some node))) node)) ∙ at))
    ∙ ap (λ c. redirected lead (changed c node)) (sym own)
    )
    ∙ ap (λ l. redirected lead (changed (changes k) node) ∷ l) (olds_are nodes to lead changes (suc k) (λ m found at. (let more : suc k + m ≡ k + suc m = omega arith in ap changes more ∙ are (suc m) found at)) (λ m. leads (suc m)))

-- what is written is the graph rewritten
pub written_is : (inserts : ℕ → List Insertion) (nodes : List Node) → AllWithin nodes → written_nodes (all_puts inserts (length nodes) 0) nodes ≡ rewritten_nodes (record { inserts = inserts; changes = λ n. emptied (is_sinkable (slice_get nodes n)) }) nodes
written_is inserts nodes within =
    let old = length nodes in
    let to = edge_ends (numbers_below old) old (all_puts inserts old 0) in
    let lead = entry inserts old in
    let changes = λ (n : ℕ). emptied (is_sinkable (slice_get nodes n)) in
    ap (λ l. l ++ linked old (all_puts inserts old 0)) (olds_are nodes to lead changes 0 (λ m node at. (let same : 0 + m ≡ m = omega arith in ap changes same ∙ ap (λ o. emptied (is_sinkable o)) at)) (λ m slot s edge. entered_there inserts old old 0 old s (omega arith) (omega (arith, within m slot s edge)) (omega arith) (omega arith)))
    ∙ ap (λ l. olds changes lead 0 nodes ++ l) (linked_all inserts old 0 old)
