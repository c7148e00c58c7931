-- What the walk keeps: steps that are put on and taken off, one visit, and the end, where all nodes have been visited.
use Rattle.std.proofs.Common.{◌≡◌, ◌≢◌, ◌⊎◌, inl, inr, ℕ, zero, suc, ◌<◌, Bool, true, false, if◌then◌else◌, List, [], ◌∷◌, ◌++◌, length, replicate, slice_get, slice_index_or, slice_set, Option, Some, None, refl, sym, ap, ◌∙◌, subst, arith}
use Rattle.std.proofs.lemmas.Bool.{cases_eq, false≢true, true≢false}
use Rattle.std.proofs.lemmas.List.{get_or-set_same, get_or-set_other, length-set, length-replicate, get_or-replicate, set-get_or}
use Rattle.std.proofs.lemmas.Option.{get_or_from_slice_get, same_Some, slice_get_within}
use Rattle.mir_base.specs.Shapes.{AllBelow}
use Rattle.flow_graph.specs.declared.nodes.Node.{Node}
use Rattle.flow_graph.specs.declared.nodes.Node.TheVariants.{Start, Skip, Assign, Print, Guard, Call, Test, Return}
use Rattle.flow_graph.specs.BoundLaws.{all_below}
use Rattle.flow_graph.specs.Graphs.{GraphShape, IsGraph, Reached, at_start, along, is_start, succs_at}
use Rattle.flow_graph.specs.ListLaws.{get_left_some, get_push, get_seam, set_here}
use Rattle.flow_graph.specs.MarkLaws.{marked_before, set_keeps}
use Rattle.flow_graph.specs.Paths.{HasEdge}
use Rattle.value_number.specs.declared.terms.TermKey.{TermKey}
use Rattle.value_number.specs.declared.walk.Step.{Step}
use Rattle.value_number.specs.declared.walk.Step.TheVariants.{Visit, Restore}
use Rattle.value_number.specs.Entries.{GainsEntries, IsTermOf}
use Rattle.value_number.specs.Terms.{Terms, initial_terms, node_terms, terms_after, movable_term}
use Rattle.value_number.specs.Roots.{FromRoot, is_root, terms_before}
use Rattle.value_number.specs.RootLaws.{only_enters, root_or_not}
use Rattle.value_number.specs.NodeTerms.{AreTermsBefore}
use Rattle.value_number.specs.Numbered.{IsHolder, IsHolderAt}
use Rattle.value_number.specs.Table.{Represent, RepresentsAt, Stay}
use Rattle.value_number.specs.TermWalks.{AreRoots, VisitRoots, Passes, restored, IsReady, AreReady, IsToVisit, holder_at, IsVisited, IsUnderWay, listed_after, steps_after, weight_left, AreHolders}
use Rattle.value_number.proofs.Entries.{entries_on, no_entries, root_there}
use Rattle.value_number.proofs.Stands.{none_stand, represent_on}
use Rattle.value_number.proofs.Weights.{visit_light}

-- ---- steps that are put on and taken off

-- a visit restores nothing
restored_visit : (steps : List Step) (n root : ℕ) (numbers : List (Option ℕ)) → restored (steps ++ Visit n root ∷ []) numbers ≡ restored steps numbers
restored_visit [] n root numbers = refl
restored_visit (Visit m q ∷ steps) n root numbers = restored_visit steps n root numbers
restored_visit (Restore v old ∷ steps) n root numbers = ap (λ l. slice_set l v old) (restored_visit steps n root numbers)

-- the last step to restore is the first that is taken
restored_restore : (steps : List Step) (w : ℕ) (o : Option ℕ) (numbers : List (Option ℕ)) → restored (steps ++ Restore w o ∷ []) numbers ≡ restored steps (slice_set numbers w o)
restored_restore [] w o numbers = refl
restored_restore (Visit m q ∷ steps) w o numbers = restored_restore steps w o numbers
restored_restore (Restore v old ∷ steps) w o numbers = ap (λ l. slice_set l v old) (restored_restore steps w o numbers)

module _ (shared : ℕ) (nodes : List Node) (table : List TermKey) where
  -- a visit that is taken off
  ready_visit : (steps : List Step) (n root : ℕ) (numbers : List (Option ℕ)) → AreReady shared nodes table numbers (steps ++ Visit n root ∷ []) → AreReady shared nodes table numbers steps × IsReady shared nodes table numbers n root
  ready_visit [] n root numbers h = (tt, h.0)
  ready_visit (Visit m q ∷ steps) n root numbers h =
      let rest = ready_visit steps n root numbers h.1 in
      ((subst (λ l. IsReady shared nodes table l m q) (restored_visit steps n root numbers) h.0, rest.0), rest.1)
  ready_visit (Restore v old ∷ steps) n root numbers h = let rest = ready_visit steps n root numbers h.1 in ((h.0, rest.0), rest.1)

  -- a visit that is put on
  put_visit : (steps : List Step) (n root : ℕ) (numbers : List (Option ℕ)) → AreReady shared nodes table numbers steps → IsReady shared nodes table numbers n root → AreReady shared nodes table numbers (steps ++ Visit n root ∷ [])
  put_visit [] n root numbers h ready = (ready, tt)
  put_visit (Visit m q ∷ steps) n root numbers h ready = (subst (λ l. IsReady shared nodes table l m q) (sym (restored_visit steps n root numbers)) h.0, put_visit steps n root numbers h.1 ready)
  put_visit (Restore v old ∷ steps) n root numbers h ready = (h.0, put_visit steps n root numbers h.1 ready)

  -- a restoring step that is taken off
  ready_restore : (steps : List Step) (w : ℕ) (o : Option ℕ) (numbers : List (Option ℕ)) → AreReady shared nodes table numbers (steps ++ Restore w o ∷ []) → (w < length numbers) × AreReady shared nodes table (slice_set numbers w o) steps
  ready_restore [] w o numbers h = (h.0, tt)
  ready_restore (Visit m q ∷ steps) w o numbers h =
      let rest = ready_restore steps w o numbers h.1 in
      (rest.0, (subst (λ l. IsReady shared nodes table l m q) (restored_restore steps w o numbers) h.0, rest.1))
  ready_restore (Restore v old ∷ steps) w o numbers h =
      let rest = ready_restore steps w o numbers h.1 in
      (rest.0, (subst (λ k. v < k) (sym (length-set numbers w o)) h.0, rest.1))

  -- and one that is put on
  pub put_restore : (steps : List Step) (w : ℕ) (o : Option ℕ) (numbers : List (Option ℕ)) → w < length numbers → AreReady shared nodes table (slice_set numbers w o) steps → AreReady shared nodes table numbers (steps ++ Restore w o ∷ [])
  put_restore [] w o numbers lt h = (lt, tt)
  put_restore (Visit m q ∷ steps) w o numbers lt h = (subst (λ l. IsReady shared nodes table l m q) (sym (restored_restore steps w o numbers)) h.0, put_restore steps w o numbers lt h.1)
  put_restore (Restore v old ∷ steps) w o numbers lt h = (subst (λ k. v < k) (length-set numbers w o) h.0, put_restore steps w o numbers lt h.1)

-- more entries of the table
ready_on : (shared : ℕ) (nodes : List Node) (old new : List TermKey) (numbers : List (Option ℕ)) (steps : List Step) → Stay old new → AreReady shared nodes old numbers steps → AreReady shared nodes new numbers steps
ready_on shared nodes old new numbers [] stay h = tt
ready_on shared nodes old new numbers (Visit n root ∷ steps) stay h =
    let ready = h.0 in
    (record { within = ready.within; before = ready.before; path = ready.path; represent = represent_on old new (restored steps numbers) root _ stay ready.represent }, ready_on shared nodes old new numbers steps stay h.1)
ready_on shared nodes old new numbers (Restore v o ∷ steps) stay h = (h.0, ready_on shared nodes old new numbers steps stay h.1)

-- ---- visits among the steps

-- a visit stays among more steps
pub visit_stays : (n : ℕ) (steps more : List Step) → IsToVisit n steps → IsToVisit n (steps ++ more)
visit_stays n steps more v = (v.0, v.1, get_left_some steps more v.0 _ v.2)

-- the visit that is put on is among them
pub visit_put : (n root : ℕ) (steps : List Step) → IsToVisit n (steps ++ Visit n root ∷ [])
visit_put n root steps = (length steps, root, get_seam steps [] (Visit n root))

-- equal visits are of one node
same_visit : {n m root q : ℕ} → Visit m q ≡ Visit n root → m ≡ n
same_visit e = cc

-- once a visit is taken off, the others are left
pub visit_left : (n m root : ℕ) (steps : List Step) → IsToVisit n (steps ++ Visit m root ∷ []) → IsToVisit n steps ⊎ (m ≡ n)
visit_left n m root steps v = elim (get_push steps (Visit m root) (Visit n v.1) v.0 v.2) as (λ _. IsToVisit n steps ⊎ (m ≡ n)) [
  | inl there ↦ inl (v.0, v.1, there)
  | inr last ↦ inr (same_visit last.1)
]

-- a restoring step is no visit
pub no_visit : (n v : ℕ) (old : Option ℕ) (steps : List Step) → IsToVisit n (steps ++ Restore v old ∷ []) → IsToVisit n steps
no_visit n v old steps h = elim (get_push steps (Restore v old) (Visit n h.1) h.0 h.2) as (λ _. IsToVisit n steps) [
  | inl there ↦ (h.0, h.1, there)
  | inr last ↦ differs last.1
]
  where
    differs : {A : Type 0} → Restore v old ≡ Visit n h.1 → A
    differs e = cc

-- ---- marks

-- setting what is set changes nothing
pub set_again : (listed : List Bool) (s : ℕ) → slice_index_or listed s false ≡ true → slice_set listed s true ≡ listed
set_again listed s e = ap (slice_set listed s) (sym e) ∙ set-get_or listed s false

-- a mark that is not set
unset : (listed : List Bool) (s : ℕ) → slice_index_or listed s false ≡ false → slice_get listed s ≡ Some true → ⊥
unset listed s e h = true≢false (sym (get_or_from_slice_get listed s true false h) ∙ e)

-- ---- one visit

module _ (graph : GraphShape) where
  -- a visited node stays so when more nodes are listed
  visited_on : (listed listed' : List Bool) (holders : List (Option ℕ)) (n : ℕ) → ((s : ℕ) → slice_get listed s ≡ Some true → slice_get listed' s ≡ Some true) → IsVisited graph listed holders n → IsVisited graph listed' holders n
  visited_on listed listed' holders n more v = record { holder = v.holder; succs = λ s edge. more s (v.succs s edge) }

  -- the visit that is taken: its node is at hand, with its holder, the numbers after it and the steps that undo them
  module _ (is_graph : IsGraph graph.vars graph.received graph.nodes) (table table' : List TermKey) (numbers numbers' : List (Option ℕ)) (listed : List Bool) (steps changed : List Step) (holders : List (Option ℕ)) (n root : ℕ) (node : Node) (found : Option ℕ)
      (walk : IsUnderWay graph table numbers listed (steps ++ Visit n root ∷ []) holders None) (here : slice_get graph.nodes n ≡ Some node) (passes : Passes graph.shared root n node table table' numbers numbers' steps changed found) where
    -- the holders with its own
    abbrev holders' : List (Option ℕ)
    holders' = slice_set holders n found

    -- the numbers stand for the terms before it
    ready : IsReady graph.shared graph.nodes table numbers n root
    ready = (ready_visit graph.shared graph.nodes table steps n root numbers walk.ready).1

    -- the terms before the node
    abbrev terms : Terms
    terms = terms_before graph.shared graph.nodes root ready.before

    -- the holder is known
    holder_known : (node' : Node) → slice_get graph.nodes n ≡ Some node' → IsHolderAt graph.shared graph.nodes (length graph.vars) n node' (holder_at holders' n)
    holder_known node' there = record {
      root = root;
      before = ready.before;
      path = ready.path;
      is = subst (λ m. IsHolder (length graph.vars) terms (movable_term terms m) (holder_at holders' n)) (same_Some _ _ (sym here ∙ there))
          (subst (λ h. IsHolder (length graph.vars) terms (movable_term terms node) h) (sym (get_or-set_same holders n found None (omega (arith, ready.within, walk.holders_long))))
          (subst (λ k. IsHolder k terms (movable_term terms node) found) walk.numbers_long (passes.holds terms ready.represent)));
    }

    -- a Start is its own root
    start_root : (s : ℕ) → node ≡ Start s → (before : List ℕ) → FromRoot graph.nodes root n before → (root ≡ n) × (before ≡ [])
    start_root s e [] path = (sym path.0, refl)
    start_root s e (m ∷ before) path =
        let first : n ≡ 0 = is_graph.can.only n s (here ∙ ap Some e) in
        absurd (false≢true (sym path.0 ∙ ap (is_root graph.nodes) first))

    -- the numbers stand for the terms after the node
    after_node : Represent table' numbers' root (node_terms graph.shared n node terms)
    after_node = by node refl
      where
        by_start : (s : ℕ) → node ≡ Start s → Represent table' numbers' root (node_terms graph.shared n node terms)
        by_start s e =
            let own = start_root s e ready.before ready.path in
            let before : terms ≡ initial_terms root = ap (terms_before graph.shared graph.nodes root) own.1 in
            let after : node_terms graph.shared n node terms ≡ initial_terms root = ap (λ m. node_terms graph.shared n m terms) e ∙ ap initial_terms (sym own.0) in
            subst (Represent table' numbers' root) (before ∙ sym after) (passes.start terms ready.represent (ap is_start e))

        by : (m : Node) → node ≡ m → Represent table' numbers' root (node_terms graph.shared n node terms)
        by (Start s) e = by_start s e
        by (Skip next) e = passes.after terms ready.represent (ap is_start e)
        by (Assign x rhs next) e = passes.after terms ready.represent (ap is_start e)
        by (Print a next) e = passes.after terms ready.represent (ap is_start e)
        by (Guard test number next) e = passes.after terms ready.represent (ap is_start e)
        by (Call into unit operands next) e = passes.after terms ready.represent (ap is_start e)
        by (Test test taken other) e = passes.after terms ready.represent (ap is_start e)
        by (Return a) e = passes.after terms ready.represent (ap is_start e)

    -- the same, as the terms before its successors that are no roots
    after_path : Represent table' numbers' root (terms_before graph.shared graph.nodes root (n ∷ ready.before))
    after_path = subst (λ o. Represent table' numbers' root (terms_after graph.shared n o terms)) (sym here) after_node

    -- the walk with the node at hand
    taken : IsUnderWay graph table' numbers' listed changed holders' (Some n)
    taken = record {
      numbers_long = passes.undoes.long ∙ walk.numbers_long;
      listed_long = walk.listed_long;
      holders_long = length-set holders n found ∙ walk.holders_long;
      roots = walk.roots;
      ready = passes.undoes.ready graph.shared graph.nodes table' (ready_on graph.shared graph.nodes table table' numbers steps passes.stay (ready_visit graph.shared graph.nodes table steps n root numbers walk.ready).0);
      stand = passes.all terms ready.represent walk.stand;
      entries = entries_on graph table table' n root ready.before node here ready.path passes.stay walk.entries
          (subst (λ c. GainsEntries c (length graph.nodes) (IsTermOf table' c (node_terms graph.shared n node terms)) table table') walk.numbers_long
          (passes.grows (length graph.nodes) terms (root_there graph.nodes n root ready.before ready.path ready.within) ready.within ready.represent));
      all = all;
    }
      where
        Where : ℕ → Type 0
        Where k = IsToVisit k changed ⊎ (Some n ≡ Some k) ⊎ IsVisited graph listed holders' k

        other : (k : ℕ) → k ≢ n → IsVisited graph listed holders k → IsVisited graph listed holders' k
        other k apart v = record {
          holder = λ node' there. subst (IsHolderAt graph.shared graph.nodes (length graph.vars) k node') (sym (get_or-set_other holders n k found None apart)) (v.holder node' there);
          succs = v.succs;
        }

        visited : (k : ℕ) → IsVisited graph listed holders k → Where k
        visited k v = elim (cases_eq k n) as (λ _. Where k) [ inl same ↦ inr (inl (ap Some (sym same))) | inr apart ↦ inr (inr (other k apart v)) ]

        to_visit : (k : ℕ) → IsToVisit k (steps ++ Visit n root ∷ []) → Where k
        to_visit k v = elim (visit_left k n root steps v) as (λ _. Where k) [ inl left ↦ inl (passes.undoes.visits k left) | inr same ↦ inr (inl (ap Some same)) ]

        at_hand : (k : ℕ) → None ≡ Some k → Where k
        at_hand k e = cc

        all : (k : ℕ) → slice_get listed k ≡ Some true → Where k
        all k at = elim (walk.all k at) as (λ _. Where k) [
          | inl v ↦ to_visit k v
          | inr rest ↦ elim rest as (λ _. Where k) [ inl e ↦ at_hand k e | inr v ↦ visited k v ]
        ]

  -- ---- its successors are listed

  module _ (table : List TermKey) (numbers : List (Option ℕ)) (holders : List (Option ℕ)) (n root : ℕ) (before : List ℕ) (path : FromRoot graph.nodes root n before) (represent : Represent table numbers root (terms_before graph.shared graph.nodes root (n ∷ before))) where
    -- the walk with the node at hand
    abbrev AtHand : List Bool → List Step → Type 0
    AtHand listed steps = IsUnderWay graph table numbers listed steps holders (Some n)

    -- a successor that is not listed is no root, and is put on
    put_on : (listed : List Bool) (steps : List Step) (s : ℕ) → AtHand listed steps → HasEdge graph.nodes n s → s < length listed → slice_index_or listed s false ≡ false → AtHand (slice_set listed s true) (steps ++ Visit s root ∷ [])
    put_on listed steps s walk edge lt off = record {
      numbers_long = walk.numbers_long;
      listed_long = length-set listed s true ∙ walk.listed_long;
      holders_long = walk.holders_long;
      roots = λ k k_lt is. set_keeps listed s k (walk.roots k k_lt is);
      ready = put_visit graph.shared graph.nodes table steps s root numbers walk.ready (record { within = within; before = n ∷ before; path = (no_root, only_enters graph.nodes n s no_root edge, path); represent = represent });
      stand = walk.stand;
      entries = walk.entries;
      all = all;
    }
      where
        within : s < length graph.nodes
        within = omega (arith, lt, walk.listed_long)

        no_root : is_root graph.nodes s ≡ false
        no_root = elim (root_or_not graph.nodes s) [ inl on ↦ absurd (unset listed s off (walk.roots s within on)) | inr off' ↦ off' ]

        Where : ℕ → Type 0
        Where k = IsToVisit k (steps ++ Visit s root ∷ []) ⊎ (Some n ≡ Some k) ⊎ IsVisited graph (slice_set listed s true) holders k

        earlier : (k : ℕ) → IsToVisit k steps ⊎ (Some n ≡ Some k) ⊎ IsVisited graph listed holders k → Where k
        earlier k h = elim h as (λ _. Where k) [
          | inl v ↦ inl (visit_stays k steps _ v)
          | inr rest ↦ elim rest as (λ _. Where k) [ inl e ↦ inr (inl e) | inr v ↦ inr (inr (visited_on listed (slice_set listed s true) holders k (set_keeps listed s) v)) ]
        ]

        all : (k : ℕ) → slice_get (slice_set listed s true) k ≡ Some true → Where k
        all k at = elim (marked_before listed s k at) as (λ _. Where k) [
          | inl same ↦ inl (subst (λ j. IsToVisit j (steps ++ Visit s root ∷ [])) (sym same) (visit_put s root steps))
          | inr was ↦ earlier k (walk.all k was)
        ]

    -- a successor, listed or not
    list_next : (listed : List Bool) (steps : List Step) (s : ℕ) → AtHand listed steps → HasEdge graph.nodes n s → s < length listed → (b : Bool) → slice_index_or listed s false ≡ b → AtHand (slice_set listed s true) (if b then steps else steps ++ Visit s root ∷ [])
    list_next listed steps s walk edge lt true is = subst (λ l. AtHand l steps) (sym (set_again listed s is)) walk
    list_next listed steps s walk edge lt false is = put_on listed steps s walk edge lt is

    -- all of them
    pub list_all : (succs : List ℕ) (listed : List Bool) (steps : List Step) → ((i s : ℕ) → slice_get succs i ≡ Some s → HasEdge graph.nodes n s × (s < length listed)) → AtHand listed steps → AtHand (listed_after succs listed) (steps_after root succs listed steps)
    list_all [] listed steps edges walk = walk
    list_all (s ∷ succs) listed steps edges walk =
        let one = edges 0 s refl in
        list_all succs (slice_set listed s true) (if slice_index_or listed s false then steps else steps ++ Visit s root ∷ []) (λ i k at. let e = edges (suc i) k at in (e.0, subst (λ m. k < m) (sym (length-set listed s true)) e.1))
        (list_next listed steps s walk one.0 one.1 (slice_index_or listed s false) refl)

-- marks stay set while nodes are listed
listed_stay : (succs : List ℕ) (listed : List Bool) (k : ℕ) → slice_get listed k ≡ Some true → slice_get (listed_after succs listed) k ≡ Some true
listed_stay [] listed k at = at
listed_stay (s ∷ succs) listed k at = listed_stay succs (slice_set listed s true) k (set_keeps listed s k at)

-- and those of the listed nodes are set
listed_all : (succs : List ℕ) (listed : List Bool) (i s : ℕ) → slice_get succs i ≡ Some s → s < length listed → slice_get (listed_after succs listed) s ≡ Some true
listed_all [] listed i s at lt = cc
listed_all (t ∷ succs) listed zero s at lt = let same : t ≡ s = same_Some _ _ at in listed_stay succs (slice_set listed t true) s (subst (λ k. slice_get (slice_set listed k true) s ≡ Some true) (sym same) (set_here listed s true lt))
listed_all (t ∷ succs) listed (suc i) s at lt = listed_all succs (slice_set listed t true) i s at (subst (λ m. s < m) (sym (length-set listed t true)) lt)

-- a node is visited: the walk goes on
pub visit_walks : (graph : GraphShape) → IsGraph graph.vars graph.received graph.nodes → (table table' : List TermKey) (numbers numbers' : List (Option ℕ)) (listed : List Bool) (steps changed : List Step) (holders : List (Option ℕ)) (n root : ℕ) (node : Node) (found : Option ℕ)
    → IsUnderWay graph table numbers listed (steps ++ Visit n root ∷ []) holders None → slice_get graph.nodes n ≡ Some node → Passes graph.shared root n node table table' numbers numbers' steps changed found
    → IsUnderWay graph table' numbers' (listed_after (succs_at graph.nodes n) listed) (steps_after root (succs_at graph.nodes n) listed changed) (slice_set holders n found) None
visit_walks graph is_graph table table' numbers numbers' listed steps changed holders n root node found walk here passes = record {
  numbers_long = at_hand.numbers_long;
  listed_long = at_hand.listed_long;
  holders_long = at_hand.holders_long;
  roots = at_hand.roots;
  ready = at_hand.ready;
  stand = at_hand.stand;
  entries = at_hand.entries;
  all = all;
}
  where
    succs : List ℕ
    succs = succs_at graph.nodes n

    holders' : List (Option ℕ)
    holders' = slice_set holders n found

    listed' : List Bool
    listed' = listed_after succs listed

    steps' : List Step
    steps' = steps_after root succs listed changed

    is_ready : IsReady graph.shared graph.nodes table numbers n root
    is_ready = ready graph is_graph table table' numbers numbers' listed steps changed holders n root node found walk here passes

    edges : (i s : ℕ) → slice_get succs i ≡ Some s → HasEdge graph.nodes n s × (s < length listed)
    edges i s at = ((i, at), omega (arith, (is_graph.can.succs n i s at).1, walk.listed_long))

    at_hand : IsUnderWay graph table' numbers' listed' steps' holders' (Some n)
    at_hand = list_all graph table' numbers' holders' n root is_ready.before is_ready.path (after_path graph is_graph table table' numbers numbers' listed steps changed holders n root node found walk here passes) succs listed changed edges
        (taken graph is_graph table table' numbers numbers' listed steps changed holders n root node found walk here passes)

    visited : IsVisited graph listed' holders' n
    visited = record {
      holder = holder_known graph is_graph table table' numbers numbers' listed steps changed holders n root node found walk here passes;
      succs = λ s edge. listed_all succs listed edge.0 s edge.1 (edges edge.0 s edge.1).1;
    }

    Where : ℕ → Type 0
    Where k = IsToVisit k steps' ⊎ (None ≡ Some k) ⊎ IsVisited graph listed' holders' k

    same_node : (k : ℕ) → Some n ≡ Some k → Where k
    same_node k e = inr (inr (subst (IsVisited graph listed' holders') (same_Some n k e) visited))

    all : (k : ℕ) → slice_get listed' k ≡ Some true → Where k
    all k at = elim (at_hand.all k at) as (λ _. Where k) [
      | inl v ↦ inl v
      | inr rest ↦ elim rest as (λ _. Where k) [ inl e ↦ same_node k e | inr v ↦ inr (inr v) ]
    ]

-- the node of a visit that is taken is one of the graph
pub at_visit : {graph : GraphShape} {table : List TermKey} {numbers : List (Option ℕ)} {listed : List Bool} (steps : List Step) {holders : List (Option ℕ)} {n : ℕ} (root : ℕ) → IsUnderWay graph table numbers listed (steps ++ Visit n root ∷ []) holders None → n < length graph.nodes
at_visit {graph = graph} {table = table} {numbers = numbers} steps {n = n} root walk = let ready = (ready_visit graph.shared graph.nodes table steps n root numbers walk.ready).1 in ready.within

-- and the numbers are those of the terms before it
pub known_at : {graph : GraphShape} {table : List TermKey} {numbers : List (Option ℕ)} {listed : List Bool} (steps : List Step) {holders : List (Option ℕ)} {n : ℕ} (root : ℕ) → IsUnderWay graph table numbers listed (steps ++ Visit n root ∷ []) holders None → AreTermsBefore graph n root table numbers
known_at {graph = graph} {table = table} {numbers = numbers} steps {n = n} root walk =
    let ready = (ready_visit graph.shared graph.nodes table steps n root numbers walk.ready).1 in
    record { long = walk.numbers_long; before = ready.before; path = ready.path; represent = ready.represent; stand = walk.stand }

-- its successors are nodes of the graph, for which there are marks
pub succs_below : (graph : GraphShape) → IsGraph graph.vars graph.received graph.nodes → (listed : List Bool) (n : ℕ) → length listed ≡ length graph.nodes → AllBelow (length listed) (succs_at graph.nodes n)
succs_below graph is_graph listed n long = all_below (length listed) (succs_at graph.nodes n) (λ i s at. omega (arith, (is_graph.can.succs n i s at).1, long))

-- a visit, as the code makes it: the walk goes on, and less is left
module _ (graph : GraphShape) (is_graph : IsGraph graph.vars graph.received graph.nodes) (table table' : List TermKey) (numbers numbers' : List (Option ℕ)) (listed : List Bool) (steps changed : List Step) (holders : List (Option ℕ)) (n root : ℕ) (node : Node) (found : Option ℕ)
    (listed' : List Bool) (steps' : List Step) (holders' : List (Option ℕ)) (succs : List ℕ) (succs_are : succs ≡ succs_at graph.nodes n)
    (listed_are : listed' ≡ listed_after succs listed) (steps_are : steps' ≡ steps_after root succs listed changed) (holders_are : holders' ≡ slice_set holders n found)
    (passes : Passes graph.shared root n node table table' numbers numbers' steps changed found) where
  -- the marks, by the graph's own successors
  marks_made : listed' ≡ listed_after (succs_at graph.nodes n) listed
  marks_made = listed_are ∙ ap (λ l. listed_after l listed) succs_are

  -- and the steps
  steps_made : steps' ≡ steps_after root (succs_at graph.nodes n) listed changed
  steps_made = steps_are ∙ ap (λ l. steps_after root l listed changed) succs_are

  -- the walk goes on
  pub visit_goes_on : IsUnderWay graph table numbers listed (steps ++ Visit n root ∷ []) holders None → slice_get graph.nodes n ≡ Some node → IsUnderWay graph table' numbers' listed' steps' holders' None
  visit_goes_on walk here =
      subst (λ l. IsUnderWay graph table' numbers' l steps' holders' None) (sym marks_made)
      (subst (λ l. IsUnderWay graph table' numbers' (listed_after (succs_at graph.nodes n) listed) l holders' None) (sym steps_made)
      (subst (λ l. IsUnderWay graph table' numbers' (listed_after (succs_at graph.nodes n) listed) (steps_after root (succs_at graph.nodes n) listed changed) l None) (sym holders_are)
      (visit_walks graph is_graph table table' numbers numbers' listed steps changed holders n root node found walk here passes)))

  -- and less is left
  pub visit_less : length listed ≡ length graph.nodes → weight_left graph.shared listed' steps' < weight_left graph.shared listed (steps ++ Visit n root ∷ [])
  visit_less long =
      subst (λ l. weight_left graph.shared l steps' < weight_left graph.shared listed (steps ++ Visit n root ∷ [])) (sym marks_made)
      (subst (λ l. weight_left graph.shared (listed_after (succs_at graph.nodes n) listed) l < weight_left graph.shared listed (steps ++ Visit n root ∷ [])) (sym steps_made)
      (visit_light graph.shared n root (succs_at graph.nodes n) listed steps changed (succs_below graph is_graph listed n long) (passes.undoes.light graph.shared)))

-- a number is restored: the walk goes on
pub restore_walks : (graph : GraphShape) (table : List TermKey) (numbers : List (Option ℕ)) (listed : List Bool) (steps : List Step) (holders : List (Option ℕ)) (v : ℕ) (old : Option ℕ)
    → IsUnderWay graph table numbers listed (steps ++ Restore v old ∷ []) holders None → (v < length numbers) × IsUnderWay graph table (slice_set numbers v old) listed steps holders None
restore_walks graph table numbers listed steps holders v old walk =
    let rest = ready_restore graph.shared graph.nodes table steps v old numbers walk.ready in (
      rest.0,
      record {
        numbers_long = length-set numbers v old ∙ walk.numbers_long;
        listed_long = walk.listed_long;
        holders_long = walk.holders_long;
        roots = walk.roots;
        ready = rest.1;
        stand = walk.stand;
        entries = walk.entries;
        all = all;
      },
    )
  where
    all : (k : ℕ) → slice_get listed k ≡ Some true → IsToVisit k steps ⊎ (None ≡ Some k) ⊎ IsVisited graph listed holders k
    all k at = elim (walk.all k at) as (λ _. IsToVisit k steps ⊎ (None ≡ Some k) ⊎ IsVisited graph listed holders k) [ inl h ↦ inl (no_visit k v old steps h) | inr rest ↦ inr rest ]

-- ---- the beginning and the end

-- no number stands for the leaves of a root
initial_represent : (table : List TermKey) (numbers : List (Option ℕ)) (count root : ℕ) → numbers ≡ replicate count None → Represent table numbers root (initial_terms root)
initial_represent table numbers count root is = record { each = λ v lt. subst (λ o. RepresentsAt table root v o (initial_terms root v)) (sym (ap (λ l. slice_index_or l v None) is ∙ get_or-replicate count v None None (subst (λ k. v < k) (ap length is ∙ length-replicate count None) lt))) refl }

-- visits of roots leave the numbers
visits_restore : (steps : List Step) (numbers : List (Option ℕ)) → ((i : ℕ) (step : Step) → slice_get steps i ≡ Some step → (n : ℕ) × (step ≡ Visit n n)) → restored steps numbers ≡ numbers
visits_restore [] numbers only = refl
visits_restore (Visit n root ∷ steps) numbers only = visits_restore steps numbers (λ i step at. only (suc i) step at)
visits_restore (Restore v old ∷ steps) numbers only = let bad = only 0 (Restore v old) refl in differs bad.1
  where
    differs : {n : ℕ} {A : Type 0} → Restore v old ≡ Visit n n → A
    differs e = cc

-- visits of roots are ready where no variable has a number
roots_ready : (shared : ℕ) (nodes : List Node) (table : List TermKey) (numbers : List (Option ℕ)) (count : ℕ) (roots : List Bool) → numbers ≡ replicate count None → AreRoots nodes roots → (steps : List Step)
    → ((i : ℕ) (step : Step) → slice_get steps i ≡ Some step → (n : ℕ) × (step ≡ Visit n n) × (slice_get roots n ≡ Some true)) → AreReady shared nodes table numbers steps
roots_ready shared nodes table numbers count roots none are [] only = tt
roots_ready shared nodes table numbers count roots none are (Visit n root ∷ steps) only =
    let own = only 0 (Visit n root) refl in
    (ready own.0 own.1 own.2, roots_ready shared nodes table numbers count roots none are steps (λ i step at. only (suc i) step at))
  where
    parts : (k : ℕ) → Visit n root ≡ Visit k k → (n ≡ k) × (root ≡ k)
    parts k e = (cc, cc)

    visits : (i : ℕ) (step : Step) → slice_get steps i ≡ Some step → (m : ℕ) × (step ≡ Visit m m)
    visits i step at = let o = only (suc i) step at in (o.0, o.1)

    ready : (k : ℕ) → Visit n root ≡ Visit k k → slice_get roots k ≡ Some true → IsReady shared nodes table (restored steps numbers) n root
    ready k e on =
        let p = parts k e in
        let within : k < length nodes = omega (arith, slice_get_within roots k true on, are.long) in
        let is : is_root nodes k ≡ true = same_Some _ _ (sym (are.are k within) ∙ on) in
        record {
          within = subst (λ j. j < length nodes) (sym p.0) within;
          before = [];
          path = (p.0 ∙ sym p.1, subst (λ j. is_root nodes j ≡ true) (sym p.0) is);
          represent = initial_represent table (restored steps numbers) count root (visits_restore steps numbers visits ∙ none);
        }
roots_ready shared nodes table numbers count roots none are (Restore v old ∷ steps) only = let bad = only 0 (Restore v old) refl in differs bad.1
  where
    differs : {n : ℕ} {A : Type 0} → Restore v old ≡ Visit n n → A
    differs e = cc

-- the walk before its first step
pub begins : (graph : GraphShape) (table : List TermKey) (numbers holders : List (Option ℕ)) (roots : List Bool) (steps : List Step) → numbers ≡ replicate (length graph.vars) None → holders ≡ replicate (length graph.nodes) None
    → table ≡ [] → AreRoots graph.nodes roots → VisitRoots roots steps → IsUnderWay graph table numbers roots steps holders None
begins graph table numbers holders roots steps none unheld no_keys are visits = record {
  numbers_long = ap length none ∙ length-replicate (length graph.vars) None;
  listed_long = are.long;
  holders_long = ap length unheld ∙ length-replicate (length graph.nodes) None;
  roots = λ n lt is. are.are n lt ∙ ap Some is;
  ready = roots_ready graph.shared graph.nodes table numbers (length graph.vars) roots none are steps visits.only;
  stand = none_stand table no_keys;
  entries = no_entries graph table no_keys;
  all = λ n at. let v = visits.has n at in inl (v.0, n, v.1);
}

-- when no step is left, all nodes have been visited
module _ (graph : GraphShape) (is_graph : IsGraph graph.vars graph.received graph.nodes) (table : List TermKey) (numbers : List (Option ℕ)) (listed : List Bool) (holders : List (Option ℕ)) (walk : IsUnderWay graph table numbers listed [] holders None) where
  -- each node that is listed
  listed_visited : (n : ℕ) → slice_get listed n ≡ Some true → IsVisited graph listed holders n
  listed_visited n at = elim (walk.all n at) as (λ _. IsVisited graph listed holders n) [
    | inl v ↦ (let none : None ≡ Some (Visit n v.1) = v.2 in cc)
    | inr rest ↦ elim rest as (λ _. IsVisited graph listed holders n) [ inl e ↦ (let none : None ≡ Some n = e in cc) | inr v ↦ v ]
  ]

  -- as each is that is reached
  reached_listed : (n : ℕ) → Reached graph.nodes n → slice_get listed n ≡ Some true
  reached_listed n at_start = walk.roots 0 (slice_get_within graph.nodes 0 _ is_graph.can.start.1) refl
  reached_listed n (along m slot s reached edge) = let v = listed_visited m (reached_listed m reached) in v.succs s (slot, edge)

  -- so all are listed
  pub all_listed : (n : ℕ) → n < length graph.nodes → slice_get listed n ≡ Some true
  all_listed n lt = reached_listed n (is_graph.reached n lt)

  -- and have their holders
  pub all_visited : AreHolders graph holders
  all_visited = record {
    long = walk.holders_long;
    each = λ n node here. let v = listed_visited n (all_listed n (slice_get_within graph.nodes n node here)) in v.holder node here;
  }
