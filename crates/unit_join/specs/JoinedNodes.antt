-- Where the leaves stand among the nodes of their caller: each in the place of its call, with copies of its own for its
-- variables, and all other nodes as they were. For proofs only.
use Rattle.std.proofs.Common.{◌≡◌, inl, inr, ℕ, zero, suc, ◌+◌, ◌-◌, ◌<◌, ◌≤◌, Bool, true, false, if◌then◌else◌, nat_eq, List, [], ◌∷◌, ◌++◌, drop, length, length-append, map, slice_get, slice_set, Option, Some, option_map, refl, sym, ap, ◌∙◌, subst, arith, le_refl}
use Rattle.std.proofs.lemmas.List.{length-set}
use Rattle.std.proofs.lemmas.Option.{slice_get-map, slice_get_within}
use Rattle.flow_graph.specs.declared.nodes.Node.{Node}
use Rattle.flow_graph.specs.declared.nodes.Node.TheVariants.{Skip, Assign}
use Rattle.flow_graph.specs.Graphs.{GraphShape}
use Rattle.graph_edit.specs.Insertions.{Insertion, chain, entry_among}
use Rattle.flow_graph.specs.ListLaws.{get_left, get_right_at}
use Rattle.flow_graph.specs.Numbering.{IsIn}
use Rattle.flow_graph.specs.Plans.{start_succ}
use Rattle.program_pass.specs.Chains.{stood}
use Rattle.program_pass.specs.ChainLaws.{StandsAt, chain_long, stands_moves, stood_kept, stood_long, stood_stands}
use Rattle.unit_join.specs.JoinValues.{copy_global, copy_of_one, copy_other}
use Rattle.unit_join.specs.Joins.{LeavesAreJoined, IsLeafCall, copy_in, entry_assignments, first_copy, first_place, nodes_with_leaf, leaf_at, leaf_node, leaf_place, leaf_vars}
use Rattle.flow_graph.specs.MemberLaws.{place_of_member}

-- ---- the nodes with leaves

-- copies come after the variables of the graph
first_above : (leaves : List (Option GraphShape)) (units : List ℕ) (first unit : ℕ) → first ≤ first_copy leaves units first unit
first_above leaves [] first unit = le_refl first
first_above leaves (u ∷ units) first unit = chosen (nat_eq u unit) (first_above leaves units (first + leaf_vars (leaf_at leaves u)) unit)
  where
    chosen : (b : Bool)
        → first + leaf_vars (leaf_at leaves u) ≤ first_copy leaves units (first + leaf_vars (leaf_at leaves u)) unit
        → first ≤ (if b then first else first_copy leaves units (first + leaf_vars (leaf_at leaves u)) unit)
    chosen true le = le_refl first
    chosen false le = omega (arith, le)

-- how many nodes there are with assignments in the place of one
pub stood_count : (nodes : List Node) (n : ℕ) (puts : List Insertion) (end : ℕ) → length (stood nodes n puts end) ≡ length nodes + (length puts - 1)
stood_count nodes n [] end = let long = length-set nodes n (Skip end) in omega (arith, long)
stood_count nodes n (put ∷ puts) end =
    let node : Node = Assign put.var put.rhs (entry_among end (length nodes) puts) in
    let long = length-set nodes n node in
    let all = length-append (slice_set nodes n node) (chain end (length nodes) puts) in
    let count = chain_long end (length nodes) puts in
    omega (arith, long, all, count)

-- the nodes of a list without its first
pub drop_first : {A : Type 0} (xs : List A) (m : ℕ) → 1 ≤ m → slice_get (drop 1 xs) (m - 1) ≡ slice_get xs m
drop_first xs zero ge = absurd (omega (arith, ge))
drop_first [] (suc m) ge = refl
drop_first (x ∷ xs) (suc m) ge = let same : suc m - 1 ≡ m = omega arith in ap (slice_get xs) same

module _ (leaves : List (Option GraphShape)) (units : List ℕ) (graph : GraphShape) where
  -- the copies of a unit's variables
  abbrev pub copy : ℕ → ℕ → ℕ
  copy unit = copy_in graph.shared leaves units (length graph.vars) unit

  -- the nodes with the leaf in the place of a call
  abbrev pub with_leaf : List Node → (n : ℕ) → IsLeafCall leaves graph.nodes n → List Node
  with_leaf nodes n c = nodes_with_leaf nodes n (copy c.unit) c.leaf c.into c.operands c.next

  -- there are no fewer
  pub with_leaf_long : (nodes : List Node) (n : ℕ) (c : IsLeafCall leaves graph.nodes n) → length nodes ≤ length (with_leaf nodes n c)
  with_leaf_long nodes n c =
      let puts = entry_assignments (copy c.unit) c.leaf c.operands in
      let first = first_place (length nodes) puts in
      let end = leaf_place first (start_succ (slice_get c.leaf.nodes 0)) in
      let more = stood_long nodes n puts end in
      let all = length-append (stood nodes n puts end) (map (leaf_node (copy c.unit) (leaf_place first) c.into c.next) (drop 1 c.leaf.nodes)) in
      omega (arith, more, all)

  -- the other nodes stay
  pub with_leaf_kept : (nodes : List Node) (n : ℕ) (c : IsLeafCall leaves graph.nodes n) (m : ℕ) → (m ≡ n → ⊥)
      → m < length nodes → slice_get (with_leaf nodes n c) m ≡ slice_get nodes m
  with_leaf_kept nodes n c m apart lt =
      let puts = entry_assignments (copy c.unit) c.leaf c.operands in
      let first = first_place (length nodes) puts in
      let end = leaf_place first (start_succ (slice_get c.leaf.nodes 0)) in
      let more = stood_long nodes n puts end in
      get_left (stood nodes n puts end) (map (leaf_node (copy c.unit) (leaf_place first) c.into c.next) (drop 1 c.leaf.nodes)) m (omega (arith, lt, more)) ∙ stood_kept nodes n puts end m apart lt

  -- all nodes stay but these calls
  pub joined_kept : (calls : List ℕ) (nodes joined : List Node)
      → LeavesAreJoined leaves units graph calls nodes joined → (m : ℕ) → m < length nodes → (IsIn m calls → ⊥)
      → slice_get joined m ≡ slice_get nodes m
  joined_kept [] nodes joined are m lt out = ap (λ l. slice_get l m) are
  joined_kept (n ∷ calls) nodes joined are m lt out =
      joined_kept calls (with_leaf nodes n are.0) joined are.1 m (omega (arith, lt, with_leaf_long nodes n are.0)) (λ there. out (inr there))
      ∙ with_leaf_kept nodes n are.0 m (λ same. out (inl (sym same))) lt

  -- a call of a leaf, whose assignments stand in its place, and the nodes of the leaf from number `first` on
  pub record LeafStands (joined : List Node) (n : ℕ) : Type 0 where
    pub call : IsLeafCall leaves graph.nodes n
    pub fresh : ℕ
    pub first : ℕ
    pub stands : StandsAt joined n fresh (entry_assignments (copy call.unit) call.leaf call.operands) (leaf_place first (start_succ (slice_get call.leaf.nodes 0)))
    pub nodes : (m : ℕ) (node : Node) → 1 ≤ m → slice_get call.leaf.nodes m ≡ Some node
        → slice_get joined (leaf_place first m) ≡ Some (leaf_node (copy call.unit) (leaf_place first) call.into call.next node)

  -- none of the numbers is one of those after it
  abbrev pub Apart : List ℕ → Type 0
  Apart [] = Unit {0}
  Apart (n ∷ calls) = (IsIn n calls → ⊥) × Apart calls

  -- the leaf stands in the place of the call, also where more follows that keeps these nodes
  leaf_stands : (nodes joined : List Node) (n : ℕ) (c : IsLeafCall leaves graph.nodes n) → n < length nodes
      → slice_get joined n ≡ slice_get (with_leaf nodes n c) n
      → ((m : ℕ) → length nodes ≤ m → m < length (with_leaf nodes n c) → slice_get joined m ≡ slice_get (with_leaf nodes n c) m)
      → LeafStands joined n
  leaf_stands nodes joined n c lt here same =
      let puts = entry_assignments (copy c.unit) c.leaf c.operands in
      let first = first_place (length nodes) puts in
      let end = leaf_place first (start_succ (slice_get c.leaf.nodes 0)) in
      let front = stood nodes n puts end in
      let back = map (leaf_node (copy c.unit) (leaf_place first) c.into c.next) (drop 1 c.leaf.nodes) in
      let more = stood_long nodes n puts end in
      let count : length front ≡ first = stood_count nodes n puts end in
      let all : length (front ++ back) ≡ length front + length back = length-append front back in
      record {
        call = c;
        fresh = length nodes;
        first = first;
        stands = stands_moves front joined n (length nodes) puts end (here ∙ get_left front back n (omega (arith, lt, more)))
            (λ m ge lt'. same m ge (omega (arith, lt', all)) ∙ get_left front back m lt')
            (stood_stands nodes n puts end lt);
        nodes = λ m node ge at_m.
            let place = leaf_place first m in
            let from : slice_get (drop 1 c.leaf.nodes) (m - 1) ≡ Some node = drop_first c.leaf.nodes m ge ∙ at_m in
            let of : slice_get back (m - 1) ≡ Some (leaf_node (copy c.unit) (leaf_place first) c.into c.next node) = slice_get-map (leaf_node (copy c.unit) (leaf_place first) c.into c.next) (drop 1 c.leaf.nodes) (m - 1) ∙ ap (option_map (leaf_node (copy c.unit) (leaf_place first) c.into c.next)) from in
            let low = slice_get_within back (m - 1) (leaf_node (copy c.unit) (leaf_place first) c.into c.next node) of in
            same place (omega arith) (omega (arith, all, count, low)) ∙ get_right_at front back place (m - 1) (omega (arith, count)) ∙ of;
      }

  -- each of these leaves stands in the place of its call
  pub joined_stands : (calls : List ℕ) (nodes joined : List Node) → Apart calls
      → ((n : ℕ) → IsIn n calls → n < length nodes) → LeavesAreJoined leaves units graph calls nodes joined → (n : ℕ)
      → IsIn n calls → LeafStands joined n
  joined_stands [] nodes joined apart within are n there = absurd there
  joined_stands (m ∷ calls) nodes joined apart within are n (inl same) =
      let lt : m < length nodes = within m (inl refl) in
      let more = with_leaf_long nodes m are.0 in
      subst (LeafStands joined) same (leaf_stands nodes joined m are.0 lt
      (joined_kept calls (with_leaf nodes m are.0) joined are.1 m (omega (arith, lt, more)) apart.0)
      (λ k ge lt'. joined_kept calls (with_leaf nodes m are.0) joined are.1 k lt' (λ there. let low = within k (inr there) in absurd (omega (arith, low, ge)))))
  joined_stands (m ∷ calls) nodes joined apart within are n (inr there) =
      joined_stands calls (with_leaf nodes m are.0) joined apart.1 (λ k there'. let lt = within k (inr there') in omega (arith, lt, with_leaf_long nodes m are.0)) are.1 n there

  -- numbers in order are apart
  pub ordered_apart : (calls : List ℕ) → ((i j m n : ℕ) → i < j → slice_get calls i ≡ Some m → slice_get calls j ≡ Some n → m < n) → Apart calls
  ordered_apart [] ordered = tt
  ordered_apart (x ∷ calls) ordered = (
    λ there. let r = place_of_member x calls there in let lt = ordered 0 (suc r.0) x x (omega arith) refl r.1 in absurd (omega (arith, lt)),
    ordered_apart calls (λ i j m n lt. ordered (suc i) (suc j) m n (omega (arith, lt))),
  )

  -- where the globals are among the graph's variables, two variables have two copies, and those of variables that are
  -- no globals come after those of the graph
  pub copy_one : graph.shared ≤ length graph.vars → (unit x y : ℕ) → copy unit x ≡ copy unit y → x ≡ y
  copy_one least unit x y = let le = first_above leaves units (length graph.vars) unit in copy_of_one graph.shared (first_copy leaves units (length graph.vars) unit) x y (omega (arith, le, least))

  pub copy_above : (unit x : ℕ) → graph.shared ≤ x → length graph.vars ≤ copy unit x
  copy_above unit x own =
      let le = first_above leaves units (length graph.vars) unit in
      let is = copy_other graph.shared (first_copy leaves units (length graph.vars) unit) x own in
      subst (λ n. length graph.vars ≤ n) (sym is) (omega (arith, le))

  pub copy_same : (unit x : ℕ) → x < graph.shared → copy unit x ≡ x
  copy_same unit x lt = copy_global graph.shared (first_copy leaves units (length graph.vars) unit) x lt
