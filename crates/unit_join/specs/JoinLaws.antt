-- Laws: a graph can be made of the nodes with leaves, and they make no calls but those of the graph. For proofs only.
use Rattle.std.proofs.Common.{◌≡◌, ◌⊎◌, inl, inr, ℕ, zero, suc, ◌+◌, ◌-◌, ◌<◌, ◌≤◌, Bool, true, false, ◌||◌, if◌then◌else◌, nat_eq, List, [], ◌∷◌, ◌++◌, drop, length, flat_map, length-append, map, slice_get, pos, Option, Some, None, refl, sym, ap, ◌∙◌, subst, arith}
use Rattle.std.proofs.lemmas.Bool.{cases_lt, eq-eqb, eqb-true}
use Rattle.std.proofs.lemmas.List.{length-map}
use Rattle.std.proofs.lemmas.Option.{slice_get-map, slice_get_within}
use Rattle.mir_base.specs.declared.instructions.Operand.{Operand}
use Rattle.mir_base.specs.declared.instructions.Operand.TheVariants.{Var, Const}
use Rattle.mir_base.specs.declared.instructions.Rhs.{Rhs}
use Rattle.mir_base.specs.declared.instructions.Rhs.TheVariants.{Plain, Unary, Binary}
use Rattle.mir_base.specs.declared.instructions.Test.{Test as Condition}
use Rattle.mir_base.specs.declared.instructions.Test.TheVariants.{Rel, Holds, Fails}
use Rattle.mir_base.specs.BelowLaws.{all_below_append, all_below_left, all_below_more, all_below_right}
use Rattle.mir_base.specs.Shapes.{AllBelow, into_vars, operand_vars, rhs_vars, test_vars}
use Rattle.flow_graph.specs.declared.nodes.Node.{Node}
use Rattle.flow_graph.specs.declared.nodes.Node.TheVariants.{Start, Skip, Assign, Print, Guard, Call, Test, Return}
use Rattle.flow_graph.specs.Calls.{NodesCall, node_call}
use Rattle.flow_graph.specs.Graphs.{CanMake, GraphShape, node_succs, node_vars, succs_of}
use Rattle.graph_edit.specs.Insertions.{Insertion, InsertionsBelow}
use Rattle.flow_graph.specs.ListLaws.{get_append}
use Rattle.flow_graph.specs.NodeLaws.{mapped_from}
use Rattle.flow_graph.specs.Numbering.{is_in, renamed_operand, renamed_rhs, renamed_test, seen_after}
use Rattle.flow_graph.specs.NumberingLaws.{is_in_first, is_in_last, seen_grows}
use Rattle.flow_graph.specs.Plans.{start_succ}
use Rattle.program_pass.specs.ChainLaws.{put_or_not}
use Rattle.program_pass.specs.Chains.{stood}
use Rattle.unit_join.specs.JoinValues.{copy_global, copy_other}
use Rattle.unit_join.specs.JoinedNodes.{drop_first, stood_count, with_leaf, with_leaf_kept, with_leaf_long}
use Rattle.unit_join.specs.Joins.{LeavesAreJoined, IsLeafCall, LeavesCan, LeavesShare, called_leaves, copies, copy_in, entered, entry_assignments, first_copy, first_place, if_leaf, leaf_at, leaf_called, leaf_node, leaf_place, returned_node, leaf_vars, zeroed}
use Rattle.program_pass.specs.StoodLaws.{IsNew, below_append, stood_node}

-- ---- variables in range

-- an operand, a right side and a test with copies for their variables
operand_below : (copy : ℕ → ℕ) (count all : ℕ) → ((x : ℕ) → x < count → copy x < all) → (a : Operand)
    → AllBelow count (operand_vars a) → AllBelow all (operand_vars (renamed_operand copy a))
operand_below copy count all low (Var x) below = (low x below.0, tt)
operand_below copy count all low (Const c) below = tt

-- a right side
rhs_below : (copy : ℕ → ℕ) (count all : ℕ) → ((x : ℕ) → x < count → copy x < all) → (rhs : Rhs)
    → AllBelow count (rhs_vars rhs) → AllBelow all (rhs_vars (renamed_rhs copy rhs))
rhs_below copy count all low (Plain a) below = operand_below copy count all low a below
rhs_below copy count all low (Unary op a) below = operand_below copy count all low a below
rhs_below copy count all low (Binary op a b) below =
    all_below_append all (operand_vars (renamed_operand copy a)) (operand_vars (renamed_operand copy b)) (operand_below copy count all low a (all_below_left count (operand_vars a) (operand_vars b) below))
    (operand_below copy count all low b (all_below_right count (operand_vars a) (operand_vars b) below))

-- a test
test_below : (copy : ℕ → ℕ) (count all : ℕ) → ((x : ℕ) → x < count → copy x < all) → (test : Condition)
    → AllBelow count (test_vars test) → AllBelow all (test_vars (renamed_test copy test))
test_below copy count all low (Rel op a b) below =
    all_below_append all (operand_vars (renamed_operand copy a)) (operand_vars (renamed_operand copy b)) (operand_below copy count all low a (all_below_left count (operand_vars a) (operand_vars b) below))
    (operand_below copy count all low b (all_below_right count (operand_vars a) (operand_vars b) below))
test_below copy count all low (Holds a) below = operand_below copy count all low a below
test_below copy count all low (Fails a) below = operand_below copy count all low a below

-- the assignments of a call
entered_below : (copy : ℕ → ℕ) (vars count all : ℕ) → vars ≤ all → ((x : ℕ) → x < count → copy x < all)
    → (received : List ℕ) (operands : List Operand) → AllBelow count received
    → AllBelow vars (flat_map operand_vars operands) → InsertionsBelow all (entered copy received operands)
entered_below copy vars count all le low [] operands below read = tt
entered_below copy vars count all le low (x ∷ received) [] below read = tt
entered_below copy vars count all le low (x ∷ received) (a ∷ operands) below read =
    ((low x below.0, all_below_more vars all (operand_vars a) le (all_below_left vars (operand_vars a) (flat_map operand_vars operands) read)), entered_below copy vars count all le low received operands below.1 (all_below_right vars (operand_vars a) (flat_map operand_vars operands) read))

-- those that become 0
zeroed_below : (copy : ℕ → ℕ) (bound all : ℕ) → ((x : ℕ) → x < bound → copy x < all)
    → (received : List ℕ) (count y : ℕ) → y + count ≤ bound → InsertionsBelow all (zeroed copy received y count)
zeroed_below copy bound all low received zero y room = tt
zeroed_below copy bound all low received (suc count) y room =
    put_or_not (InsertionsBelow all) (is_in y received) (record { var = copy y; rhs = Plain (Const (pos 0)) }) (zeroed copy received (suc y) count)
    (λ is. zeroed_below copy bound all low received count (suc y) (omega (arith, room)))
    (λ is. ((low y (omega (arith, room)), tt), zeroed_below copy bound all low received count (suc y) (omega (arith, room))))

-- ---- one leaf in the place of a call

module _ (vars all : ℕ) (copy : ℕ → ℕ) (leaf : GraphShape) (le : vars ≤ all) (low : (x : ℕ) → x < length leaf.vars → copy x < all) (leaf_can : CanMake leaf.vars leaf.received leaf.nodes) (leaf_least : leaf.shared ≤ length leaf.vars) where
  -- the assignments are in range
  entry_below : (operands : List Operand) → AllBelow vars (flat_map operand_vars operands) → InsertionsBelow all (entry_assignments copy leaf operands)
  entry_below operands read =
      below_append all (entered copy leaf.received operands) (zeroed copy leaf.received leaf.shared (length leaf.vars - leaf.shared)) (entered_below copy vars (length leaf.vars) all le low leaf.received operands leaf_can.received_below read)
      (zeroed_below copy (length leaf.vars) all low leaf.received (length leaf.vars - leaf.shared) leaf.shared (omega (arith, leaf_least)))

  -- a node of the leaf leads to a node of the leaf, or to where the call leads
  record IsLeafNode (first last next : ℕ) (node : Node) : Type 0 where
    succs : (slot s : ℕ) → slice_get (node_succs node) slot ≡ Some s → (s ≡ next) ⊎ ((first ≤ s) × (s < last))
    below : AllBelow all (node_vars node)
    call : node_call node ≡ None
    no_start : (s : ℕ) → node ≡ Start s → ⊥

  -- one successor
  only_one : (first last next to : ℕ) → (to ≡ next) ⊎ ((first ≤ to) × (to < last)) → (slot s : ℕ)
      → slice_get (to ∷ []) slot ≡ Some s → (s ≡ next) ⊎ ((first ≤ s) × (s < last))
  only_one first last next to range zero s e = let same : to ≡ s = cc in subst (λ n. (n ≡ next) ⊎ ((first ≤ n) × (n < last))) same range
  only_one first last next to range (suc slot) s e = cc

  -- a place of the leaf
  place_within : (first m : ℕ) → (1 ≤ m) × (m < length leaf.nodes) → (first ≤ leaf_place first m) × (leaf_place first m < first + (length leaf.nodes - 1))
  place_within first m range = let ge = range.0 in let lt = range.1 in (omega arith, omega (arith, ge, lt))

  -- what a Return becomes
  returned_is : (first last next : ℕ) (into : Option ℕ) (a : Operand) → AllBelow all (into_vars into)
      → AllBelow all (operand_vars a) → IsLeafNode first last next (returned_node into a next)
  returned_is first last next None a into_below below = record { succs = λ slot s e. only_one first last next next (inl refl) slot s e; below = tt; call = refl; no_start = λ s e. cc }
  returned_is first last next (Some x) a into_below below = record { succs = λ slot s e. only_one first last next next (inl refl) slot s e; below = (into_below.0, below); call = refl; no_start = λ s e. cc }

  leaf_node_is : (first next : ℕ) (into : Option ℕ) (node : Node) → AllBelow all (into_vars into)
      → ((slot s : ℕ) → slice_get (node_succs node) slot ≡ Some s → (1 ≤ s) × (s < length leaf.nodes))
      → AllBelow (length leaf.vars) (node_vars node)
      → IsLeafNode first (first + (length leaf.nodes - 1)) next (leaf_node copy (leaf_place first) into next node)
  leaf_node_is first next into (Start succ) into_below succs below = record { succs = λ slot s e. only_one first (first + (length leaf.nodes - 1)) next (leaf_place first succ) (inr (place_within first succ (succs 0 succ refl))) slot s e; below = tt; call = refl; no_start = λ s e. cc }
  leaf_node_is first next into (Skip succ) into_below succs below = record { succs = λ slot s e. only_one first (first + (length leaf.nodes - 1)) next (leaf_place first succ) (inr (place_within first succ (succs 0 succ refl))) slot s e; below = tt; call = refl; no_start = λ s e. cc }
  leaf_node_is first next into (Assign x rhs succ) into_below succs below = record { succs = λ slot s e. only_one first (first + (length leaf.nodes - 1)) next (leaf_place first succ) (inr (place_within first succ (succs 0 succ refl))) slot s e; below = (low x below.0, rhs_below copy (length leaf.vars) all low rhs below.1); call = refl; no_start = λ s e. cc }
  leaf_node_is first next into (Print a succ) into_below succs below = record { succs = λ slot s e. only_one first (first + (length leaf.nodes - 1)) next (leaf_place first succ) (inr (place_within first succ (succs 0 succ refl))) slot s e; below = operand_below copy (length leaf.vars) all low a below; call = refl; no_start = λ s e. cc }
  leaf_node_is first next into (Guard test number succ) into_below succs below = record { succs = λ slot s e. only_one first (first + (length leaf.nodes - 1)) next (leaf_place first succ) (inr (place_within first succ (succs 0 succ refl))) slot s e; below = test_below copy (length leaf.vars) all low test below; call = refl; no_start = λ s e. cc }
  leaf_node_is first next into (Call into' unit operands succ) into_below succs below = record { succs = λ slot s e. only_one first (first + (length leaf.nodes - 1)) next (leaf_place first succ) (inr (place_within first succ (succs 0 succ refl))) slot s e; below = tt; call = refl; no_start = λ s e. cc }
  leaf_node_is first next into (Test test taken other) into_below succs below = record { succs = λ slot s e. two slot s e; below = test_below copy (length leaf.vars) all low test below; call = refl; no_start = λ s e. cc }
    where
      two : (slot s : ℕ) → slice_get (leaf_place first taken ∷ leaf_place first other ∷ []) slot ≡ Some s
          → (s ≡ next) ⊎ ((first ≤ s) × (s < first + (length leaf.nodes - 1)))
      two zero s e = let same : leaf_place first taken ≡ s = cc in inr (subst (λ n. (first ≤ n) × (n < first + (length leaf.nodes - 1))) same (place_within first taken (succs 0 taken refl)))
      two (suc zero) s e = let same : leaf_place first other ≡ s = cc in inr (subst (λ n. (first ≤ n) × (n < first + (length leaf.nodes - 1))) same (place_within first other (succs 1 other refl)))
      two (suc (suc slot)) s e = cc
  leaf_node_is first next into (Return a) into_below succs below = returned_is first (first + (length leaf.nodes - 1)) next into (renamed_operand copy a) into_below (operand_below copy (length leaf.vars) all low a below)

-- ---- the leaves that are called

-- what is in the second of two lists is in both joined
in_back : (x : ℕ) (xs ys : List ℕ) → is_in x ys ≡ true → is_in x (xs ++ ys) ≡ true
in_back x [] ys there = there
in_back x (y ∷ xs) ys there = ap (λ b. nat_eq y x || b) (in_back x xs ys there) ∙ or_true (nat_eq y x)
  where
    or_true : (b : Bool) → b || true ≡ true
    or_true true = refl
    or_true false = refl

-- what one item gives is among what all give
in_flat : {A : Type 0} (f : A → List ℕ) (xs : List A) (n : ℕ) (item : A) (x : ℕ) → slice_get xs n ≡ Some item
    → is_in x (f item) ≡ true → is_in x (flat_map f xs) ≡ true
in_flat f [] n item x at there = cc
in_flat f (y ∷ xs) zero item x at there = let same : y ≡ item = cc in is_in_first x (f y) (flat_map f xs) (ap (λ z. is_in x (f z)) same ∙ there)
in_flat f (y ∷ xs) (suc n) item x at there = in_back x (f y) (flat_map f xs) (in_flat f xs n item x at there)

-- what was seen stays seen
seen_stays : (seen xs : List ℕ) (x : ℕ) → is_in x seen ≡ true → is_in x (seen_after seen xs) ≡ true
seen_stays seen xs x there = let g = seen_grows seen xs in ap (is_in x) g.1 ∙ is_in_first x seen g.0 there

-- what is in a list is seen after it
seen_all : (seen xs : List ℕ) (x : ℕ) → is_in x xs ≡ true → is_in x (seen_after seen xs) ≡ true
seen_all seen [] x there = cc
seen_all seen (y ∷ ys) x there = chosen (is_in y seen) refl (nat_eq y x) refl there
    (λ within. seen_all seen ys x within) (λ within. seen_all (seen ++ y ∷ []) ys x within)
  where
    chosen : (b : Bool) → is_in y seen ≡ b → (c : Bool) → nat_eq y x ≡ c → nat_eq y x || is_in x ys ≡ true
        → (is_in x ys ≡ true → is_in x (seen_after seen ys) ≡ true)
        → (is_in x ys ≡ true → is_in x (seen_after (seen ++ y ∷ []) ys) ≡ true)
        → is_in x (if b then seen_after seen ys else seen_after (seen ++ y ∷ []) ys) ≡ true
    chosen true b_is true c_is e old new = let same : y ≡ x = eqb-true y x c_is in seen_stays seen ys x (ap (λ z. is_in z seen) (sym same) ∙ b_is)
    chosen true b_is false c_is e old new = old (sym (ap (λ c. c || is_in x ys) c_is) ∙ e)
    chosen false b_is true c_is e old new = let same : y ≡ x = eqb-true y x c_is in seen_stays (seen ++ y ∷ []) ys x (ap (λ z. is_in z (seen ++ y ∷ [])) (sym same) ∙ is_in_last y seen)
    chosen false b_is false c_is e old new = new (sym (ap (λ c. c || is_in x ys) c_is) ∙ e)

-- the leaf of each call is one of those that are called
called_in : (leaves : List (Option GraphShape)) (nodes : List Node) (n : ℕ) (c : IsLeafCall leaves nodes n) → is_in c.unit (called_leaves leaves nodes) ≡ true
called_in leaves nodes n c = seen_all [] (flat_map (leaf_called leaves) nodes) c.unit
    (in_flat (leaf_called leaves) nodes n (Call c.into c.unit c.operands c.next) c.unit c.is (ap (λ o. is_in c.unit (if_leaf c.unit o)) c.leaf_is ∙ ap (λ b. b || false) (eq-eqb c.unit c.unit refl)))

-- the copies of a unit that is called are among all copies
copies_low : (leaves : List (Option GraphShape)) (units : List ℕ) (first unit : ℕ) → is_in unit units ≡ true
    → first_copy leaves units first unit + leaf_vars (leaf_at leaves unit) ≤ first + copies leaves units
copies_low leaves [] first unit there = cc
copies_low leaves (u ∷ units) first unit there = chosen (nat_eq u unit) refl there (λ within. copies_low leaves units (first + leaf_vars (leaf_at leaves u)) unit within)
  where
    chosen : (b : Bool) → nat_eq u unit ≡ b → nat_eq u unit || is_in unit units ≡ true
        → (is_in unit units ≡ true → first_copy leaves units (first + leaf_vars (leaf_at leaves u)) unit + leaf_vars (leaf_at leaves unit) ≤ (first + leaf_vars (leaf_at leaves u)) + copies leaves units)
        → (if b then first else first_copy leaves units (first + leaf_vars (leaf_at leaves u)) unit) + leaf_vars (leaf_at leaves unit) ≤ first + (leaf_vars (leaf_at leaves u) + copies leaves units)
    chosen true is e rest = let same : leaf_vars (leaf_at leaves u) ≡ leaf_vars (leaf_at leaves unit) = ap (λ z. leaf_vars (leaf_at leaves z)) (eqb-true u unit is) in omega (arith, same)
    chosen false is e rest = let le = rest (sym (ap (λ c. c || is_in unit units) is) ∙ e) in omega (arith, le)

-- ---- all of them

module _ (leaves : List (Option GraphShape)) (graph : GraphShape) (names : List (List ℕ)) (can : CanMake graph.vars graph.received graph.nodes) (leaves_can : LeavesCan leaves) (long : length names ≡ copies leaves (called_leaves leaves graph.nodes)) (least : graph.shared ≤ length graph.vars) (share : LeavesShare leaves graph.shared) where
  abbrev units : List ℕ
  units = called_leaves leaves graph.nodes

  abbrev all_vars : List (List ℕ)
  all_vars = graph.vars ++ names

  -- the graph's variables are among all
  vars_le : length graph.vars ≤ length all_vars
  vars_le = omega (arith, length-append graph.vars names)

  -- and so are the copies of a leaf that is called
  copy_low : (n : ℕ) (c : IsLeafCall leaves graph.nodes n) (x : ℕ) → x < length c.leaf.vars
      → copy_in graph.shared leaves units (length graph.vars) c.unit x < length all_vars
  copy_low n c x lt = elim (cases_lt x graph.shared) [
    | inl global ↦
        let is = copy_global graph.shared (first_copy leaves units (length graph.vars) c.unit) x global in
        subst (λ k. k < length all_vars) (sym is) (omega (arith, global, least, vars_le))
    | inr other ↦
        let is = copy_other graph.shared (first_copy leaves units (length graph.vars) c.unit) x other in
        let low = copies_low leaves units (length graph.vars) c.unit (called_in leaves graph.nodes n c) in
        let vars : leaf_vars (leaf_at leaves c.unit) ≡ length c.leaf.vars - c.leaf.shared = ap leaf_vars c.leaf_is in
        let alike = share c.unit c.leaf c.leaf_is in
        subst (λ k. k < length all_vars) (sym is) (omega (arith, low, vars, alike, other, lt, long, length-append graph.vars names))
  ]

  -- the assignments of a call are in range
  call_below : (n : ℕ) (c : IsLeafCall leaves graph.nodes n)
      → InsertionsBelow (length all_vars) (entry_assignments (copy_in graph.shared leaves units (length graph.vars) c.unit) c.leaf c.operands)
  call_below n c =
      entry_below (length graph.vars) (length all_vars) (copy_in graph.shared leaves units (length graph.vars) c.unit) c.leaf vars_le (copy_low n c) (leaves_can c.unit c.leaf c.leaf_is).0 (leaves_can c.unit c.leaf c.leaf_is).1.count c.operands
      (all_below_right (length graph.vars) (into_vars c.into) (flat_map operand_vars c.operands) (can.below n (Call c.into c.unit c.operands c.next) c.is))

  -- a call is not the first node
  call_later : (n : ℕ) → IsLeafCall leaves graph.nodes n → 1 ≤ n
  call_later zero c = let e : Some (Start can.start.0) ≡ Some (Call c.into c.unit c.operands c.next) = sym can.start.1 ∙ c.is in cc
  call_later (suc n) c = omega arith

  module _ (nodes : List Node) (n : ℕ) (c : IsLeafCall leaves graph.nodes n) (lt : n < length nodes) where
    abbrev to : ℕ → ℕ
    to = copy_in graph.shared leaves units (length graph.vars) c.unit

    abbrev puts : List Insertion
    puts = entry_assignments to c.leaf c.operands

    abbrev first : ℕ
    first = first_place (length nodes) puts

    abbrev end : ℕ
    end = leaf_place first (start_succ (slice_get c.leaf.nodes 0))

    abbrev front : List Node
    front = stood nodes n puts end

    abbrev back : List Node
    back = map (leaf_node to (leaf_place first) c.into c.next) (drop 1 c.leaf.nodes)

    -- how many nodes the leaf gives
    back_long : length back ≡ length c.leaf.nodes - 1
    back_long = length-map (drop 1 c.leaf.nodes) (leaf_node to (leaf_place first) c.into c.next) ∙ length_drop c.leaf.nodes
      where
        length_drop : (xs : List Node) → length (drop 1 xs) ≡ length xs - 1
        length_drop [] = refl
        length_drop (x ∷ xs) = omega arith

    all_long : length (front ++ back) ≡ first + (length c.leaf.nodes - 1)
    all_long = let one = length-append front back in let two = stood_count nodes n puts end in let three = back_long in omega (arith, one, two, three)

    -- a node was there before, or is new, or is one of the leaf
    one_of : (m : ℕ) (node : Node) → slice_get (with_leaf leaves units graph nodes n c) m ≡ Some node
        → (slice_get nodes m ≡ Some node) ⊎ (IsNew (length all_vars) (length nodes) (length front) end node ⊎ IsLeafNode (length graph.vars) (length all_vars) to c.leaf vars_le (copy_low n c) (leaves_can c.unit c.leaf c.leaf_is).0 (leaves_can c.unit c.leaf c.leaf_is).1.count first (first + (length c.leaf.nodes - 1)) c.next node)
    one_of m node e = elim (get_append front back m node e) [
      | inl old ↦ elim (stood_node (length all_vars) nodes n puts end lt (call_below n c) m node old) [ inl kept ↦ inl kept.1 | inr new ↦ inr (inl new.1) ]
      | inr leaf ↦
          let from = mapped_from (leaf_node to (leaf_place first) c.into c.next) (slice_get (drop 1 c.leaf.nodes) leaf.0) node (sym (slice_get-map (leaf_node to (leaf_place first) c.into c.next) (drop 1 c.leaf.nodes) leaf.0) ∙ leaf.2) in
          let same : suc leaf.0 - 1 ≡ leaf.0 = omega arith in
          let at : slice_get c.leaf.nodes (suc leaf.0) ≡ Some from.0 = sym (drop_first c.leaf.nodes (suc leaf.0) (omega arith)) ∙ ap (slice_get (drop 1 c.leaf.nodes)) same ∙ from.1 in
          let leaf_can = (leaves_can c.unit c.leaf c.leaf_is).0 in
          let into_below = all_below_more (length graph.vars) (length all_vars) (into_vars c.into) vars_le (all_below_left (length graph.vars) (into_vars c.into) (flat_map operand_vars c.operands) (can.below n (Call c.into c.unit c.operands c.next) c.is)) in
          inr (inr (subst (IsLeafNode (length graph.vars) (length all_vars) to c.leaf vars_le (copy_low n c) leaf_can (leaves_can c.unit c.leaf c.leaf_is).1.count first (first + (length c.leaf.nodes - 1)) c.next) from.2
          (leaf_node_is (length graph.vars) (length all_vars) to c.leaf vars_le (copy_low n c) leaf_can (leaves_can c.unit c.leaf c.leaf_is).1.count first c.next c.into from.0 into_below
          (λ slot s edge. leaf_can.succs (suc leaf.0) slot s (ap (λ o. slice_get (succs_of o) slot) at ∙ edge)) (leaf_can.below (suc leaf.0) from.0 at))))
    ]

    -- where the assignments lead on
    end_within : (first ≤ end) × (end < first + (length c.leaf.nodes - 1))
    end_within =
        let leaf_can = (leaves_can c.unit c.leaf c.leaf_is).0 in
        let after = leaf_can.succs 0 0 leaf_can.start.0 (ap (λ o. slice_get (succs_of o) 0) leaf_can.start.1) in
        let is : start_succ (slice_get c.leaf.nodes 0) ≡ leaf_can.start.0 = ap start_succ leaf_can.start.1 in
        let ge = after.0 in
        let lt' = after.1 in
        (omega arith, omega (arith, is, ge, lt'))

    -- a graph can be made of them
    with_leaf_can : length graph.nodes ≤ length nodes → CanMake all_vars graph.received nodes
        → CanMake all_vars graph.received (with_leaf leaves units graph nodes n c)
    with_leaf_can le made =
        let later = call_later n c in
        record {
          start = (made.start.0, with_leaf_kept leaves units graph nodes n c 0 (λ same. omega (arith, same, later)) (omega (arith, lt)) ∙ made.start.1);
          only = λ m s e. elim (one_of m (Start s) e) [
            | inl old ↦ made.only m s old
            | inr other ↦ elim other [ inl new ↦ absurd (new.no_start s refl) | inr leaf ↦ absurd (leaf.no_start s refl) ]
          ];
          succs = λ m slot s edge. succs_at m slot s (slice_get (with_leaf leaves units graph nodes n c) m) refl edge;
          below = λ m node e. elim (one_of m node e) [ inl old ↦ made.below m node old | inr other ↦ elim other [ inl new ↦ new.below | inr leaf ↦ leaf.below ] ];
          received_below = made.received_below;
          received_differ = made.received_differ;
          names = made.names;
        }
      where
        succs_at : (m slot s : ℕ) (o : Option Node) → slice_get (with_leaf leaves units graph nodes n c) m ≡ o
            → slice_get (succs_of o) slot ≡ Some s → (1 ≤ s) × (s < length (with_leaf leaves units graph nodes n c))
        succs_at m slot s None e edge = cc
        succs_at m slot s (Some node) e edge =
            let total = all_long in
            let count = stood_count nodes n puts end in
            let ends = end_within in
            let low = ends.0 in
            let high = ends.1 in
            elim (one_of m node e) [
              | inl old ↦ let there = made.succs m slot s (ap (λ o. slice_get (succs_of o) slot) old ∙ edge) in let ge = there.0 in let lt' = there.1 in (ge, omega (arith, lt', total))
              | inr other ↦ elim other [
                | inl new ↦ elim (new.succs slot s edge) [
                  | inl same ↦ (omega (arith, same, low, lt), omega (arith, same, high, total))
                  | inr within ↦ let ge = within.0 in let lt' = within.1 in (omega (arith, ge, lt), omega (arith, lt', count, total))
                ]
                | inr leaf ↦ elim (leaf.succs slot s edge) [
                  | inl same ↦ let there = can.succs n 0 c.next (ap (λ o. slice_get (succs_of o) 0) c.is) in let ge = there.0 in let lt' = there.1 in (omega (arith, same, ge), omega (arith, same, lt', le, total))
                  | inr within ↦ let ge = within.0 in let lt' = within.1 in (omega (arith, ge, lt), omega (arith, lt', total))
                ]
              ]
            ]

    -- with the nodes of a leaf in the place of a call, nodes make no calls but those that they made before
    with_leaf_calls : (called count : ℕ) → NodesCall (with_leaf leaves units graph nodes n c) called count → NodesCall nodes called count
    with_leaf_calls called count made = elim (one_of made.number made.node made.here) [
      | inl old ↦ record { number = made.number; node = made.node; here = old; calls = made.calls }
      | inr other ↦ elim other [
        | inl new ↦ absurd (none_is_some (sym new.call ∙ made.calls))
        | inr leaf ↦ absurd (none_is_some (sym leaf.call ∙ made.calls))
      ]
    ]
      where
        none_is_some : {p : ℕ × ℕ} → None ≡ Some p → ⊥
        none_is_some e = cc

  -- a graph can be made of the nodes with leaves, by one after the other
  pub joined_can : (calls : List ℕ) (nodes joined : List Node) → length graph.nodes ≤ length nodes
      → CanMake all_vars graph.received nodes → LeavesAreJoined leaves units graph calls nodes joined
      → CanMake all_vars graph.received joined
  joined_can [] nodes joined le made are = subst (CanMake all_vars graph.received) (sym are) made
  joined_can (n ∷ calls) nodes joined le made are =
      let there = slice_get_within graph.nodes n (Call are.0.into are.0.unit are.0.operands are.0.next) are.0.is in
      let lt : n < length nodes = omega (arith, there, le) in
      joined_can calls (with_leaf leaves units graph nodes n are.0) joined (omega (arith, le, with_leaf_long leaves units graph nodes n are.0)) (with_leaf_can nodes n are.0 lt le made) are.1

  -- nodes with leaves in the places of calls make no calls but those of the graph
  pub joined_calls : (calls : List ℕ) (nodes joined : List Node) → length graph.nodes ≤ length nodes
      → LeavesAreJoined leaves units graph calls nodes joined → (called count : ℕ) → NodesCall joined called count
      → NodesCall nodes called count
  joined_calls [] nodes joined le are called count c = subst (λ l. NodesCall l called count) are c
  joined_calls (n ∷ calls) nodes joined le are called count c =
      let there = slice_get_within graph.nodes n (Call are.0.into are.0.unit are.0.operands are.0.next) are.0.is in
      let lt : n < length nodes = omega (arith, there, le) in
      with_leaf_calls nodes n are.0 lt called count (joined_calls calls (with_leaf leaves units graph nodes n are.0) joined (omega (arith, le, with_leaf_long leaves units graph nodes n are.0)) are.1 called count c)
