-- What is noted for variables, once a node more of a block is taken in.
use Rattle.std.proofs.Common.{◌≡◌, ℕ, suc, ◌<◌, ◌≤◌, ◌||◌, Bool, true, false, nat_eq, if◌then◌else◌, min, flat_map, List, [], ◌∷◌, ◌++◌, drop, length, slice_get, slice_set, Option, Some, None, refl, sym, ap, inl, inr, ◌∙◌, subst, arith}
use Rattle.std.specs.List.{list_any}
use Rattle.std.proofs.Math.Nat.{min-eq_left, min-eq_right}
use Rattle.std.proofs.Math.Path.{fun_ext}
use Rattle.std.proofs.lemmas.Bool.{cases_eq, eq-eqb, ne_eqb}
use Rattle.std.proofs.lemmas.List.{drop_all, length-set}
use Rattle.mir_base.specs.BelowLaws.{all_below_append, all_below_left, all_below_right}
use Rattle.mir_base.specs.Frames.{shared_vars}
use Rattle.mir_base.specs.Shapes.{AllBelow, into_vars, operand_vars, rhs_vars}
use Rattle.mir_base.specs.SharedLaws.{shared_below}
use Rattle.flow_graph.specs.declared.nodes.Node.{Node}
use Rattle.flow_graph.specs.declared.nodes.Node.TheVariants.{Start, Skip, Assign, Print, Guard, Call, Test, Return}
use Rattle.flow_graph.specs.Graphs.{GraphShape, node_reads, node_vars}
use Rattle.flow_graph.specs.ListLaws.{drop_next, set_elsewhere, set_here}
use Rattle.flow_graph.specs.Numbering.{is_in}
use Rattle.graph_edit.specs.VarLaws.{reads_below, assigned_is_in, is_in_append}
use Rattle.sink_code.specs.declared.patterns.Pattern.{Pattern}
use Rattle.sink_code.specs.declared.places.BlockPlace.{BlockPlace}
use Rattle.sink_code.specs.declared.places.BlockPlaces.{BlockPlaces}
use Rattle.graph_edit.specs.Accesses.{assigns_at, assigns_var, reads_var, assigned_vars}
use Rattle.sink_code.specs.BlockPlaces.{AreBlockPlaces, AreFrom, AreTakenIn, TakesInNode, TellFirst, accesses_at, first_where, index_in, index_or, nearest, noted, stop_by, stops_at}
use Rattle.graph_edit.specs.NodeKinds.{touches_none}

-- ---- lists of places

-- there are as many
pub noted_length : (place : BlockPlace) (xs : List ℕ) (places : List BlockPlace) → length (noted place xs places) ≡ length places
noted_length place [] places = refl
noted_length place (x ∷ xs) places = noted_length place xs (slice_set places x place) ∙ length-set places x place

-- those of two lists of variables, one after the other
pub noted_append : (place : BlockPlace) (xs ys : List ℕ) (places : List BlockPlace) → noted place (xs ++ ys) places ≡ noted place ys (noted place xs places)
noted_append place [] ys places = refl
noted_append place (x ∷ xs) ys places = noted_append place xs ys (slice_set places x place)

-- nothing is noted of a node that touches nothing
pub takes_none : (graph : GraphShape) (node : Node) (place : BlockPlace) (places : BlockPlaces) → touches_none node ≡ true → TakesInNode graph node place places places
takes_none graph (Start next) place places e = record { access = refl; assign = refl }
takes_none graph (Skip next) place places e = record { access = refl; assign = refl }
takes_none graph (Assign x rhs next) place places e = absurd (cc)
takes_none graph (Print a next) place places e = absurd (cc)
takes_none graph (Guard test number next) place places e = absurd (cc)
takes_none graph (Call into unit operands next) place places e = absurd (cc)
takes_none graph (Test test taken other) place places e = absurd (cc)
takes_none graph (Return a) place places e = absurd (cc)

-- two choices of one thing are one choice
chosen_twice : {A : Type 0} (a b : Bool) (x y : A) → (if a then x else (if b then x else y)) ≡ (if b || a then x else y)
chosen_twice true true x y = refl
chosen_twice true false x y = refl
chosen_twice false true x y = refl
chosen_twice false false x y = refl

-- what is noted for a variable
pub noted_at : (place : BlockPlace) (xs : List ℕ) (places : List BlockPlace) (x : ℕ) → AllBelow (length places) xs → slice_get (noted place xs places) x ≡ (if is_in x xs then Some place else slice_get places x)
noted_at place [] places x below = refl
noted_at place (y ∷ xs) places x below =
    let long : length (slice_set places y place) ≡ length places = length-set places y place in
    noted_at place xs (slice_set places y place) x (subst (λ n. AllBelow n xs) (sym long) below.1)
    ∙ ap (λ (o : Option BlockPlace). if is_in x xs then Some place else o) (elim (cases_eq y x) as (λ _. slice_get (slice_set places y place) x ≡ (if nat_eq y x then Some place else slice_get places x)) [
      | inl same ↦ ap (slice_get (slice_set places y place)) (sym same) ∙ set_here places y place below.0 ∙ ap (λ b. if b then Some place else slice_get places x) (sym (eq-eqb y x same))
      | inr differ ↦ set_elsewhere places y x place (λ e. differ (sym e)) ∙ ap (λ b. if b then Some place else slice_get places x) (sym (ne_eqb y x differ))
    ])
    ∙ chosen_twice (is_in x xs) (nat_eq y x) (Some place) (slice_get places x)

-- as an index in the block of the place
pub index_noted : (place : BlockPlace) (xs : List ℕ) (places : List BlockPlace) (x len : ℕ) → AllBelow (length places) xs → index_in (noted place xs places) x place.block len ≡ (if is_in x xs then place.index else index_in places x place.block len)
index_noted place xs places x len below = ap (index_or place.block len) (noted_at place xs places x below) ∙ by (is_in x xs)
  where
    by : (b : Bool) → index_or place.block len (if b then Some place else slice_get places x) ≡ (if b then place.index else index_in places x place.block len)
    by true = ap (λ c. if c then place.index else len) (eq-eqb place.block place.block refl)
    by false = refl

-- they are of this block and later ones, where they were
pub noted_from : (place : BlockPlace) (xs : List ℕ) (places : List BlockPlace) (block : ℕ) → block ≤ place.block → AllBelow (length places) xs → AreFrom block places → AreFrom block (noted place xs places)
noted_from place xs places block le below from x q is = by (is_in x xs) (sym (noted_at place xs places x below) ∙ is)
  where
    by : (b : Bool) → (if b then Some place else slice_get places x) ≡ Some q → block ≤ q.block
    by true e = let same : place ≡ q = cc in subst (λ (p : BlockPlace). block ≤ p.block) same le
    by false e = from x q e

-- ---- one node more

-- one node more is noted for the variables of which the test holds there
tells_more : (vars block index n len : ℕ) (list : List ℕ) (test : ℕ → ℕ → Bool) (xs : List ℕ) (old new : List BlockPlace)
    → slice_get list index ≡ Some n → ((x : ℕ) → test x n ≡ is_in x xs) → AllBelow (length old) xs → new ≡ noted (record { block = block; index = index }) xs old
    → TellFirst vars test block (suc index) list old → TellFirst vars test block index list new
tells_more vars block index n len list test xs old new at holds below is tells x lt =
    let place : BlockPlace = record { block = block; index = index } in
    ap (λ l. index_in l x block (length list)) is
    ∙ index_noted place xs old x (length list) below
    ∙ ap (λ b. if b then index else index_in old x block (length list)) (sym (holds x))
    ∙ ap (λ i. if test x n then index else i) (tells x lt)
    ∙ sym (ap (first_where (test x) index) (drop_next list index n at))

-- so are the variables that it reads or assigns, and those that it assigns
pub taken_more : (graph : GraphShape) (block index n : ℕ) (node : Node) (list : List ℕ) (old new : BlockPlaces)
    → slice_get list index ≡ Some n → slice_get graph.nodes n ≡ Some node
    → AllBelow (length graph.vars) (node_reads graph node ++ assigned_vars graph node) → AreTakenIn graph block (suc index) list old
    → TakesInNode graph node (record { block = block; index = index }) old new → AreTakenIn graph block index list new
taken_more graph block index n node list old new at is below taken takes =
    let place : BlockPlace = record { block = block; index = index } in
    let reads = node_reads graph node in
    let assigned = assigned_vars graph node in
    let access_below : AllBelow (length old.access.items) (reads ++ assigned) = subst (λ k. AllBelow k (reads ++ assigned)) (sym taken.access_long) below in
    let assign_below : AllBelow (length old.assign.items) assigned = subst (λ k. AllBelow k assigned) (sym taken.assign_long) (all_below_right (length graph.vars) reads assigned below) in
    let assigns_is : (x : ℕ) → assigns_at graph x n ≡ is_in x assigned = λ x. ap (assigns_var graph x) is ∙ sym (assigned_is_in graph node x) in
    record {
      access_long = ap length takes.access ∙ noted_length place (reads ++ assigned) old.access.items ∙ taken.access_long;
      assign_long = ap length takes.assign ∙ noted_length place assigned old.assign.items ∙ taken.assign_long;
      access_from = subst (AreFrom block) (sym takes.access) (noted_from place (reads ++ assigned) old.access.items block (omega arith) access_below taken.access_from);
      assign_from = subst (AreFrom block) (sym takes.assign) (noted_from place assigned old.assign.items block (omega arith) assign_below taken.assign_from);
      access = tells_more (length graph.vars) block index n (length list) list (accesses_at graph) (reads ++ assigned) old.access.items new.access.items at
          (λ x. ap (λ b. b || assigns_at graph x n) (ap (reads_var graph x) is) ∙ ap (λ b. is_in x reads || b) (assigns_is x) ∙ sym (is_in_append x reads assigned)) access_below takes.access taken.access;
      assign = tells_more (length graph.vars) block index n (length list) list (assigns_at graph) assigned old.assign.items new.assign.items at assigns_is assign_below takes.assign taken.assign;
    }

-- what a node reads and assigns are variables of the graph
pub accessed_below : (graph : GraphShape) (vars : ℕ) (node : Node) → graph.shared ≤ vars → AllBelow vars (node_vars node) → AllBelow vars (node_reads graph node ++ assigned_vars graph node)
accessed_below graph vars node few below = all_below_append vars (node_reads graph node) (assigned_vars graph node) (reads_below graph vars few node below) (assigned node below)
  where
    assigned : (node : Node) → AllBelow vars (node_vars node) → AllBelow vars (assigned_vars graph node)
    assigned (Start next) below = tt
    assigned (Skip next) below = tt
    assigned (Assign x rhs next) below = (below.0, tt)
    assigned (Print a next) below = tt
    assigned (Guard test number next) below = tt
    assigned (Call into unit operands next) below =
        all_below_append vars (shared_vars graph.shared) (into_vars into) (shared_below vars graph.shared few) (all_below_left vars (into_vars into) (flat_map operand_vars operands) below)
    assigned (Test test taken other) below = tt
    assigned (Return a) below = tt

-- ---- a block

-- none of the places of later blocks is in this one
pub none_in : (places : List BlockPlace) (block x len : ℕ) → AreFrom (suc block) places → index_in places x block len ≡ len
none_in places block x len from = by (slice_get places x) refl
  where
    by : (o : Option BlockPlace) → slice_get places x ≡ o → index_or block len o ≡ len
    by None e = refl
    by (Some p) e = ap (λ b. if b then p.index else len) (ne_eqb p.block block (λ same. (let later = from x p e in omega (arith, same, later))))

-- so before a block its nodes are to come
pub taken_none : (graph : GraphShape) (block index : ℕ) (list : List ℕ) (places : BlockPlaces) → index ≡ length list → AreBlockPlaces graph (suc block) places → AreTakenIn graph block index list places
taken_none graph block index list places end are =
    let past : drop index list ≡ [] = ap (λ i. drop i list) end ∙ drop_all (length list) list (omega arith) in
    let tells : (test : ℕ → ℕ → Bool) (l : List BlockPlace) → AreFrom (suc block) l → TellFirst (length graph.vars) test block index list l
    = λ test l from x lt. none_in l block x (length list) from ∙ sym end ∙ sym (ap (first_where (test x) index) past) in
    record {
      access_long = are.access_long;
      assign_long = are.assign_long;
      access_from = λ x p is. (let later = are.access_from x p is in omega (arith, later));
      assign_from = λ x p is. (let later = are.assign_from x p is in omega (arith, later));
      access = tells (accesses_at graph) places.access.items are.access_from;
      assign = tells (assigns_at graph) places.assign.items are.assign_from;
    }

-- ---- the nearest

-- the first node is not before the first of the list
pub first_after : (test : ℕ → Bool) (index : ℕ) (list : List ℕ) → index ≤ first_where test index list
first_after test index [] = omega arith
first_after test index (n ∷ list) = by (test n) (first_after test (suc index) list)
  where
    by : (b : Bool) → suc index ≤ first_where test (suc index) list → index ≤ (if b then index else first_where test (suc index) list)
    by true rest = omega arith
    by false rest = omega (arith, rest)

-- the nearer of the first nodes of two tests is the first of which one holds
pub nearer_first : (f g : ℕ → Bool) (index : ℕ) (list : List ℕ) → min (first_where f index list) (first_where g index list) ≡ first_where (λ n. f n || g n) index list
nearer_first f g index [] = min-eq_left (omega arith)
nearer_first f g index (n ∷ list) = by (f n) (g n) (nearer_first f g (suc index) list)
  where
    later : (h : ℕ → Bool) → index ≤ first_where h (suc index) list
    later h = let rest = first_after h (suc index) list in omega (arith, rest)

    by : (a b : Bool) → min (first_where f (suc index) list) (first_where g (suc index) list) ≡ first_where (λ m. f m || g m) (suc index) list
        → min (if a then index else first_where f (suc index) list) (if b then index else first_where g (suc index) list) ≡ (if a || b then index else first_where (λ m. f m || g m) (suc index) list)
    by true true rest = min-eq_left (omega arith)
    by true false rest = min-eq_left (later g)
    by false true rest = min-eq_right (later f)
    by false false rest = rest

-- so the nearest of several is the first of which any holds
nearest_first : (vars block index : ℕ) (list : List ℕ) (test : ℕ → ℕ → Bool) (places : List BlockPlace) (f : ℕ → Bool) (ys : List ℕ)
    → AllBelow vars ys → TellFirst vars test block index list places
    → nearest places block (length list) (first_where f index (drop index list)) ys ≡ first_where (λ n. f n || list_any (λ y. test y n) ys) index (drop index list)
nearest_first vars block index list test places f [] below tells = ap (λ (g : ℕ → Bool). first_where g index (drop index list)) (fun_ext (λ n. sym (by (f n))))
  where
    by : (b : Bool) → (b || false) ≡ b
    by true = refl
    by false = refl
nearest_first vars block index list test places f (y ∷ ys) below tells =
    let rest = drop index list in
    let here : min (index_in places y block (length list)) (first_where f index rest) ≡ first_where (λ n. test y n || f n) index rest
    = ap (λ i. min i (first_where f index rest)) (tells y below.0) ∙ nearer_first (test y) f index rest in
    ap (λ i. nearest places block (length list) i ys) here
    ∙ nearest_first vars block index list test places (λ n. test y n || f n) ys below.1 tells
    ∙ ap (λ (g : ℕ → Bool). first_where g index rest) (fun_ext (λ n. swapped (test y n) (f n) (list_any (λ z. test z n) ys)))
  where
    swapped : (a b c : Bool) → ((a || b) || c) ≡ (b || (a || c))
    swapped true true c = refl
    swapped true false c = refl
    swapped false b c = refl

-- of a pattern it is the first node that stops it
pub stop_first : (graph : GraphShape) (block index : ℕ) (list : List ℕ) (places : BlockPlaces) (p : Pattern) → AreTakenIn graph block index list places → p.var < length graph.vars → AllBelow (length graph.vars) (rhs_vars p.rhs)
    → stop_by places block (length list) p ≡ first_where (stops_at graph p.var p.rhs) index (drop index list)
stop_first graph block index list places p taken var below =
    ap (λ i. nearest places.assign.items block (length list) i (rhs_vars p.rhs)) (taken.access p.var var)
    ∙ nearest_first (length graph.vars) block index list (assigns_at graph) places.assign.items (accesses_at graph p.var) (rhs_vars p.rhs) below taken.assign
