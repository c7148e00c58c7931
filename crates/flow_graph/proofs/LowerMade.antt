-- The nodes of a unit's places make a graph.
use Rattle.std.proofs.Common.{◌≡◌, ℕ, zero, suc, ◌+◌, ◌<◌, ◌≤◌, All, Bool, true, false, if◌then◌else◌, nat_eq, nat_lt, flat_map, take, List, [], ◌∷◌, length, slice_get, Option, Some, None, pos, refl, sym, ap, ◌∙◌, subst, arith, zero-add}
use Rattle.std.proofs.lemmas.Option.{slice_get_within, slice_get-get_or, get_or_from_slice_get}
use Rattle.mir_base.specs.declared.instructions.Operand.TheVariants.{Const}
use Rattle.mir_base.specs.declared.instructions.Inst.{Inst}
use Rattle.mir_base.specs.declared.instructions.Inst.TheVariants as insts
use Rattle.mir_base.specs.UnitRuns.{UnitSame, UnitCheaper, unit_machine}
use Rattle.mir_base.specs.Shapes.{UnitShape, receives_in, inst_vars, numbered_from, AllBelow, AllDiffer, IsTidy}
use Rattle.mir_base.specs.UnitLaws.{same_trans, cheaper_trans}
use Rattle.flow_graph.specs.declared.nodes.Node.{Node}
use Rattle.flow_graph.specs.declared.nodes.Node.TheVariants.{Start, Return}
use Rattle.flow_graph.specs.Graphs.{GraphShape, node_succs, succs_of, node_vars, IsEdge, IsBelow, CanMake, SharesVars}
use Rattle.flow_graph.specs.Machines.{graph_machine, machine_of}
use Rattle.flow_graph.specs.Lowered.{place_node, nodes_from, all_nodes, received_in, target_of, CanLower, IsLowered}
use Rattle.flow_graph.proofs.Keeps.{made_same, made_cheaper}
use Rattle.flow_graph.proofs.Lowers.{places_same, places_cheaper}
use Rattle.flow_graph.specs.Keeps.{AsGraph, AsUnit, Keeps}
use Rattle.flow_graph.specs.MadeCalls.{lowered_calls}

-- receives are instructions of the body
pub receives_few : (body : List Inst) → receives_in body ≤ length body
receives_few [] = omega arith
receives_few (insts.Receive x ∷ body) = omega (arith, receives_few body)
receives_few (insts.Assign x rhs ∷ body) = omega arith
receives_few (insts.Goto place ∷ body) = omega arith
receives_few (insts.If test place ∷ body) = omega arith
receives_few (insts.Call into unit operands ∷ body) = omega arith
receives_few (insts.Print a ∷ body) = omega arith
receives_few (insts.TrapIf test number ∷ body) = omega arith
receives_few (insts.Return a ∷ body) = omega arith

-- a jump leads to a place of the body
pub target_within : (shared : ℕ) (body : List Inst) (place : ℕ) (inst : Inst) (n : ℕ) → CanLower shared body → slice_get body place ≡ Some inst → length body < n → IsBelow n (target_of (Some inst))
target_within shared body place (insts.Receive x) n can e lt = tt
target_within shared body place (insts.Assign x rhs) n can e lt = tt
target_within shared body place (insts.Goto target) n can e lt = omega (arith, (can.targets place target (ap target_of e)).1, lt)
target_within shared body place (insts.If test target) n can e lt = omega (arith, (can.targets place target (ap target_of e)).1, lt)
target_within shared body place (insts.Call into unit operands) n can e lt = tt
target_within shared body place (insts.Print a) n can e lt = tt
target_within shared body place (insts.TrapIf test number) n can e lt = tt
target_within shared body place (insts.Return a) n can e lt = tt

-- there is a node for each instruction, and one for the end of the body
long_nodes : (k : ℕ) (body : List Inst) → length (nodes_from k body) ≡ suc (length body)
long_nodes k [] = refl
long_nodes k (inst ∷ body) = ap suc (long_nodes (suc k) body)

-- a node of the list: Start, that of an instruction, or the Return of `end`
data Found (k : ℕ) (body : List Inst) (p : ℕ) (node : Node) : Type 0 where
  an_inst : (inst : Inst) → slice_get body p ≡ Some inst → node ≡ place_node (k + p) inst → Found k body p node
  the_end : node ≡ Return (Const (pos 0)) → Found k body p node

-- each of these nodes is that of an instruction or the one at the end
found : (k : ℕ) (body : List Inst) (p : ℕ) (node : Node) → slice_get (nodes_from k body) p ≡ Some node → Found k body p node
found k [] zero node e = the_end (cc)
found k [] (suc p) node e = cc
found k (inst ∷ body) zero node e = an_inst inst refl (let same : place_node k inst ≡ node = cc in sym same ∙ ap (λ n. place_node n inst) (let none : k ≡ k + 0 = omega arith in none))
found k (inst ∷ body) (suc p) node e = later (found (suc k) body p node e)
  where
    later : Found (suc k) body p node → Found k (inst ∷ body) (suc p) node
    later (an_inst i here is) = an_inst i here (is ∙ ap (λ n. place_node n i) (let same : suc k + p ≡ k + suc p = omega arith in same))
    later (the_end is) = the_end is

-- numbers by first occurrence only grow
numbers_grow : (n m : ℕ) (xs : List ℕ) → numbered_from n xs ≡ Some m → n ≤ m
numbers_grow n m [] e = let same : n ≡ m = cc in omega (arith, same)
numbers_grow n m (x ∷ xs) e = chosen (nat_lt x n) (numbers_grow n m xs) (numbers_grow (suc n) m xs) e
  where
    next : (b : Bool) → (numbered_from (suc n) xs ≡ Some m → suc n ≤ m) → (if b then numbered_from (suc n) xs else None) ≡ Some m → n ≤ m
    next true later e' = let le = later e' in omega (arith, le)
    next false later e' = cc

    chosen : (b : Bool) → (numbered_from n xs ≡ Some m → n ≤ m) → (numbered_from (suc n) xs ≡ Some m → suc n ≤ m) → (if b then numbered_from n xs else (if nat_eq x n then numbered_from (suc n) xs else None)) ≡ Some m → n ≤ m
    chosen true now later e' = now e'
    chosen false now later e' = next (nat_eq x n) later e'

module _ (shared : ℕ) (vars : List (List ℕ)) (body : List Inst) (tidy : IsTidy shared vars body) (names : All (λ inst. AllBelow (length vars) (inst_vars inst)) body) (can : CanLower shared body) where
  named : (place : ℕ) (inst : Inst) → slice_get body place ≡ Some inst → AllBelow (length vars) (inst_vars inst)
  named place inst e = subst (λ i. AllBelow (length vars) (inst_vars i)) (get_or_from_slice_get body place inst inst e) (names place inst (slice_get_within body place inst e))

  no_start : (p : ℕ) (inst : Inst) (s : ℕ) → place_node p inst ≡ Start s → ⊥
  no_start p (insts.Receive x) s e = cc
  no_start p (insts.Assign x rhs) s e = cc
  no_start p (insts.Goto place) s e = cc
  no_start p (insts.If test place) s e = cc
  no_start p (insts.Call into unit operands) s e = cc
  no_start p (insts.Print a) s e = cc
  no_start p (insts.TrapIf test number) s e = cc
  no_start p (insts.Return a) s e = cc

  not_start : (p : ℕ) (node : Node) (s : ℕ) → Found 0 body p node → node ≡ Start s → ⊥
  not_start p node s (an_inst inst here is) e = no_start (0 + p) inst s (sym is ∙ e)
  not_start p node s (the_end is) e = cc

  abbrev Inner : ℕ → Type 0
  Inner s = (1 ≤ s) × (s < length (all_nodes body))

  low : (s : ℕ) → 1 ≤ s → s ≤ suc (length body) → Inner s
  low s one le = (one, omega (arith, le, long_nodes 0 body))

  inst_succs : (p slot s : ℕ) (inst : Inst) → slice_get body p ≡ Some inst → slice_get (node_succs (place_node p inst)) slot ≡ Some s → Inner s
  inst_succs p slot s (insts.Receive x) here e = cc
  inst_succs p (suc slot) s (insts.Assign x rhs) here e = cc
  inst_succs p zero s (insts.Assign x rhs) here e = let same : suc (suc p) ≡ s = cc in low s (omega arith) (omega (arith, slice_get_within body p _ here))
  inst_succs p (suc slot) s (insts.Goto place) here e = cc
  inst_succs p zero s (insts.Goto place) here e = let same : suc place ≡ s = cc in low s (omega arith) (omega (arith, (can.targets p place (ap target_of here)).1))
  inst_succs p zero s (insts.If test place) here e = let same : suc place ≡ s = cc in low s (omega arith) (omega (arith, (can.targets p place (ap target_of here)).1))
  inst_succs p (suc zero) s (insts.If test place) here e = let same : suc (suc p) ≡ s = cc in low s (omega arith) (omega (arith, slice_get_within body p _ here))
  inst_succs p (suc (suc slot)) s (insts.If test place) here e = cc
  inst_succs p (suc slot) s (insts.Call into unit operands) here e = cc
  inst_succs p zero s (insts.Call into unit operands) here e = let same : suc (suc p) ≡ s = cc in low s (omega arith) (omega (arith, slice_get_within body p _ here))
  inst_succs p (suc slot) s (insts.Print a) here e = cc
  inst_succs p (suc slot) s (insts.TrapIf test number) here e = cc
  inst_succs p zero s (insts.Print a) here e = let same : suc (suc p) ≡ s = cc in low s (omega arith) (omega (arith, slice_get_within body p _ here))
  inst_succs p zero s (insts.TrapIf test number) here e = let same : suc (suc p) ≡ s = cc in low s (omega arith) (omega (arith, slice_get_within body p _ here))
  inst_succs p slot s (insts.Return a) here e = cc

  found_succs : (p slot s : ℕ) (node : Node) → Found 0 body p node → slice_get (node_succs node) slot ≡ Some s → Inner s
  found_succs p slot s node (an_inst inst here is) e = inst_succs p slot s inst here (ap (λ n. slice_get (node_succs n) slot) (ap (λ n. place_node n inst) (sym (zero-add p)) ∙ sym is) ∙ e)
  found_succs p slot s node (the_end is) e = let none : slice_get (node_succs (Return (Const (pos 0)))) slot ≡ Some s = sym (ap (λ n. slice_get (node_succs n) slot) is) ∙ e in cc

  at_succs : (p slot s : ℕ) (o : Option Node) → slice_get (nodes_from 0 body) p ≡ o → slice_get (succs_of o) slot ≡ Some s → Inner s
  at_succs p slot s None here e = cc
  at_succs p slot s (Some node) here e = found_succs p slot s node (found 0 body p node here) e

  all_succs : (m slot s : ℕ) → IsEdge (all_nodes body) m slot s → Inner s
  all_succs zero zero s e = let same : suc (receives_in body) ≡ s = cc in low s (omega arith) (omega (arith, receives_few body))
  all_succs zero (suc slot) s e = cc
  all_succs (suc p) slot s e = at_succs p slot s (slice_get (nodes_from 0 body) p) refl e

  inst_below : (m p : ℕ) (inst : Inst) → AllBelow m (inst_vars inst) → AllBelow m (node_vars (place_node p inst))
  inst_below m p (insts.Receive x) h = tt
  inst_below m p (insts.Assign x rhs) h = h
  inst_below m p (insts.Goto place) h = tt
  inst_below m p (insts.If test place) h = h
  inst_below m p (insts.Call into unit operands) h = h
  inst_below m p (insts.Print a) h = h
  inst_below m p (insts.TrapIf test number) h = h
  inst_below m p (insts.Return a) h = h

  found_below : (p : ℕ) (node : Node) → Found 0 body p node → AllBelow (length vars) (node_vars node)
  found_below p node (an_inst inst here is) = subst (λ n. AllBelow (length vars) (node_vars n)) (sym is) (inst_below (length vars) (0 + p) inst (named p inst here))
  found_below p node (the_end is) = subst (λ n. AllBelow (length vars) (node_vars n)) (sym is) tt

  all_below : (n : ℕ) (node : Node) → slice_get (all_nodes body) n ≡ Some node → AllBelow (length vars) (node_vars node)
  all_below zero node e = let same : Start (suc (receives_in body)) ≡ node = cc in subst (λ n. AllBelow (length vars) (node_vars n)) same tt
  all_below (suc p) node e = found_below p node (found 0 body p node e)

  received_below : (m : ℕ) (insts' : List Inst) → ((place : ℕ) (inst : Inst) → slice_get insts' place ≡ Some inst → AllBelow m (inst_vars inst)) → AllBelow m (received_in insts')
  received_below m [] h = tt
  received_below m (insts.Receive x ∷ rest) h = ((h 0 (insts.Receive x) refl).0, received_below m rest (λ place. h (suc place)))
  received_below m (insts.Assign x rhs ∷ rest) h = tt
  received_below m (insts.Goto place ∷ rest) h = tt
  received_below m (insts.If test place ∷ rest) h = tt
  received_below m (insts.Call into unit operands ∷ rest) h = tt
  received_below m (insts.Print a ∷ rest) h = tt
  received_below m (insts.TrapIf test number ∷ rest) h = tt
  received_below m (insts.Return a ∷ rest) h = tt

  received_at : (insts' : List Inst) (i x : ℕ) → slice_get (received_in insts') i ≡ Some x → slice_get insts' i ≡ Some (insts.Receive x)
  received_at [] i x e = cc
  received_at (insts.Receive y ∷ rest) zero x e = let same : y ≡ x = cc in ap (λ z. Some (insts.Receive z)) same
  received_at (insts.Receive y ∷ rest) (suc i) x e = received_at rest i x e
  received_at (insts.Assign y rhs ∷ rest) i x e = cc
  received_at (insts.Goto place ∷ rest) i x e = cc
  received_at (insts.If test place ∷ rest) i x e = cc
  received_at (insts.Call into unit operands ∷ rest) i x e = cc
  received_at (insts.Print a ∷ rest) i x e = cc
  received_at (insts.TrapIf test number ∷ rest) i x e = cc
  received_at (insts.Return a ∷ rest) i x e = cc

  received_differ : AllDiffer (received_in body)
  received_differ i j li lj e =
      let a = slice_get-get_or (received_in body) i 0 li in
      can.received i j _ (received_at body i _ a) (received_at body j _ (sym e ∙ a))

  not_first : (n s : ℕ) → slice_get (all_nodes body) n ≡ Some (Start s) → n ≡ 0
  not_first zero s e = refl
  not_first (suc p) s e = absurd (not_start p (Start s) s (found 0 body p (Start s) e) refl)

  pub lower_can : CanMake vars (received_in body) (all_nodes body)
  lower_can = record {
    start = (suc (receives_in body), refl);
    only = not_first;
    succs = all_succs;
    below = all_below;
    received_below = received_below (length vars) body named;
    received_differ = received_differ;
    names = tidy.differ;
  }

  pub lower_shares : SharesVars shared vars (received_in body)
  lower_shares = record { count = numbers_grow shared (length vars) (flat_map inst_vars body) tidy.numbered; own = λ i x e. can.own i x (received_at body i x e) }

-- ---- the graph does the same as the unit

-- the graph of a unit does the same
pub lowered_same : (unit : UnitShape) (graph : GraphShape) → IsTidy unit.shared unit.vars unit.body → All (λ inst. AllBelow (length unit.vars) (inst_vars inst)) unit.body → CanLower unit.shared unit.body → IsLowered unit graph → UnitSame (unit_machine unit) (machine_of graph)
lowered_same unit graph tidy names can l =
    same_trans (unit_machine unit) (graph_machine unit.shared (received_in unit.body) (all_nodes unit.body)) (machine_of graph) (places_same unit.shared unit.body can) (made_same unit.name unit.shared unit.vars (received_in unit.body) (all_nodes unit.body) graph (lower_can unit.shared unit.vars unit.body tidy names can) l.made)

-- and evaluates no more operators
pub lowered_cheaper : (unit : UnitShape) (graph : GraphShape) → IsTidy unit.shared unit.vars unit.body → All (λ inst. AllBelow (length unit.vars) (inst_vars inst)) unit.body → CanLower unit.shared unit.body → IsLowered unit graph → UnitCheaper (unit_machine unit) (machine_of graph)
lowered_cheaper unit graph tidy names can l =
    cheaper_trans (unit_machine unit) (graph_machine unit.shared (received_in unit.body) (all_nodes unit.body)) (machine_of graph) (places_same unit.shared unit.body can) (places_cheaper unit.shared unit.body can) (made_cheaper unit.name unit.shared unit.vars (received_in unit.body) (all_nodes unit.body) graph (lower_can unit.shared unit.vars unit.body tidy names can) l.made)

-- so the graph keeps all that passes keep
pub lowered_keeps : (unit : UnitShape) (graph : GraphShape) → IsTidy unit.shared unit.vars unit.body → All (λ inst. AllBelow (length unit.vars) (inst_vars inst)) unit.body → CanLower unit.shared unit.body → IsLowered unit graph → Keeps (AsUnit unit) (AsGraph graph)
lowered_keeps unit graph tidy below can l = record {
  name = l.made.name_is;
  globals = ap (λ k. take k graph.vars) l.made.shared_is ∙ ap (take unit.shared) l.made.vars_are;
  same = lowered_same unit graph tidy below can l;
  cheaper = lowered_cheaper unit graph tidy below can l;
  calls = lowered_calls unit graph l;
}

-- a graph can be made of the nodes of a body
pub lower_makes : (shared : ℕ) (vars vars' : List (List ℕ)) (body : List Inst) (received : List ℕ) (nodes : List Node) → IsTidy shared vars body → All (λ inst. AllBelow (length vars) (inst_vars inst)) body → CanLower shared body → vars' ≡ vars → received ≡ received_in body → nodes ≡ all_nodes body → CanMake vars' received nodes
lower_makes shared vars vars' body received nodes tidy names can e e' e'' =
    subst (λ v. CanMake v received nodes) (sym e) (subst (λ r. CanMake vars r nodes) (sym e') (subst (λ n. CanMake vars (received_in body) n) (sym e'') (lower_can shared vars body tidy names can)))

-- and the globals of the unit are its first variables
pub lower_shared : (shared : ℕ) (vars vars' : List (List ℕ)) (body : List Inst) (received : List ℕ) → IsTidy shared vars body → All (λ inst. AllBelow (length vars) (inst_vars inst)) body → CanLower shared body → vars' ≡ vars → received ≡ received_in body → SharesVars shared vars' received
lower_shared shared vars vars' body received tidy names can e e' =
    subst (λ v. SharesVars shared v received) (sym e) (subst (SharesVars shared vars) (sym e') (lower_shares shared vars body tidy names can))
