-- A graph of a unit, a graph of nodes, and a unit of a graph make no calls but those of what they are made of.
use Rattle.std.proofs.Common.{◌≡◌, ℕ, zero, suc, Bool, true, false, List, [], ◌∷◌, ◌++◌, map, length, slice_get, pos, Option, Some, None, ◌⊎◌, inl, inr, refl, sym, ap, ◌∙◌, subst}
use Rattle.std.proofs.lemmas.Option.{slice_get-map}
use Rattle.mir_base.specs.declared.instructions.Operand.TheVariants.{Const}
use Rattle.mir_base.specs.declared.instructions.Operand.{Operand}
use Rattle.mir_base.specs.declared.instructions.Inst.{Inst}
use Rattle.mir_base.specs.declared.instructions.Inst.TheVariants as insts
use Rattle.mir_base.specs.Shapes.{UnitShape, receives_in}
use Rattle.flow_graph.specs.declared.plan.Item.{Item}
use Rattle.flow_graph.specs.declared.plan.Item.TheVariants.{Placed, Jump}
use Rattle.flow_graph.specs.declared.nodes.Node.{Node}
use Rattle.flow_graph.specs.declared.nodes.Node.TheVariants.{Start, Skip, Assign, Print, Guard, Call, Test, Return}
use Rattle.flow_graph.specs.Graphs.{GraphShape}
use Rattle.flow_graph.specs.Retained.{AreRetained, IsMade, marked, marked_below}
use Rattle.flow_graph.specs.Lowered.{IsLowered, all_nodes, nodes_from, place_node}
use Rattle.flow_graph.specs.Numbering.{first_index, renamed, renamed_operand, renumbered, seen_in}
use Rattle.flow_graph.specs.Layouts.{IsLaid, emitted, emitted_by, item_insts, place_in, plain_body}
use Rattle.flow_graph.specs.Calls.{BodyCalls, NodesCall, inst_call, node_call}
use Rattle.flow_graph.specs.NodeLaws.{mapped_from}
use Rattle.flow_graph.specs.CallLaws.{redirected_calls}

-- ---- nodes that are retained

-- a marked node is one of the list
marked_from : (marks : List Bool) (nodes : List Node) (n : ℕ) (node : Node) → slice_get (marked marks nodes) n ≡ Some node → (m : ℕ) × (slice_get nodes m ≡ Some node)
marked_from [] nodes n node e = cc
marked_from (true ∷ marks) [] n node e = cc
marked_from (false ∷ marks) [] n node e = cc
marked_from (true ∷ marks) (first ∷ nodes) zero node e = (0, e)
marked_from (true ∷ marks) (first ∷ nodes) (suc n) node e = let there = marked_from marks nodes n node e in (suc there.0, there.1)
marked_from (false ∷ marks) (first ∷ nodes) n node e = let there = marked_from marks nodes n node e in (suc there.0, there.1)

-- the nodes that are retained make no calls but those of the list
retained_calls : (raw nodes : List Node) (called count : ℕ) → AreRetained raw nodes → NodesCall nodes called count → NodesCall raw called count
retained_calls raw nodes called count retained c =
    let all = redirected_calls (marked_below retained.marks) (marked retained.marks raw) called count (subst (λ ns. NodesCall ns called count) retained.are c) in
    let there = marked_from retained.marks raw all.number all.node all.here in
    record { number = there.0; node = all.node; here = there.1; calls = all.calls }

-- a made graph makes no calls but those of its nodes
pub made_calls : (name : List ℕ) (shared : ℕ) (vars : List (List ℕ)) (received : List ℕ) (raw : List Node) (graph : GraphShape) → IsMade name shared vars received raw graph → (called count : ℕ) → NodesCall graph.nodes called count → NodesCall raw called count
made_calls name shared vars received raw graph made called count = retained_calls raw graph.nodes called count made.nodes_are

-- ---- lowering

-- what calls nothing calls no unit with any number of arguments
no_call : (called count : ℕ) → ◌≡◌ {A = Option (ℕ × ℕ)} None (Some (called, count)) → ⊥
no_call called count is = absurd (cc)

-- the node of an instruction makes its call
place_call : (p : ℕ) (inst : Inst) → node_call (place_node p inst) ≡ inst_call inst
place_call p (insts.Receive x) = refl
place_call p (insts.Assign x rhs) = refl
place_call p (insts.Goto place) = refl
place_call p (insts.If test place) = refl
place_call p (insts.Call into unit operands) = refl
place_call p (insts.Print a) = refl
place_call p (insts.TrapIf test number) = refl
place_call p (insts.Return a) = refl

-- a call of the nodes is a call of the body
nodes_call : (p : ℕ) (body : List Inst) (n : ℕ) (node : Node) (called count : ℕ) → slice_get (nodes_from p body) n ≡ Some node → node_call node ≡ Some (called, count) → BodyCalls body called count
nodes_call p [] zero node called count e calls = let same : Return (Const (pos 0)) ≡ node = cc in absurd (no_call called count (ap node_call same ∙ calls))
nodes_call p [] (suc n) node called count e calls = cc
nodes_call p (inst ∷ body) zero node called count e calls = let same : place_node p inst ≡ node = cc in record { place = 0; inst = inst; here = refl; calls = sym (place_call p inst) ∙ ap node_call same ∙ calls }
nodes_call p (inst ∷ body) (suc n) node called count e calls =
    let there = nodes_call (suc p) body n node called count e calls in record { place = suc there.place; inst = there.inst; here = there.here; calls = there.calls }

-- a call of the nodes that a body gives, Start before them, is a call of the body
all_call : (body : List Inst) (called count : ℕ) (n : ℕ) (node : Node) → slice_get (all_nodes body) n ≡ Some node → node_call node ≡ Some (called, count) → BodyCalls body called count
all_call body called count zero node e calls = let same : Start (suc (receives_in body)) ≡ node = cc in absurd (no_call called count (ap node_call same ∙ calls))
all_call body called count (suc n) node e calls = nodes_call 0 body n node called count e calls

-- a graph makes no calls but those of its unit
pub lowered_calls : (unit : UnitShape) (graph : GraphShape) → IsLowered unit graph → (called count : ℕ) → NodesCall graph.nodes called count → BodyCalls unit.body called count
lowered_calls unit graph lowered called count c =
    let all = retained_calls (all_nodes unit.body) graph.nodes called count lowered.made.nodes_are c in
    all_call unit.body called count all.number all.node all.here all.calls

-- ---- layout

-- renamed operands are as many
renamed_operands_long : (to : ℕ → ℕ) (operands : List Operand) → length (map (renamed_operand to) operands) ≡ length operands
renamed_operands_long to [] = refl
renamed_operands_long to (a ∷ operands) = ap suc (renamed_operands_long to operands)

-- a renamed instruction calls the same unit with as many arguments
renamed_call : (to : ℕ → ℕ) (inst : Inst) → inst_call (renamed to inst) ≡ inst_call inst
renamed_call to (insts.Receive x) = refl
renamed_call to (insts.Assign x rhs) = refl
renamed_call to (insts.Goto place) = refl
renamed_call to (insts.If test place) = refl
renamed_call to (insts.Call into unit operands) = ap (λ n. Some (unit, n)) (renamed_operands_long to operands)
renamed_call to (insts.Print a) = refl
renamed_call to (insts.TrapIf test number) = refl
renamed_call to (insts.Return a) = refl

-- a call of two bodies joined is a call of one of them
either_calls : (xs ys : List Inst) (called count : ℕ) → BodyCalls (xs ++ ys) called count → BodyCalls xs called count ⊎ BodyCalls ys called count
either_calls [] ys called count c = inr c
either_calls (x ∷ xs) ys called count c = go (λ there. either_calls xs ys called count there) c.place c.inst c.here c.calls
  where
    later : BodyCalls xs called count ⊎ BodyCalls ys called count → BodyCalls (x ∷ xs) called count ⊎ BodyCalls ys called count
    later (inl there) = inl (record { place = suc there.place; inst = there.inst; here = there.here; calls = there.calls })
    later (inr there) = inr there

    go : (BodyCalls (xs ++ ys) called count → BodyCalls xs called count ⊎ BodyCalls ys called count) → (place : ℕ) (inst : Inst) → slice_get (x ∷ (xs ++ ys)) place ≡ Some inst → inst_call inst ≡ Some (called, count)
        → BodyCalls (x ∷ xs) called count ⊎ BodyCalls ys called count
    go rest zero inst here calls = inl (record { place = 0; inst = inst; here = here; calls = calls })
    go rest (suc place) inst here calls = later (rest (record { place = place; inst = inst; here = here; calls = calls }))

-- Receives make no calls
receives_call_none : (xs : List ℕ) (called count : ℕ) → BodyCalls (map insts.Receive xs) called count → ⊥
receives_call_none xs called count c =
    let from = mapped_from insts.Receive (slice_get xs c.place) c.inst (sym (slice_get-map insts.Receive xs c.place) ∙ c.here) in
    no_call called count (ap inst_call from.2 ∙ c.calls)

-- the call of a single instruction is its own
one_call : (inst : Inst) (called count : ℕ) → BodyCalls (inst ∷ []) called count → inst_call inst ≡ Some (called, count)
one_call inst called count c = go c.place c.inst c.here c.calls
  where
    go : (place : ℕ) (other : Inst) → slice_get (inst ∷ []) place ≡ Some other → inst_call other ≡ Some (called, count) → inst_call inst ≡ Some (called, count)
    go zero other here calls = let same : inst ≡ other = cc in ap inst_call same ∙ calls
    go (suc place) other here calls = cc

-- what is emitted for a node makes the call of that node alone
emitted_by_calls : (place : ℕ → ℕ) (node : Node) (called count : ℕ) → BodyCalls (emitted_by place (Some node)) called count → node_call node ≡ Some (called, count)
emitted_by_calls place (Start next) called count c = let here : slice_get [] c.place ≡ Some c.inst = c.here in cc
emitted_by_calls place (Skip next) called count c = let here : slice_get [] c.place ≡ Some c.inst = c.here in cc
emitted_by_calls place (Assign x rhs next) called count c = one_call (insts.Assign x rhs) called count c
emitted_by_calls place (Print a next) called count c = one_call (insts.Print a) called count c
emitted_by_calls place (Guard test number next) called count c = one_call (insts.TrapIf test number) called count c
emitted_by_calls place (Call into unit operands next) called count c = one_call (insts.Call into unit operands) called count c
emitted_by_calls place (Test test taken other) called count c = one_call (insts.If test (place taken)) called count c
emitted_by_calls place (Return a) called count c = one_call (insts.Return a) called count c

module _ (nodes : List Node) (place : ℕ → ℕ) where
  placed_calls : (n : ℕ) (o : Option Node) (called count : ℕ) → slice_get nodes n ≡ o → BodyCalls (emitted_by place o) called count → NodesCall nodes called count
  placed_calls n None called count e c = let here : slice_get [] c.place ≡ Some c.inst = c.here in cc
  placed_calls n (Some node) called count e c = record { number = n; node = node; here = e; calls = emitted_by_calls place node called count c }

  item_calls : (item : Item) (called count : ℕ) → BodyCalls (item_insts nodes place item) called count → NodesCall nodes called count
  item_calls (Placed n) called count c = placed_calls n (slice_get nodes n) called count refl c
  item_calls (Jump n) called count c = absurd (no_call called count (one_call (insts.Goto (place n)) called count c))

  emitted_calls : (plan : List Item) (called count : ℕ) → BodyCalls (emitted nodes place plan) called count → NodesCall nodes called count
  emitted_calls [] called count c = let here : slice_get [] c.place ≡ Some c.inst = c.here in cc
  emitted_calls (item ∷ older) called count c = go (λ there. emitted_calls older called count there) (either_calls (emitted nodes place older) (item_insts nodes place item) called count c)
    where
      go : (BodyCalls (emitted nodes place older) called count → NodesCall nodes called count) → BodyCalls (emitted nodes place older) called count ⊎ BodyCalls (item_insts nodes place item) called count → NodesCall nodes called count
      go rest (inl there) = rest there
      go rest (inr here) = item_calls item called count here

-- the body before it is renumbered makes no calls but those of the nodes
plain_calls : (received : List ℕ) (nodes : List Node) (plan : List Item) (called count : ℕ) → BodyCalls (plain_body received nodes plan) called count → NodesCall nodes called count
plain_calls received nodes plan called count c = go (either_calls (map insts.Receive received) (emitted nodes place plan) called count c)
  where
    place : ℕ → ℕ
    place = place_in nodes (length received) plan

    go : BodyCalls (map insts.Receive received) called count ⊎ BodyCalls (emitted nodes place plan) called count → NodesCall nodes called count
    go (inl there) = absurd (receives_call_none received called count there)
    go (inr here) = emitted_calls nodes place plan called count here

-- new numbers of variables leave the calls
renumbered_calls : (shared : ℕ) (body : List Inst) (called count : ℕ) → BodyCalls (renumbered shared body) called count → BodyCalls body called count
renumbered_calls shared body called count c =
    let to = first_index (seen_in shared body) in
    let from = mapped_from (renamed to) (slice_get body c.place) c.inst (sym (slice_get-map (renamed to) body c.place) ∙ c.here) in
    record { place = c.place; inst = from.0; here = from.1; calls = sym (renamed_call to from.0) ∙ ap inst_call from.2 ∙ c.calls }

-- a unit makes no calls but those of its graph
pub laid_calls : (shared : ℕ) (vars : List (List ℕ)) (received : List ℕ) (nodes : List Node) (names : List (List ℕ)) (body : List Inst) → IsLaid shared vars received nodes names body → (called count : ℕ) → BodyCalls body called count → NodesCall nodes called count
laid_calls shared vars received nodes names body laid called count c =
    plain_calls received nodes laid.plan called count (renumbered_calls shared (plain_body received nodes laid.plan) called count (subst (λ b. BodyCalls b called count) laid.body_is c))
