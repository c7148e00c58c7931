-- What is pushed, and what is still to come, are all of a list; and one more leaf in the place of its call.
use Rattle.std.proofs.Common.{◌≡◌, ◌⊎◌, inl, inr, ℕ, zero, suc, ◌+◌, ◌-◌, ◌<◌, ◌≤◌, Bool, true, false, if◌then◌else◌, List, [], ◌∷◌, ◌++◌, append_assoc, append-nil, length, map, drop, pos, slice_get, slice_index_or, Option, Some, refl, sym, ap, ◌∙◌, subst, arith}
use Rattle.std.proofs.lemmas.List.{drop_all}
use Rattle.std.proofs.lemmas.Option.{slice_get-get_or, slice_get_within}
use Rattle.mir_base.specs.declared.instructions.Inst.{Inst}
use Rattle.mir_base.specs.declared.instructions.Inst.TheVariants as insts
use Rattle.mir_base.specs.declared.instructions.Operand.{Operand}
use Rattle.mir_base.specs.declared.instructions.Operand.TheVariants.{Const}
use Rattle.mir_base.specs.declared.instructions.Rhs.TheVariants.{Plain}
use Rattle.flow_graph.specs.declared.nodes.Node.{Node}
use Rattle.flow_graph.specs.declared.nodes.Node.TheVariants.{Call}
use Rattle.flow_graph.specs.Calls.{BodyCalls, inst_call}
use Rattle.flow_graph.specs.Graphs.{GraphShape}
use Rattle.graph_edit.specs.Insertions.{Insertion}
use Rattle.flow_graph.specs.ListLaws.{drop_at}
use Rattle.flow_graph.specs.Numbering.{is_in}
use Rattle.program_pass.specs.declared.standing.Put.{Put}
use Rattle.program_pass.specs.Puts.{insertions}
use Rattle.unit_join.specs.JoinPrograms.{calls_none, is_call}
use Rattle.unit_join.specs.JoinedNodes.{with_leaf_long}
use Rattle.unit_join.specs.Joins.{LeavesAreJoined, AreLeafCalls, IsLeafCall, copy_in, copy_number, entered, first_copy, nodes_with_leaf, joined_by, leaf_at, zeroed}
use Rattle.flow_graph.specs.MemberLaws.{in_at}
use Rattle.program_pass.specs.PutLaws.{insertion}

-- ---- assignments

-- the next that gets an argument
pub entered_next : (copy : ℕ → ℕ) (i : ℕ) (received : List ℕ) (operands : List Operand) (x : ℕ) (a : Operand) (put : Put) → slice_get received i ≡ Some x → slice_get operands i ≡ Some a → put ≡ record { var = copy x; rhs = Plain a }
    → entered copy (drop i received) (drop i operands) ≡ insertion put ∷ entered copy (drop (i + 1) received) (drop (i + 1) operands)
entered_next copy i received operands x a put here here' is =
    ap (λ l. entered copy l (drop i operands)) (drop_at received i x here) ∙ ap (entered copy (x ∷ drop (i + 1) received)) (drop_at operands i a here')
    ∙ ap (λ (p : Put). insertion p ∷ entered copy (drop (i + 1) received) (drop (i + 1) operands)) (sym is)

-- none gets one where the variables or the arguments are at an end
pub entered_done : (copy : ℕ → ℕ) (i : ℕ) (received : List ℕ) (operands : List Operand) → (length received ≤ i) ⊎ (length operands ≤ i) → entered copy (drop i received) (drop i operands) ≡ []
entered_done copy i received operands (inl late) = ap (λ l. entered copy l (drop i operands)) (drop_all i received late)
entered_done copy i received operands (inr late) = ap (entered copy (drop i received)) (drop_all i operands late) ∙ none (drop i received)
  where
    none : (xs : List ℕ) → entered copy xs [] ≡ []
    none [] = refl
    none (x ∷ xs) = refl

-- the copy of a variable that is not received is the next to become 0
pub zeroed_next : (copy : ℕ → ℕ) (received : List ℕ) (x vars : ℕ) (put : Put) → x < vars → is_in x received ≡ false → put ≡ record { var = copy x; rhs = Plain (Const (pos 0)) } → zeroed copy received x (vars - x) ≡ insertion put ∷ zeroed copy received (x + 1) (vars - (x + 1))
zeroed_next copy received x vars put lt out is =
    let count : vars - x ≡ suc (vars - (x + 1)) = omega (arith, lt) in
    let next : suc x ≡ x + 1 = omega arith in
    let here : Insertion = record { var = copy x; rhs = Plain (Const (pos 0)) } in
    let rest : List Insertion = zeroed copy received (suc x) (vars - (x + 1)) in
    ap (zeroed copy received x) count ∙ ap (λ b. if b then rest else here ∷ rest) out ∙ ap (λ (p : Put). insertion p ∷ rest) (sym is) ∙ ap (λ n. insertion put ∷ zeroed copy received n (vars - (x + 1))) next

-- that of one that is received is not
pub zeroed_passed : (copy : ℕ → ℕ) (received : List ℕ) (x vars : ℕ) → x < vars → is_in x received ≡ true → zeroed copy received x (vars - x) ≡ zeroed copy received (x + 1) (vars - (x + 1))
zeroed_passed copy received x vars lt there =
    let count : vars - x ≡ suc (vars - (x + 1)) = omega (arith, lt) in
    let next : suc x ≡ x + 1 = omega arith in
    let here : Insertion = record { var = copy x; rhs = Plain (Const (pos 0)) } in
    let rest : List Insertion = zeroed copy received (suc x) (vars - (x + 1)) in
    ap (zeroed copy received x) count ∙ ap (λ b. if b then rest else here ∷ rest) there ∙ ap (λ n. zeroed copy received n (vars - (x + 1))) next

-- ---- nodes

-- the next node of a leaf
pub leaf_pushed : (f : Node → Node) (nodes nodes' all : List Node) (leaf : List Node) (m : ℕ) (node made : Node) → slice_get leaf m ≡ Some node → made ≡ f node → nodes' ≡ nodes ++ made ∷ [] → nodes ++ map f (drop m leaf) ≡ all → nodes' ++ map f (drop (m + 1) leaf) ≡ all
leaf_pushed f nodes nodes' all leaf m node made here is pushed_is before =
    ap (λ l. l ++ map f (drop (m + 1) leaf)) pushed_is ∙ append_assoc nodes (made ∷ []) (map f (drop (m + 1) leaf)) ∙ ap (λ n. nodes ++ n ∷ map f (drop (m + 1) leaf)) is
    ∙ ap (λ l. nodes ++ map f l) (sym (drop_at leaf m node here)) ∙ before

-- each of the calls is one
pub call_at : (leaves : List (Option GraphShape)) (nodes : List Node) (calls : List ℕ) → AreLeafCalls leaves nodes calls → (i : ℕ) → i < length calls → IsLeafCall leaves nodes (slice_index_or calls i 0)
call_at leaves nodes calls are i lt = are.are (slice_index_or calls i 0) (in_at calls i (slice_index_or calls i 0) (slice_get-get_or calls i 0 lt))

-- so it is a node
pub call_within : (leaves : List (Option GraphShape)) (nodes : List Node) (calls : List ℕ) → AreLeafCalls leaves nodes calls → (i : ℕ) → i < length calls → slice_index_or calls i 0 < length nodes
call_within leaves nodes calls are i lt = let c = call_at leaves nodes calls are i lt in slice_get_within nodes (slice_index_or calls i 0) (Call c.into c.unit c.operands c.next) c.is

-- the leaf in the place of a call is the leaf of this call
pub joined_is : (leaves : List (Option GraphShape)) (units : List ℕ) (graph : GraphShape) (nodes nodes' : List Node) (n : ℕ) (into : Option ℕ) (unit : ℕ) (operands : List Operand) (next : ℕ) (leaf : GraphShape) (base : ℕ) → slice_get graph.nodes n ≡ Some (Call into unit operands next) → leaf_at leaves unit ≡ Some leaf → base ≡ first_copy leaves units (length graph.vars) unit
    → nodes' ≡ nodes_with_leaf nodes n (copy_number graph.shared base) leaf into operands next → (c : IsLeafCall leaves graph.nodes n) → nodes' ≡ joined_by leaves units graph nodes n c
joined_is leaves units graph nodes nodes' n into unit operands next leaf base here leaf_is base_is made c =
    let both : Some (Call into unit operands next) ≡ Some (Call c.into c.unit c.operands c.next) = sym here ∙ c.is in
    let into_same : into ≡ c.into = cc in
    let unit_same : unit ≡ c.unit = cc in
    let operands_same : operands ≡ c.operands = cc in
    let next_same : next ≡ c.next = cc in
    let leaves_same : Some leaf ≡ Some c.leaf = sym leaf_is ∙ ap (leaf_at leaves) unit_same ∙ c.leaf_is in
    let leaf_same : leaf ≡ c.leaf = cc in
    made ∙ ap (λ b. nodes_with_leaf nodes n (copy_number graph.shared b) leaf into operands next) (base_is ∙ ap (first_copy leaves units (length graph.vars)) unit_same)
    ∙ ap (λ l. nodes_with_leaf nodes n (copy_in graph.shared leaves units (length graph.vars) c.unit) l into operands next) leaf_same ∙ ap (λ i. nodes_with_leaf nodes n (copy_in graph.shared leaves units (length graph.vars) c.unit) c.leaf i operands next) into_same
    ∙ ap (λ o. nodes_with_leaf nodes n (copy_in graph.shared leaves units (length graph.vars) c.unit) c.leaf c.into o next) operands_same ∙ ap (nodes_with_leaf nodes n (copy_in graph.shared leaves units (length graph.vars) c.unit) c.leaf c.into c.operands) next_same

-- what the loop keeps
pub joined_on : (leaves : List (Option GraphShape)) (units : List ℕ) (graph : GraphShape) (calls : List ℕ) (i : ℕ) (nodes nodes' joined : List Node) → AreLeafCalls leaves graph.nodes calls → i < length calls
    → ((c : IsLeafCall leaves graph.nodes (slice_index_or calls i 0)) → nodes' ≡ joined_by leaves units graph nodes (slice_index_or calls i 0) c)
    → LeavesAreJoined leaves units graph (drop (i + 1) calls) nodes' joined → LeavesAreJoined leaves units graph (drop i calls) nodes joined
joined_on leaves units graph calls i nodes nodes' joined are lt made on =
    let n = slice_index_or calls i 0 in
    let c = call_at leaves graph.nodes calls are i lt in
    let all : LeavesAreJoined leaves units graph (n ∷ drop (i + 1) calls) nodes joined = (c, subst (λ l. LeavesAreJoined leaves units graph (drop (i + 1) calls) l joined) (made c) on) in
    subst (λ l. LeavesAreJoined leaves units graph l nodes joined) (sym (drop_at calls i n (slice_get-get_or calls i 0 lt))) all

-- and no node is lost
pub joined_long : (leaves : List (Option GraphShape)) (units : List ℕ) (graph : GraphShape) (calls : List ℕ) (i : ℕ) (nodes nodes' : List Node) (count : ℕ) → AreLeafCalls leaves graph.nodes calls → i < length calls
    → ((c : IsLeafCall leaves graph.nodes (slice_index_or calls i 0)) → nodes' ≡ joined_by leaves units graph nodes (slice_index_or calls i 0) c) → count ≤ length nodes → count ≤ length nodes'
joined_long leaves units graph calls i nodes nodes' count are lt made le =
    let c = call_at leaves graph.nodes calls are i lt in
    let long : length nodes' ≡ length (joined_by leaves units graph nodes (slice_index_or calls i 0) c) = ap (λ l. length l) (made c) in
    omega (arith, le, long, with_leaf_long leaves units graph nodes (slice_index_or calls i 0) c)

-- ---- calls of a body

-- no call, by the test
pub none_call : (body : List Inst) → calls_none body ≡ true → (called count : ℕ) → BodyCalls body called count → ⊥
none_call body none called count c = go body c.place none c.here
  where
    one : (inst : Inst) → is_call inst ≡ false → inst_call inst ≡ Some (called, count) → ⊥
    one (insts.Receive x) e f = cc
    one (insts.Assign x rhs) e f = cc
    one (insts.Goto place) e f = cc
    one (insts.If test place) e f = cc
    one (insts.TrapIf test number) e f = cc
    one (insts.Call into unit operands) e f = cc
    one (insts.Print a) e f = cc
    one (insts.Return a) e f = cc

    chosen : (inst : Inst) (b : Bool) (rest : Bool) → is_call inst ≡ b → (if b then false else rest) ≡ true → (is_call inst ≡ false) × (rest ≡ true)
    chosen inst true rest e f = cc
    chosen inst false rest e f = (e, f)

    go : (insts : List Inst) (place : ℕ) → calls_none insts ≡ true → slice_get insts place ≡ Some c.inst → ⊥
    go [] place e at = cc
    go (inst ∷ rest) zero e at = let same : inst ≡ c.inst = cc in one c.inst (ap is_call (sym same) ∙ (chosen inst (is_call inst) (calls_none rest) refl e).0) c.calls
    go (inst ∷ rest) (suc place) e at = go rest place ((chosen inst (is_call inst) (calls_none rest) refl e).1) at

-- a call makes the test fail
is_one : (i : Inst) → is_call i ≡ true → (called : ℕ) × (count : ℕ) × (inst_call i ≡ Some (called, count))
is_one (insts.Receive x) f = cc
is_one (insts.Assign x rhs) f = cc
is_one (insts.Goto place) f = cc
is_one (insts.If test place) f = cc
is_one (insts.TrapIf test number) f = cc
is_one (insts.Call into unit operands) f = (unit, length operands, refl)
is_one (insts.Print a) f = cc
is_one (insts.Return a) f = cc

-- a body without calls passes it
pub no_call_none : (body : List Inst) → ((called count : ℕ) → BodyCalls body called count → ⊥) → calls_none body ≡ true
no_call_none [] none = refl
no_call_none (inst ∷ rest) none = chosen (is_call inst) refl (no_call_none rest (λ called count c. none called count (record { place = suc c.place; inst = c.inst; here = c.here; calls = c.calls })))
  where
    chosen : (b : Bool) → is_call inst ≡ b → calls_none rest ≡ true → (if b then false else calls_none rest) ≡ true
    chosen true is f = let p = is_one inst is in absurd (none p.0 p.1 (record { place = 0; inst = inst; here = refl; calls = p.2 }))
    chosen false is f = f
