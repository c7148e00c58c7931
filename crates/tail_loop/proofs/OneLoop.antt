-- One more self tail call gives way to its assignments.
use Rattle.std.proofs.Common.{◌≡◌, ℕ, ◌+◌, ◌<◌, ◌≤◌, List, ◌∷◌, drop, length, slice_get, slice_index_or, Some, sym, ap, ◌∙◌, subst, arith}
use Rattle.std.proofs.lemmas.Option.{slice_get-get_or, slice_get_within}
use Rattle.flow_graph.specs.declared.nodes.Node.{Node}
use Rattle.flow_graph.specs.declared.nodes.Node.TheVariants.{Call}
use Rattle.flow_graph.specs.Graphs.{GraphShape}
use Rattle.graph_edit.specs.Insertions.{Insertion}
use Rattle.flow_graph.specs.ListLaws.{drop_at}
use Rattle.flow_graph.specs.Plans.{start_succ}
use Rattle.program_pass.specs.ChainLaws.{stood_long}
use Rattle.program_pass.specs.Chains.{stood}
use Rattle.tail_loop.specs.Tails.{AreLooped, AreTailCalls, HasTailCall, loop_assignments}
use Rattle.flow_graph.specs.MemberLaws.{in_at}
use Rattle.tail_loop.specs.Answered.{operands_at}

-- each of the calls is one
pub call_at : (shared : ℕ) (nodes : List Node) (unit : ℕ) (calls : List ℕ) → AreTailCalls shared nodes unit calls → (i : ℕ) → i < length calls → HasTailCall shared nodes unit (slice_index_or calls i 0)
call_at shared nodes unit calls are i lt = are.are (slice_index_or calls i 0) (in_at calls i (slice_index_or calls i 0) (slice_get-get_or calls i 0 lt))

-- so it is a node
pub call_within : (shared : ℕ) (nodes : List Node) (unit : ℕ) (calls : List ℕ) → AreTailCalls shared nodes unit calls → (i : ℕ) → i < length calls → slice_index_or calls i 0 < length nodes
call_within shared nodes unit calls are i lt = let c = call_at shared nodes unit calls are i lt in slice_get_within nodes (slice_index_or calls i 0) (Call (Some c.1.into) unit c.0 c.1.next) c.1.is

-- what the loop keeps
pub looped_on : (graph : GraphShape) (unit : ℕ) (calls : List ℕ) (i : ℕ) (nodes nodes' looped : List Node) (puts : List Insertion) (end : ℕ) → AreTailCalls graph.shared graph.nodes unit calls → i < length calls
    → puts ≡ loop_assignments graph.shared (length graph.vars) graph.received (operands_at (slice_get graph.nodes (slice_index_or calls i 0))) → end ≡ start_succ (slice_get graph.nodes 0) → nodes' ≡ stood nodes (slice_index_or calls i 0) puts end
    → AreLooped graph unit (drop (i + 1) calls) nodes' looped → AreLooped graph unit (drop i calls) nodes looped
looped_on graph unit calls i nodes nodes' looped puts end are lt puts_are end_is nodes_are on =
    let n = slice_index_or calls i 0 in
    let c = call_at graph.shared graph.nodes unit calls are i lt in
    let operands : operands_at (slice_get graph.nodes n) ≡ c.0 = ap operands_at c.1.is in
    let same : nodes' ≡ stood nodes n (loop_assignments graph.shared (length graph.vars) graph.received c.0) (start_succ (slice_get graph.nodes 0)) =
    nodes_are ∙ ap (λ l. stood nodes n l end) (puts_are ∙ ap (loop_assignments graph.shared (length graph.vars) graph.received) operands) ∙ ap (stood nodes n (loop_assignments graph.shared (length graph.vars) graph.received c.0)) end_is in
    let all : AreLooped graph unit (n ∷ drop (i + 1) calls) nodes looped = (c.0, c.1, subst (λ l. AreLooped graph unit (drop (i + 1) calls) l looped) same on) in
    subst (λ l. AreLooped graph unit l nodes looped) (sym (drop_at calls i n (slice_get-get_or calls i 0 lt))) all

-- and no node is lost
pub looped_long : (nodes nodes' : List Node) (n : ℕ) (puts : List Insertion) (end count : ℕ) → nodes' ≡ stood nodes n puts end → count ≤ length nodes → count ≤ length nodes'
looped_long nodes nodes' n puts end count are le =
    let long : length nodes' ≡ length (stood nodes n puts end) = ap (λ l. length l) are in
    omega (arith, le, long, stood_long nodes n puts end)
