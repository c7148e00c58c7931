-- Laws: a graph can be made of the nodes with loops, and they make no calls but those of the graph. For proofs only.
use Rattle.std.proofs.Common.{◌≡◌, ◌⊎◌, inl, inr, ℕ, zero, suc, ◌+◌, ◌-◌, ◌<◌, ◌≤◌, List, [], ◌∷◌, ◌++◌, length, flat_map, length-append, slice_get, slice_set, pos, Option, Some, None, refl, sym, ap, ◌∙◌, subst, arith}
use Rattle.std.proofs.lemmas.Bool.{cases_eq}
use Rattle.std.proofs.lemmas.List.{length-set}
use Rattle.std.proofs.lemmas.Option.{slice_get_within}
use Rattle.mir_base.specs.declared.instructions.Operand.{Operand}
use Rattle.mir_base.specs.declared.instructions.Operand.TheVariants.{Const}
use Rattle.mir_base.specs.declared.instructions.Rhs.TheVariants.{Plain}
use Rattle.mir_base.specs.BelowLaws.{all_below_left, all_below_more, all_below_right}
use Rattle.mir_base.specs.Shapes.{AllBelow, AllDiffer, into_vars, operand_vars, rhs_vars}
use Rattle.flow_graph.specs.declared.nodes.Node.{Node}
use Rattle.flow_graph.specs.declared.nodes.Node.TheVariants.{Start, Skip, Assign, Call}
use Rattle.flow_graph.specs.Calls.{NodesCall, node_call}
use Rattle.flow_graph.specs.Graphs.{CanMake, GraphShape, node_succs, node_vars, succs_of}
use Rattle.graph_edit.specs.Insertions.{Insertion, InsertionsBelow, chain, entry_among}
use Rattle.flow_graph.specs.ListLaws.{get_append, set_elsewhere, set_here}
use Rattle.flow_graph.specs.Numbering.{is_in}
use Rattle.flow_graph.specs.Plans.{start_succ}
use Rattle.program_pass.specs.ChainLaws.{chain_long, put_or_not, stood_kept, stood_long}
use Rattle.program_pass.specs.Chains.{stood}
use Rattle.tail_loop.specs.Tails.{AreLooped, IsTailCall, cleared, loop_assignments, moved, saved}
use Rattle.program_pass.specs.StoodLaws.{below_append, stood_calls, stood_can}

-- ---- the assignments of a self tail call

-- those of the temporaries
saved_below : (vars all : ℕ) (operands : List Operand) (first : ℕ) → vars ≤ all
    → AllBelow vars (flat_map operand_vars operands) → first + length operands ≤ all
    → InsertionsBelow all (saved first operands)
saved_below vars all [] first le below room = tt
saved_below vars all (a ∷ operands) first le below room =
    ((omega (arith, room), all_below_more vars all (operand_vars a) le (all_below_left vars (operand_vars a) (flat_map operand_vars operands) below)), saved_below vars all operands (suc first) le (all_below_right vars (operand_vars a) (flat_map operand_vars operands) below) (omega (arith, room)))

-- those of the received variables
moved_below : (vars all : ℕ) (received : List ℕ) (first : ℕ) → vars ≤ all → AllBelow vars received
    → first + length received ≤ all → InsertionsBelow all (moved first received)
moved_below vars all [] first le below room = tt
moved_below vars all (x ∷ received) first le below room = let lt = below.0 in ((omega (arith, lt, le), (omega (arith, room), tt)), moved_below vars all received (suc first) le below.1 (omega (arith, room)))

-- those of the others
cleared_below : (all : ℕ) (received : List ℕ) (count y : ℕ) → y + count ≤ all → InsertionsBelow all (cleared received y count)
cleared_below all received zero y room = tt
cleared_below all received (suc count) y room =
    put_or_not (InsertionsBelow all) (is_in y received) (record { var = y; rhs = Plain (Const (pos 0)) }) (cleared received (suc y) count)
    (λ is. cleared_below all received count (suc y) (omega (arith, room)))
    (λ is. ((omega (arith, room), tt), cleared_below all received count (suc y) (omega (arith, room))))

-- they are of variables of the graph and of its temporaries
pub loop_below : (shared vars all : ℕ) (received : List ℕ) (operands : List Operand) → shared ≤ vars
    → vars + length received ≤ all → AllBelow vars received → AllBelow vars (flat_map operand_vars operands)
    → length operands ≡ length received → InsertionsBelow all (loop_assignments shared vars received operands)
loop_below shared vars all received operands least room received_below operands_below long =
    below_append all (saved vars operands) (moved vars received ++ cleared received shared (vars - shared)) (saved_below vars all operands vars (omega (arith, room)) operands_below (omega (arith, room, long)))
    (below_append all (moved vars received) (cleared received shared (vars - shared)) (moved_below vars all received vars (omega (arith, room)) received_below (omega (arith, room))) (cleared_below all received (vars - shared) shared (omega (arith, room, least))))

-- ---- all of them

module _ (graph : GraphShape) (unit : ℕ) (names : List (List ℕ)) (can : CanMake graph.vars graph.received graph.nodes) (fit : (count : ℕ) → NodesCall graph.nodes unit count → count ≡ length graph.received) (differ : AllDiffer (graph.vars ++ names)) (least : graph.shared ≤ length graph.vars) where
  abbrev all_vars : List (List ℕ)
  all_vars = graph.vars ++ names

  -- the assignments of a self tail call are in range, where there are temporaries for the received variables
  call_below : length names ≡ length graph.received → (n : ℕ) (operands : List Operand)
      → IsTailCall graph.shared graph.nodes unit n operands
      → InsertionsBelow (length all_vars) (loop_assignments graph.shared (length graph.vars) graph.received operands)
  call_below temps n operands call =
      let below = can.below n (Call (Some call.into) unit operands call.next) call.is in
      let long = fit (length operands) (record { number = n; node = Call (Some call.into) unit operands call.next; here = call.is; calls = refl }) in
      loop_below graph.shared (length graph.vars) (length all_vars) graph.received operands least (omega (arith, temps, length-append graph.vars names)) can.received_below (all_below_right (length graph.vars) (into_vars (Some call.into)) (flat_map operand_vars operands) below) long

  -- a self tail call is not the first node
  call_later : (n : ℕ) (operands : List Operand) → IsTailCall graph.shared graph.nodes unit n operands → 1 ≤ n
  call_later zero operands call = let e : Some (Start can.start.0) ≡ Some (Call (Some call.into) unit operands call.next) = sym can.start.1 ∙ call.is in cc
  call_later (suc n) operands call = omega arith

  -- where Start leads
  start_to : (1 ≤ start_succ (slice_get graph.nodes 0)) × (start_succ (slice_get graph.nodes 0) < length graph.nodes)
  start_to =
      let after = can.succs 0 0 can.start.0 (ap (λ o. slice_get (succs_of o) 0) can.start.1) in
      let is : start_succ (slice_get graph.nodes 0) ≡ can.start.0 = ap start_succ can.start.1 in
      let one = after.0 in
      let lt = after.1 in
      (omega (arith, is, one), omega (arith, is, lt))

  -- a graph can be made of the nodes with loops, by one after the other
  pub looped_can : (calls : List ℕ) (nodes looped : List Node)
      → ((n : ℕ) (more : List ℕ) → calls ≡ n ∷ more → length names ≡ length graph.received)
      → length graph.nodes ≤ length nodes → CanMake all_vars graph.received nodes
      → AreLooped graph unit calls nodes looped → CanMake all_vars graph.received looped
  looped_can [] nodes looped temps le made are = subst (CanMake all_vars graph.received) (sym are) made
  looped_can (n ∷ calls) nodes looped temps le made are =
      let puts = loop_assignments graph.shared (length graph.vars) graph.received are.0 in
      let end = start_succ (slice_get graph.nodes 0) in
      let enough = temps n calls refl in
      let there = slice_get_within graph.nodes n (Call (Some are.1.into) unit are.0 are.1.next) are.1.is in
      let lt : n < length nodes = omega (arith, there, le) in
      let last = start_to.1 in
      let next = stood_can all_vars graph.received nodes n puts end made lt (call_later n are.0 are.1) (start_to.0, omega (arith, last, le)) (call_below enough n are.0 are.1) in
      looped_can calls (stood nodes n puts end) looped (λ m more e. enough) (omega (arith, le, stood_long nodes n puts end)) next are.2

  -- and they make no calls but those of the graph
  pub looped_calls : (calls : List ℕ) (nodes looped : List Node)
      → ((n : ℕ) (more : List ℕ) → calls ≡ n ∷ more → length names ≡ length graph.received)
      → length graph.nodes ≤ length nodes → AreLooped graph unit calls nodes looped → (called count : ℕ)
      → NodesCall looped called count → NodesCall nodes called count
  looped_calls [] nodes looped temps le are called count c = subst (λ l. NodesCall l called count) are c
  looped_calls (n ∷ calls) nodes looped temps le are called count c =
      let puts = loop_assignments graph.shared (length graph.vars) graph.received are.0 in
      let end = start_succ (slice_get graph.nodes 0) in
      let enough = temps n calls refl in
      let there = slice_get_within graph.nodes n (Call (Some are.1.into) unit are.0 are.1.next) are.1.is in
      let lt : n < length nodes = omega (arith, there, le) in
      stood_calls (length all_vars) nodes n puts end lt (call_below enough n are.0 are.1) called count
      (looped_calls calls (stood nodes n puts end) looped (λ m more e. enough) (omega (arith, le, stood_long nodes n puts end)) are.2 called count c)
