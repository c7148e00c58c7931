-- The termed nodes do what the nodes of the graph do, and count no more, where what holds agrees. For
-- proofs only.
use Rattle.std.proofs.Common.{◌≡◌, ℕ, Option, Some, None, refl, sym, ◌∙◌, subst, arith}
use Rattle.std.specs.Option.{unwrap_or}
use Rattle.mir_base.specs.declared.instructions.Rhs.{Rhs}
use Rattle.mir_base.specs.FrameLaws.{ValuesFit}
use Rattle.mir_base.specs.Frames.{Frame, Values}
use Rattle.flow_graph.specs.declared.nodes.Node.{Node}
use Rattle.flow_graph.specs.declared.nodes.Node.TheVariants.{Start, Skip, Assign, Print, Guard, Call, Test, Return}
use Rattle.flow_graph.specs.Graphs.{GraphShape}
use Rattle.flow_graph.specs.Machines.{node_transition}
use Rattle.held_assign.specs.CheapRuns.{AsCheap, BecomesAsCheap, as_cheap, assigns_cheap, becomes_itself}
use Rattle.held_assign.specs.HeldPasses.{DoesAsTheOld}
use Rattle.held_assign.specs.HeldValues.{AgreesThere}
use Rattle.term_flow.specs.declared.reading.ByConstant.{ByConstant}
use Rattle.term_flow.specs.Termed.{IsHeldTerm, joined_rhs, termed_node}
use Rattle.term_flow.specs.Orders.{in_order}
use Rattle.term_flow.specs.Terms.{is_term, joined_of, joined_to, read_rhs}
use Rattle.term_flow.specs.JoinLaws.{joined_gives}
use Rattle.term_flow.specs.OrderLaws.{order_alike}
use Rattle.term_flow.specs.TermLaws.{reads}

-- a right side with its operands in order does the same
ordered : (values : Values) (rhs new : Rhs) → BecomesAsCheap values rhs new → BecomesAsCheap values rhs (in_order new)
ordered values rhs new is =
    let alike = order_alike values new in
    record { traps = alike.traps ∙ is.traps; value = alike.value ∙ is.value; counted = omega (arith, alike.counted, is.counted) }

-- ---- at a frame

module _ (graph : GraphShape) (f : Frame) (held : ℕ → Option Rhs) (is_held : (v : ℕ) → IsHeldTerm graph f.place v (held v)) (agrees : AgreesThere graph f) (fits : ValuesFit f.values) where
  -- the right side that joins it to what its variable holds
  held_becomes : (rhs : Rhs) (t : ByConstant) → read_rhs rhs ≡ Some t → (o : Option Rhs) → held t.var ≡ o → (new : Rhs) → joined_to t o ≡ Some new → BecomesAsCheap f.values rhs new
  held_becomes rhs t is None there new e = cc
  held_becomes rhs t is (Some inner) there new e =
      let holds = subst (IsHeldTerm graph f.place t.var) there (is_held t.var) in
      let r = reads f.values rhs t is in
      let g = joined_gives f.values fits rhs t is inner new e (agrees t.var inner holds.1) in
      record { traps = g.never ∙ sym r.never; value = g.value; counted = omega (arith, g.counted, r.counted) }

  -- any right side
  rhs_becomes : (rhs : Rhs) → BecomesAsCheap f.values rhs (joined_rhs held rhs)
  rhs_becomes rhs = ordered f.values rhs (unwrap_or (joined_of held (read_rhs rhs)) rhs) (by (read_rhs rhs) refl)
    where
      instead : (o : Option Rhs) → ((new : Rhs) → o ≡ Some new → BecomesAsCheap f.values rhs new) → BecomesAsCheap f.values rhs (unwrap_or o rhs)
      instead None is = becomes_itself f.values rhs
      instead (Some new) is = is new refl

      by : (o : Option ByConstant) → read_rhs rhs ≡ o → BecomesAsCheap f.values rhs (unwrap_or (joined_of held o) rhs)
      by None is = becomes_itself f.values rhs
      by (Some t) is = instead (joined_to t (held t.var)) (held_becomes rhs t is (held t.var) refl)

  -- so the new node does what the old one does
  node_cheap : (node : Node) → AsCheap (node_transition graph.shared graph.received (Some node) f) (node_transition graph.shared graph.received (Some (termed_node held node)) f)
  node_cheap (Start next) = as_cheap (node_transition graph.shared graph.received (Some (Start next)) f)
  node_cheap (Skip next) = as_cheap (node_transition graph.shared graph.received (Some (Skip next)) f)
  node_cheap (Assign x rhs next) = assigns_cheap x rhs (joined_rhs held rhs) next f (rhs_becomes rhs)
  node_cheap (Print a next) = as_cheap (node_transition graph.shared graph.received (Some (Print a next)) f)
  node_cheap (Guard test number next) = as_cheap (node_transition graph.shared graph.received (Some (Guard test number next)) f)
  node_cheap (Call into unit operands next) = as_cheap (node_transition graph.shared graph.received (Some (Call into unit operands next)) f)
  node_cheap (Test test taken other) = as_cheap (node_transition graph.shared graph.received (Some (Test test taken other)) f)
  node_cheap (Return a) = as_cheap (node_transition graph.shared graph.received (Some (Return a)) f)

-- at each frame where what holds agrees
pub termed_does : DoesAsTheOld (λ x t. is_term t) termed_node
termed_does graph f held is_held agrees fits node = node_cheap graph f held is_held agrees fits node
