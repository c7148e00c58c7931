-- A compared node has the shape of the node: it leads where that does, calls the same, and reads what that reads or the
-- comparison does. For proofs only.
use Rattle.std.proofs.Common.{◌≡◌, ℕ, Bool, true, false, Option, Some, None, option_map, refl, sym, ap, subst}
use Rattle.std.specs.Option.{unwrap_or}
use Rattle.std.proofs.lemmas.Option.{same_Some}
use Rattle.mir_base.specs.declared.operators.UnOp.TheVariants.{Neg, Not}
use Rattle.mir_base.specs.declared.operators.RelOp.{RelOp}
use Rattle.mir_base.specs.declared.instructions.Rhs.{Rhs}
use Rattle.mir_base.specs.declared.instructions.Rhs.TheVariants.{Plain, Unary, Binary}
use Rattle.mir_base.specs.declared.instructions.Test.{Test as Condition}
use Rattle.mir_base.specs.Shapes.{AllBelow, rhs_vars, test_vars}
use Rattle.flow_graph.specs.declared.nodes.Node.{Node}
use Rattle.flow_graph.specs.declared.nodes.Node.TheVariants.{Start, Skip, Assign, Print, Guard, Call, Test, Return}
use Rattle.flow_graph.specs.Graphs.{node_vars}
use Rattle.flow_graph.specs.NodeByNode.{in_place_guard, in_place_itself, in_place_test}
use Rattle.held_assign.specs.HeldPasses.{ReadsWhatHolds, StandsInPlace}
use Rattle.compare_flow.specs.declared.truths.Asked.{Asked}
use Rattle.compare_flow.specs.Compared.{compared_node, compared_test, truth_in, truth_of}
use Rattle.compare_flow.specs.Truths.{asked_in, relation_of, relation_test, truth_test, zero_test}

-- ---- one node

-- the new node stands in the place of the old one
pub compared_in_place : StandsInPlace compared_node
compared_in_place held (Start next) = in_place_itself (Start next)
compared_in_place held (Skip next) = in_place_itself (Skip next)
compared_in_place held (Assign x rhs next) = in_place_itself (Assign x rhs next)
compared_in_place held (Print a next) = in_place_itself (Print a next)
compared_in_place held (Guard test number next) = in_place_guard test (compared_test held test) number next
compared_in_place held (Call into unit operands next) = in_place_itself (Call into unit operands next)
compared_in_place held (Test test taken other) = in_place_test test (compared_test held test) taken other
compared_in_place held (Return a) = in_place_itself (Return a)

-- ---- variables of a node

-- the test for a comparison reads the variables of the comparison
truth_reads : (rhs : Rhs) (holds : Bool) (t : Condition) → truth_test rhs holds ≡ Some t → test_vars t ≡ rhs_vars rhs
truth_reads (Plain a) holds t e = cc
truth_reads (Unary Neg a) holds t e = cc
truth_reads (Unary Not a) true t e = ap test_vars (sym (same_Some (zero_test a true) t e))
truth_reads (Unary Not a) false t e = ap test_vars (sym (same_Some (zero_test a false) t e))
truth_reads (Binary op a b) holds t e = by (relation_of op) holds e
  where
    by : (o : Option RelOp) (h : Bool) → option_map (λ r. relation_test r a b h) o ≡ Some t → test_vars t ≡ rhs_vars (Binary op a b)
    by None h f = cc
    by (Some r) true f = ap test_vars (sym (same_Some (relation_test r a b true) t f))
    by (Some r) false f = ap test_vars (sym (same_Some (relation_test r a b false) t f))

module _ (k : ℕ) (held : ℕ → Option Rhs) (low : (v : ℕ) (rhs : Rhs) → held v ≡ Some rhs → AllBelow k (rhs_vars rhs)) where
  -- that of a comparison that is held reads variables below
  truth_below : (q : Asked) (o : Option Rhs) → held q.var ≡ o → (t : Condition) → truth_in o q.holds ≡ Some t → AllBelow k (test_vars t)
  truth_below q None is t e = cc
  truth_below q (Some rhs) is t e = subst (AllBelow k) (sym (truth_reads rhs q.holds t e)) (low q.var rhs is)

  -- so does the new test
  test_below : (test : Condition) → AllBelow k (test_vars test) → AllBelow k (test_vars (compared_test held test))
  test_below test below = by (asked_in test)
    where
      instead : (o : Option Condition) → ((t : Condition) → o ≡ Some t → AllBelow k (test_vars t)) → AllBelow k (test_vars (unwrap_or o test))
      instead None is = below
      instead (Some t) is = is t refl

      by : (o : Option Asked) → AllBelow k (test_vars (unwrap_or (truth_of held o) test))
      by None = below
      by (Some q) = instead (truth_in (held q.var) q.holds) (truth_below q (held q.var) refl)

  node_below : (node : Node) → AllBelow k (node_vars node) → AllBelow k (node_vars (compared_node held node))
  node_below (Start next) below = below
  node_below (Skip next) below = below
  node_below (Assign x rhs next) below = below
  node_below (Print a next) below = below
  node_below (Guard test number next) below = test_below test below
  node_below (Call into unit operands next) below = below
  node_below (Test test taken other) below = test_below test below
  node_below (Return a) below = below

-- so does each new node
pub compared_reads : ReadsWhatHolds compared_node
compared_reads k held low node below = node_below k held low node below
