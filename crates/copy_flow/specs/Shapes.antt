-- A copied node has the shape of the node: it leads where that does, calls the same, and reads what that reads or what holds
-- does; each division stays in its place. For proofs only.
use Rattle.std.proofs.Common.{◌≡◌, ℕ, ◌<◌, Bool, true, false, ◌&&◌, if◌then◌else◌, List, [], ◌∷◌, ◌++◌, map, flat_map, Option, Some, None, option_map, refl, ap, ◌∙◌}
use Rattle.std.proofs.lemmas.List.{length-map}
use Rattle.mir_base.specs.declared.operators.Op.{Op}
use Rattle.mir_base.specs.declared.instructions.Operand.{Operand}
use Rattle.mir_base.specs.declared.instructions.Operand.TheVariants.{Var, Const}
use Rattle.mir_base.specs.declared.instructions.Rhs.{Rhs}
use Rattle.mir_base.specs.declared.instructions.Rhs.TheVariants.{Plain, Unary, Binary}
use Rattle.mir_base.specs.declared.instructions.Test as tests
use Rattle.mir_base.specs.declared.instructions.Test.TheVariants.{Rel, Holds, Fails}
use Rattle.mir_base.specs.Numbers.{is_dividing}
use Rattle.mir_base.specs.Expressions.{may_be_zero}
use Rattle.mir_base.specs.Shapes.{AllBelow, operand_vars, rhs_vars, test_vars, into_vars}
use Rattle.mir_base.specs.BelowLaws.{all_below_left, all_below_right, all_below_append}
use Rattle.flow_graph.specs.declared.nodes.Node.{Node}
use Rattle.flow_graph.specs.declared.nodes.Node.TheVariants.{Start, Skip, Assign, Print, Guard, Call, Test, Return}
use Rattle.flow_graph.specs.Dividing.{DividesAt, DividesStay}
use Rattle.flow_graph.specs.Graphs.{GraphShape, node_vars}
use Rattle.flow_graph.specs.NodeByNode.{IsInPlace, in_place_guard, in_place_itself, in_place_test}
use Rattle.flow_graph.specs.Numbering.{renamed_operand, renamed_rhs, renamed_test}
use Rattle.held_assign.specs.HeldPasses.{AreMadeByHeld, ReadsWhatHolds, StandsInPlace}
use Rattle.copy_flow.specs.Copied.{copied_node, reread_node}
use Rattle.copy_flow.specs.Copies.{is_copy, is_var, read_for}

-- ---- one node

-- an assignment or a Skip stands in the place of an assignment
chosen_in_place : (b : Bool) (x : ℕ) (rhs new : Rhs) (next : ℕ) → IsInPlace (Assign x rhs next) (if b then Skip next else Assign x new next)
chosen_in_place true x rhs new next = record { succs = refl; call = refl; was_start = λ s e. cc; start = λ s e. cc; skip = λ s e. cc }
chosen_in_place false x rhs new next = record { succs = refl; call = refl; was_start = λ s e. cc; start = λ s e. cc; skip = λ s e. cc }

-- the new node stands in the place of the old one
reread_in_place : (read : ℕ → ℕ) (node : Node) → IsInPlace node (reread_node read node)
reread_in_place read (Start next) = in_place_itself (Start next)
reread_in_place read (Skip next) = in_place_itself (Skip next)
reread_in_place read (Assign x rhs next) = chosen_in_place (is_var x (renamed_rhs read rhs)) x rhs (renamed_rhs read rhs) next
reread_in_place read (Print a next) = record { succs = refl; call = refl; was_start = λ s e. cc; start = λ s e. cc; skip = λ s e. cc }
reread_in_place read (Guard test number next) = in_place_guard test (renamed_test read test) number next
reread_in_place read (Call into unit operands next) = record {
  succs = refl;
  call = ap (λ n. Some (unit, n)) (length-map operands (renamed_operand read));
  was_start = λ s e. cc;
  start = λ s e. cc;
  skip = λ s e. cc;
}
reread_in_place read (Test test taken other) = in_place_test test (renamed_test read test) taken other
reread_in_place read (Return a) = record { succs = refl; call = refl; was_start = λ s e. cc; start = λ s e. cc; skip = λ s e. cc }

-- ---- variables of a node

module _ (k : ℕ) (read : ℕ → ℕ) (low : (v : ℕ) → v < k → read v < k) where
  operand_below : (a : Operand) → AllBelow k (operand_vars a) → AllBelow k (operand_vars (renamed_operand read a))
  operand_below (Var x) below = (low x below.0, tt)
  operand_below (Const c) below = tt

  operands_below : (operands : List Operand) → AllBelow k (flat_map operand_vars operands) → AllBelow k (flat_map operand_vars (map (renamed_operand read) operands))
  operands_below [] below = tt
  operands_below (a ∷ operands) below =
      all_below_append k (operand_vars (renamed_operand read a)) (flat_map operand_vars (map (renamed_operand read) operands)) (operand_below a (all_below_left k (operand_vars a) (flat_map operand_vars operands) below))
      (operands_below operands (all_below_right k (operand_vars a) (flat_map operand_vars operands) below))

  pair_below : (a b : Operand) → AllBelow k (operand_vars a ++ operand_vars b) → AllBelow k (operand_vars (renamed_operand read a) ++ operand_vars (renamed_operand read b))
  pair_below a b below =
      all_below_append k (operand_vars (renamed_operand read a)) (operand_vars (renamed_operand read b)) (operand_below a (all_below_left k (operand_vars a) (operand_vars b) below)) (operand_below b (all_below_right k (operand_vars a) (operand_vars b) below))

  rhs_below : (rhs : Rhs) → AllBelow k (rhs_vars rhs) → AllBelow k (rhs_vars (renamed_rhs read rhs))
  rhs_below (Plain a) below = operand_below a below
  rhs_below (Unary op a) below = operand_below a below
  rhs_below (Binary op a b) below = pair_below a b below

  test_below : (test : tests.Test) → AllBelow k (test_vars test) → AllBelow k (test_vars (renamed_test read test))
  test_below (Rel op a b) below = pair_below a b below
  test_below (Holds a) below = operand_below a below
  test_below (Fails a) below = operand_below a below

  chosen_below : (b : Bool) (x : ℕ) (rhs : Rhs) (next : ℕ) → x < k → AllBelow k (rhs_vars rhs) → AllBelow k (node_vars (if b then Skip next else Assign x rhs next))
  chosen_below true x rhs next x_in below = tt
  chosen_below false x rhs next x_in below = (x_in, below)

  reread_below : (node : Node) → AllBelow k (node_vars node) → AllBelow k (node_vars (reread_node read node))
  reread_below (Start next) below = below
  reread_below (Skip next) below = below
  reread_below (Assign x rhs next) below = chosen_below (is_var x (renamed_rhs read rhs)) x (renamed_rhs read rhs) next below.0 (rhs_below rhs below.1)
  reread_below (Print a next) below = operand_below a below
  reread_below (Guard test number next) below = test_below test below
  reread_below (Call into unit operands next) below =
      all_below_append k (into_vars into) (flat_map operand_vars (map (renamed_operand read) operands)) (all_below_left k (into_vars into) (flat_map operand_vars operands) below)
      (operands_below operands (all_below_right k (into_vars into) (flat_map operand_vars operands) below))
  reread_below (Test test taken other) below = test_below test below
  reread_below (Return a) below = operand_below a below

-- ---- by what holds

-- each new node stands in the place of the old one
pub copied_in_place : StandsInPlace copied_node
copied_in_place held node = reread_in_place (λ v. read_for v (held v)) node

-- what is read for a variable is one below, where all that holds is
read_below : (k v : ℕ) (rhs : Option Rhs) → ((r : Rhs) → rhs ≡ Some r → AllBelow k (rhs_vars r)) → v < k → read_for v rhs < k
read_below k v None low below = below
read_below k v (Some (Plain (Var w))) low below = (low (Plain (Var w)) refl).0
read_below k v (Some (Plain (Const c))) low below = below
read_below k v (Some (Unary op a)) low below = below
read_below k v (Some (Binary op a b)) low below = below

-- so the new node reads what holds, or what the old one reads
pub copied_reads : ReadsWhatHolds copied_node
copied_reads k held low node below = reread_below k (λ v. read_for v (held v)) (λ v v_in. read_below k v (held v) (low v) v_in) node below

-- ---- the copied nodes

module _ (graph : GraphShape) (nodes : List Node) (are : AreMadeByHeld is_copy copied_node graph nodes) where
  -- an operand that may be 0 may be 0 still
  zero_stays : (read : ℕ → ℕ) (a : Operand) → may_be_zero (renamed_operand read a) ≡ may_be_zero a
  zero_stays read (Var x) = refl
  zero_stays read (Const c) = refl

  division_stays : (n x : ℕ) (op : Op) → DividesAt graph.nodes n x op → DividesAt nodes n x op
  division_stays n x op at =
      let read = λ (v : ℕ). read_for v (are.held n v) in
      record {
        left = renamed_operand read at.left;
        right = renamed_operand read at.right;
        of = record {
          next = at.of.next;
          is = are.nodes_are n ∙ ap (option_map (copied_node (are.held n))) at.of.is;
          may_trap = ap (λ b. is_dividing op && b) (zero_stays read at.right) ∙ at.of.may_trap;
        };
      }

  pub copied_divides : DividesStay graph.nodes nodes
  copied_divides = record { place = λ n. n; stays = division_stays; in_order = λ n m x y op other at at' lt. lt }
