-- A termed node has the shape of the node: it leads where that does, calls the same, and reads what that reads or what holds
-- does; divisions stay as they are. For proofs only.
use Rattle.std.proofs.Common.{◌≡◌, ℕ, ◌&&◌, if◌then◌else◌, true, List, Option, Some, None, refl, ap, ◌∙◌, ℤ}
use Rattle.std.specs.Option.{unwrap_or}
use Rattle.std.proofs.lemmas.Bool.{and_parts}
use Rattle.mir_base.specs.declared.operators.Op.{Op}
use Rattle.mir_base.specs.declared.operators.Op.TheVariants.{Div, Mod}
use Rattle.mir_base.specs.declared.instructions.Operand.{Operand}
use Rattle.mir_base.specs.declared.instructions.Operand.TheVariants.{Var, Const}
use Rattle.mir_base.specs.declared.instructions.Rhs.{Rhs}
use Rattle.mir_base.specs.declared.instructions.Rhs.TheVariants.{Binary}
use Rattle.mir_base.specs.Expressions.{divides, may_be_zero}
use Rattle.mir_base.specs.Frames.{all_zero}
use Rattle.mir_base.specs.NumberLaws.{zero_fits}
use Rattle.mir_base.specs.Numbers.{is_dividing, wrapped}
use Rattle.mir_base.specs.Shapes.{AllBelow, rhs_vars}
use Rattle.flow_graph.specs.declared.nodes.Node.{Node}
use Rattle.flow_graph.specs.declared.nodes.Node.TheVariants.{Start, Skip, Assign, Print, Guard, Call, Test, Return}
use Rattle.flow_graph.specs.Dividing.{DividesUnchanged}
use Rattle.flow_graph.specs.Graphs.{GraphShape, node_vars}
use Rattle.flow_graph.specs.NodeByNode.{in_place_assign, in_place_itself, kept_divides}
use Rattle.held_assign.specs.HeldPasses.{AreMadeByHeld, ReadsWhatHolds, StandsInPlace}
use Rattle.held_assign.specs.HeldPassLaws.{by_node}
use Rattle.term_flow.specs.declared.reading.ByConstant.{ByConstant}
use Rattle.term_flow.specs.Termed.{joined_rhs, termed_node}
use Rattle.term_flow.specs.Orders.{in_order, is_turned}
use Rattle.term_flow.specs.Terms.{is_term, joined_of, joined_to, left_read, read_binary, read_rhs, right_read}
use Rattle.term_flow.specs.JoinLaws.{held_gives}
use Rattle.term_flow.specs.OrderLaws.{order_below, unturned}
use Rattle.term_flow.specs.TermLaws.{reads}

-- ---- one node

-- the new node stands in the place of the old one
pub termed_in_place : StandsInPlace termed_node
termed_in_place held (Start next) = in_place_itself (Start next)
termed_in_place held (Skip next) = in_place_itself (Skip next)
termed_in_place held (Assign x rhs next) = in_place_assign x rhs (joined_rhs held rhs) next
termed_in_place held (Print a next) = in_place_itself (Print a next)
termed_in_place held (Guard test number next) = in_place_itself (Guard test number next)
termed_in_place held (Call into unit operands next) = in_place_itself (Call into unit operands next)
termed_in_place held (Test test taken other) = in_place_itself (Test test taken other)
termed_in_place held (Return a) = in_place_itself (Return a)

-- ---- variables of a node

-- what joins a right side to what its variable holds reads no other variables than that
joined_below : (k : ℕ) (rhs : Rhs) (t : ByConstant) → read_rhs rhs ≡ Some t → (held new : Rhs) → joined_to t (Some held) ≡ Some new → AllBelow k (rhs_vars held) → AllBelow k (rhs_vars new)
joined_below k rhs t is held new e =
    let r = reads all_zero rhs t is in
    let g = held_gives all_zero (record { fit = λ x. zero_fits }) t r.fits held new e in
    g.reads k

module _ (k : ℕ) (held : ℕ → Option Rhs) (low : (v : ℕ) (rhs : Rhs) → held v ≡ Some rhs → AllBelow k (rhs_vars rhs)) where
  -- that of a right side that is held reads variables below
  held_below : (rhs : Rhs) (t : ByConstant) → read_rhs rhs ≡ Some t → (o : Option Rhs) → held t.var ≡ o → (new : Rhs) → joined_to t o ≡ Some new → AllBelow k (rhs_vars new)
  held_below rhs t is None there new e = cc
  held_below rhs t is (Some inner) there new e = joined_below k rhs t is inner new e (low t.var inner there)

  -- so does the new right side
  rhs_below : (rhs : Rhs) → AllBelow k (rhs_vars rhs) → AllBelow k (rhs_vars (joined_rhs held rhs))
  rhs_below rhs below = order_below k (unwrap_or (joined_of held (read_rhs rhs)) rhs) (by (read_rhs rhs) refl)
    where
      instead : (o : Option Rhs) → ((new : Rhs) → o ≡ Some new → AllBelow k (rhs_vars new)) → AllBelow k (rhs_vars (unwrap_or o rhs))
      instead None is = below
      instead (Some new) is = is new refl

      by : (o : Option ByConstant) → read_rhs rhs ≡ o → AllBelow k (rhs_vars (unwrap_or (joined_of held o) rhs))
      by None is = below
      by (Some t) is = instead (joined_to t (held t.var)) (held_below rhs t is (held t.var) refl)

  node_below : (node : Node) → AllBelow k (node_vars node) → AllBelow k (node_vars (termed_node held node))
  node_below (Start next) below = below
  node_below (Skip next) below = below
  node_below (Assign x rhs next) below = (below.0, rhs_below rhs below.1)
  node_below (Print a next) below = below
  node_below (Guard test number next) below = below
  node_below (Call into unit operands next) below = below
  node_below (Test test taken other) below = below
  node_below (Return a) below = below

-- so does each new node
pub termed_reads : ReadsWhatHolds termed_node
termed_reads k held low node below = node_below k held low node below

-- ---- divisions

-- of a dividing operator with a constant on the right nothing is read: division and remainder are not joined
unread_right : (op : Op) (x : ℕ) (c : ℤ) → is_dividing op ≡ true → right_read op x c ≡ None
unread_right Div x c e = refl
unread_right Mod x c e = refl
unread_right _ x c e = cc

-- nor with the constant on the left
unread_left : (op : Op) (c : ℤ) (x : ℕ) → is_dividing op ≡ true → left_read op c x ≡ None
unread_left Div c x e = refl
unread_left Mod c x e = refl
unread_left _ c x e = cc

-- nor of any two operands
unread : (op : Op) (left right : Operand) → is_dividing op ≡ true → read_binary op left right ≡ None
unread op (Var x) (Var y) e = refl
unread op (Var x) (Const c) e = unread_right op x (wrapped c) e
unread op (Const c) (Var x) e = unread_left op (wrapped c) x e
unread op (Const c) (Const d) e = refl

-- so a division stays
division_same : (held : ℕ → Option Rhs) (op : Op) (left right : Operand) → divides (Binary op left right) ≡ true → joined_rhs held (Binary op left right) ≡ Binary op left right
division_same held op left right e =
    let parts = and_parts (is_dividing op) (may_be_zero right) e in
    ap (λ o. in_order (unwrap_or (joined_of held o) (Binary op left right))) (unread op left right parts.0)
    ∙ ap (λ c. if c && is_turned left right then Binary op right left else Binary op left right) (unturned op parts.0)

-- ---- the termed nodes

module _ (graph : GraphShape) (nodes : List Node) (are : AreMadeByHeld (λ x t. is_term t) termed_node graph nodes) where
  -- divisions stay as they are
  pub termed_divides : DividesUnchanged graph.nodes nodes
  termed_divides = kept_divides graph.nodes nodes (by_node (λ x t. is_term t) termed_node graph nodes are termed_in_place) (λ n x op left right next may. ap (λ r. Assign x r next) (division_same (are.held n) op left right may))
