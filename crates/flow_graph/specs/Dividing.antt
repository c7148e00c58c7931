-- Dividing assignments, and that a pass keeps each of them: unchanged, or with the same variable and operator. Cited by
-- contracts of the passes above.
use Rattle.std.specs.Prelude.{◌≡◌, ◌<◌, ℕ, true, List, slice_get, Some}
use Rattle.mir_base.specs.declared.instructions.Operand.{Operand}
use Rattle.mir_base.specs.declared.instructions.Rhs.TheVariants.{Binary}
use Rattle.mir_base.specs.declared.operators.Op.{Op}
use Rattle.mir_base.specs.Expressions.{divides}
use Rattle.flow_graph.specs.declared.nodes.Node.{Node}
use Rattle.flow_graph.specs.declared.nodes.Node.TheVariants.{Assign}

-- node n assigns to the variable x, by this operator, what these operands give, and divides
pub record DividesOf (nodes : List Node) (n x : ℕ) (op : Op) (left right : Operand) : Type 0 where
  pub next : ℕ
  pub is : slice_get nodes n ≡ Some (Assign x (Binary op left right) next)
  pub may_trap : divides (Binary op left right) ≡ true

-- node n assigns to the variable x, by this operator, and divides
pub record DividesAt (nodes : List Node) (n x : ℕ) (op : Op) : Type 0 where
  pub left : Operand
  pub right : Operand
  pub of : DividesOf nodes n x op left right

-- each node that divides stands in the result at `place` of its number, with the same variable, the same operator and the
-- same operands, and no two at one place: they are in their old order
pub record DividesUnchanged (nodes result : List Node) : Type 0 where
  pub place : ℕ → ℕ
  pub stays : (n x : ℕ) (op : Op) (left right : Operand) → DividesOf nodes n x op left right
      → DividesOf result (place n) x op left right
  pub in_order : (n m x y : ℕ) (op other : Op) → DividesAt nodes n x op → DividesAt nodes m y other
      → n < m → place n < place m

-- each node that divides stands in the result at `place` of its number, with the same variable and the same operator, and
-- no two at one place: they are in their old order
pub record DividesStay (nodes result : List Node) : Type 0 where
  pub place : ℕ → ℕ
  pub stays : (n x : ℕ) (op : Op) → DividesAt nodes n x op → DividesAt result (place n) x op
  pub in_order : (n m x y : ℕ) (op other : Op) → DividesAt nodes n x op → DividesAt nodes m y other
      → n < m → place n < place m
