-- Dividing assignments of a unit: as nodes of its graph, and of a graph as instructions of its layout. Cited by contracts
-- of `lower` and `layout`, and of mir_opt.
use Rattle.std.specs.Prelude.{◌≡◌, ◌<◌, ℕ, suc, true, List, [], ◌∷◌, ◌++◌, length, slice_get, Some}
use Rattle.mir_base.specs.declared.instructions.Inst.{Inst}
use Rattle.mir_base.specs.declared.instructions.Inst.TheVariants.{Assign}
use Rattle.mir_base.specs.declared.instructions.Operand.{Operand}
use Rattle.mir_base.specs.declared.instructions.Rhs.TheVariants.{Binary}
use Rattle.mir_base.specs.declared.operators.Op.{Op}
use Rattle.mir_base.specs.Expressions.{divides}
use Rattle.mir_base.specs.Shapes.{UnitShape, AllBelow, operand_vars}
use Rattle.flow_graph.specs.Dividing.{DividesAt, DividesOf}
use Rattle.flow_graph.specs.Graphs.{GraphShape, Reached}
use Rattle.flow_graph.specs.Lowered.{all_nodes}
use Rattle.flow_graph.specs.Numbering.{renamed_operand}

-- the instruction at this place assigns to the variable x, by this operator, what these operands give, and divides
pub record InstDivides (body : List Inst) (place x : ℕ) (op : Op)
    (left right : Operand) : Type 0 where
  pub is : slice_get body place ≡ Some (Assign x (Binary op left right))
  pub may_trap : divides (Binary op left right) ≡ true

-- control can come to the instruction at this place, where each test may hold or fail
abbrev pub IsReachedPlace : List Inst → ℕ → Type 0
IsReachedPlace body place = Reached (all_nodes body) (suc place)

-- each division of the unit to which control can come is the node of the graph at `node` of its place, with its variable,
-- its operator and its operands, and they are in their old order; its variables are those of the unit
pub record DivisionsLowered (unit : UnitShape) (graph : GraphShape) : Type 0 where
  pub node : ℕ → ℕ
  pub below : (place x : ℕ) (op : Op) (left right : Operand)
      → InstDivides unit.body place x op left right
      → AllBelow (length unit.vars) (x ∷ operand_vars left ++ operand_vars right)
  pub stays : (place x : ℕ) (op : Op) (left right : Operand) → IsReachedPlace unit.body place
      → InstDivides unit.body place x op left right
      → DividesOf graph.nodes (node place) x op left right
  pub in_order : (place later x : ℕ) (op : Op) (left right : Operand)
      → IsReachedPlace unit.body place
      → InstDivides unit.body place x op left right → place < later → node place < node later

-- these variables have by other numbers the names that they had
abbrev pub KeepNames : (ℕ → ℕ) → List (List ℕ) → List (List ℕ) → List ℕ → Type 0
KeepNames to old new [] = Unit {0}
KeepNames to old new (x ∷ xs) = (slice_get new (to x) ≡ slice_get old x) × KeepNames to old new xs

-- the instruction at this place of the unit assigns to the variable x, by this operator, what these operands give, and
-- divides; the variables have other numbers there, by which they have the names that they had
pub record DividesAs (to : ℕ → ℕ) (old : List (List ℕ)) (unit : UnitShape) (place x : ℕ) (op : Op)
    (left right : Operand) : Type 0 where
  pub is : InstDivides unit.body place (to x) op (renamed_operand to left)
      (renamed_operand to right)
  pub names : KeepNames to old unit.vars (x ∷ operand_vars left ++ operand_vars right)

-- each division of the graph is the instruction of the unit at `place` of its number, with its variable, its operator and
-- its operands, and no two are one
pub record DivisionsLaid (graph : GraphShape) (unit : UnitShape) : Type 0 where
  pub place : ℕ → ℕ
  pub to : ℕ → ℕ
  pub stays : (n x : ℕ) (op : Op) (left right : Operand) → DividesOf graph.nodes n x op left right
      → DividesAs to graph.vars unit (place n) x op left right
  pub apart : (n m x y : ℕ) (op other : Op) → DividesAt graph.nodes n x op
      → DividesAt graph.nodes m y other → place n ≡ place m → n ≡ m
