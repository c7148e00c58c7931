-- That each dividing assignment stays through all passes: from graph to graph, and from the instructions of the source
-- to those of the target. Cited by contracts.
use Rattle.std.specs.Prelude.{◌≡◌, ◌<◌, ℕ, true, List, slice_get, Some}
use Rattle.mir_base.specs.declared.instructions.Inst.{Inst}
use Rattle.mir_base.specs.declared.instructions.Operand.{Operand}
use Rattle.mir_base.specs.declared.operators.Op.{Op}
use Rattle.mir_base.specs.Expressions.{may_be_zero}
use Rattle.mir_base.specs.Shapes.{UnitShape}
use Rattle.flow_graph.specs.Dividing.{DividesOf}
use Rattle.flow_graph.specs.DividingUnits.{DividesAs, InstDivides, IsReachedPlace}
use Rattle.flow_graph.specs.Passes.{GraphDivides, GraphDividesUnchanged}
use Rattle.cond_const.specs.declared.known.Known.{Known}
use Rattle.cond_const.specs.Folded.{HasLeastStates, KeepsDivisions}
use Rattle.cond_const.specs.Folding.{resolved}
use Rattle.cond_const.specs.States.{NodeState, Knows}
use Rattle.mir_opt.specs.declared.trails.MoveTrail.{MoveTrail}
use Rattle.mir_opt.specs.declared.trails.Trail.{Trail}
use Rattle.mir_opt.specs.declared.trails.UnitTrail.{UnitTrail}

-- ---- from graph to graph

-- each dividing assignment of the lowered graph is in the clean one, with its variable, its operator and its operands;
-- folding keeps each that is reached, with its variable, and with its operator unless its divisor is known and not 0,
-- when it cannot trap; and each that divides after folding is in the last graph, with both. At each step they are in
-- their old order, and no two become one
pub record DivisionsStay (unit : UnitTrail) : Type 0 where
  pub cleans : GraphDividesUnchanged unit.lowered unit.cleaned
  pub folds : KeepsDivisions unit.cleaned unit.folded
  pub keeps : GraphDivides unit.folded unit.swept

-- ---- from instructions to instructions

-- control can come to the instruction at this place, which assigns to the variable x, by this operator, what these
-- operands give, and divides
pub record IsDivision (body : List Inst) (place x : ℕ) (op : Op)
    (left right : Operand) : Type 0 where
  pub reached : IsReachedPlace body place
  pub divides : InstDivides body place x op left right

-- each division of the source is an instruction of the target, with its variable, its operator and its operands, and no
-- two are one; `to` gives the variables the numbers that they have in the target, by which they have their names
pub record DivisionsUnchanged (source target : UnitShape) : Type 0 where
  pub place : ℕ → ℕ
  pub to : ℕ → ℕ
  pub stays : (p x : ℕ) (op : Op) (left right : Operand) → IsDivision source.body p x op left right
      → DividesAs to source.vars target (place p) x op left right
  pub apart : (p q x y : ℕ) (op other : Op) (a b c d : Operand)
      → IsDivision source.body p x op a b → IsDivision source.body q y other c d → place p
      ≡ place q → p ≡ q

-- by these states of the nodes node n is reached, and the divisor may be 0 there
pub record MayDivideByZero (states : ℕ → NodeState) (n : ℕ) (divisor : Operand) : Type 0 where
  pub known : List Known
  pub knows : states n ≡ Knows known
  pub may : may_be_zero (resolved known divisor) ≡ true

-- the instruction at this place of the unit divides by this operator, whatever its operands are, and assigns to the
-- variable x, which has another number there, by which it has the name that it had
pub record DividesInto (to : ℕ → ℕ) (old : List (List ℕ)) (unit : UnitShape) (place x : ℕ)
    (op : Op) : Type 0 where
  pub left : Operand
  pub right : Operand
  pub is : InstDivides unit.body place (to x) op left right
  pub name : slice_get unit.vars (to x) ≡ slice_get old x

-- Each division of the source is the node of the clean graph at `node` of its place, with its variable, its operator and
-- its operands. Where that one is reached by the least states, and its divisor may be 0 by them, it is an instruction of
-- the target, with its variable and its operator; and no two of these are one
pub record DivisionsKept (source : UnitShape) (unit : UnitTrail) (target : UnitShape) : Type 0 where
  pub node : ℕ → ℕ
  pub at_node : (p x : ℕ) (op : Op) (left right : Operand)
      → IsDivision source.body p x op left right
      → DividesOf unit.cleaned.nodes (node p) x op left right
  pub in_order : (p q x y : ℕ) (op other : Op) (a b c d : Operand)
      → IsDivision source.body p x op a b → IsDivision source.body q y other c d → p < q
      → node p < node q
  pub states : ℕ → NodeState
  pub least : HasLeastStates unit.cleaned states
  pub place : ℕ → ℕ
  pub to : ℕ → ℕ
  pub stays : (p x : ℕ) (op : Op) (left right : Operand) → IsDivision source.body p x op left right
      → MayDivideByZero states (node p) right → DividesInto to source.vars target (place p) x op
  pub apart : (p q x y : ℕ) (op other : Op) (a b c d : Operand)
      → IsDivision source.body p x op a b → IsDivision source.body q y other c d
      → MayDivideByZero states (node p) b → MayDivideByZero states (node q) d → place p
      ≡ place q → p ≡ q

-- so it is in the unit of each number, after all passes
abbrev pub DivisionsReachTarget : Trail → Type 0
DivisionsReachTarget trail = (n : ℕ) (source target : UnitShape) (unit : UnitTrail)
    → slice_get trail.source.units n ≡ Some source → slice_get trail.units n ≡ Some unit
    → slice_get trail.target.units n ≡ Some target → DivisionsKept source unit target

-- and after code motion alone
abbrev pub MotionKeepsDivisions : MoveTrail → Type 0
MotionKeepsDivisions trail = (n : ℕ) (source target : UnitShape)
    → slice_get trail.source.units n ≡ Some source
    → slice_get trail.target.units n ≡ Some target → DivisionsUnchanged source target
