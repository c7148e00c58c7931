-- Why a unit is a leaf, or is none. Cited by contracts, those of the crates above too.
use Rattle.std.specs.Prelude.{◌≡◌, ◌↔◌, ℕ, ◌<◌, true, false, List, [], ◌∷◌, length, Option, Some, None}
use Rattle.mir_base.specs.declared.instructions.Inst.{Inst}
use Rattle.mir_base.specs.declared.instructions.Inst.TheVariants as insts
use Rattle.mir_base.specs.Shapes.{UnitShape}
use Rattle.unit_join.specs.declared.leaf_tests.LeafTest.{LeafTest}
use Rattle.unit_join.specs.Joins.{IsLeafUnit}

-- the unit that an instruction calls
abbrev pub called_by : Inst → Option ℕ
called_by (insts.Call into unit operands) = Some unit
called_by _ = None

-- this unit, and where there is none the other
abbrev pub or_else : Option ℕ → Option ℕ → Option ℕ
or_else None other = other
or_else (Some unit) other = Some unit

-- the unit that the first call of these instructions calls
abbrev pub first_called : List Inst → Option ℕ
first_called [] = None
first_called (inst ∷ rest) = or_else (called_by inst) (first_called rest)

-- how many instructions the unit has, whether they are more than a leaf has, and which unit it calls first; it is a leaf
-- exactly where they are not more and it calls none
pub record IsLeafTest (unit : UnitShape) (test : LeafTest) : Type 0 where
  pub insts : test.insts ≡ length unit.body
  pub long : (test.long ≡ true) ↔ (32 < length unit.body)
  pub calls : test.calls ≡ first_called unit.body
  pub leaf : IsLeafUnit unit ↔ ((test.long ≡ false) × (test.calls ≡ None))
