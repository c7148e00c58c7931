-- What stands at a place of the raw program.
use Rattle.std.proofs.Common.{◌≡◌, ℕ, zero, suc, ◌+◌, ◌<◌, List, [], ◌∷◌, length, take, slice_get, Some, refl, ap, arith}
use Rattle.mir_base.specs.declared.instructions.Inst.{Inst}
use Rattle.mir_base.specs.Shapes.{UnitShape}
use Rattle.mir_base.specs.Text.{Naming}
use Rattle.mir_parse.specs.declared.raw.RawInst.{RawInst}
use Rattle.mir_parse.specs.RawUnit.{RawUnitShape}
use Rattle.mir_print.proofs.Raws.{raw_form, raw_insts, raw_unit, raw_units}

-- an instruction of a raw body is that of an instruction at its place
pub record RawAt (naming : Naming) (insts : List Inst) (i : ℕ) (raw : RawInst) : Type 0 where
  pub inst : Inst
  pub at : slice_get insts i ≡ Some inst
  pub form : raw.form ≡ raw_form naming inst

-- the instruction at a place
pub inst_at : (naming : Naming) (line : ℕ) (insts : List Inst) (i : ℕ) (raw : RawInst) → slice_get (raw_insts naming line insts) i ≡ Some raw → RawAt naming insts i raw
inst_at naming line [] i raw at = absurd (cc)
inst_at naming line (inst ∷ insts) zero raw at =
    let same : raw ≡ record { line = line; form = raw_form naming inst } = cc in record { inst = inst; at = refl; form = ap (λ (r : RawInst). r.form) same }
inst_at naming line (inst ∷ insts) (suc i) raw at = let found = inst_at naming (line + 1) insts i raw at in record { inst = found.inst; at = found.at; form = found.form }

-- the first instructions
pub take_insts : (naming : Naming) (line i : ℕ) (insts : List Inst) → take i (raw_insts naming line insts) ≡ raw_insts naming line (take i insts)
take_insts naming line zero insts = refl
take_insts naming line (suc i) [] = refl
take_insts naming line (suc i) (inst ∷ insts) = ap (λ (l : List RawInst). record { line = line; form = raw_form naming inst } ∷ l) (take_insts naming (line + 1) i insts)

-- how many they are
pub length_insts : (naming : Naming) (line : ℕ) (insts : List Inst) → length (raw_insts naming line insts) ≡ length insts
length_insts naming line [] = refl
length_insts naming line (inst ∷ insts) = ap suc (length_insts naming (line + 1) insts)

-- a raw unit is that of a unit at its place
pub record UnitAt (names : List (List ℕ)) (units : List UnitShape) (i : ℕ) (raw : RawUnitShape) : Type 0 where
  pub line : ℕ
  pub unit : UnitShape
  pub at : slice_get units i ≡ Some unit
  pub is : raw ≡ raw_unit names line unit

-- the unit at a place
pub unit_at : (names : List (List ℕ)) (line : ℕ) (units : List UnitShape) (i : ℕ) (raw : RawUnitShape) → slice_get (raw_units names line units) i ≡ Some raw → UnitAt names units i raw
unit_at names line [] i raw at = absurd (cc)
unit_at names line (unit ∷ units) zero raw at = record { line = line; unit = unit; at = refl; is = cc }
unit_at names line (unit ∷ units) (suc i) raw at = let found = unit_at names (line + 1 + length unit.body + 1) units i raw at in record { line = found.line; unit = found.unit; at = found.at; is = found.is }

-- how many units there are
pub length_units : (names : List (List ℕ)) (line : ℕ) (units : List UnitShape) → length (raw_units names line units) ≡ length units
length_units names line [] = refl
length_units names line (unit ∷ units) = ap suc (length_units names (line + 1 + length unit.body + 1) units)

-- an item of the first ones
pub get_from_take : {A : Type 0} (xs : List A) (i k : ℕ) (x : A) → slice_get (take i xs) k ≡ Some x → (k < i) × (slice_get xs k ≡ Some x)
get_from_take xs zero k x at = absurd (cc)
get_from_take [] (suc i) k x at = absurd (cc)
get_from_take (y ∷ xs) (suc i) zero x at = (omega arith, at)
get_from_take (y ∷ xs) (suc i) (suc k) x at = let found = get_from_take xs i k x at in (omega (arith, found.0), found.1)
