-- The names and numbers of a program are spelled as such.
use Rattle.std.proofs.Common.{◌≡◌, ℕ, zero, suc, ◌+◌, ◌<◌, ◌≤◌, ◌^◌, pos, FitsSigned, w64, List, [], ◌∷◌, length, map, codes, Option, None, Some, refl, sym, arith}
use Rattle.std.specs.List.{All, flat_map}
use Rattle.std.specs.Option.{option_map}
use Rattle.std.proofs.lemmas.List.{length-map}
use Rattle.std.proofs.lemmas.List.Elements.{All-head, All-tail, All-map}
use Rattle.mir_base.specs.ItemLaws.{all_at}
use Rattle.mir_base.specs.BelowLaws.{all_below_left, all_below_right}
use Rattle.mir_base.specs.NameLaws.{numbered_is_name}
use Rattle.mir_base.specs.declared.instructions.Operand.{Operand}
use Rattle.mir_base.specs.declared.instructions.Operand.TheVariants.{Var, Const}
use Rattle.mir_base.specs.declared.instructions.Rhs.{Rhs}
use Rattle.mir_base.specs.declared.instructions.Rhs.TheVariants.{Plain, Unary, Binary}
use Rattle.mir_base.specs.declared.instructions.Test.{Test}
use Rattle.mir_base.specs.declared.instructions.Test.TheVariants.{Rel, Holds, Fails}
use Rattle.mir_base.specs.declared.instructions.Inst.{Inst}
use Rattle.mir_base.specs.declared.instructions.Inst.TheVariants.{Receive, Assign, Goto, If, TrapIf, Call, Print, Return}
use Rattle.mir_base.specs.Names.{IsName}
use Rattle.mir_base.specs.Shapes.{UnitShape, AllBelow, operand_vars, rhs_vars, test_vars, into_vars, inst_vars, InstFits, BodyFits}
use Rattle.mir_base.specs.Text.{is_target, targets_below, label, Naming, var_text}
use Rattle.mir_print.specs.WellTyped.{OperandWellTyped, RhsWellTyped, TestWellTyped, InstWellTyped, UnitWellTyped}
use Rattle.mir_print.proofs.Counting.{at_most_one}
use Rattle.mir_print.proofs.Raws.{raw_operand, raw_rhs, raw_test, raw_form, unit_naming}
use Rattle.mir_print.proofs.Lines.{OperandFits, RhsFits, TestFits, IntoFits, ArgsFit, FormFits}
use Rattle.mir_print.proofs.Derived.{UnitSpelled}

-- ---- labels

-- at most each place below this one is jumped to
targets_few : (body : List Inst) (place : ℕ) → targets_below body place ≤ place
targets_few body zero = omega arith
targets_few body (suc place) = let few = targets_few body place in let one = at_most_one (is_target body place) in omega (arith, few, one)

-- the number of a label is one of 64 bits
pub label_small : (body : List Inst) (place : ℕ) → place ≤ length body → length body + 1 < 2 ^ 64 → targets_below body place + 1 < 2 ^ 64
label_small body place within few = omega (arith, targets_few body place)

-- a label is `L` and a number, which is a name
label_spelled : (body : List Inst) (place : ℕ) → place ≤ length body → length body + 1 < 2 ^ 64 → IsName (label body place)
label_spelled body place within few = numbered_is_name (codes "L") (targets_below body place + 1) refl (label_small body place within few)

-- ---- instructions

-- the number of a trap is one of 64 bits with a sign
trap_fits : (number : ℕ) → number < 2 ^ 8 → FitsSigned w64 (pos number)
trap_fits number low = record { sfits = omega (arith, low) }

module _ (naming : Naming) (vars : All IsName naming.vars) where
  var_spelled : (x : ℕ) → x < length naming.vars → IsName (var_text naming x)
  var_spelled x low = vars x [] low

  operand_fits : (a : Operand) → AllBelow (length naming.vars) (operand_vars a) → OperandWellTyped a → OperandFits (raw_operand naming a)
  operand_fits (Var x) below well_typed = var_spelled x below.0
  operand_fits (Const z) below well_typed = well_typed

  rhs_fits : (rhs : Rhs) → AllBelow (length naming.vars) (rhs_vars rhs) → RhsWellTyped rhs → RhsFits (raw_rhs naming rhs)
  rhs_fits (Plain a) below well_typed = operand_fits a below well_typed
  rhs_fits (Unary op a) below well_typed = operand_fits a below well_typed
  rhs_fits (Binary op a b) below well_typed =
      (operand_fits a (all_below_left (length naming.vars) (operand_vars a) (operand_vars b) below) well_typed.0, operand_fits b (all_below_right (length naming.vars) (operand_vars a) (operand_vars b) below) well_typed.1)

  test_fits : (test : Test) → AllBelow (length naming.vars) (test_vars test) → TestWellTyped test → TestFits (raw_test naming test)
  test_fits (Rel op a b) below well_typed =
      (operand_fits a (all_below_left (length naming.vars) (operand_vars a) (operand_vars b) below) well_typed.0, operand_fits b (all_below_right (length naming.vars) (operand_vars a) (operand_vars b) below) well_typed.1)
  test_fits (Holds a) below well_typed = operand_fits a below well_typed
  test_fits (Fails a) below well_typed = operand_fits a below well_typed

  into_fits : (into : Option ℕ) → AllBelow (length naming.vars) (into_vars into) → IntoFits (option_map (var_text naming) into)
  into_fits None below = tt
  into_fits (Some x) below = var_spelled x below.0

  args_fit : (operands : List Operand) → AllBelow (length naming.vars) (flat_map operand_vars operands) → All OperandWellTyped operands → ArgsFit (map (raw_operand naming) operands)
  args_fit [] below well_typed = tt
  args_fit (a ∷ operands) below well_typed = (
    operand_fits a (all_below_left (length naming.vars) (operand_vars a) (flat_map operand_vars operands) below) (All-head OperandWellTyped a operands well_typed),
    args_fit operands (all_below_right (length naming.vars) (operand_vars a) (flat_map operand_vars operands) below) (All-tail OperandWellTyped a operands well_typed),
  )

  form_fits : (units : List UnitShape) (place : ℕ) (inst : Inst) → All IsName naming.units → length units ≡ length naming.units → ((k : ℕ) → k ≤ length naming.body → IsName (label naming.body k)) → InstFits units naming.body place inst
      → AllBelow (length naming.vars) (inst_vars inst) → InstWellTyped inst → FormFits (raw_form naming inst)
  form_fits units place (Receive x) names many labels fits below well_typed = var_spelled x below.0
  form_fits units place (Assign x rhs) names many labels fits below well_typed = (var_spelled x below.0, rhs_fits rhs below.1 well_typed)
  form_fits units place (Goto target) names many labels fits below well_typed = labels target fits.1
  form_fits units place (If test target) names many labels fits below well_typed = (test_fits test below well_typed, labels target fits.1)
  form_fits units place (TrapIf test number) names many labels fits below well_typed = (test_fits test below well_typed.0, trap_fits number well_typed.1)
  form_fits units place (Call into unit operands) names many labels fits below well_typed =
      let low : unit < length naming.units = omega (arith, fits.0, many) in (
        into_fits into (all_below_left (length naming.vars) (into_vars into) (flat_map operand_vars operands) below),
        names unit [] low,
        args_fit operands (all_below_right (length naming.vars) (into_vars into) (flat_map operand_vars operands) below) well_typed,
      )
  form_fits units place (Print a) names many labels fits below well_typed = operand_fits a below well_typed
  form_fits units place (Return a) names many labels fits below well_typed = operand_fits a below well_typed

-- a unit of a program is spelled
pub unit_spelled : (units : List UnitShape) (unit : UnitShape) → All UnitWellTyped units → BodyFits units unit.body → UnitWellTyped unit → UnitSpelled (map (λ (u : UnitShape). u.name) units) unit
unit_spelled units unit all fits well_typed =
    let names = map (λ (u : UnitShape). u.name) units in
    let named : All IsName names = All-map IsName (λ (u : UnitShape). u.name) units (λ k d low. (all k d low).name) in
    let labels : (k : ℕ) → k ≤ length unit.body → IsName (label unit.body k) = λ k within. label_spelled unit.body k within well_typed.few in
    record {
      name = well_typed.name;
      labels = labels;
      forms = λ i inst at.
          form_fits (unit_naming names unit) well_typed.vars units i inst named (sym (length-map units (λ (u : UnitShape). u.name))) labels (fits.insts i inst at)
          (all_at (λ (j : Inst). AllBelow (length unit.vars) (inst_vars j)) unit.body i inst well_typed.below at) (all_at InstWellTyped unit.body i inst well_typed.numbers at);
    }
