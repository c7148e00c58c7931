-- The rules are lawful. Cited by the ghost members of their `impl`.
use Rattle.std.proofs.Common.{◌≡◌, Bool, true, false, if◌then◌else◌, List, refl, ◌∙◌, arith}
use Rattle.mir_base.specs.declared.instructions.Operand.{Operand}
use Rattle.mir_base.specs.declared.instructions.Operand.TheVariants.{Var, Const}
use Rattle.mir_base.specs.declared.instructions.Rhs.{Rhs}
use Rattle.mir_base.specs.Expressions.{may_be_zero}
use Rattle.mir_base.specs.Frames.{Values}
use Rattle.mir_base.specs.Numbers.{wrapped}
use Rattle.cond_flow.specs.Rules.{BecomesRhs, LawfulRules, RewritingRules, RisingRules, SoundRules, open_outside}
use Rattle.zero_flow.specs.declared.facts.ZeroFact.{ZeroFact}
use Rattle.zero_flow.specs.declared.facts.ZeroFact.TheVariants.{Zero, NotZero}
use Rattle.zero_flow.specs.ZeroFacts.{BelowZeroFact, ZeroFactHolds, allows, is_zero}
use Rattle.zero_flow.specs.Zeros.{comparison}
use Rattle.zero_flow.specs.ZeroRules.{may_be_nought, zero_rules}
use Rattle.zero_flow.specs.FactLaws.{order_rules}
use Rattle.zero_flow.specs.EdgeLaws.{along_holds, along_rises, go_holds, go_rises, rhs_holds, rhs_rises}
use Rattle.zero_flow.specs.ReadingLaws.{frame_rules, length_with}

-- the surer what is known before, the surer what is known after
rising_rules : RisingRules BelowZeroFact zero_rules
rising_rules = record {
  right_side = rhs_rises;
  goes = go_rises;
  along = along_rises;
  long = λ test b xs. length_with (comparison test).left _ _ ∙ length_with (comparison test).right _ xs;
}

-- what is known holds of the values that a run has
sound_rules : SoundRules BelowZeroFact ZeroFactHolds zero_rules
sound_rules = record {
  up = λ x y z p h. p (is_zero z) h;
  top = λ z fits. refl;
  zero = refl;
  right_side = rhs_holds;
  goes = λ test b known values held fits is. go_holds test b known values held is;
  along = λ test b known values held fits is. along_holds test b known values held is;
}

-- a right side does what it does
stays : (values : Values) (rhs : Rhs) → BecomesRhs values rhs rhs
stays values rhs = record { traps = refl; value = refl; count = omega arith }

-- a number that may be 0 is 0
number_vanishes : (t : Bool) → allows (if t then Zero else NotZero) true ≡ true → t ≡ true
number_vanishes true h = refl
number_vanishes false h = cc

-- so what may be 0 is a variable, or 0
vanishes : (known : List ZeroFact) (a : Operand) → may_be_nought known a ≡ true → may_be_zero a ≡ true
vanishes known (Var x) h = refl
vanishes known (Const c) h = number_vanishes (is_zero (wrapped c)) h

-- operands and right sides stay
rewriting_rules : RewritingRules ZeroFactHolds zero_rules
rewriting_rules = record {
  operand_same = λ known values a held fits. refl;
  right_side_same = λ known values rhs held fits. stays values rhs;
  operand_below = λ n known a low. low;
  right_side_below = λ n known rhs low. low;
  divides = λ known op a b divides low. refl;
  vanishes = vanishes;
}

-- all laws
pub zero_laws : LawfulRules BelowZeroFact ZeroFactHolds zero_rules
zero_laws = record {
  order = order_rules;
  rising = rising_rules;
  sound = sound_rules;
  rewriting = rewriting_rules;
  frame = frame_rules;
}

-- nothing is known outside
pub zero_open : zero_rules.outside ≡ open_outside
zero_open = refl
