-- The rules by which it is found out which variables are 0. Cited by contracts.
use Rattle.std.specs.Prelude.{Bool, true, List}
use Rattle.mir_base.specs.declared.instructions.Operand.{Operand}
use Rattle.cond_flow.specs.Rules.{Rules, open_outside}
use Rattle.zero_flow.specs.declared.facts.ZeroFact.{ZeroFact}
use Rattle.zero_flow.specs.declared.facts.ZeroFact.TheVariants.{Zero, Any}
use Rattle.zero_flow.specs.ZeroFacts.{allows, joined_zero_fact, zero_fact_rank}
use Rattle.zero_flow.specs.Zeros.{zero_of, zero_of_rhs, zeros_along, zeros_go}

-- the operand may be 0
abbrev pub may_be_nought : List ZeroFact → Operand → Bool
may_be_nought facts a = allows (zero_of facts a) true

-- the rules: operands and right sides stay as they are
abbrev pub zero_rules : Rules ZeroFact
zero_rules = record {
  rank = zero_fact_rank;
  height = 2;
  top = Any;
  zero = Zero;
  joined = joined_zero_fact;
  of_rhs = zero_of_rhs;
  goes = zeros_go;
  along = zeros_along;
  operand = λ known a. a;
  rhs = λ known rhs. rhs;
  may_vanish = may_be_nought;
  outside = open_outside;
}
