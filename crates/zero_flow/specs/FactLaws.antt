-- Facts of 0 are ordered and have joins. For proofs only.
use Rattle.std.proofs.Common.{◌≡◌, ◌<◌, ◌≤◌, ◌⊎◌, inl, inr, Bool, true, false, ◌||◌, if◌then◌else◌, refl, sym, ap, ◌∙◌, arith}
use Rattle.fix_solve.specs.Order.{IsLeastUpper}
use Rattle.cond_flow.specs.Rules.{OrderRules}
use Rattle.zero_flow.specs.declared.facts.ZeroFact.{ZeroFact}
use Rattle.zero_flow.specs.declared.facts.ZeroFact.TheVariants.{Never, Zero, NotZero, Any}
use Rattle.zero_flow.specs.ZeroFacts.{BelowZeroFact, allows, decoded_zero_fact, fact_where, joined_zero_fact, no_number, zero_fact_kind, zero_fact_rank}
use Rattle.zero_flow.specs.ZeroRules.{zero_rules}

-- ---- truth values

-- either is so
pub or_left : (a b : Bool) → a ≡ true → (a || b) ≡ true
or_left true b h = refl
or_left false b h = cc

-- or the other
pub or_right : (a b : Bool) → b ≡ true → (a || b) ≡ true
or_right true b h = refl
or_right false b h = h

-- one of the two is so
pub or_cases : {C : Type 0} (a b : Bool) → (a || b) ≡ true → (a ≡ true → C) → (b ≡ true → C) → C
or_cases true b h p q = p refl
or_cases false b h p q = q h

-- truth values of which each follows from the other are equal
both_ways : (a b : Bool) → (a ≡ true → b ≡ true) → (b ≡ true → a ≡ true) → a ≡ b
both_ways true b p q = sym (p refl)
both_ways false true p q = q refl
both_ways false false p q = refl

-- ---- what a fact allows

-- it allows what it is made to
pub allows_where : (a b nought : Bool) → allows (fact_where a b) nought ≡ (if nought then a else b)
allows_where true true true = refl
allows_where true true false = refl
allows_where true false true = refl
allows_where true false false = refl
allows_where false true true = refl
allows_where false true false = refl
allows_where false false true = refl
allows_where false false false = refl

-- a fact is what it allows
fact_is : (x : ZeroFact) → fact_where (allows x true) (allows x false) ≡ x
fact_is Never = refl
fact_is Zero = refl
fact_is NotZero = refl
fact_is Any = refl

-- a join allows what either allows
pub allows_joined : (x y : ZeroFact) (nought : Bool)
    → allows (joined_zero_fact x y) nought ≡ (allows x nought || allows y nought)
allows_joined x y true = allows_where (allows x true || allows y true) (allows x false || allows y false) true
allows_joined x y false = allows_where (allows x true || allows y true) (allows x false || allows y false) false

-- ---- order

-- a fact is below itself
pub fact_refl : (x : ZeroFact) → BelowZeroFact x x
fact_refl x nought h = h

-- the order is transitive
fact_trans : (x y z : ZeroFact) → BelowZeroFact x y → BelowZeroFact y z → BelowZeroFact x z
fact_trans x y z p q nought h = q nought (p nought h)

-- and antisymmetric
fact_antisym : (x y : ZeroFact) → BelowZeroFact x y → BelowZeroFact y x → x ≡ y
fact_antisym x y p q =
    sym (fact_is x)
    ∙ ap (λ a. fact_where a (allows x false)) (both_ways (allows x true) (allows y true) (p true) (q true))
    ∙ ap (fact_where (allows y true)) (both_ways (allows x false) (allows y false) (p false) (q false))
    ∙ fact_is y

-- a fact that is below another and differs from it has a lower rank
fact_rises : (x y : ZeroFact) → BelowZeroFact x y → (x ≡ y) ⊎ (zero_fact_rank x < zero_fact_rank y)
fact_rises Never Never p = inl refl
fact_rises Never Zero p = inr (omega arith)
fact_rises Never NotZero p = inr (omega arith)
fact_rises Never Any p = inr (omega arith)
fact_rises Zero Never p = absurd (let bad : false ≡ true = p true refl in cc)
fact_rises Zero Zero p = inl refl
fact_rises Zero NotZero p = absurd (let bad : false ≡ true = p true refl in cc)
fact_rises Zero Any p = inr (omega arith)
fact_rises NotZero Never p = absurd (let bad : false ≡ true = p false refl in cc)
fact_rises NotZero Zero p = absurd (let bad : false ≡ true = p false refl in cc)
fact_rises NotZero NotZero p = inl refl
fact_rises NotZero Any p = inr (omega arith)
fact_rises Any Never p = absurd (let bad : false ≡ true = p true refl in cc)
fact_rises Any Zero p = absurd (let bad : false ≡ true = p false refl in cc)
fact_rises Any NotZero p = absurd (let bad : false ≡ true = p true refl in cc)
fact_rises Any Any p = inl refl

-- the rank is at most 2
ranks_few : (x : ZeroFact) → zero_fact_rank x ≤ 2
ranks_few Never = omega arith
ranks_few Zero = omega arith
ranks_few NotZero = omega arith
ranks_few Any = omega arith

-- the join is the least upper bound
fact_joins : (x y : ZeroFact) → IsLeastUpper BelowZeroFact x y (joined_zero_fact x y)
fact_joins x y = record {
  left = λ nought h. allows_joined x y nought ∙ or_left (allows x nought) (allows y nought) h;
  right = λ nought h. allows_joined x y nought ∙ or_right (allows x nought) (allows y nought) h;
  least =
      λ w p q nought h.
      or_cases (allows x nought) (allows y nought) (sym (allows_joined x y nought) ∙ h) (p nought) (q nought);
}

-- all together
pub order_rules : OrderRules BelowZeroFact zero_rules
order_rules = record {
  reflexive = fact_refl;
  transitive = fact_trans;
  antisymmetric = fact_antisym;
  rises = fact_rises;
  ranks = ranks_few;
  joins = fact_joins;
}

-- what is kept of a fact stands for it
pub zero_fact_stands : (x : ZeroFact) → decoded_zero_fact (zero_fact_kind x) (no_number x) ≡ x
zero_fact_stands Never = refl
zero_fact_stands Zero = refl
zero_fact_stands NotZero = refl
zero_fact_stands Any = refl
