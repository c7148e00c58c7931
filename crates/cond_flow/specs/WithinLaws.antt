-- Rules keep their laws whatever is known outside. For proofs only.
use Rattle.std.proofs.Common.{◌≡◌, ℤ, List, [], sym, ap, ◌∙◌}
use Rattle.mir_base.specs.declared.instructions.Operand.{Operand}
use Rattle.mir_base.specs.declared.instructions.Operand.TheVariants.{Var, Const}
use Rattle.mir_base.specs.declared.instructions.Rhs.{Rhs}
use Rattle.mir_base.specs.declared.instructions.Rhs.TheVariants.{Plain, Unary, Binary}
use Rattle.mir_base.specs.declared.instructions.Test as tests
use Rattle.mir_base.specs.declared.instructions.Test.TheVariants.{Rel, Holds, Fails}
use Rattle.mir_base.specs.Frames.{Values}
use Rattle.cond_flow.specs.Rules.{OutsideShape, Rules, AgreeOn, AgreeOnRhs, AgreeOnTest, AreHeld, FrameRules, LawfulRules, OrderRules, RewritingRules, RisingRules, SoundRules, open_outside, within}

-- where nothing is known outside the rules are what they were
pub open_same : {K : Type 0} (rules : Rules K) → rules.outside ≡ open_outside → within open_outside rules ≡ rules
open_same rules is = ap (λ o. within o rules) (sym is)

-- nor where the lists are empty
pub nothing_same : {K : Type 0} (rules : Rules K) (entry : List K) → entry ≡ [] → rules.outside ≡ open_outside
    → within (record { entry = entry; backs = [] }) rules ≡ rules
nothing_same rules entry none is = ap (λ l. within (record { entry = l; backs = [] }) rules) none ∙ open_same rules is

module _ {K : Type 0} {below : K → K → Type 0} {rules : Rules K} (outside : OutsideShape K) where
  -- the order
  pub order_within : OrderRules below rules → OrderRules below (within outside rules)
  order_within order = record {
    reflexive = order.reflexive;
    transitive = order.transitive;
    antisymmetric = order.antisymmetric;
    rises = order.rises;
    ranks = order.ranks;
    joins = order.joins;
  }

  -- that they rise
  pub rising_within : RisingRules below rules → RisingRules below (within outside rules)
  rising_within rising = record {
    right_side = rising.right_side;
    goes = rising.goes;
    along = rising.along;
    long = rising.long;
  }

module _ {K : Type 0} (rules : Rules K) (outside : OutsideShape K) where
  -- ---- what they depend on

  -- an operand
  pub agree_within : (xs ys : List K) (a : Operand) → AgreeOn rules xs ys a → AgreeOn (within outside rules) xs ys a
  agree_within xs ys (Var x) h = h
  agree_within xs ys (Const c) h = h

  agree_without : (xs ys : List K) (a : Operand) → AgreeOn (within outside rules) xs ys a → AgreeOn rules xs ys a
  agree_without xs ys (Var x) h = h
  agree_without xs ys (Const c) h = h

  -- a right side
  pub rhs_within : (xs ys : List K) (rhs : Rhs) → AgreeOnRhs rules xs ys rhs → AgreeOnRhs (within outside rules) xs ys rhs
  rhs_within xs ys (Plain a) h = agree_within xs ys a h
  rhs_within xs ys (Unary op a) h = agree_within xs ys a h
  rhs_within xs ys (Binary op a b) h = (agree_within xs ys a h.0, agree_within xs ys b h.1)

  rhs_without : (xs ys : List K) (rhs : Rhs) → AgreeOnRhs (within outside rules) xs ys rhs → AgreeOnRhs rules xs ys rhs
  rhs_without xs ys (Plain a) h = agree_without xs ys a h
  rhs_without xs ys (Unary op a) h = agree_without xs ys a h
  rhs_without xs ys (Binary op a b) h = (agree_without xs ys a h.0, agree_without xs ys b h.1)

  -- a test
  pub test_within : (xs ys : List K) (test : tests.Test) → AgreeOnTest rules xs ys test
      → AgreeOnTest (within outside rules) xs ys test
  test_within xs ys (Rel op a b) h = (agree_within xs ys a h.0, agree_within xs ys b h.1)
  test_within xs ys (Holds a) h = agree_within xs ys a h
  test_within xs ys (Fails a) h = agree_within xs ys a h

  test_without : (xs ys : List K) (test : tests.Test) → AgreeOnTest (within outside rules) xs ys test
      → AgreeOnTest rules xs ys test
  test_without xs ys (Rel op a b) h = (agree_without xs ys a h.0, agree_without xs ys b h.1)
  test_without xs ys (Holds a) h = agree_without xs ys a h
  test_without xs ys (Fails a) h = agree_without xs ys a h

  -- so they depend on the same
  pub frame_within : FrameRules rules → FrameRules (within outside rules)
  frame_within frame = record {
    right_side = λ rhs xs ys h. frame.right_side rhs xs ys (rhs_without xs ys rhs h);
    goes = λ test b xs ys h. frame.goes test b xs ys (test_without xs ys test h);
    along = λ test b xs ys k long h. frame.along test b xs ys k long (test_without xs ys test h);
    apart = frame.apart;
  }

module _ {K : Type 0} {holds : K → ℤ → Type 0} {rules : Rules K} (outside : OutsideShape K) where
  -- what is known holds
  pub held_within : (known : List K) (values : Values) → AreHeld holds rules known values
      → AreHeld holds (within outside rules) known values
  held_within known values h = record { each = h.each }

  pub held_without : (known : List K) (values : Values) → AreHeld holds (within outside rules) known values
      → AreHeld holds rules known values
  held_without known values h = record { each = h.each }

  -- what they become
  pub rewriting_within : RewritingRules holds rules → RewritingRules holds (within outside rules)
  rewriting_within rewriting = record {
    operand_same = λ known values a h. rewriting.operand_same known values a (held_without known values h);
    right_side_same = λ known values rhs h. rewriting.right_side_same known values rhs (held_without known values h);
    operand_below = rewriting.operand_below;
    right_side_below = rewriting.right_side_below;
    divides = rewriting.divides;
    vanishes = rewriting.vanishes;
  }

  -- and that they hold
  pub sound_within : {below : K → K → Type 0} → SoundRules below holds rules → SoundRules below holds (within outside rules)
  sound_within sound = record {
    up = sound.up;
    top = sound.top;
    zero = sound.zero;
    right_side = λ known values rhs h. sound.right_side known values rhs (held_without known values h);
    goes = λ test b known values h. sound.goes test b known values (held_without known values h);
    along = λ test b known values h fits is. held_within _ values (sound.along test b known values (held_without known values h) fits is);
  }

-- all laws
pub laws_within : {K : Type 0} {below : K → K → Type 0} {holds : K → ℤ → Type 0} {rules : Rules K} (outside : OutsideShape K)
    → LawfulRules below holds rules → LawfulRules below holds (within outside rules)
laws_within outside laws = record {
  order = order_within outside laws.order;
  rising = rising_within outside laws.rising;
  sound = sound_within outside laws.sound;
  rewriting = rewriting_within outside laws.rewriting;
  frame = frame_within _ outside laws.frame;
}
