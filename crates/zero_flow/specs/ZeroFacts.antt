-- What may be known of a number: whether it is 0; the order of that and its join. Cited by contracts.
use Rattle.std.specs.Prelude.{◌≡◌, ℕ, Bool, true, false, not, ◌||◌, nat_eq, if◌then◌else◌, ℤ, pos}
use Rattle.std.specs.Ordering.{int_eq}
use Rattle.zero_flow.specs.declared.facts.ZeroFact.{ZeroFact}
use Rattle.zero_flow.specs.declared.facts.ZeroFact.TheVariants.{Never, Zero, NotZero, Any}

-- whether a number is 0
abbrev pub is_zero : ℤ → Bool
is_zero z = int_eq z (pos 0)

-- the fact allows that the number is 0 (true), or that it is not (false)
abbrev pub allows : ZeroFact → Bool → Bool
allows Never nought = false
allows Zero nought = nought
allows NotZero nought = not nought
allows Any nought = true

-- the fact that allows 0 or not, and other numbers or not
abbrev pub fact_where : Bool → Bool → ZeroFact
fact_where true true = Any
fact_where true false = Zero
fact_where false true = NotZero
fact_where false false = Never

-- the fact holds of the number
abbrev pub ZeroFactHolds : ZeroFact → ℤ → Type 0
ZeroFactHolds fact z = allows fact (is_zero z) ≡ true

-- what the first allows the second allows
abbrev pub BelowZeroFact : ZeroFact → ZeroFact → Type 0
BelowZeroFact x y = (nought : Bool) → allows x nought ≡ true → allows y nought ≡ true

-- how much it allows
abbrev pub zero_fact_rank : ZeroFact → ℕ
zero_fact_rank Never = 0
zero_fact_rank Zero = 1
zero_fact_rank NotZero = 1
zero_fact_rank Any = 2

-- where two paths meet: what either allows
abbrev pub joined_zero_fact : ZeroFact → ZeroFact → ZeroFact
joined_zero_fact x y =
    fact_where (allows x true || allows y true) (allows x false || allows y false)

-- ---- as they are kept

-- the kind of a fact
abbrev pub zero_fact_kind : ZeroFact → ℕ
zero_fact_kind Never = 0
zero_fact_kind Zero = 1
zero_fact_kind NotZero = 2
zero_fact_kind Any = 3

-- facts are kept as a kind and a number, as other rules have it; here the kind says all, and the number is 0
abbrev pub no_number : ZeroFact → ℤ
no_number fact = pos 0

-- the fact that a kind stands for, as `zero_fact_kind` numbers them; of 3 and above, any value
abbrev pub decoded_zero_fact : ℕ → ℤ → ZeroFact
decoded_zero_fact kind number =
    if nat_eq kind 0 then Never
    else if nat_eq kind 1 then Zero
    else if nat_eq kind 2 then NotZero else Any
