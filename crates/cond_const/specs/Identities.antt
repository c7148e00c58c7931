-- The identities: what an operator gives on a variable and itself, or on a variable and a constant, whatever the value
-- of the variable is. Cited by contracts.
use Rattle.std.specs.Prelude.{◌≡◌, Bool, false, if◌then◌else◌, nat_eq, ℤ, pos, negsuc}
use Rattle.std.specs.Ordering.{int_eq}
use Rattle.mir_base.specs.declared.operators.Op.{Op}
use Rattle.mir_base.specs.declared.operators.Op.TheVariants.{Add, Sub, Mul, Div, Mod, Min, Max, Eq, Ne, Lt, Le, Gt, Ge, Shl, Shr, Shra, And, Or, Xor}
use Rattle.mir_base.specs.Numbers.{traps, value_of_op, distance}
use Rattle.cond_const.specs.declared.identities.Identity.{Identity}
use Rattle.cond_const.specs.declared.identities.Identity.TheVariants.{Absent, Itself, Always}

-- the first identity where the constant is this number, and else the second
abbrev pub where_equal : ℤ → ℤ → Identity → Identity → Identity
where_equal c number there elsewhere = if int_eq c number then there else elsewhere

-- the first identity where no bit of the constant is set, and the second where all are
abbrev pub where_clear_or_set : ℤ → Identity → Identity → Identity
where_clear_or_set c clear set = where_equal c (pos 0) clear (where_equal c (negsuc 0) set Absent)

-- a shift by this number leaves a number as it is
abbrev pub shifts_nowhere : ℤ → Bool
shifts_nowhere c = nat_eq (distance c) 0

-- on a variable and itself
abbrev pub identity_same : Op → Identity
identity_same Sub = Always (pos 0)
identity_same Min = Itself
identity_same Max = Itself
identity_same Eq = Always (pos 1)
identity_same Ne = Always (pos 0)
identity_same Lt = Always (pos 0)
identity_same Le = Always (pos 1)
identity_same Gt = Always (pos 0)
identity_same Ge = Always (pos 1)
identity_same And = Itself
identity_same Or = Itself
identity_same Xor = Always (pos 0)
identity_same _ = Absent

-- on a variable and then a constant
abbrev pub identity_right : Op → ℤ → Identity
identity_right Add c = where_equal c (pos 0) Itself Absent
identity_right Sub c = where_equal c (pos 0) Itself Absent
identity_right Mul c = where_equal c (pos 0) (Always (pos 0)) (where_equal c (pos 1) Itself Absent)
identity_right Div c = where_equal c (pos 1) Itself Absent
identity_right Mod c =
    where_equal c (pos 1) (Always (pos 0)) (where_equal c (negsuc 0) (Always (pos 0)) Absent)
identity_right Shl c = if shifts_nowhere c then Itself else Absent
identity_right Shr c = if shifts_nowhere c then Itself else Absent
identity_right Shra c = if shifts_nowhere c then Itself else Absent
identity_right And c = where_clear_or_set c (Always (pos 0)) Itself
identity_right Or c = where_clear_or_set c Itself (Always (negsuc 0))
identity_right Xor c = where_equal c (pos 0) Itself Absent
identity_right _ c = Absent

-- on a constant and then a variable
abbrev pub identity_left : Op → ℤ → Identity
identity_left Add c = where_equal c (pos 0) Itself Absent
identity_left Mul c = where_equal c (pos 0) (Always (pos 0)) (where_equal c (pos 1) Itself Absent)
identity_left Shl c = where_equal c (pos 0) (Always (pos 0)) Absent
identity_left Shr c = where_equal c (pos 0) (Always (pos 0)) Absent
identity_left Shra c = where_equal c (pos 0) (Always (pos 0)) Absent
identity_left And c = where_clear_or_set c (Always (pos 0)) Itself
identity_left Or c = where_clear_or_set c Itself (Always (negsuc 0))
identity_left Xor c = where_equal c (pos 0) Itself Absent
identity_left _ c = Absent

-- the identity is right of the operator on a and b, where the variable has the value v: the operator does not trap, and
-- gives what the identity says
abbrev pub IsIdentity : Identity → ℤ → Op → ℤ → ℤ → Type 0
IsIdentity Absent v op a b = Unit {0}
IsIdentity Itself v op a b = (traps op b ≡ false) × (value_of_op op a b ≡ v)
IsIdentity (Always c) v op a b = (traps op b ≡ false) × (value_of_op op a b ≡ c)
