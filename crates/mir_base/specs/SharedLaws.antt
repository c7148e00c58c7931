-- Calls hand over the globals, and what values of the globals change. For proofs only, of the crates above too.
use Rattle.std.proofs.Common.{◌≡◌, ℕ, zero, suc, ◌+◌, ◌<◌, ◌≤◌, Bool, true, false, if◌then◌else◌, List, [], ◌∷◌, map, length, ℤ, Option, None, Some, slice_get, slice_index_or, refl, ap, ◌∙◌, arith}
use Rattle.std.proofs.lemmas.List.FromFn.{length-map-range_with_len}
use Rattle.std.specs.List.{range_with_len}
use Rattle.mir_base.specs.declared.operators.Trap.TheVariants.{ZeroDivisor, Raised}
use Rattle.mir_base.specs.declared.instructions.Rhs.{Rhs}
use Rattle.mir_base.specs.declared.instructions.Rhs.TheVariants.{Plain, Unary, Binary}
use Rattle.mir_base.specs.declared.instructions.Test.{Test}
use Rattle.mir_base.specs.declared.instructions.Inst.{Inst}
use Rattle.mir_base.specs.declared.instructions.Inst.TheVariants.{Receive, Assign, Goto, If, TrapIf, Call, Print, Return}
use Rattle.mir_base.specs.Numbers.{traps}
use Rattle.mir_base.specs.Shapes.{AllBelow}
use Rattle.mir_base.specs.Frames.{Values, with_first, shared_vars, shared_values, Frame, Continues, Traps}
use Rattle.mir_base.specs.Units.{operand_value, test_holds, assign_transition, guard_transition, inst_transition, body_code}
use Rattle.mir_base.specs.Simulations.{HandsOver}
use Rattle.mir_base.specs.EqualValues.{EqualOn, equal_below}

-- ---- what is handed over

-- there are as many values as globals
pub shared_long : (shared : ℕ) (values : Values) → length (shared_values shared values) ≡ shared
shared_long shared values = length-map-range_with_len values 0 shared

module _ (shared : ℕ) where
  -- an assignment is no call
  pub assign_hands : (x : ℕ) (rhs : Rhs) (place : ℕ) (frame : Frame) → HandsOver shared (assign_transition x rhs place frame)
  assign_hands x (Plain a) place frame = tt
  assign_hands x (Unary op a) place frame = tt
  assign_hands x (Binary op a b) place frame = by (traps op (operand_value frame.values b)) _
    where
      by : (t : Bool) (next : Frame) → HandsOver shared (if t then Traps ZeroDivisor 1 else Continues 1 next)
      by true next = tt
      by false next = tt

  -- nor is a trap instruction
  pub guard_hands : (test : Test) (number place : ℕ) (frame : Frame) → HandsOver shared (guard_transition test number place frame)
  guard_hands test number place frame = by (test_holds frame.values test) _
    where
      by : (t : Bool) (next : Frame) → HandsOver shared (if t then Traps (Raised number) 0 else Continues 0 next)
      by true next = tt
      by false next = tt

  -- each call of a body hands over the globals
  pub inst_hands : (inst : Option Inst) (frame : Frame) → HandsOver shared (inst_transition shared inst frame)
  inst_hands None frame = tt
  inst_hands (Some (Receive x)) frame = tt
  inst_hands (Some (Assign x rhs)) frame = assign_hands x rhs (frame.place + 1) frame
  inst_hands (Some (Goto place)) frame = tt
  inst_hands (Some (If test place)) frame = tt
  inst_hands (Some (TrapIf test number)) frame = guard_hands test number (frame.place + 1) frame
  inst_hands (Some (Call into unit operands)) frame = shared_long shared frame.values
  inst_hands (Some (Print a)) frame = tt
  inst_hands (Some (Return a)) frame = tt

  pub body_hands : (body : List Inst) (frame : Frame) → HandsOver shared (body_code shared body frame)
  body_hands body frame = inst_hands (slice_get body frame.place) frame

-- ---- the values of the globals

-- variables that have equal values have equal lists of values
pub map_equal : (xs : List ℕ) (v w : Values) → EqualOn xs v w → map v xs ≡ map w xs
map_equal [] v w equal = refl
map_equal (x ∷ xs) v w equal = ap (λ z. z ∷ map v xs) equal.0 ∙ ap (λ zs. w x ∷ zs) (map_equal xs v w equal.1)

-- numbers from a on are below each number that they do not reach
range_below : (m a n : ℕ) → a + n ≤ m → AllBelow m (range_with_len a n)
range_below m a zero le = tt
range_below m a (suc n) le = (omega arith, range_below m (a + 1) n (omega arith))

-- the globals are variables below each number that is at least theirs
pub shared_below : (m shared : ℕ) → shared ≤ m → AllBelow m (shared_vars shared)
shared_below m shared le = range_below m 0 shared (omega arith)

-- they have equal values where all variables below some number have
pub shared_equal : (m shared : ℕ) (v w : Values) → shared ≤ m → ((x : ℕ) → x < m → v x ≡ w x) → shared_values shared v ≡ shared_values shared w
shared_equal m shared v w le equal = map_equal (shared_vars shared) v w (equal_below m (shared_vars shared) v w (shared_below m shared le) equal)

-- first values do not change what comes after them
pub with_first_other : (firsts : List ℤ) (values : Values) (x : ℕ) → length firsts ≤ x → with_first firsts values x ≡ values x
with_first_other firsts values x le = past firsts x le (values x)
  where
    past : (zs : List ℤ) (i : ℕ) → length zs ≤ i → (d : ℤ) → slice_index_or zs i d ≡ d
    past [] i low d = refl
    past (z ∷ zs) zero low d = absurd (omega (arith, low))
    past (z ∷ zs) (suc i) low d = past zs i (omega (arith, low)) d

-- and what they are does not depend on the values before
pub with_first_same : (firsts : List ℤ) (v w : Values) (x : ℕ) → x < length firsts → with_first firsts v x ≡ with_first firsts w x
with_first_same firsts v w x lt = within firsts x lt (v x) (w x)
  where
    within : (zs : List ℤ) (i : ℕ) → i < length zs → (d e : ℤ) → slice_index_or zs i d ≡ slice_index_or zs i e
    within [] i low d e = absurd (omega (arith, low))
    within (z ∷ zs) zero low d e = refl
    within (z ∷ zs) (suc i) low d e = within zs i (omega (arith, low)) d e

-- so equal values stay equal
pub with_first_equal : (firsts : List ℤ) (v w : Values) (x : ℕ) → v x ≡ w x → with_first firsts v x ≡ with_first firsts w x
with_first_equal firsts v w x equal = ap (slice_index_or firsts x) equal
