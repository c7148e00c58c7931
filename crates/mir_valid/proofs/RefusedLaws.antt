-- No refusal is exactly that no kind of refusal has a line.
use Rattle.std.proofs.Common.{◌≡◌, ◌≤◌, ℕ, min, Bool, true, false, nat_eq, nat_lt, List, [], ◌∷◌, fold, length, Option, None, Some, if◌then◌else◌, refl, ap, subst, arith}
use Rattle.std.specs.List.{flat_map}
use Rattle.std.proofs.lemmas.Bool.Decides.{nat_tests}
use Rattle.std.specs.Option.{option_or, option_map}
use Rattle.mir_base.specs.Limits.{most_units}
use Rattle.mir_parse.specs.declared.raw.RawGlobal.{RawGlobal}
use Rattle.mir_parse.specs.RawUnit.{RawUnitShape}
use Rattle.mir_valid.specs.declared.faults.ValidFault.{ValidFault}
use Rattle.mir_valid.specs.declared.faults.ValidFault.TheVariants.{NoUnit, TooManyUnits, SameUnit, TooManyInsts, LateReceive, SameReceive, TooManyReceives, SameLabel, NoLabel, NoSuchUnit, WrongCount, SameGlobal, TooManyGlobals, GlobalReceive, BadTrap}
use Rattle.mir_valid.specs.Rules.{same_unit_lines, too_many_insts_lines, late_receive_lines, same_receive_lines, too_many_receives_lines, same_label_lines, no_label_lines, no_unit_lines, wrong_count_lines, same_global_lines, too_many_globals_lines, global_receive_lines, bad_trap_lines}
use Rattle.mir_valid.specs.Refusals.{lesser, least, at_least_line, first_of, refusals, AreValid, IsValidMemory}
use Rattle.mir_base.specs.ItemLaws.{none_or}

-- the least of the lines so far and of more is there
least_some : (least : ℕ) (lines : List ℕ) → fold lesser (Some least) lines ≡ None → ⊥
least_some least [] e = cc
least_some least (line ∷ lines) e = least_some (min least line) lines e

-- so where there is no least line there is no line
no_lines : (lines : List ℕ) → least lines ≡ None → lines ≡ []
no_lines [] e = refl
no_lines (line ∷ lines) e = absurd (least_some line lines e)

-- a refusal made of a line is none where there is no line
none_map : (kind : ℕ → ValidFault) (o : Option ℕ) → option_map kind o ≡ None → o ≡ None
none_map kind None e = refl
none_map kind (Some line) e = absurd (cc)

-- a refusal on a condition is none where the condition is false
none_if : (b : Bool) (fault : ValidFault) → (if b then Some fault else None) ≡ None → b ≡ false
none_if true fault e = absurd (cc)
none_if false fault e = refl

-- no least line, no line
lines_none : (kind : ℕ → ValidFault) (lines : List ℕ) → at_least_line kind lines ≡ None → lines ≡ []
lines_none kind lines e = no_lines lines (none_map kind (least lines) e)

-- where there is no refusal no kind has a line
pub valid_of : (globals : List RawGlobal) (units : List RawUnitShape) → first_of (refusals globals units) ≡ None → AreValid globals units
valid_of globals units e0 =
    let e1 = none_or (if nat_eq (length units) 0 then Some NoUnit else None) _ e0 in
    let e2 = none_or (if nat_lt most_units (length units) then Some TooManyUnits else None) _ e1.1 in
    let e3 = none_or (at_least_line SameUnit (same_unit_lines units)) _ e2.1 in
    let e4 = none_or (at_least_line TooManyInsts (flat_map too_many_insts_lines units)) _ e3.1 in
    let e5 = none_or (at_least_line LateReceive (flat_map late_receive_lines units)) _ e4.1 in
    let e6 = none_or (at_least_line SameReceive (flat_map same_receive_lines units)) _ e5.1 in
    let e7 = none_or (at_least_line TooManyReceives (flat_map too_many_receives_lines units)) _ e6.1 in
    let e8 = none_or (at_least_line SameLabel (flat_map same_label_lines units)) _ e7.1 in
    let e9 = none_or (at_least_line NoLabel (flat_map no_label_lines units)) _ e8.1 in
    let e10 = none_or (at_least_line NoSuchUnit (flat_map (no_unit_lines units) units)) _ e9.1 in
    let e11 = none_or (at_least_line WrongCount (flat_map (wrong_count_lines units) units)) _ e10.1 in
    let e12 = none_or (at_least_line SameGlobal (same_global_lines globals)) _ e11.1 in
    let e13 = none_or (at_least_line TooManyGlobals (too_many_globals_lines globals)) _ e12.1 in
    let e14 = none_or (at_least_line GlobalReceive (flat_map (global_receive_lines globals) units)) _ e13.1 in
    let e15 = none_or (at_least_line BadTrap (flat_map bad_trap_lines units)) _ e14.1 in
    let some : nat_eq (length units) 0 ≡ false = none_if (nat_eq (length units) 0) NoUnit e1.0 in
    let few : nat_lt 256 (length units) ≡ false = none_if (nat_lt most_units (length units)) TooManyUnits e2.0 in
    record {
      some_unit = grind (arith, nat_tests);
      few_units = grind (arith, nat_tests);
      same_unit = lines_none SameUnit _ e3.0;
      too_many_insts = lines_none TooManyInsts _ e4.0;
      late_receive = lines_none LateReceive _ e5.0;
      same_receive = lines_none SameReceive _ e6.0;
      too_many_receives = lines_none TooManyReceives _ e7.0;
      same_label = lines_none SameLabel _ e8.0;
      no_label = lines_none NoLabel _ e9.0;
      no_such_unit = lines_none NoSuchUnit _ e10.0;
      wrong_count = lines_none WrongCount _ e11.0;
      same_global = lines_none SameGlobal _ e12.0;
      too_many_globals = lines_none TooManyGlobals _ e13.0;
      global_receive = lines_none GlobalReceive _ e14.0;
      bad_trap = lines_none BadTrap _ e15.0;
    }

-- ---- and the other way

-- the first of two refusals is none where both are none
both_none : (found rest : Option ValidFault) → found ≡ None → rest ≡ None → option_or found rest ≡ None
both_none None rest e f = f
both_none (Some fault) rest e f = absurd (cc)

-- a refusal at the least line is none where there are no lines
no_line_at : (kind : ℕ → ValidFault) (lines : List ℕ) → lines ≡ [] → at_least_line kind lines ≡ None
no_line_at kind lines e = ap (at_least_line kind) e

-- where no kind has a line there is no refusal
pub refused_of : (globals : List RawGlobal) (units : List RawUnitShape) → AreValid globals units → first_of (refusals globals units) ≡ None
refused_of globals units valid =
    let some : nat_eq (length units) 0 ≡ false = let h = valid.some_unit in grind (arith, nat_tests) in
    let few : nat_lt 256 (length units) ≡ false = let h : length units ≤ 256 = valid.few_units in grind (arith, nat_tests) in
    both_none _ _ (ap (λ (b : Bool). if b then Some NoUnit else None) some)
    (both_none _ _ (ap (λ (b : Bool). if b then Some TooManyUnits else None) few)
    (both_none _ _ (no_line_at SameUnit _ valid.same_unit)
    (both_none _ _ (no_line_at TooManyInsts _ valid.too_many_insts)
    (both_none _ _ (no_line_at LateReceive _ valid.late_receive)
    (both_none _ _ (no_line_at SameReceive _ valid.same_receive)
    (both_none _ _ (no_line_at TooManyReceives _ valid.too_many_receives)
    (both_none _ _ (no_line_at SameLabel _ valid.same_label)
    (both_none _ _ (no_line_at NoLabel _ valid.no_label)
    (both_none _ _ (no_line_at NoSuchUnit _ valid.no_such_unit)
    (both_none _ _ (no_line_at WrongCount _ valid.wrong_count)
    (both_none _ _ (no_line_at SameGlobal _ valid.same_global)
    (both_none _ _ (no_line_at TooManyGlobals _ valid.too_many_globals)
    (both_none _ _ (no_line_at GlobalReceive _ valid.global_receive)
    (both_none _ _ (no_line_at BadTrap _ valid.bad_trap) refl))))))))))))))

-- ---- a refusal is not of memory

-- a refusal, if there is one, is not of memory
abbrev NoMemory : Option ValidFault → Type 0
NoMemory None = Unit {0}
NoMemory (Some fault) = IsValidMemory fault → ⊥

-- the first of two refusals is not of memory where neither of them is
no_memory_or : (found rest : Option ValidFault) → NoMemory found → NoMemory rest → NoMemory (option_or found rest)
no_memory_or None rest f r = r
no_memory_or (Some fault) rest f r = f

-- a refusal on a condition is not of memory where the refusal itself is not
no_memory_if : (b : Bool) (fault : ValidFault) → (IsValidMemory fault → ⊥) → NoMemory (if b then Some fault else None)
no_memory_if true fault f = f
no_memory_if false fault f = tt

-- nor is a refusal at the least line where it is of memory at no line
no_memory_at : (kind : ℕ → ValidFault) (lines : List ℕ) → ((line : ℕ) → IsValidMemory (kind line) → ⊥) → NoMemory (at_least_line kind lines)
no_memory_at kind lines f = go (least lines)
  where
    go : (line : Option ℕ) → NoMemory (option_map kind line)
    go None = tt
    go (Some line) = f line

-- none of the refusals that the rules give is of memory
never_memory : (globals : List RawGlobal) (units : List RawUnitShape) → NoMemory (first_of (refusals globals units))
never_memory globals units =
    no_memory_or _ _ (no_memory_if (nat_eq (length units) 0) NoUnit (λ m. m))
    (no_memory_or _ _ (no_memory_if (nat_lt most_units (length units)) TooManyUnits (λ m. m))
    (no_memory_or _ _ (no_memory_at SameUnit (same_unit_lines units) (λ line m. m))
    (no_memory_or _ _ (no_memory_at TooManyInsts (flat_map too_many_insts_lines units) (λ line m. m))
    (no_memory_or _ _ (no_memory_at LateReceive (flat_map late_receive_lines units) (λ line m. m))
    (no_memory_or _ _ (no_memory_at SameReceive (flat_map same_receive_lines units) (λ line m. m))
    (no_memory_or _ _ (no_memory_at TooManyReceives (flat_map too_many_receives_lines units) (λ line m. m))
    (no_memory_or _ _ (no_memory_at SameLabel (flat_map same_label_lines units) (λ line m. m))
    (no_memory_or _ _ (no_memory_at NoLabel (flat_map no_label_lines units) (λ line m. m))
    (no_memory_or _ _ (no_memory_at NoSuchUnit (flat_map (no_unit_lines units) units) (λ line m. m))
    (no_memory_or _ _ (no_memory_at WrongCount (flat_map (wrong_count_lines units) units) (λ line m. m))
    (no_memory_or _ _ (no_memory_at SameGlobal (same_global_lines globals) (λ line m. m))
    (no_memory_or _ _ (no_memory_at TooManyGlobals (too_many_globals_lines globals) (λ line m. m))
    (no_memory_or _ _ (no_memory_at GlobalReceive (flat_map (global_receive_lines globals) units) (λ line m. m))
    (no_memory_or _ None (no_memory_at BadTrap (flat_map bad_trap_lines units) (λ line m. m)) tt))))))))))))))

-- the first refusal is not of memory
pub refused_no_memory : (globals : List RawGlobal) (units : List RawUnitShape) (fault : ValidFault) → first_of (refusals globals units) ≡ Some fault → IsValidMemory fault → ⊥
refused_no_memory globals units fault e = subst NoMemory e (never_memory globals units)
