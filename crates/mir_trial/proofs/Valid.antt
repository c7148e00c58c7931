-- The trial program is valid, its units are short, and each calls the next one alone.
use Rattle.std.proofs.Common.{◌≡◌, ◌<◌, ◌≤◌, ◌+◌, ◌*◌, ◌/◌, ◌^◌, ◌==◌, ℕ, zero, suc, Bool, true, false, List, [], ◌∷◌, ◌++◌, length, map, flat_map, slice_get, Option, Some, None, if◌then◌else◌, refl, sym, ◌∙◌, ap, subst, arith, length-append}
use Rattle.std.proofs.lemmas.Bool.Decides.{nat_tests}
use Rattle.std.proofs.lemmas.Grind.{flat_map-append}
use Rattle.std.proofs.lemmas.Nat.{mod_below}
use Rattle.std.proofs.lemmas.List.{length-map}
use Rattle.mir_base.specs.declared.instructions.Inst.{Inst}
use Rattle.mir_base.specs.declared.instructions.Inst.TheVariants.{Receive, Assign, Goto, If, TrapIf, Call, Print, Return}
use Rattle.mir_base.specs.declared.instructions.Operand.TheVariants.{Var}
use Rattle.mir_base.specs.Limits.{most_units}
use Rattle.mir_base.specs.Shapes.{UnitShape, AllBelow, AllDiffer, inst_vars, receives_in, body_or_empty, body_at, names_of, InstFits, BodyFits, IsProgram, SharesGlobals}
use Rattle.mir_base.specs.BelowLaws.{all_below_append}
use Rattle.flow_graph.specs.Numbering.{first_index, renamed, renamed_operand, seen_in}
use Rattle.flow_graph.specs.NumberingLaws.{seen_grows}
use Rattle.mir_sim.specs.Calls.{CallsHigher}
use Rattle.mir_trial.specs.Draws.{next, drawn}
use Rattle.mir_trial.specs.Trial.{variable, Group, plain_group, branch_group, loop_group, print_group, group_of, group, groups, call_of, body_of, name_of, unit_of, units_from, trial_program}
use Rattle.mir_trial.proofs.Growing.{groups_suc, groups_zero}
use Rattle.mir_trial.proofs.Spelled.{unit_one}

-- ---- what the instructions behind the receives are

-- no receive, and no trap instruction; a jump goes behind the receives and within the body; a call is of the next unit,
-- with two arguments
abbrev Inner : ℕ → ℕ → Bool → Inst → Type 0
Inner total next last (Receive x) = ⊥
Inner total next last (Assign x rhs) = Unit {0}
Inner total next last (Goto place) = ⊥
Inner total next last (If test place) = (2 ≤ place) × (place ≤ total)
Inner total next last (TrapIf test number) = ⊥
Inner total next last (Call into called operands) = (called ≡ next) × (last ≡ false) × (length operands ≡ 2)
Inner total next last (Print a) = Unit {0}
Inner total next last (Return a) = Unit {0}

-- the same of each instruction
abbrev AllInner : ℕ → ℕ → Bool → List Inst → Type 0
AllInner total next last [] = Unit {0}
AllInner total next last (inst ∷ insts) = Inner total next last inst × AllInner total next last insts

-- what holds of the instructions of two lists holds of the joined list
all_append : (total next : ℕ) (last : Bool) (xs ys : List Inst) → AllInner total next last xs → AllInner total next last ys → AllInner total next last (xs ++ ys)
all_append total next last [] ys h k = k
all_append total next last (x ∷ xs) ys h k = (h.0, all_append total next last xs ys h.1 k)

-- what holds of both branches holds of the choice
if_both : (P : Group → Type 0) (b : Bool) (one other : Group) → P one → P other → P (if b then one else other)
if_both P true one other p q = p
if_both P false one other p q = q

-- a group whose end is within the body
abbrev GroupInner : ℕ → ℕ → ℕ → Bool → Group → Type 0
GroupInner at total next last g = at + length g.insts ≤ total → AllInner total next last g.insts

-- the jumps of each kind of group stay within the body
group_inner : (kind at z total k : ℕ) (last : Bool) → 2 ≤ at → GroupInner at total k last (group_of kind at z)
group_inner kind at z total k last low =
    let P : Group → Type 0 = GroupInner at total k last in
    if_both P (kind == 0) (plain_group z) _ (λ within. (tt, tt))
    (if_both P (kind == 1) (branch_group at z) _ (λ within. ((omega (arith, low), omega (arith, within)), (tt, (tt, tt))))
    (if_both P (kind == 2) (loop_group at z) (print_group z) (λ within. (tt, (tt, (tt, ((omega (arith, low), omega (arith, within)), tt))))) (λ within. (tt, tt))))

-- the longest group has four instructions
group_short : (kind at z : ℕ) → length (group_of kind at z).insts ≤ 4
group_short kind at z =
    let P : Group → Type 0 = λ g. length g.insts ≤ 4 in
    if_both P (kind == 0) (plain_group z) _ (omega arith)
    (if_both P (kind == 1) (branch_group at z) _ (omega arith)
    (if_both P (kind == 2) (loop_group at z) (print_group z) (omega arith) (omega arith)))

-- groups one after the other that end within the body: each is judged at its own place
groups_inner : (count at z total k : ℕ) (last : Bool) → 2 ≤ at → at + length (groups count at z).insts ≤ total → AllInner total k last (groups count at z).insts
groups_inner zero at z total k last low within = subst (λ (g : Group). AllInner total k last g.insts) (sym (groups_zero at z)) tt
groups_inner (suc count) at z total k last low within =
    let one = group at z in
    let e = groups_suc count at z in
    let others = groups count (at + length one.insts) one.state in
    let whole : at + length (one.insts ++ others.insts) ≤ total = subst (λ (g : Group). at + length g.insts ≤ total) e within in
    let long = length-append one.insts others.insts in
    subst (λ (g : Group). AllInner total k last g.insts) (sym e)
    (all_append total k last one.insts others.insts
    (group_inner (drawn 4 (next z)) at (next z) total k last low (omega (arith, whole, long)))
    (groups_inner count (at + length one.insts) one.state total k last (omega (arith, low)) (omega (arith, whole, long))))

-- each group adds at most four instructions
groups_short : (count at z : ℕ) → length (groups count at z).insts ≤ 4 * count
groups_short zero at z = subst (λ (g : Group). length g.insts ≤ 4 * 0) (sym (groups_zero at z)) (omega arith)
groups_short (suc count) at z =
    let one = group at z in
    let others = groups count (at + length one.insts) one.state in
    let first = group_short (drawn 4 (next z)) at (next z) in
    let later = groups_short count (at + length one.insts) one.state in
    let long = length-append one.insts others.insts in
    subst (λ (g : Group). length g.insts ≤ 4 * suc count) (sym (groups_suc count at z)) (omega (arith, first, later, long))

-- ---- bodies

-- the body behind its two receives
abbrev rest_of : ℕ → Bool → ℕ → List Inst
rest_of j last z = ((groups 60 2 z).insts ++ call_of j last) ++ (Print (Var 2) ∷ Return (Var 5) ∷ [])

-- only a unit that is not the last calls, and it calls the next one
call_inner : (total j : ℕ) (last : Bool) → AllInner total (suc j) last (call_of j last)
call_inner total j true = tt
call_inner total j false = ((refl, refl, refl), tt)

-- a call is one instruction or none
call_short : (j : ℕ) (last : Bool) → length (call_of j last) ≤ 1
call_short j true = omega arith
call_short j false = omega arith

-- the groups, the call and two more make up the remainder of the body
rest_long : (j : ℕ) (last : Bool) (z : ℕ) → length (rest_of j last z) ≡ length (groups 60 2 z).insts + length (call_of j last) + 2
rest_long j last z = length-append ((groups 60 2 z).insts ++ call_of j last) (Print (Var 2) ∷ Return (Var 5) ∷ []) ∙ ap (λ (n : ℕ). n + 2) (length-append (groups 60 2 z).insts (call_of j last))

-- so the length of a body is bounded, whatever was drawn
body_short : (j : ℕ) (last : Bool) (z : ℕ) → length (body_of j last z) ≤ 245
body_short j last z =
    let groups_are = groups_short 60 2 z in let call = call_short j last in let long = rest_long j last z in
    let whole : length (body_of j last z) ≡ suc (suc (length (rest_of j last z))) = refl in
    omega (arith, groups_are, call, long, whole)

-- the remainder of a body satisfies the condition, part by part
rest_inner : (j : ℕ) (last : Bool) (z : ℕ) → AllInner (length (body_of j last z)) (suc j) last (rest_of j last z)
rest_inner j last z =
    let total = length (body_of j last z) in
    let long = rest_long j last z in
    let whole : total ≡ suc (suc (length (rest_of j last z))) = refl in
    all_append total (suc j) last ((groups 60 2 z).insts ++ call_of j last) (Print (Var 2) ∷ Return (Var 5) ∷ [])
    (all_append total (suc j) last (groups 60 2 z).insts (call_of j last)
    (groups_inner 60 2 z total (suc j) last (omega arith) (omega (arith, long, whole))) (call_inner total j last))
    (tt, (tt, tt))

-- ---- with other numbers for the variables

-- other variables leave the jumps and calls of an instruction as they are
inner_renamed : (to : ℕ → ℕ) (total k : ℕ) (last : Bool) (inst : Inst) → Inner total k last inst → Inner total k last (renamed to inst)
inner_renamed to total k last (Receive x) h = h
inner_renamed to total k last (Assign x rhs) h = tt
inner_renamed to total k last (Goto place) h = h
inner_renamed to total k last (If test place) h = h
inner_renamed to total k last (TrapIf test number) h = h
inner_renamed to total k last (Call into called operands) h = (h.0, h.1, length-map operands (renamed_operand to) ∙ h.2)
inner_renamed to total k last (Print a) h = tt
inner_renamed to total k last (Return a) h = tt

-- the same of a list of instructions
all_renamed : (to : ℕ → ℕ) (total k : ℕ) (last : Bool) (insts : List Inst) → AllInner total k last insts → AllInner total k last (map (renamed to) insts)
all_renamed to total k last [] h = tt
all_renamed to total k last (inst ∷ insts) h = (inner_renamed to total k last inst h.0, all_renamed to total k last insts h.1)

-- what holds of the list holds of each instruction
inner_at : (total k : ℕ) (last : Bool) (insts : List Inst) (place : ℕ) (inst : Inst) → AllInner total k last insts → slice_get insts place ≡ Some inst → Inner total k last inst
inner_at total k last [] place inst h at = absurd (cc)
inner_at total k last (x ∷ insts) zero inst h at = let same : x ≡ inst = cc in subst (Inner total k last) same h.0
inner_at total k last (x ∷ insts) (suc place) inst h at = inner_at total k last insts place inst h.1 at

-- none of these instructions is a Receive
inner_receives : (total k : ℕ) (last : Bool) (insts : List Inst) → AllInner total k last insts → receives_in insts ≡ 0
inner_receives total k last [] h = refl
inner_receives total k last (Receive x ∷ insts) h = absurd h.0
inner_receives total k last (Assign x rhs ∷ insts) h = refl
inner_receives total k last (Goto place ∷ insts) h = refl
inner_receives total k last (If test place ∷ insts) h = refl
inner_receives total k last (TrapIf test number ∷ insts) h = absurd h.0
inner_receives total k last (Call into called operands ∷ insts) h = refl
inner_receives total k last (Print a ∷ insts) h = refl
inner_receives total k last (Return a ∷ insts) h = refl

-- the new numbers
abbrev to_of : ℕ → Bool → ℕ → ℕ → ℕ
to_of j last z = first_index (seen_in 0 (body_of j last z))

-- the unit's body behind its two receives
abbrev tail_of : ℕ → Bool → ℕ → List Inst
tail_of j last z = map (renamed (to_of j last z)) (rest_of j last z)

-- so what follows the two receives of a unit satisfies the condition after the renaming too
tail_inner : (j : ℕ) (last : Bool) (z : ℕ) → AllInner (length (body_of j last z)) (suc j) last (tail_of j last z)
tail_inner j last z = all_renamed (to_of j last z) (length (body_of j last z)) (suc j) last (rest_of j last z) (rest_inner j last z)

-- the only receives of a unit are the two that it begins with
two_receives : (j : ℕ) (last : Bool) (z : ℕ) → receives_in (unit_of j last z).body ≡ 2
two_receives j last z = ap (λ (n : ℕ). suc (suc n)) (inner_receives _ (suc j) last (tail_of j last z) (tail_inner j last z))

-- and its length is that of the body before the renaming
unit_long : (j : ℕ) (last : Bool) (z : ℕ) → length (unit_of j last z).body ≡ length (body_of j last z)
unit_long j last z = length-map (body_of j last z) (renamed (to_of j last z))

-- the parameters keep their numbers
parameters : (j : ℕ) (last : Bool) (z : ℕ) → (to_of j last z 0 ≡ 0) × (to_of j last z 1 ≡ 1)
parameters j last z =
    let more = seen_grows (0 ∷ 1 ∷ []) (flat_map inst_vars (rest_of j last z)) in
    (ap (λ (seen : List ℕ). first_index seen 0) more.1, ap (λ (seen : List ℕ). first_index seen 1) more.1)

-- ---- the units of the program

-- which unit of the program this one is, and whether it is the last
record Found (count j u : ℕ) (unit : UnitShape) : Type 0 where
  state : ℕ
  last : Bool
  is : unit ≡ unit_of (j + u) last state
  within : u < count
  more : last ≡ false → suc u < count

-- each unit of the list was generated for its own index
found : (count j z u : ℕ) (unit : UnitShape) → slice_get (units_from count j z) u ≡ Some unit → Found count j u unit
found zero j z u unit at = absurd (cc)
found (suc count) j z zero unit at =
    let same : unit ≡ unit_of j (count == 0) z = cc in
    record {
      state = z;
      last = count == 0;
      is = subst (λ (n : ℕ). unit ≡ unit_of n (count == 0) z) (omega arith) same;
      within = omega arith;
      more = λ none. let some : 0 < count = grind (arith, nat_tests) in omega (arith, some);
    }
found (suc count) j z (suc u) unit at =
    let later = found count (suc j) (groups 60 2 z).state u unit at in
    let below = later.within in
    record {
      state = later.state;
      last = later.last;
      is = subst (λ (n : ℕ). unit ≡ unit_of n later.last later.state) (omega arith) later.is;
      within = omega (arith, below);
      more = λ none. let further = later.more none in omega (arith, further);
    }

-- which unit stands at a place
record There (count j z u : ℕ) : Type 0 where
  state : ℕ
  last : Bool
  is : slice_get (units_from count j z) u ≡ Some (unit_of (j + u) last state)

-- each index below the count has its unit
there : (count j z u : ℕ) → u < count → There count j z u
there zero j z u below = absurd (omega (arith, below))
there (suc count) j z zero below = record {
  state = z;
  last = count == 0;
  is = subst (λ (n : ℕ). Some (unit_of j (count == 0) z) ≡ Some (unit_of n (count == 0) z)) (omega arith) refl;
}
there (suc count) j z (suc u) below =
    let later = there count (suc j) (groups 60 2 z).state u (omega (arith, below)) in
    record {
      state = later.state;
      last = later.last;
      is = subst (λ (n : ℕ). slice_get (units_from count (suc j) (groups 60 2 z).state) u ≡ Some (unit_of n later.last later.state)) (omega arith) later.is;
    }

-- as many as are asked for
pub units_long : (count j z : ℕ) → length (units_from count j z) ≡ count
units_long zero j z = refl
units_long (suc count) j z = let later = units_long count (suc j) (groups 60 2 z).state in omega (arith, later)

-- names are numbered in the order of the units
drawn_names_at : (count j z u : ℕ) → u < count → slice_get (names_of (units_from count j z)) u ≡ Some (name_of (j + u))
drawn_names_at zero j z u below = absurd (omega (arith, below))
drawn_names_at (suc count) j z zero below = subst (λ (n : ℕ). Some (name_of j) ≡ Some (name_of n)) (omega arith) refl
drawn_names_at (suc count) j z (suc u) below =
    subst (λ (n : ℕ). slice_get (names_of (units_from count (suc j) (groups 60 2 z).state)) u ≡ Some (name_of n)) (omega arith) (drawn_names_at count (suc j) (groups 60 2 z).state u (omega (arith, below)))

-- there is one name for each unit
drawn_names_long : (count j z : ℕ) → length (names_of (units_from count j z)) ≡ count
drawn_names_long zero j z = refl
drawn_names_long (suc count) j z = let later = drawn_names_long count (suc j) (groups 60 2 z).state in omega (arith, later)

-- different numbers give different names, so no two units have one name
names_differ : (count z : ℕ) → count ≤ most_units → AllDiffer (names_of (units_from count 0 z))
names_differ count z few u v u_low v_low same =
    let long = drawn_names_long count 0 z in
    let one : u < count = omega (arith, long, u_low) in
    let other : v < count = omega (arith, long, v_low) in
    let e : Some (name_of (0 + u)) ≡ Some (name_of (0 + v)) = sym (drawn_names_at count 0 z u one) ∙ same ∙ drawn_names_at count 0 z v other in
    let f : name_of (0 + u) ≡ name_of (0 + v) = cc in
    let g : 0 + u ≡ 0 + v = unit_one (0 + u) (0 + v) (omega (arith, one, few)) (omega (arith, other, few)) f in
    omega (arith, g)

-- ---- the program is valid

-- an instruction whose jumps and calls are in range fits the program
inner_fits : (units : List UnitShape) (body : List Inst) (total j place : ℕ) (last : Bool) (inst : Inst) → receives_in body ≡ 2 → length body ≡ total
    → (last ≡ false → (suc j < length units) × (receives_in (body_at units (suc j)) ≡ 2)) → Inner total (suc j) last inst → InstFits units body place inst
inner_fits units body total j place last (Receive x) two long next_is h = absurd h
inner_fits units body total j place last (Assign x rhs) two long next_is h = tt
inner_fits units body total j place last (Goto target) two long next_is h = absurd h
inner_fits units body total j place last (If test target) two long next_is h = let low = h.0 in let high = h.1 in (omega (arith, two, low), omega (arith, long, high))
inner_fits units body total j place last (TrapIf test number) two long next_is h = absurd h
inner_fits units body total j place last (Call into called operands) two long next_is h =
    let there_is = next_is h.1 in (
      subst (λ (n : ℕ). n < length units) (sym h.0) there_is.0,
      h.2 ∙ sym (ap (λ (n : ℕ). receives_in (body_at units n)) h.0 ∙ there_is.1),
    )
inner_fits units body total j place last (Print a) two long next_is h = tt
inner_fits units body total j place last (Return a) two long next_is h = tt

-- so a unit fits if the unit that it calls stands in the program and takes two arguments
unit_fits : (units : List UnitShape) (j : ℕ) (last : Bool) (z : ℕ) → (last ≡ false → (suc j < length units) × (receives_in (body_at units (suc j)) ≡ 2)) → BodyFits units (unit_of j last z).body
unit_fits units j last z next_is = record { insts = insts; received = received }
  where
    body : List Inst
    body = (unit_of j last z).body

    two : receives_in (unit_of j last z).body ≡ 2
    two = two_receives j last z

    insts : (place : ℕ) (inst : Inst) → slice_get (unit_of j last z).body place ≡ Some inst → InstFits units (unit_of j last z).body place inst
    insts zero inst at = let same : Receive (to_of j last z 0) ≡ inst = cc in subst (InstFits units (unit_of j last z).body 0) same (omega (arith, two))
    insts (suc zero) inst at = let same : Receive (to_of j last z 1) ≡ inst = cc in subst (InstFits units (unit_of j last z).body 1) same (omega (arith, two))
    insts (suc (suc place)) inst at =
        inner_fits units (unit_of j last z).body (length (body_of j last z)) j (suc (suc place)) last inst two (unit_long j last z) next_is
        (inner_at (length (body_of j last z)) (suc j) last (tail_of j last z) place inst (tail_inner j last z) at)

    keep : to_of j last z 0 ≡ to_of j last z 1 → ⊥
    keep same = let p = parameters j last z in let zero_is = p.0 in let one_is = p.1 in omega (arith, same, zero_is, one_is)

    no_receive : (place x : ℕ) → slice_get (tail_of j last z) place ≡ Some (Receive x) → ⊥
    no_receive place x at = inner_at (length (body_of j last z)) (suc j) last (tail_of j last z) place (Receive x) (tail_inner j last z) at

    received : (p q x : ℕ) → slice_get (unit_of j last z).body p ≡ Some (Receive x) → slice_get (unit_of j last z).body q ≡ Some (Receive x) → p ≡ q
    received zero zero x here also = refl
    received zero (suc zero) x here also = absurd (keep (let a : to_of j last z 0 ≡ x = cc in let b : to_of j last z 1 ≡ x = cc in a ∙ sym b))
    received zero (suc (suc q)) x here also = absurd (no_receive q x also)
    received (suc zero) zero x here also = absurd (keep (let a : to_of j last z 1 ≡ x = cc in let b : to_of j last z 0 ≡ x = cc in b ∙ sym a))
    received (suc zero) (suc zero) x here also = refl
    received (suc zero) (suc (suc q)) x here also = absurd (no_receive q x also)
    received (suc (suc p)) q x here also = absurd (no_receive p x here)

-- each unit fits among the others
pub is_valid : (number count : ℕ) → 0 < count → count ≤ most_units → IsProgram [] (units_from count 0 number)
is_valid number count some few = record {
  some_unit = let long = units_long count 0 number in omega (arith, long, some);
  names = names_differ count number few;
  bodies = bodies;
  shares = λ u unit at. let f = found count 0 number u unit at in subst (SharesGlobals []) (sym f.is) (record { count = refl; begin = refl; own = λ place x receives. omega arith });
}
  where
    bodies : (u : ℕ) (unit : UnitShape) → slice_get (units_from count 0 number) u ≡ Some unit → BodyFits (units_from count 0 number) unit.body
    bodies u unit at =
        let f = found count 0 number u unit at in
        subst (λ (made : UnitShape). BodyFits (units_from count 0 number) made.body) (sym f.is)
        (unit_fits (units_from count 0 number) (0 + u) f.last f.state (λ none. next_unit (f.more none)))
      where
        next_unit : suc u < count → (suc (0 + u) < length (units_from count 0 number)) × (receives_in (body_at (units_from count 0 number) (suc (0 + u))) ≡ 2)
        next_unit further =
            let long = units_long count 0 number in
            let t = there count 0 number (suc (0 + u)) (omega (arith, further)) in (
              omega (arith, long, further),
              ap (λ (o : Option UnitShape). receives_in (body_or_empty o)) t.is ∙ two_receives (0 + suc (0 + u)) t.last t.state,
            )

-- the only call is of the next unit
pub calls_higher : (number count : ℕ) → CallsHigher (trial_program number count)
calls_higher number count u called call = go (slice_get (units_from count 0 number) u) refl
  where
    go : (o : Option UnitShape) → slice_get (units_from count 0 number) u ≡ o → u < called
    go None none = absurd (let e : Some (Call call.into called call.operands) ≡ None = sym call.at ∙ ap (λ (o : Option UnitShape). slice_get (body_or_empty o) call.place) none in cc)
    go (Some unit) some =
        let f = found count 0 number u unit some in
        at_place call.place f.last f.state (sym (ap (λ (o : Option UnitShape). slice_get (body_or_empty o) call.place) some ∙ ap (λ (made : UnitShape). slice_get made.body call.place) f.is) ∙ call.at)
      where
        at_place : (place : ℕ) (last : Bool) (z : ℕ) → slice_get (unit_of (0 + u) last z).body place ≡ Some (Call call.into called call.operands) → u < called
        at_place zero last z at = absurd (cc)
        at_place (suc zero) last z at = absurd (cc)
        at_place (suc (suc place)) last z at =
            let h = inner_at (length (body_of (0 + u) last z)) (suc (0 + u)) last (tail_of (0 + u) last z) place (Call call.into called call.operands) (tail_inner (0 + u) last z) at in
            let is = h.0 in omega (arith, is)

-- sixty groups of at most four instructions, and five more
pub is_short : (number count u : ℕ) (unit : UnitShape) → slice_get (units_from count 0 number) u ≡ Some unit → length unit.body ≤ 245
is_short number count u unit at =
    let f = found count 0 number u unit at in
    subst (λ (made : UnitShape). length made.body ≤ 245) (sym f.is) (let long = unit_long (0 + u) f.last f.state in let short = body_short (0 + u) f.last f.state in omega (arith, long, short))

-- ---- the variables of a body

-- of two parts of a body
below_insts : (m : ℕ) (xs ys : List Inst) → AllBelow m (flat_map inst_vars xs) → AllBelow m (flat_map inst_vars ys) → AllBelow m (flat_map inst_vars (xs ++ ys))
below_insts m xs ys h k = subst (AllBelow m) (sym (flat_map-append inst_vars xs ys)) (all_below_append m (flat_map inst_vars xs) (flat_map inst_vars ys) h k)

-- a drawn number is below its bound
drawn_below : (k z : ℕ) → 0 < k → drawn k z < k
unfolding drawn
drawn_below k z some = mod_below (z / 2 ^ 33) k some

-- all variables are below 9, first those drawn for an operand
variable_below : (z : ℕ) → variable z < 9
variable_below z = let h = drawn_below 6 z (omega arith) in omega (arith, h)

-- the same of a parameter
parameter_below : (z : ℕ) → drawn 2 z < 9
parameter_below z = let h = drawn_below 2 z (omega arith) in omega (arith, h)

-- the same of each kind of group
group_below : (kind at z : ℕ) → AllBelow 9 (flat_map inst_vars (group_of kind at z).insts)
group_below kind at z =
    let P : Group → Type 0 = λ g. AllBelow 9 (flat_map inst_vars g.insts) in
    if_both P (kind == 0) (plain_group z) _ (variable_below _, (parameter_below _, (parameter_below _, tt)))
    (if_both P (kind == 1) (branch_group at z) _
    (parameter_below _, (variable_below _, (omega arith, (omega arith, (variable_below _, (omega arith, (omega arith, tt)))))))
    (if_both P (kind == 2) (loop_group at z) (print_group z)
    (omega arith, (variable_below _, (parameter_below _, (parameter_below _, (omega arith, (omega arith, (omega arith, tt)))))))
    (variable_below _, tt)))

-- the same of a list of groups
groups_below : (count at z : ℕ) → AllBelow 9 (flat_map inst_vars (groups count at z).insts)
groups_below zero at z = subst (λ (g : Group). AllBelow 9 (flat_map inst_vars g.insts)) (sym (groups_zero at z)) tt
groups_below (suc count) at z =
    let one = group at z in
    let others = groups count (at + length one.insts) one.state in
    subst (λ (g : Group). AllBelow 9 (flat_map inst_vars g.insts)) (sym (groups_suc count at z))
    (below_insts 9 one.insts others.insts (group_below (drawn 4 (next z)) at (next z)) (groups_below count (at + length one.insts) one.state))

-- the same of a call
call_below : (j : ℕ) (last : Bool) → AllBelow 9 (flat_map inst_vars (call_of j last))
call_below j true = tt
call_below j false = (omega arith, (omega arith, (omega arith, tt)))

-- each variable of a body is one of the nine
pub body_below : (j : ℕ) (last : Bool) (z : ℕ) → AllBelow 9 (flat_map inst_vars (body_of j last z))
body_below j last z = (
  omega arith,
  (
    omega arith,
    below_insts 9 ((groups 60 2 z).insts ++ call_of j last) (Print (Var 2) ∷ Return (Var 5) ∷ [])
        (below_insts 9 (groups 60 2 z).insts (call_of j last) (groups_below 60 2 z) (call_below j last)) (omega arith, (omega arith, tt)),
  ),
)

-- ---- its inputs

-- the first unit receives two values
pub two_inputs : (number count : ℕ) → 0 < count → receives_in (body_at (units_from count 0 number) 0) ≡ 2
two_inputs number count some =
    let t = there count 0 number 0 some in
    ap (λ (o : Option UnitShape). receives_in (body_or_empty o)) t.is ∙ two_receives (0 + 0) t.last t.state
