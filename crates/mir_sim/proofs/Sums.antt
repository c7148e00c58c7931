-- Two programs of one unit: one adds 1 and 2, the other has 3.
use Rattle.std.proofs.Common.{◌≡◌, ℕ, zero, suc, ◌<◌, List, [], ◌∷◌, ◌+◌, length, map, pos, ◌+ℤ◌, slice_get, refl, sym, ap, ◌∙◌, subst, arith, w64}
use Rattle.std.proofs.lemmas.Int.{int_wrap_fits}
use Rattle.mir_base.specs.declared.instructions.Inst.{Inst}
use Rattle.mir_base.specs.declared.instructions.Inst.TheVariants.{Assign, Return}
use Rattle.mir_base.specs.declared.instructions.Operand.TheVariants.{Const, Var}
use Rattle.mir_base.specs.declared.instructions.Rhs.TheVariants.{Binary, Plain}
use Rattle.mir_base.specs.declared.operators.Op.TheVariants.{Add}
use Rattle.mir_base.specs.Numbers.{wrapped}
use Rattle.mir_base.specs.Shapes.{UnitShape, ProgramShape, body_at}
use Rattle.mir_base.specs.Frames.{Frame}
use Rattle.mir_base.specs.Units.{assigned, inst_transition}
use Rattle.mir_base.specs.UnitRuns.{Machine, body_machine, machine_at, UnitSame, UnitCheaper}
use Rattle.mir_base.specs.Locksteps.{Alike, Lockstep}
use Rattle.mir_base.specs.LockstepLaws.{lockstep_same, lockstep_cheaper}
use Rattle.mir_base.specs.SharedLaws.{body_hands}
use Rattle.mir_sim.specs.Pairs.{AllUnitsSame, AllUnitsCheaper}

-- the body that adds
abbrev sum_body : List Inst
sum_body = Assign 0 (Binary Add (Const (pos 1)) (Const (pos 2))) ∷ Return (Var 0) ∷ []

-- the body that has the sum
abbrev three_body : List Inst
three_body = Assign 0 (Plain (Const (pos 3))) ∷ Return (Var 0) ∷ []

-- 1 and 2 are 3 in words of 64 bits
sum_is : wrapped (wrapped (pos 1) +ℤ wrapped (pos 2)) ≡ wrapped (pos 3)
sum_is =
    let one : wrapped (pos 1) ≡ pos 1 = int_wrap_fits w64 (pos 1) (record { sfits = omega arith }) in
    let two : wrapped (pos 2) ≡ pos 2 = int_wrap_fits w64 (pos 2) (record { sfits = omega arith }) in
    ap (λ z. wrapped (z +ℤ wrapped (pos 2))) one ∙ ap (λ z. wrapped (pos 1 +ℤ z)) two

-- both bodies do alike at each place
alike_at : (shared place : ℕ) (f : Frame) → Alike (λ g h. g ≡ h) (inst_transition shared (slice_get sum_body place) f) (inst_transition shared (slice_get three_body place) f)
alike_at shared zero f = (omega arith, ap (λ z. assigned 0 z (f.place + 1) f) sum_is)
alike_at shared (suc zero) f = refl
alike_at shared (suc (suc place)) f = refl

-- so they go step by step together, from equal frames to equal frames
lockstep : (shared : ℕ) → Lockstep (body_machine shared sum_body) (body_machine shared three_body) (λ f g. f ≡ g)
lockstep shared = record {
  receives = refl;
  shared = refl;
  hands = body_hands shared sum_body;
  starts = λ entry is. refl;
  steps = λ f g same. subst (λ h. Alike (λ f' g'. f' ≡ g') ((body_machine shared sum_body).code f) ((body_machine shared three_body).code h)) same (alike_at shared f.place f);
}

-- a program of one body has one unit, which has this body
only_body : (units : List UnitShape) (body : List Inst) → map (λ unit. unit.body) units ≡ body ∷ [] → (length units ≡ 1) × (body_at units 0 ≡ body)
only_body [] body is = cc
only_body (unit ∷ []) body is = (refl, cc)
only_body (unit ∷ next ∷ units) body is = cc

module _ (first second : ProgramShape) (sum : map (λ unit. unit.body) first.units ≡ sum_body ∷ []) (worked_out : map (λ unit. unit.body) second.units ≡ three_body ∷ []) (alike : length first.globals ≡ length second.globals) where
  -- what is so of the two bodies is so of the units of each number, of which there is one
  of_units : (P : Machine → Machine → Type 0) → P (body_machine (length first.globals) sum_body) (body_machine (length first.globals) three_body) → (u : ℕ) → u < length first.units → P (machine_at first u) (machine_at second u)
  of_units P holds zero within =
      let a = (only_body first.units sum_body sum).1 in
      let b = (only_body second.units three_body worked_out).1 in
      subst (λ body. P (body_machine (length first.globals) body) (machine_at second 0)) (sym a) (subst (λ n. P (body_machine (length first.globals) sum_body) (body_machine n (body_at second.units 0))) alike (subst (λ body. P (body_machine (length first.globals) sum_body) (body_machine (length first.globals) body)) (sym b) holds))
  of_units P holds (suc u) within = absurd (omega (arith, (only_body first.units sum_body sum).0))

  pub sums_same : AllUnitsSame first second
  sums_same = record {
    units = (only_body first.units sum_body sum).0 ∙ sym (only_body second.units three_body worked_out).0;
    same = of_units UnitSame (lockstep_same (body_machine (length first.globals) sum_body) (body_machine (length first.globals) three_body) (λ f g. f ≡ g) (lockstep (length first.globals)));
  }

  pub sums_cheaper : AllUnitsCheaper first second
  sums_cheaper = record { cheaper = of_units UnitCheaper (lockstep_cheaper (body_machine (length first.globals) sum_body) (body_machine (length first.globals) three_body) (λ f g. f ≡ g) (lockstep (length first.globals))) }
