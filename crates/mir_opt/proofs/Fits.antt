-- The units that the passes made fit together as a program.
use Rattle.std.proofs.Common.{◌≡◌, ℕ, ◌<◌, ◌≤◌, List, length, slice_get, Option, Some, None, option_map, take, refl, sym, ap, ◌∙◌, subst, arith}
use Rattle.std.specs.List.{AllZip}
use Rattle.std.proofs.lemmas.Option.{slice_get_within}
use Rattle.std.proofs.lemmas.Slice.Zip.{AllZip-long}
use Rattle.mir_base.specs.declared.instructions.Inst.{Inst}
use Rattle.mir_base.specs.declared.instructions.Inst.TheVariants.{Receive, Assign, Goto, If, TrapIf, Call, Print, Return}
use Rattle.mir_base.specs.Shapes.{UnitShape, receives_in, body_at, body_or_empty, names_of, AllDiffer, InstFits, BodyFits, IsProgram, SharesGlobals}
use Rattle.mir_base.specs.UnitRuns.{UnitSame, UnitCheaper, body_machine, unit_machine, machine_at}
use Rattle.mir_sim.specs.Calls.{HasCall, CallsNoMore}
use Rattle.mir_sim.specs.Pairs.{AllUnitsSame, AllUnitsCheaper}
use Rattle.flow_graph.specs.Calls.{inst_call}
use Rattle.flow_graph.specs.FitLaws.{called_fits, names_at, names_long}
use Rattle.flow_graph.specs.ListLaws.{some_at}
use Rattle.flow_graph.specs.Lowered.{target_of}
use Rattle.mir_opt.specs.Made.{IsKept}
use Rattle.mir_opt.proofs.Zips.{zip_at}

-- ---- the units that were made

-- units of a program, each kept
module _ (globals : List (List ℕ)) (sources targets : List UnitShape) (program : IsProgram globals sources) (all : AllZip IsKept sources targets) where
  -- there are as many targets as sources
  targets_long : length targets ≡ length sources
  targets_long = AllZip-long IsKept sources targets all

  -- the body of a unit, by its number
  body_is : (units : List UnitShape) (n : ℕ) (unit : UnitShape) → slice_get units n ≡ Some unit → body_at units n ≡ unit.body
  body_is units n unit at = ap body_or_empty at

  -- the units of number n
  record KeptAt (n : ℕ) : Type 0 where
    source : UnitShape
    target : UnitShape
    source_at : slice_get sources n ≡ Some source
    target_at : slice_get targets n ≡ Some target
    kept : IsKept source target

  -- each number has such units
  kept_at : (n : ℕ) → n < length sources → KeptAt n
  kept_at n lt =
      let s = some_at sources n lt in
      let t = some_at targets n (omega (arith, lt, targets_long)) in
      record { source = s.0; target = t.0; source_at = s.1; target_at = t.1; kept = zip_at IsKept sources targets all n s.0 t.0 s.1 t.1 }

  -- the globals are the first variables of the source
  source_shares : (n : ℕ) (m : KeptAt n) → SharesGlobals globals m.source
  source_shares n m = program.shares n m.source m.source_at

  -- and of the target
  target_count : (n : ℕ) (m : KeptAt n) → m.target.shared ≡ length globals
  target_count n m = sym m.kept.keeps.same.shared ∙ (source_shares n m).count

  target_shares : (n : ℕ) (m : KeptAt n) → SharesGlobals globals m.target
  target_shares n m = record {
    count = target_count n m;
    begin = ap (λ k. take k m.target.vars) (sym (target_count n m)) ∙ m.kept.keeps.globals ∙ ap (λ k. take k m.source.vars) (source_shares n m).count ∙ (source_shares n m).begin;
    own = λ place x at. subst (λ k. k ≤ x) (target_count n m) (m.kept.lowers.own place x at);
  }

  -- the machines of the two, as the programs have them
  source_machine : (n : ℕ) (m : KeptAt n) → unit_machine m.source ≡ machine_at (record { globals = globals; units = sources }) n
  source_machine n m = ap (λ k. body_machine k m.source.body) (source_shares n m).count ∙ ap (body_machine (length globals)) (sym (body_is sources n m.source m.source_at))

  target_machine : (n : ℕ) (m : KeptAt n) → unit_machine m.target ≡ machine_at (record { globals = globals; units = targets }) n
  target_machine n m = ap (λ k. body_machine k m.target.body) (target_count n m) ∙ ap (body_machine (length globals)) (sym (body_is targets n m.target m.target_at))

  -- they do the same, and the second evaluates no more
  same_at : (n : ℕ) → n < length sources → UnitSame (machine_at (record { globals = globals; units = sources }) n) (machine_at (record { globals = globals; units = targets }) n)
  same_at n lt =
      let m = kept_at n lt in
      subst (λ a. UnitSame a (machine_at (record { globals = globals; units = targets }) n)) (source_machine n m) (subst (UnitSame (unit_machine m.source)) (target_machine n m) m.kept.keeps.same)

  cheaper_at : (n : ℕ) → n < length sources → UnitCheaper (machine_at (record { globals = globals; units = sources }) n) (machine_at (record { globals = globals; units = targets }) n)
  cheaper_at n lt =
      let m = kept_at n lt in
      subst (λ a. UnitCheaper a (machine_at (record { globals = globals; units = targets }) n)) (source_machine n m) (subst (UnitCheaper (unit_machine m.source)) (target_machine n m) m.kept.keeps.cheaper)

  -- units of a number receive as many arguments, and have one name
  same_receives : (n : ℕ) → n < length sources → receives_in (body_at sources n) ≡ receives_in (body_at targets n)
  same_receives n lt = (same_at n lt).receives

  same_name : (n : ℕ) → n < length sources → slice_get (names_of targets) n ≡ slice_get (names_of sources) n
  same_name n lt =
      let m = kept_at n lt in
      names_at targets n ∙ ap (option_map (λ (u : UnitShape). u.name)) m.target_at ∙ ap Some m.kept.keeps.name ∙ sym (names_at sources n ∙ ap (option_map (λ (u : UnitShape). u.name)) m.source_at)

  -- a number that a name of the target has is that of a unit of the source
  within : (n : ℕ) → n < length (names_of targets) → n < length sources
  within n lt = omega (arith, lt, names_long targets, targets_long)

  -- so the programs are the same unit by unit
  pub kept_same : AllUnitsSame (record { globals = globals; units = sources }) (record { globals = globals; units = targets })
  kept_same = record { units = sym targets_long; same = same_at }

  pub kept_cheaper : AllUnitsCheaper (record { globals = globals; units = sources }) (record { globals = globals; units = targets })
  kept_cheaper = record { cheaper = cheaper_at }

  -- ---- the targets are a program

  -- the units of the target have different names
  names_differ : AllDiffer (names_of targets)
  names_differ i j lt lt' same =
      let a = within i lt in
      let b = within j lt' in
      program.names i j (omega (arith, a, names_long sources)) (omega (arith, b, names_long sources)) (sym (same_name i a) ∙ same ∙ same_name j b)

  -- each body of the target fits into it: its jumps, calls and receives are as those of a program are
  kept_fits : (n : ℕ) (unit : UnitShape) → slice_get targets n ≡ Some unit → BodyFits targets unit.body
  kept_fits n unit at =
      let lt : n < length sources = omega (arith, slice_get_within targets n unit at, targets_long) in
      let m = kept_at n lt in
      let one : Some unit ≡ Some m.target = sym at ∙ m.target_at in
      let same : m.target ≡ unit = cc in
      subst (λ (u : UnitShape). BodyFits targets u.body) same (record {
        insts = λ place inst here. inst_fits n m place inst here (program.bodies n m.source m.source_at);
        received = m.kept.lowers.received;
      })
    where
      inst_fits : (n : ℕ) (m : KeptAt n) (place : ℕ) (inst : Inst) → slice_get m.target.body place ≡ Some inst → BodyFits sources m.source.body → InstFits targets m.target.body place inst
      inst_fits n m place (Receive x) here fits = m.kept.lowers.first place x here
      inst_fits n m place (Assign x rhs) here fits = tt
      inst_fits n m place (Goto to) here fits = m.kept.lowers.targets place to (ap target_of here)
      inst_fits n m place (If test to) here fits = m.kept.lowers.targets place to (ap target_of here)
      inst_fits n m place (TrapIf test number) here fits = tt
      inst_fits n m place (Call into called operands) here fits =
          let source = called_fits sources m.source.body called (length operands) fits (m.kept.keeps.calls called (length operands) (record { place = place; inst = Call into called operands; here = here; calls = refl })) in
          (omega (arith, source.0, targets_long), source.1 ∙ same_receives called source.0)
      inst_fits n m place (Print a) here fits = tt
      inst_fits n m place (Return a) here fits = tt

  -- so they are one
  pub kept_program : IsProgram globals targets
  kept_program = record {
    some_unit = omega (arith, program.some_unit, targets_long);
    names = names_differ;
    bodies = kept_fits;
    shares = shares;
  }
    where
      shares : (n : ℕ) (unit : UnitShape) → slice_get targets n ≡ Some unit → SharesGlobals globals unit
      shares n unit at =
          let m = kept_at n (omega (arith, slice_get_within targets n unit at, targets_long)) in
          let one : Some unit ≡ Some m.target = sym at ∙ m.target_at in
          let same : m.target ≡ unit = cc in
          subst (SharesGlobals globals) same (target_shares n m)

  -- ---- the targets call no other units

  -- a call of a body of the sources, as the programs have it
  has_call : (n : ℕ) (m : KeptAt n) (called count : ℕ) (place : ℕ) (inst : Inst) → slice_get m.source.body place ≡ Some inst → inst_call inst ≡ Some (called, count) → HasCall (record { globals = globals; units = sources }) n called
  has_call n m called count place (Receive x) here is = absurd (cc)
  has_call n m called count place (Assign x rhs) here is = absurd (cc)
  has_call n m called count place (Goto to) here is = absurd (cc)
  has_call n m called count place (If test to) here is = absurd (cc)
  has_call n m called count place (TrapIf test number) here is = absurd (cc)
  has_call n m called count place (Call into unit operands) here is =
      let both : (unit, length operands) ≡ (called, count) = cc in
      let same : unit ≡ called = ap (λ (p : ℕ × ℕ). p.0) both in
      record {
        place = place;
        into = into;
        operands = operands;
        at = ap (λ (o : Option UnitShape). slice_get (body_or_empty o) place) m.source_at ∙ here ∙ ap (λ (u : ℕ). Some (Call into u operands)) same;
      }
  has_call n m called count place (Print a) here is = absurd (cc)
  has_call n m called count place (Return a) here is = absurd (cc)

  pub kept_calls : CallsNoMore (record { globals = globals; units = sources }) (record { globals = globals; units = targets })
  kept_calls n called call = go (slice_get targets n) refl
    where
      go : (o : Option UnitShape) → slice_get targets n ≡ o → HasCall (record { globals = globals; units = sources }) n called
      go None none = absurd (let e : Some (Call call.into called call.operands) ≡ None = sym call.at ∙ ap (λ (o : Option UnitShape). slice_get (body_or_empty o) call.place) none in cc)
      go (Some unit) some =
          let lt : n < length sources = omega (arith, slice_get_within targets n unit some, targets_long) in
          let m = kept_at n lt in
          let here : slice_get m.target.body call.place ≡ Some (Call call.into called call.operands) = ap (λ (o : Option UnitShape). slice_get (body_or_empty o) call.place) (sym m.target_at) ∙ call.at in
          let source = m.kept.keeps.calls called (length call.operands) (record { place = call.place; inst = Call call.into called call.operands; here = here; calls = refl }) in
          has_call n m called (length call.operands) source.place source.inst source.here source.calls
