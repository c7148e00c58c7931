-- Law: units that take the places of those of a program, with their names and globals, with as many receives and with
-- no other calls, fit together as a program. For proofs only.
use Rattle.std.proofs.Common.{◌≡◌, ℕ, ◌<◌, ◌≤◌, List, length, take, slice_get, Some, option_map, refl, sym, ap, ◌∙◌, subst, arith}
use Rattle.std.proofs.lemmas.Option.{slice_get_within}
use Rattle.mir_base.specs.declared.instructions.Inst.{Inst}
use Rattle.mir_base.specs.declared.instructions.Inst.TheVariants.{Receive, Assign, Goto, If, TrapIf, Call, Print, Return}
use Rattle.mir_base.specs.Shapes.{AllDiffer, BodyFits, InstFits, IsProgram, SharesGlobals, UnitShape, body_at, body_or_empty, names_of, receives_in}
use Rattle.flow_graph.specs.Calls.{BodyCalls, CallsAmong}
pub use Rattle.flow_graph.specs.FitLaws.{called_fits}
use Rattle.flow_graph.specs.FitLaws.{names_at, names_long}
use Rattle.flow_graph.specs.ListLaws.{some_at}
use Rattle.flow_graph.specs.Lowered.{CanLower, target_of}

-- the second unit may take the place of the first
pub record Refits (source target : UnitShape) : Type 0 where
  pub name : target.name ≡ source.name
  pub shared : target.shared ≡ source.shared
  pub globals : take target.shared target.vars ≡ take source.shared source.vars
  pub receives : receives_in target.body ≡ receives_in source.body
  pub calls : CallsAmong (BodyCalls target.body) (BodyCalls source.body)
  pub lowers : CanLower target.shared target.body

module _ (sources targets : List UnitShape) (long : length targets ≡ length sources) (each : (n : ℕ) (source target : UnitShape) → slice_get sources n ≡ Some source → slice_get targets n ≡ Some target → Refits source target) where
  -- the units of number n
  record RefitAt (n : ℕ) : Type 0 where
    source : UnitShape
    target : UnitShape
    source_at : slice_get sources n ≡ Some source
    target_at : slice_get targets n ≡ Some target
    refits : Refits source target

  refit_at : (n : ℕ) → n < length sources → RefitAt n
  refit_at n lt =
      let s = some_at sources n lt in
      let t = some_at targets n (omega (arith, lt, long)) in
      record { source = s.0; target = t.0; source_at = s.1; target_at = t.1; refits = each n s.0 t.0 s.1 t.1 }

  -- units of a number receive as many arguments, and have one name
  same_receives : (n : ℕ) → n < length sources → receives_in (body_at sources n) ≡ receives_in (body_at targets n)
  same_receives n lt =
      let m = refit_at n lt in
      ap (λ o. receives_in (body_or_empty o)) m.source_at ∙ sym m.refits.receives ∙ sym (ap (λ o. receives_in (body_or_empty o)) m.target_at)

  same_name : (n : ℕ) → n < length sources → slice_get (names_of targets) n ≡ slice_get (names_of sources) n
  same_name n lt =
      let m = refit_at n lt in
      names_at targets n ∙ ap (option_map (λ (u : UnitShape). u.name)) m.target_at ∙ ap Some m.refits.name ∙ sym (names_at sources n ∙ ap (option_map (λ (u : UnitShape). u.name)) m.source_at)

  -- there are no more names of targets than sources
  within : (n : ℕ) → n < length (names_of targets) → n < length sources
  within n lt = omega (arith, lt, names_long targets, long)

  -- their names differ
  names_differ : (globals : List (List ℕ)) → IsProgram globals sources → AllDiffer (names_of targets)
  names_differ globals program i j lt lt' same =
      let a = within i lt in
      let b = within j lt' in
      program.names i j (omega (arith, a, names_long sources)) (omega (arith, b, names_long sources)) (sym (same_name i a) ∙ same ∙ same_name j b)

  inst_fits : (n : ℕ) (m : RefitAt n) (place : ℕ) (inst : Inst) → slice_get m.target.body place ≡ Some inst
      → BodyFits sources m.source.body → InstFits targets m.target.body place inst
  inst_fits n m place (Receive x) here fits = m.refits.lowers.first place x here
  inst_fits n m place (Assign x rhs) here fits = tt
  inst_fits n m place (Goto to) here fits = m.refits.lowers.targets place to (ap target_of here)
  inst_fits n m place (If test to) here fits = m.refits.lowers.targets place to (ap target_of here)
  inst_fits n m place (TrapIf test number) here fits = tt
  inst_fits n m place (Call into called operands) here fits =
      let source = called_fits sources m.source.body called (length operands) fits (m.refits.calls called (length operands) (record { place = place; inst = Call into called operands; here = here; calls = refl })) in
      (omega (arith, source.0, long), source.1 ∙ same_receives called source.0)
  inst_fits n m place (Print a) here fits = tt
  inst_fits n m place (Return a) here fits = tt

  -- their bodies fit
  bodies_fit : (globals : List (List ℕ)) → IsProgram globals sources → (n : ℕ) (unit : UnitShape) → slice_get targets n ≡ Some unit → BodyFits targets unit.body
  bodies_fit globals program n unit at =
      let lt : n < length sources = omega (arith, slice_get_within targets n unit at, long) in
      let m = refit_at n lt in
      let one : Some unit ≡ Some m.target = sym at ∙ m.target_at in
      let same : m.target ≡ unit = cc in
      subst (λ (u : UnitShape). BodyFits targets u.body) same (record {
        insts = λ place inst here. inst_fits n m place inst here (program.bodies n m.source m.source_at);
        received = m.refits.lowers.received;
      })

  -- they have the globals
  globals_shared : (globals : List (List ℕ)) → IsProgram globals sources → (n : ℕ) (unit : UnitShape)
      → slice_get targets n ≡ Some unit → SharesGlobals globals unit
  globals_shared globals program n unit at =
      let lt : n < length sources = omega (arith, slice_get_within targets n unit at, long) in
      let m = refit_at n lt in
      let one : Some unit ≡ Some m.target = sym at ∙ m.target_at in
      let same : m.target ≡ unit = cc in
      let source = program.shares n m.source m.source_at in
      let count : m.target.shared ≡ length globals = m.refits.shared ∙ source.count in
      subst (SharesGlobals globals) same (record {
        count = count;
        begin = ap (λ k. take k m.target.vars) (sym count) ∙ m.refits.globals ∙ ap (λ k. take k m.source.vars) source.count ∙ source.begin;
        own = λ place x here. subst (λ k. k ≤ x) count (m.refits.lowers.own place x here);
      })

  -- so they are a program
  pub refit_program : (globals : List (List ℕ)) → IsProgram globals sources → IsProgram globals targets
  refit_program globals program = record {
    some_unit = omega (arith, program.some_unit, long);
    names = names_differ globals program;
    bodies = bodies_fit globals program;
    shares = globals_shared globals program;
  }
