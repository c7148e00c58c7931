-- Laws: what is made of each unit of a program whose units go through a pass. For proofs only.
use Rattle.std.proofs.Common.{◌≡◌, ℕ, ◌+◌, inl, inr, List, [], ◌∷◌, ◌++◌, length, slice_get, Some, sym, ap, ◌∙◌, subst}
use Rattle.std.proofs.lemmas.List.{length_push}
use Rattle.mir_base.specs.Shapes.{ProgramShape, UnitShape}
use Rattle.flow_graph.specs.Graphs.{GraphShape}
use Rattle.flow_graph.specs.ListLaws.{get_push}
use Rattle.program_pass.specs.PassPrograms.{AllPassed, CleanedLaid, EachUnit, LoweredClean, IsPassedProgram, IsPassedUnit, PassKeeps, PassRelation, PassedAt, UnitPassed}

module _ (Exact Between : PassRelation) where
  -- the unit is the one of its number
  pub passed_at : (units : List UnitShape) (number : ℕ) (unit : UnitShape) (lowered cleaned passed : GraphShape) (target : UnitShape)
      → slice_get units number ≡ Some unit → LoweredClean unit lowered cleaned → Exact number cleaned passed
      → PassKeeps (Between number) cleaned passed → CleanedLaid passed target
      → PassedAt Exact Between units number target
  passed_at units number unit lowered cleaned passed target at front is keeps back source at' =
      let both : Some unit ≡ Some source = sym at ∙ at' in
      let same : unit ≡ source = cc in
      subst (λ u. UnitPassed Exact Between u number target) same (record { lowered = lowered; cleaned = cleaned; passed = passed; front = front; is_passed = is; keeps = keeps; back = back })

  -- where each unit is made by the pass, and one more is, each of the longer list is
  pub each_more : (sources targets targets' : List UnitShape) (number : ℕ) (target : UnitShape)
      → length targets ≡ number → EachUnit (UnitPassed Exact Between) sources targets
      → PassedAt Exact Between sources number target → targets' ≡ targets ++ target ∷ []
      → EachUnit (UnitPassed Exact Between) sources targets'
  each_more sources targets targets' number target long each made is u s t at at' = elim (get_push targets target t u (sym (ap (λ l. slice_get l u) is) ∙ at')) [
    | inl old ↦ each u s t at old
    | inr last ↦
        let number_is : u ≡ number = last.0 ∙ long in
        let of : UnitPassed Exact Between s number target = made s (ap (slice_get sources) (sym number_is) ∙ at) in
        subst (λ n. UnitPassed Exact Between s n t) (sym number_is) (subst (UnitPassed Exact Between s number) last.1 of)
  ]

  -- the exact unit
  exact : (s : UnitShape) (u : ℕ) (t : UnitShape) → UnitPassed Exact Between s u t → IsPassedUnit Exact s u t
  exact s u t m = record {
    lowered = m.lowered;
    cleaned = m.cleaned;
    passed = m.passed;
    swept = m.back.swept;
    is_lowered = m.front.is_lowered;
    is_cleaned = m.front.is_cleaned;
    is_passed = m.is_passed;
    is_swept = m.back.is_swept;
    is_laid = m.back.is_laid;
  }

  -- and the exact program
  pub all_passed : (source target : ProgramShape) → target.globals ≡ source.globals
      → AllPassed Exact Between source.units target.units → IsPassedProgram Exact source target
  all_passed source target globals all = record { globals = globals; long = all.long; units = λ u s t at at'. exact s u t (all.units u s t at at') }

-- and their number
pub long_more : (targets targets' : List UnitShape) (number : ℕ) (target : UnitShape) → length targets ≡ number
    → targets' ≡ targets ++ target ∷ [] → length targets' ≡ number + 1
long_more targets targets' number target long is = ap (λ l. length l) is ∙ length_push targets target ∙ ap (λ n. n + 1) long
