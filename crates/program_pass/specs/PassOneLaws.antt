-- Laws: a program has one program of its units through a pass that has one result. For proofs only.
use Rattle.std.proofs.Common.{◌≡◌, ℕ, suc, List, [], ◌∷◌, length, slice_get, Some, refl, sym, ap, ◌∙◌, subst, arith}
use Rattle.std.proofs.lemmas.Option.{slice_get_within}
use Rattle.mir_base.specs.Shapes.{ProgramShape, UnitShape}
use Rattle.flow_graph.specs.Graphs.{GraphShape}
use Rattle.flow_graph.specs.Layouts.{IsLayout}
use Rattle.flow_graph.specs.ListLaws.{cons_same, some_at}
use Rattle.flow_graph.specs.OneLaws.{layout_is_one, lowered_is_one}
use Rattle.jump_clean.specs.Cleaned.{IsClean}
use Rattle.jump_clean.specs.CleanLaws.{clean_is_one}
use Rattle.program_pass.specs.PassPrograms.{AllPassed, IsPassedProgram, IsPassedUnit, PassRelation, UnitPassed}

-- equally long lists with the same items at each place are equal
pub places_same : {A : Type 0} (xs ys : List A) → length xs ≡ length ys
    → ((i : ℕ) (x y : A) → slice_get xs i ≡ Some x → slice_get ys i ≡ Some y → x ≡ y) → xs ≡ ys
places_same [] [] long same = refl
places_same [] (y ∷ ys) long same = absurd (omega (arith, long))
places_same (x ∷ xs) [] long same = absurd (omega (arith, long))
places_same (x ∷ xs) (y ∷ ys) long same = cons_same (same 0 x y refl refl) (places_same xs ys (omega (arith, long)) (λ i. same (suc i)))

-- where what was made of each graph is the only such result (`Other`), what was made of the program is
module _ (Exact Between Other : PassRelation) (one : (u : ℕ) (graph a b : GraphShape) → Exact u graph a → Other u graph b → a ≡ b) where
  -- a unit that was made is the only one
  unit_only : (source : UnitShape) (u : ℕ) (a b : UnitShape) → UnitPassed Exact Between source u a → IsPassedUnit Other source u b → a ≡ b
  unit_only source u a b p q =
      let lowered : p.lowered ≡ q.lowered = lowered_is_one source p.lowered q.lowered p.front.is_lowered q.is_lowered in
      let cleaned : p.cleaned ≡ q.cleaned = clean_is_one p.lowered p.cleaned q.cleaned p.front.within p.front.is_cleaned (subst (λ g. IsClean g q.cleaned) (sym lowered) q.is_cleaned) in
      let passed : p.passed ≡ q.passed = one u p.cleaned p.passed q.passed p.is_passed (subst (λ g. Other u g q.passed) (sym cleaned) q.is_passed) in
      let swept : p.back.swept ≡ q.swept = clean_is_one p.passed p.back.swept q.swept p.back.within p.back.is_swept (subst (λ g. IsClean g q.swept) (sym passed) q.is_swept) in
      layout_is_one p.back.swept a b p.back.is_laid (subst (λ g. IsLayout g b) (sym swept) q.is_laid)

  -- so is a program
  pub program_only : (source target other : ProgramShape) → target.globals ≡ source.globals
      → AllPassed Exact Between source.units target.units → IsPassedProgram Other source other → target ≡ other
  program_only source target other globals p q =
      let same : target.units ≡ other.units = places_same target.units other.units (p.long ∙ sym q.long) (λ u a b at at'.
      let at_source = some_at source.units u (omega (arith, slice_get_within target.units u a at, p.long)) in
      unit_only at_source.0 u a b (p.units u at_source.0 a at_source.1 at) (q.units u at_source.0 b at_source.1 at')) in
      ap (λ us. record target { units = us }) same ∙ ap (λ gs. record other { globals = gs }) (globals ∙ sym q.globals)

-- where the pass has one result, a program has one
pub program_one : (Exact Between : PassRelation) → ((u : ℕ) (graph a b : GraphShape) → Exact u graph a → Exact u graph b → a ≡ b)
    → (source target other : ProgramShape) → target.globals ≡ source.globals → AllPassed Exact Between source.units target.units → IsPassedProgram Exact source other → target ≡ other
program_one Exact Between one = program_only Exact Between Exact one
