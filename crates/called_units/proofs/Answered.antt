-- What the public call answers, said of lists that are equal.
use Rattle.std.proofs.Common.{◌≡◌, ℕ, Bool, true, false, List, [], ◌∷◌, ◌++◌, map, flat_map, slice_get, Some, refl, sym, ap, ◌∙◌, subst}
use Rattle.mir_base.specs.declared.instructions.Inst.{Inst}
use Rattle.mir_base.specs.declared.instructions.Inst.TheVariants.{Receive, Assign, Goto, If, TrapIf, Call, Print, Return}
use Rattle.mir_base.specs.Shapes.{IsProgram, IsTidy, ProgramShape, UnitShape, inst_vars, numbered_from}
use Rattle.mir_sim.specs.MachineLaws.{programs_cheaper, programs_same, programs_shallower}
use Rattle.flow_graph.specs.ListLaws.{cons_same}
use Rattle.flow_graph.specs.Retained.{marked, marked_below}
use Rattle.program_pass.specs.PassPrograms.{KeepsHeads, KeepsRuns, head_of, heads_of}
use Rattle.called_units.specs.CalledFits.{called_fit}
use Rattle.called_units.specs.CalledLaws.{marked_keep, receives_stay}
use Rattle.called_units.specs.CalledUnits.{HasCalledUnits, MarkCalled, at_first, only_marked, redirected_call, with_calls}

-- the variables of a call are those of its operands, whatever it calls
vars_stay : (to : ℕ → ℕ) (inst : Inst) → inst_vars (redirected_call to inst) ≡ inst_vars inst
vars_stay to (Receive x) = refl
vars_stay to (Assign x rhs) = refl
vars_stay to (Goto place) = refl
vars_stay to (If test place) = refl
vars_stay to (TrapIf test number) = refl
vars_stay to (Call into unit operands) = refl
vars_stay to (Print a) = refl
vars_stay to (Return a) = refl

-- so of a body
all_vars_stay : (to : ℕ → ℕ) (body : List Inst) → flat_map inst_vars (map (redirected_call to) body) ≡ flat_map inst_vars body
all_vars_stay to [] = refl
all_vars_stay to (inst ∷ body) = ap (λ l. l ++ flat_map inst_vars (map (redirected_call to) body)) (vars_stay to inst) ∙ ap (λ l. inst_vars inst ++ l) (all_vars_stay to body)

-- and a unit stays tidy
pub calls_tidy : (to : ℕ → ℕ) (shared shared' : ℕ) (vars vars' : List (List ℕ)) (body body' : List Inst) → IsTidy shared vars body → shared' ≡ shared → vars' ≡ vars → body' ≡ map (redirected_call to) body → IsTidy shared' vars' body'
calls_tidy to shared shared' vars vars' body body' tidy e e' e'' =
    subst (λ s. IsTidy s vars' body') (sym e) (subst (λ (l : List (List ℕ)). IsTidy shared l body') (sym e') (subst (IsTidy shared vars) (sym e'') (record { numbered = ap (numbered_from shared) (all_vars_stay to body) ∙ tidy.numbered; differ = tidy.differ })))

module _ (source : ProgramShape) (marks marks' : List Bool) (are : MarkCalled source marks) (same : marks' ≡ marks) (units : List UnitShape) (made : units ≡ (only_marked marks' source).units) where
  -- the units fit together
  pub fits_as : IsProgram source.globals source.units → IsProgram source.globals units
  fits_as is = subst (IsProgram source.globals) (sym (made ∙ ap (λ m. (only_marked m source).units) same)) (called_fit source is marks are)

  -- the program of them is the one that is wanted
  pub is_as : (target : ProgramShape) → target ≡ record { globals = source.globals; units = units } → HasCalledUnits source target
  is_as target is = record { marks = marks; are_marks = are; is = is ∙ ap (λ (l : List UnitShape). record { globals = source.globals; units = l }) (made ∙ ap (λ m. (only_marked m source).units) same) }

-- a unit has its head, whatever numbers its calls have
head_stays : (to : ℕ → ℕ) (unit : UnitShape) → head_of (with_calls to unit) ≡ head_of unit
head_stays to unit = ap (λ (k : ℕ). record { name = unit.name; receives = k }) (receives_stay to unit.body)

-- so have the marked ones
marked_stay : (to : ℕ → ℕ) (marks : List Bool) (units : List UnitShape) → map head_of (map (with_calls to) (marked marks units)) ≡ marked marks (map head_of units)
marked_stay to [] units = refl
marked_stay to (true ∷ marks) [] = refl
marked_stay to (false ∷ marks) [] = refl
marked_stay to (true ∷ marks) (unit ∷ units) = cons_same (head_stays to unit) (marked_stay to marks units)
marked_stay to (false ∷ marks) (unit ∷ units) = marked_stay to marks units

-- the first one stays the first
first_stays : {A : Type 0} → (marks : List Bool) (xs : List A) → slice_get marks 0 ≡ Some true → slice_get (marked marks xs) 0 ≡ slice_get xs 0
first_stays [] xs is = cc
first_stays (true ∷ marks) [] is = refl
first_stays (true ∷ marks) (x ∷ xs) is = refl
first_stays (false ∷ marks) xs is = cc

-- the heads of the marked units
marked_heads : (source : ProgramShape) → IsProgram source.globals source.units → (marks : List Bool) → MarkCalled source marks → KeepsHeads source (only_marked marks source)
marked_heads source is marks are =
    let heads = marked_stay (marked_below marks) marks source.units in
    record {
      globals = refl;
      stay = marks;
      long = are.long;
      heads = heads;
      entry = ap (λ l. slice_get l 0) heads ∙ first_stays marks (heads_of source) ((are.exact 0 is.some_unit).1 at_first);
    }

-- the program of the called units keeps the runs of the source, and the heads of its units
pub keeps_as : (source target : ProgramShape) → IsProgram source.globals source.units → HasCalledUnits source target → KeepsRuns source target
keeps_as source target is has =
    let keep = marked_keep source is has.marks has.are_marks in
    subst (KeepsRuns source) (sym has.is) (record {
      same = programs_same source (only_marked has.marks source) keep;
      cheaper = programs_cheaper source (only_marked has.marks source) keep;
      shallower = programs_shallower source (only_marked has.marks source) keep;
      heads = marked_heads source is has.marks has.are_marks;
    })
