-- The new numbers of the marked units, and the units that are marked.
use Rattle.std.proofs.Common.{◌≡◌, ℕ, suc, ◌+◌, ◌<◌, Bool, true, false, cond, List, [], ◌∷◌, ◌++◌, length, slice_get, slice_index_or, Some, refl, sym, ap, ◌∙◌, subst, arith, map, drop, append_assoc}
use Rattle.std.proofs.lemmas.Option.{slice_get-get_or, get_or_from_slice_get}
use Rattle.mir_base.specs.declared.instructions.Inst.{Inst}
use Rattle.mir_base.specs.declared.instructions.Inst.TheVariants.{Receive, Assign, Goto, If, TrapIf, Call, Print, Return}
use Rattle.mir_base.specs.Shapes.{BodyFits, InstFits, UnitShape}
use Rattle.flow_graph.specs.ListLaws.{cons_same, drop_at}
use Rattle.flow_graph.specs.NumberTables.{number_at}
use Rattle.flow_graph.specs.Retained.{marked_below, marked, AreRanks}
use Rattle.called_units.specs.CalledUnits.{redirected_call, with_calls}

-- a mark by index
pub marks_index : (marks : List Bool) (i : ℕ) (b : Bool) → i < length marks → slice_index_or marks i false ≡ b → slice_get marks i ≡ Some b
marks_index marks i b lt e = slice_get-get_or marks i false lt ∙ ap Some e

-- one unit more is pushed, where it is marked
pub push_one : (f : UnitShape → UnitShape) (marks : List Bool) (units made made' : List UnitShape) (i : ℕ) (b : Bool) (unit unit' : UnitShape) (all : List UnitShape) → slice_get marks i ≡ Some b → slice_get units i ≡ Some unit → unit' ≡ f unit → made' ≡ cond b (made ++ unit' ∷ []) made → made ++ map f (marked (drop i marks) (drop i units)) ≡ all → made' ++ map f (marked (drop (i + 1) marks) (drop (i + 1) units)) ≡ all
push_one f marks units made made' i true unit unit' all is at e e' h =
    let rest = map f (marked (drop (i + 1) marks) (drop (i + 1) units)) in
    let step : map f (marked (drop i marks) (drop i units)) ≡ f unit ∷ rest = ap (λ l. map f (marked l (drop i units))) (drop_at marks i true is) ∙ ap (λ l. map f (marked (true ∷ drop (i + 1) marks) l)) (drop_at units i unit at) in
    ap (λ l. l ++ rest) (e' ∙ ap (λ u. made ++ u ∷ []) e) ∙ append_assoc made (f unit ∷ []) rest ∙ ap (λ l. made ++ l) (sym step) ∙ h
push_one f marks units made made' i false unit unit' all is at e e' h =
    let rest = map f (marked (drop (i + 1) marks) (drop (i + 1) units)) in
    let step : map f (marked (drop i marks) (drop i units)) ≡ rest = ap (λ l. map f (marked l (drop i units))) (drop_at marks i false is) ∙ ap (λ l. map f (marked (false ∷ drop (i + 1) marks) l)) (drop_at units i unit at) in
    ap (λ l. l ++ rest) e' ∙ ap (λ l. made ++ l) (sym step) ∙ h

-- of no units none is marked
pub none_left : (f : UnitShape → UnitShape) (marks : List Bool) → map f (marked marks []) ≡ []
none_left f [] = refl
none_left f (true ∷ marks) = refl
none_left f (false ∷ marks) = refl

-- the table has the new numbers of all units
module _ (units : List UnitShape) (marks : List Bool) (ranks : List ℕ) (long : length marks ≡ length units) (are : AreRanks marks ranks) where
  inst_same : (body : List Inst) (place : ℕ) (inst : Inst) → InstFits units body place inst → redirected_call (number_at ranks) inst ≡ redirected_call (marked_below marks) inst
  inst_same body place (Receive x) f = refl
  inst_same body place (Assign x rhs) f = refl
  inst_same body place (Goto goal) f = refl
  inst_same body place (If test goal) f = refl
  inst_same body place (TrapIf test number) f = refl
  inst_same body place (Call into called operands) f =
      ap (λ n. Call into n operands) (get_or_from_slice_get ranks called (marked_below marks called) 0 (are.are called (omega (arith, f.0, long))))
  inst_same body place (Print a) f = refl
  inst_same body place (Return a) f = refl

  insts_same : (body insts : List Inst) (first : ℕ) → ((i : ℕ) (inst : Inst) → slice_get insts i ≡ Some inst → InstFits units body (first + i) inst) → map (redirected_call (number_at ranks)) insts ≡ map (redirected_call (marked_below marks)) insts
  insts_same body [] first fits = refl
  insts_same body (inst ∷ insts) first fits = cons_same (inst_same body (first + 0) inst (fits 0 inst refl)) (insts_same body insts (suc first) (λ i other e. let at : suc first + i ≡ first + suc i = omega arith in subst (λ p. InstFits units body p other) (sym at) (fits (suc i) other e)))

  pub calls_same : (unit : UnitShape) → BodyFits units unit.body → with_calls (number_at ranks) unit ≡ with_calls (marked_below marks) unit
  calls_same unit fits = ap (λ l. record unit { body = l }) (insts_same unit.body unit.body 0 (λ i inst e. let at : i ≡ 0 + i = omega arith in subst (λ p. InstFits units unit.body p inst) at (fits.insts i inst e)))
