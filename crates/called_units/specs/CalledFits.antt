-- Laws: the units that calls lead to fit together as a program, and no other program is that of these units. For proofs
-- only.
use Rattle.std.proofs.Common.{◌≡◌, ℕ, zero, suc, ◌<◌, Bool, true, false, List, [], ◌∷◌, length, map, slice_get, Option, Some, None, option_map, inl, inr, refl, sym, ap, ◌∙◌, subst, arith}
use Rattle.std.proofs.lemmas.Bool.{cases_lt}
use Rattle.std.proofs.lemmas.List.{length-map}
use Rattle.std.proofs.lemmas.Option.{slice_get-map, slice_get_past, slice_get_within}
use Rattle.mir_base.specs.declared.instructions.Inst.{Inst}
use Rattle.mir_base.specs.declared.instructions.Inst.TheVariants.{Receive, Assign, Goto, If, TrapIf, Call, Print, Return}
use Rattle.mir_base.specs.Shapes.{AllDiffer, BodyFits, InstFits, IsProgram, ProgramShape, SharesGlobals, UnitShape, body_at, names_of, receives_in}
use Rattle.flow_graph.specs.ListLaws.{some_at}
use Rattle.flow_graph.specs.OneLaws.{same_places}
use Rattle.flow_graph.specs.Retained.{marked, marked_below}
use Rattle.flow_graph.specs.RetainedLaws.{at_rank}
use Rattle.called_units.specs.CalledLaws.{body_is, receives_stay}
use Rattle.called_units.specs.CalledUnits.{HasCalledUnits, IsCalled, MarkCalled, at_first, by_call, only_marked, redirected_call, with_calls}

-- ---- one result

-- a program has one list of marks of the units that calls lead to
pub marks_are_one : (program : ProgramShape) (a b : List Bool) → MarkCalled program a → MarkCalled program b → a ≡ b
marks_are_one program a b p q = same_places a b by_place
  where
    differ : Some true ≡ Some false → {A : Type 0} → A
    differ e = cc

    alike : (n : ℕ) → n < length program.units → (v w : Bool) → slice_get a n ≡ Some v → slice_get b n ≡ Some w → slice_get a n ≡ slice_get b n
    alike n lt true true e e' = e ∙ sym e'
    alike n lt false false e e' = e ∙ sym e'
    alike n lt true false e e' = differ (sym ((q.exact n lt).1 ((p.exact n lt).0 e)) ∙ e')
    alike n lt false true e e' = differ (sym ((p.exact n lt).1 ((q.exact n lt).0 e')) ∙ e)

    by_place : (n : ℕ) → slice_get a n ≡ slice_get b n
    by_place n = elim (cases_lt n (length program.units)) [
      | inl lt ↦
          let v = some_at a n (omega (arith, lt, p.long)) in
          let w = some_at b n (omega (arith, lt, q.long)) in
          alike n lt v.0 w.0 v.1 w.1
      | inr ge ↦ slice_get_past a n (omega (arith, ge, p.long)) ∙ sym (slice_get_past b n (omega (arith, ge, q.long)))
    ]

-- and one program of these units
pub called_is_one : (source a b : ProgramShape) → HasCalledUnits source a → HasCalledUnits source b → a ≡ b
called_is_one source a b p q = p.is ∙ ap (λ marks. only_marked marks source) (marks_are_one source p.marks q.marks p.are_marks q.are_marks) ∙ sym q.is

-- ---- where a unit comes from

-- what stands in a mapped place
mapped_from : {A B : Type 0} (f : A → B) (o : Option A) (y : B) → option_map f o ≡ Some y → (x : A) × (o ≡ Some x) × (f x ≡ y)
mapped_from f None y e = cc
mapped_from f (Some x) y e = (x, refl, let same : f x ≡ y = cc in same)

-- an item of those that the marks keep stands at a marked place of the whole list; its number is how many marked
-- places come before that
unrank : {A : Type 0} (marks : List Bool) (xs : List A) (v : ℕ) (x : A) → slice_get (marked marks xs) v ≡ Some x
    → (u : ℕ) × (slice_get marks u ≡ Some true) × (slice_get xs u ≡ Some x) × (marked_below marks u ≡ v)
unrank [] xs v x e = cc
unrank (true ∷ marks) [] v x e = cc
unrank (false ∷ marks) [] v x e = cc
unrank (true ∷ marks) (y ∷ xs) zero x e = (0, refl, e, refl)
unrank (true ∷ marks) (y ∷ xs) (suc v) x e = let r = unrank marks xs v x e in (suc r.0, r.1, r.2, ap suc r.3)
unrank (false ∷ marks) (y ∷ xs) v x e = let r = unrank marks xs v x e in (suc r.0, r.1, r.2, r.3)

-- an instruction that becomes a receive is it
from_receive : (to : ℕ → ℕ) (inst : Inst) (x : ℕ) → redirected_call to inst ≡ Receive x → inst ≡ Receive x
from_receive to (Receive y) x e = e
from_receive to (Assign y rhs) x e = cc
from_receive to (Goto place) x e = cc
from_receive to (If test place) x e = cc
from_receive to (TrapIf test number) x e = cc
from_receive to (Call into unit operands) x e = cc
from_receive to (Print a) x e = cc
from_receive to (Return a) x e = cc

-- the names of the units, by their numbers
names_at : (units : List UnitShape) (n : ℕ) → slice_get (names_of units) n ≡ option_map (λ (u : UnitShape). u.name) (slice_get units n)
names_at [] n = refl
names_at (unit ∷ units) zero = refl
names_at (unit ∷ units) (suc n) = names_at units n

-- each unit has one name
names_long : (units : List UnitShape) → length (names_of units) ≡ length units
names_long [] = refl
names_long (unit ∷ units) = ap suc (names_long units)

module _ (source : ProgramShape) (is : IsProgram source.globals source.units) (marks : List Bool) (are : MarkCalled source marks) where
  abbrev to : ℕ → ℕ
  to = marked_below marks

  abbrev target : ProgramShape
  target = only_marked marks source

  -- the unit of the source that a unit of the target was
  record Origin (v : ℕ) (made : UnitShape) : Type 0 where
    number : ℕ
    unit : UnitShape
    marked_at : slice_get marks number ≡ Some true
    at : slice_get source.units number ≡ Some unit
    rank_is : to number ≡ v
    made_is : with_calls to unit ≡ made

  origin : (v : ℕ) (made : UnitShape) → slice_get target.units v ≡ Some made → Origin v made
  origin v made e =
      let m = mapped_from (with_calls to) (slice_get (marked marks source.units) v) made (sym (slice_get-map (with_calls to) (marked marks source.units) v) ∙ e) in
      let u = unrank marks source.units v m.0 m.1 in
      record { number = u.0; unit = m.0; marked_at = u.1; at = u.2; rank_is = u.3; made_is = m.2 }

  -- it is one that calls lead to
  is_there : (v : ℕ) (made : UnitShape) (o : Origin v made) → (o.number < length source.units) × IsCalled source o.number
  is_there v made o = let lt = slice_get_within source.units o.number o.unit o.at in (lt, (are.exact o.number lt).0 o.marked_at)

  -- a unit that calls lead to has a place
  has_place : (u : ℕ) → (u < length source.units) × IsCalled source u → to u < length target.units
  has_place u there =
      let s = some_at source.units u there.0 in
      let e : slice_get target.units (to u) ≡ Some (with_calls to s.0) = slice_get-map (with_calls to) (marked marks source.units) (to u) ∙ ap (option_map (with_calls to)) (at_rank marks source.units u ((are.exact u there.0).1 there.1) are.long ∙ s.1) in
      slice_get_within target.units (to u) (with_calls to s.0) e

  module _ (u : ℕ) (unit : UnitShape) (at : slice_get source.units u ≡ Some unit) (called_to : IsCalled source u) where
    abbrev body : List Inst
    body = map (redirected_call to) unit.body

    fits : BodyFits source.units unit.body
    fits = is.bodies u unit at

    call_at : (place called : ℕ) (inst : Inst) → slice_get unit.body place ≡ Some inst → slice_get (body_at source.units u) place ≡ Some inst
    call_at place called inst e = ap (λ o. slice_get (body_of_unit o) place) at ∙ e
      where
        body_of_unit : Option UnitShape → List Inst
        body_of_unit None = []
        body_of_unit (Some x) = x.body

    inst_fits : (place : ℕ) (inst : Inst) → slice_get unit.body place ≡ Some inst
        → InstFits source.units unit.body place inst → InstFits target.units body place (redirected_call to inst)
    inst_fits place (Receive x) e f = omega (arith, f, receives_stay to unit.body)
    inst_fits place (Assign x rhs) e f = tt
    inst_fits place (Goto goal) e f = (omega (arith, f.0, receives_stay to unit.body), omega (arith, f.1, length-map unit.body (redirected_call to)))
    inst_fits place (If test goal) e f = (omega (arith, f.0, receives_stay to unit.body), omega (arith, f.1, length-map unit.body (redirected_call to)))
    inst_fits place (TrapIf test number) e f = tt
    inst_fits place (Call into called operands) e f =
        let there : (called < length source.units) × IsCalled source called = (f.0, by_call u called called_to (record { place = place; into = into; operands = operands; at = call_at place called (Call into called operands) e })) in
        (has_place called there, f.1 ∙ sym (ap receives_in (body_is source is marks are called there) ∙ receives_stay to (body_at source.units called)))
    inst_fits place (Print a) e f = tt
    inst_fits place (Return a) e f = tt

    -- a receive was one
    received_at : (place x : ℕ) → slice_get body place ≡ Some (Receive x) → slice_get unit.body place ≡ Some (Receive x)
    received_at place x e =
        let m = mapped_from (redirected_call to) (slice_get unit.body place) (Receive x) (sym (slice_get-map (redirected_call to) unit.body place) ∙ e) in
        m.1 ∙ ap Some (from_receive to m.0 x m.2)

    body_fits : BodyFits target.units body
    body_fits = record {
      insts = λ place inst e.
          let m = mapped_from (redirected_call to) (slice_get unit.body place) inst (sym (slice_get-map (redirected_call to) unit.body place) ∙ e) in
          subst (InstFits target.units body place) m.2 (inst_fits place m.0 m.1 (fits.insts place m.0 m.1));
      received = λ i j x e e'. fits.received i j x (received_at i x e) (received_at j x e');
    }

    shares : SharesGlobals source.globals (with_calls to unit)
    shares = let s = is.shares u unit at in record { count = s.count; begin = s.begin; own = λ place x e. s.own place x (received_at place x e) }

  names_differ : AllDiffer (names_of target.units)
  names_differ i j lt lt' same =
      let p = some_at target.units i (omega (arith, lt, names_long target.units)) in
      let q = some_at target.units j (omega (arith, lt', names_long target.units)) in
      let o = origin i p.0 p.1 in
      let o' = origin j q.0 q.1 in
      let a = (is_there i p.0 o).0 in
      let b = (is_there j q.0 o').0 in
      let one : slice_get (names_of source.units) o.number ≡ slice_get (names_of target.units) i =
      names_at source.units o.number ∙ ap (option_map (λ (u : UnitShape). u.name)) o.at ∙ ap (λ (u : UnitShape). Some u.name) o.made_is ∙ sym (names_at target.units i ∙ ap (option_map (λ (u : UnitShape). u.name)) p.1) in
      let other : slice_get (names_of source.units) o'.number ≡ slice_get (names_of target.units) j =
      names_at source.units o'.number ∙ ap (option_map (λ (u : UnitShape). u.name)) o'.at ∙ ap (λ (u : UnitShape). Some u.name) o'.made_is ∙ sym (names_at target.units j ∙ ap (option_map (λ (u : UnitShape). u.name)) q.1) in
      let numbers : o.number ≡ o'.number = is.names o.number o'.number (omega (arith, a, names_long source.units)) (omega (arith, b, names_long source.units)) (one ∙ same ∙ sym other) in
      sym o.rank_is ∙ ap to numbers ∙ o'.rank_is

  -- the units that calls lead to fit together
  pub called_fit : IsProgram target.globals target.units
  called_fit = record {
    some_unit = omega (arith, has_place 0 (is.some_unit, first));
    names = names_differ;
    bodies = λ v made e.
        let o = origin v made e in
        subst (λ (u : UnitShape). BodyFits target.units u.body) o.made_is (body_fits o.number o.unit o.at (is_there v made o).1);
    shares = λ v made e.
        let o = origin v made e in
        subst (SharesGlobals source.globals) o.made_is (shares o.number o.unit o.at (is_there v made o).1);
  }
    where
      first : IsCalled source 0
      first = at_first
