use Rattle.std.proofs.Common.{◌≡◌, ◌++◌, ◌∷◌, [], List, None, length, replicate, false, refl, ap, ◌∙◌, subst, arith}
use Rattle.std.proofs.lemmas.Option.{slice_get_within}
use Rattle.mir_base.specs.Shapes.{ProgramShape, UnitShape}
use Rattle.called_units.specs.CallWalks.{FollowsCalls}
use Rattle.called_units.proofs.Walks.{popped, walk_begins, walk_marks}
use Rattle.called_units.proofs.called.called.Goals as goal

pub loop-unit-init : goal.loop-unit-init
loop-unit-init c =
    let same : c.items.result.now ≡ c.args.program.now.units = c.items.ensures ∙ ap (λ (p : ProgramShape). p.units) c.program.view_is in
    walk_begins c.args.program.now c.in_ok-marks.marks.items _ _ c.fits_together.ensures.some_unit (c.in_ok-marks.ensures ∙ ap (λ (l : List UnitShape). replicate (length l) false) same) refl (c.in_ok-push.ensures.items ∙ ap (λ l. l ++ 0 ∷ []) c.new-stack.ensures.items)

pub mark_calls-requires-clause-there : goal.mark_calls-requires-clause-there
mark_calls-requires-clause-there c =
    let p = popped c.args.program.now c.loop-unit.marks.items c.pop_unit.new.stack.items c.in-Some.unit (subst (λ l. FollowsCalls c.args.program.now c.loop-unit.marks.items l None) c.in-Some.ensures.same c.loop-unit.invariant) in
    omega (arith, slice_get_within c.loop-unit.marks.items c.in-Some.unit _ p.0, c.loop-unit.invariant.long)

pub mark_calls-requires-clause-called : goal.mark_calls-requires-clause-called
mark_calls-requires-clause-called c =
    let p = popped c.args.program.now c.loop-unit.marks.items c.pop_unit.new.stack.items c.in-Some.unit (subst (λ l. FollowsCalls c.args.program.now c.loop-unit.marks.items l None) c.in-Some.ensures.same c.loop-unit.invariant) in
    c.loop-unit.invariant.sound c.in-Some.unit p.0

pub mark_calls-requires-clause-walking : goal.mark_calls-requires-clause-walking
mark_calls-requires-clause-walking c =
    (popped c.args.program.now c.loop-unit.marks.items c.pop_unit.new.stack.items c.in-Some.unit (subst (λ l. FollowsCalls c.args.program.now c.loop-unit.marks.items l None) c.in-Some.ensures.same c.loop-unit.invariant)).1

pub returns : goal.returns
returns c =
    walk_marks c.args.program.now c.loop-unit.marks.items (subst (λ s. FollowsCalls c.args.program.now c.loop-unit.marks.items s None) c.in_default.ensures.empty c.loop-unit.invariant)
