use Rattle.std.proofs.Common.{◌≡◌, ◌∙◌, ◌≤◌, ◌+◌, ◌-◌, ◌==◌, ℕ, List, [], Some, length, slice_get, refl, sym, subst, arith}
use Rattle.mir_base.specs.Shapes.{IsProgram, UnitShape, receives_in, body_at}
use Rattle.mir_sim.specs.Calls.{CallsHigher}
use Rattle.mir_trial.specs.Trial.{units_from}
use Rattle.mir_trial.proofs.Listed.{ListedSoFar, listing_begins, listing_ends, listing_goes_on}
use Rattle.mir_trial.proofs.Valid.{is_valid, calls_higher, is_short, two_inputs, units_long}
use Rattle.mir_trial.proofs.units.trial_program.Goals as goal

pub loop-j-init : goal.loop-j-init
loop-j-init c = subst (λ (l : List UnitShape). ListedSoFar c.args.count c.args.number (c.args.count - 0) 0 l c.args.number) (sym c.new-units.ensures.items) (listing_begins c.args.count c.args.number)

pub loop-j-preserved : goal.loop-j-preserved
loop-j-preserved c =
    let made = c.in_ok-unit.ensures in
    listing_goes_on c.args.count c.args.number c.loop-j.j c.loop-j.units.items c.loop-j.draws.state (c.loop-j.j + 1 == c.args.count) c.in_ok-unit.field-0 c.push.new.self.items c.unit.new.draws.state
    c.loop-j-test.true c.loop-j.invariant refl made.unit c.in_ok-push.ensures.items made.state

pub invariant_of-result : goal.invariant_of-result
invariant_of-result c =
    let end : c.loop-j.j ≡ c.args.count = omega (arith, c.loop-j.auto.j-end, c.loop-j-test.false) in
    subst (λ g. IsProgram g c.of.result) (sym c.new.ensures) (subst (IsProgram []) (listing_ends c.args.count c.args.number c.loop-j.j c.loop-j.units.items c.loop-j.draws.state end c.loop-j.invariant ∙ sym c.of.ensures) (is_valid c.args.number c.args.count c.requires.some c.requires.few))

units_are : (c : goal.After-drop-vars-2) → units_from c.args.count 0 c.args.number ≡ c.of.result
units_are c =
    let end : c.loop-j.j ≡ c.args.count = omega (arith, c.loop-j.auto.j-end, c.loop-j-test.false) in
    listing_ends c.args.count c.args.number c.loop-j.j c.loop-j.units.items c.loop-j.draws.state end c.loop-j.invariant ∙ sym c.of.ensures

pub returns-clause-program : goal.returns-clause-program
returns-clause-program c = λ i. record { globals = c.new.ensures i; units = sym (units_are c) i }

pub returns-clause-higher : goal.returns-clause-higher
returns-clause-higher c =
    subst (λ (g : List (List ℕ)). CallsHigher (record { globals = g; units = c.of.result })) (sym c.new.ensures)
    (subst (λ (units : List UnitShape). CallsHigher (record { globals = []; units = units })) (units_are c) (calls_higher c.args.number c.args.count))

pub returns-clause-short : goal.returns-clause-short
returns-clause-short c = subst (λ (units : List UnitShape). (u : ℕ) (unit : UnitShape) → slice_get units u ≡ Some unit → length unit.body ≤ 245) (units_are c) (is_short c.args.number c.args.count)

pub returns-clause-units : goal.returns-clause-units
returns-clause-units c = subst (λ (units : List UnitShape). length units ≡ c.args.count) (units_are c) (units_long c.args.count 0 c.args.number)

pub returns-clause-inputs : goal.returns-clause-inputs
returns-clause-inputs c = subst (λ (units : List UnitShape). receives_in (body_at units 0) ≡ 2) (units_are c) (two_inputs c.args.number c.args.count c.requires.some)
