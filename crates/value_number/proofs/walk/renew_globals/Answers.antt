use Rattle.std.proofs.Common.{refl}
use Rattle.flow_graph.specs.declared.nodes.Node.TheVariants.{Start, Skip, Assign, Print, Guard, Test, Return}
use Rattle.value_number.proofs.Undoing.{globals_renewed, globals_stay}
use Rattle.value_number.proofs.walk.renew_globals.Goals as goal

pub returns-in-Start : goal.returns-in-Start
returns-in-Start c = rw c.in-Start.is (globals_stay c.args.shared c.args.n (Start c.in-Start.field-0) c.args.table.now c.args.numbers.now c.args.steps.now.items (λ terms. refl))

pub returns-in-Skip : goal.returns-in-Skip
returns-in-Skip c = rw c.in-Skip.is (globals_stay c.args.shared c.args.n (Skip c.in-Skip.field-0) c.args.table.now c.args.numbers.now c.args.steps.now.items (λ terms. refl))

pub returns-in-Assign : goal.returns-in-Assign
returns-in-Assign c = rw c.in-Assign.is (globals_stay c.args.shared c.args.n (Assign c.in-Assign.field-0 c.in-Assign.field-1 c.in-Assign.field-2) c.args.table.now c.args.numbers.now c.args.steps.now.items (λ terms. refl))

pub returns-in-Print : goal.returns-in-Print
returns-in-Print c = rw c.in-Print.is (globals_stay c.args.shared c.args.n (Print c.in-Print.field-0 c.in-Print.field-1) c.args.table.now c.args.numbers.now c.args.steps.now.items (λ terms. refl))

pub returns-in-Guard : goal.returns-in-Guard
returns-in-Guard c = rw c.in-Guard.is (globals_stay c.args.shared c.args.n (Guard c.in-Guard.field-0 c.in-Guard.field-1 c.in-Guard.field-2) c.args.table.now c.args.numbers.now c.args.steps.now.items (λ terms. refl))

pub returns-in-Test : goal.returns-in-Test
returns-in-Test c = rw c.in-Test.is (globals_stay c.args.shared c.args.n (Test c.in-Test.field-0 c.in-Test.field-1 c.in-Test.field-2) c.args.table.now c.args.numbers.now c.args.steps.now.items (λ terms. refl))

pub returns-in-Return : goal.returns-in-Return
returns-in-Return c = rw c.in-Return.is (globals_stay c.args.shared c.args.n (Return c.in-Return.field-0) c.args.table.now c.args.numbers.now c.args.steps.now.items (λ terms. refl))

pub returns-in-Call : goal.returns-in-Call
returns-in-Call c =
    rw c.in-Call.is
    (globals_renewed c.args.shared c.args.n c.in-Call.field-0 c.in-Call.field-1 c.in-Call.field-2 c.in-Call.field-3 c.args.table.now c.renew.new.table c.args.numbers.now c.renew.new.numbers c.args.steps.now.items c.renew.new.steps.items c.renew.result c.requires c.renew.ensures)
