use Rattle.mir_base.specs.Frames.{shared_vars}
use Rattle.mir_base.specs.Shapes.{into_vars, operand_vars}
use Rattle.sink_code.proofs.JoinedLast.{joins_blocked, joins_none, joins_twice}
use Rattle.sink_code.proofs.pattern_rows.join_blocked.Goals as goal

pub returns-in-Start : goal.returns-in-Start
returns-in-Start c =
    let by = c.args.by_variable.now in
    let rows = c.args.rows.now in
    rw c.in-Start.is (joins_blocked by.assigning by.naming c.args.shared _ c.args.last rows rows rows (joins_none by.assigning c.args.last rows) (joins_none by.naming c.args.last rows))

pub returns-in-Skip : goal.returns-in-Skip
returns-in-Skip c =
    let by = c.args.by_variable.now in
    let rows = c.args.rows.now in
    rw c.in-Skip.is (joins_blocked by.assigning by.naming c.args.shared _ c.args.last rows rows rows (joins_none by.assigning c.args.last rows) (joins_none by.naming c.args.last rows))

pub returns-in-Assign : goal.returns-in-Assign
returns-in-Assign c =
    let by = c.args.by_variable.now in
    rw c.in-Assign.is (joins_blocked by.assigning by.naming c.args.shared _ c.args.last c.args.rows.now c.join_rhs.new.rows c.join_var.new.rows c.join_rhs.ensures c.join_var.ensures)

pub returns-in-Print : goal.returns-in-Print
returns-in-Print c =
    let by = c.args.by_variable.now in
    rw c.in-Print.is (joins_blocked by.assigning by.naming c.args.shared _ c.args.last c.args.rows.now c.join_operand.new.rows c.join_operand.new.rows c.join_operand.ensures (joins_none by.naming c.args.last c.join_operand.new.rows))

pub returns-in-Guard : goal.returns-in-Guard
returns-in-Guard c =
    let by = c.args.by_variable.now in
    rw c.in-Guard.is (joins_blocked by.assigning by.naming c.args.shared _ c.args.last c.args.rows.now c.join_test.new.rows c.join_test.new.rows c.join_test.ensures (joins_none by.naming c.args.last c.join_test.new.rows))

pub returns-in-Call : goal.returns-in-Call
returns-in-Call c =
    let by = c.args.by_variable.now in
    let sets = joins_twice by.naming (shared_vars c.args.shared) (into_vars c.in-Call.into) c.args.last c.join_operands.new.rows c.join_globals.new.rows c.join_into.new.rows c.join_globals.ensures c.join_into.ensures in
    rw (c.in-Call.is, ← c.items.ensures) (joins_blocked by.assigning by.naming c.args.shared _ c.args.last c.args.rows.now c.join_operands.new.rows c.join_into.new.rows c.join_operands.ensures sets)

pub returns-in-Test : goal.returns-in-Test
returns-in-Test c =
    let by = c.args.by_variable.now in
    rw c.in-Test.is (joins_blocked by.assigning by.naming c.args.shared _ c.args.last c.args.rows.now c.join_test-in-Test.new.rows c.join_test-in-Test.new.rows c.join_test-in-Test.ensures (joins_none by.naming c.args.last c.join_test-in-Test.new.rows))

pub returns-in-Return : goal.returns-in-Return
returns-in-Return c =
    let by = c.args.by_variable.now in
    let reads = joins_twice by.assigning (shared_vars c.args.shared) (operand_vars c.in-Return.a) c.args.last c.args.rows.now c.join_globals-in-Return.new.rows c.join_operand-in-Return.new.rows c.join_globals-in-Return.ensures c.join_operand-in-Return.ensures in
    rw c.in-Return.is (joins_blocked by.assigning by.naming c.args.shared _ c.args.last c.args.rows.now c.join_operand-in-Return.new.rows c.join_operand-in-Return.new.rows reads (joins_none by.naming c.args.last c.join_operand-in-Return.new.rows))
