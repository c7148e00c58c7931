use Rattle.std.proofs.Common.{◌≤◌, length, Some, ap, sym, ◌∙◌}
use Rattle.std.proofs.lemmas.List.{take_all}
use Rattle.std.proofs.lemmas.Option.{slice_get-get_or}
use Rattle.sink_code.specs.PatternRows.{blocked_row}
use Rattle.key_rows.specs.KeyRowLaws.{rows_more}
use Rattle.path_laws.specs.Pushing.{longer}
use Rattle.sink_code.proofs.PatternBits.{are_blocked_rows, blocked_rows_of}
use Rattle.sink_code.proofs.BlockedLong.{row_long}
use Rattle.sink_code.proofs.pattern_rows.blocked_rows.Goals as goal

pub loop-node-preserved : goal.loop-node-preserved
loop-node-preserved c =
    let by = c.args.by_variable.now in
    let nodes = c.args.nodes.now in
    let node = c.node-item.result in
    let at = slice_get-get_or nodes c.loop-node.node-index node c.loop-node-test.true ∙ ap Some (sym c.node-item.is) in
    let put = c.in_ok-push_blocked.ensures in
    record {
      are = rows_more (blocked_row by.assigning by.naming c.args.bits c.args.shared) nodes c.loop-node.node-index node c.loop-node.rows c.push_blocked.new.rows c.loop-node-test.true c.node-item.is c.loop-node.invariant.are put;
      long = longer c.args.bits c.loop-node.rows c.push_blocked.new.rows (blocked_row by.assigning by.naming c.args.bits c.args.shared node) c.loop-node.invariant.long (row_long by.assigning by.naming c.args.bits c.args.shared c.requires.shared c.requires.assigning c.requires.naming node (c.requires.below c.loop-node.node-index node at)) put;
    }

pub returns-clause-blocked : goal.returns-clause-blocked
returns-clause-blocked c =
    let by = c.args.by_variable.now in
    let late : length c.args.nodes.now ≤ c.loop-node.node-index = c.loop-node-test.false in
    are_blocked_rows by.assigning by.naming c.args.bits c.args.shared c.args.nodes.now c.loop-node.rows (c.loop-node.invariant.are ∙ ap (blocked_rows_of by.assigning by.naming c.args.bits c.args.shared) (take_all c.loop-node.node-index c.args.nodes.now late))
