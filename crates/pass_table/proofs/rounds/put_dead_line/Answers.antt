use Rattle.std.proofs.Common.{◌++◌, codes, length}
use Rattle.pass_table.specs.Rounds.{became_skip, flags_below}
use Rattle.table_text.specs.TurnLaws.{two_pieces}
use Rattle.pass_table.proofs.rounds.put_dead_line.Goals as goal

-- the bits stand between the words of the line
pub returns : goal.returns
returns c =
    let start = c.args.text.now in
    let front = codes "pass prune\nrow " in
    let bits = flags_below (became_skip c.args.before.now c.args.after.now) (length c.args.before.now) in
    let put = c.put_new_skips.new.text in
    two_pieces start put c.extend_from_slice-2.new.self (front ++ bits) (codes " dead\n")
    (two_pieces start c.extend_from_slice.new.self put front bits c.in_ok-extend_from_slice.ensures.items c.in_ok-put_new_skips.ensures)
    c.in_ok-extend_from_slice-2.ensures.items
