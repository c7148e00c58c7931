use Rattle.std.proofs.Common.{List, Bool, length, ap, sym, ◌∙◌, ◌++◌, ◌∷◌, []}
use Rattle.std.proofs.lemmas.Result.{on_ok_weaker}
use Rattle.sink_code.proofs.JoinedLast.{blocked_last, blocked_start, fits_last}
use Rattle.sink_code.proofs.pattern_rows.push_blocked.Goals as goal

pub join_blocked-requires-clause-assigning : goal.join_blocked-requires-clause-assigning
join_blocked-requires-clause-assigning c =
    let by = c.args.by_variable.now in
    fits_last by.assigning (length by.assigning) c.args.bits c.len-last.result c.args.rows.now c.push_false.new.self c.requires.assigning c.len-last.ensures c.in_ok-push_false.ensures.ok

pub join_blocked-requires-clause-naming : goal.join_blocked-requires-clause-naming
join_blocked-requires-clause-naming c =
    let by = c.args.by_variable.now in
    fits_last by.naming (length by.assigning) c.args.bits c.len-last.result c.args.rows.now c.push_false.new.self c.requires.naming c.len-last.ensures c.in_ok-push_false.ensures.ok

pub returns-then-is_start : goal.returns-then-is_start
returns-then-is_start c =
    let by = c.args.by_variable.now in
    on_ok_weaker c.push_true.result (λ is. is ∙ ap (λ (r : List Bool). c.args.rows.now ++ r ∷ []) (blocked_start by.assigning by.naming c.args.shared c.args.bits c.args.node.now (sym c.is_start.ensures ∙ c.if-is_start.true))) c.push_true.ensures.ok

pub returns : goal.returns
returns c =
    let by = c.args.by_variable.now in
    blocked_last by.assigning by.naming c.args.shared c.args.bits c.len-last.result c.args.node.now c.args.rows.now c.push_false.new.self c.join_blocked.new.rows c.len-last.ensures c.in_ok-push_false.ensures.ok c.join_blocked.ensures (sym c.is_start.ensures ∙ c.if-is_start.false)
