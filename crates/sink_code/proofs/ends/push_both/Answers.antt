use Rattle.std.proofs.Common.{◌++◌, ◌∷◌, [], List, Bool, ap, false, replicate, sym, ◌∙◌}
use Rattle.std.proofs.lemmas.Result.{on_ok_weaker}
use Rattle.sink_code.proofs.Carrying.{skip_frees}
use Rattle.sink_code.proofs.Ending.{both_more, both_none}
use Rattle.sink_code.proofs.ends.push_both.Goals as goal

pub returns-then-is_skip : goal.returns-then-is_skip
returns-then-is_skip c =
    let over = c.args.over.now in
    let free = skip_frees over c.args.node c.node.result.now c.node.ensures (sym c.is_skip.ensures ∙ c.if-is_skip.true) in
    on_ok_weaker c.push_false.result
    (λ is. both_none over c.args.blocked.now c.args.delayed.now c.requires.blocked c.args.node c.args.rows.now c.push_false.new.self c.requires.node free c.requires.rows (is ∙ ap (λ n. c.args.rows.now ++ replicate n false ∷ []) c.len.ensures.len))
    c.push_false.ensures.ok

pub returns : goal.returns
returns c =
    both_more c.args.over.now c.args.blocked.now c.args.delayed.now c.requires.blocked c.requires.delayed c.args.node c.args.rows.now c.push.new.self c.and_into.new.self c.requires.node c.requires.rows
    (c.in_ok-push.ensures.ok ∙ ap (λ (r : List Bool). c.args.rows.now ++ r ∷ []) c.row.ensures) c.and_into.ensures
