use Rattle.std.proofs.Common.{◌≡◌, ◌-◌, suc, sym, ap, ◌∙◌, arith}
use Rattle.mir_opt.specs.Stages.{after_rounds}
use Rattle.mir_opt.proofs.Rounds.{after_none, after_past, after_some}
use Rattle.mir_opt.proofs.stages.after_rounds.Goals as goal

pub returns-then-count-eq0 : goal.returns-then-count-eq0
returns-then-count-eq0 c = sym (ap (after_rounds c.args.graph.now c.args.rounds.now) c.if-count-eq0.true ∙ after_none c.args.graph.now c.args.rounds.now)

pub returns-then-count-rounds : goal.returns-then-count-rounds
returns-then-count-rounds c =
    let here : suc (c.args.count - 1) ≡ c.args.count = omega (arith, c.if-count-eq0.false) in
    c.index-rounds-count.is ∙ after_some c.args.graph.now c.args.rounds.now (c.args.count - 1) c.index-rounds-count.result (omega (arith, c.if-count-rounds.true)) ∙ ap (after_rounds c.args.graph.now c.args.rounds.now) here

pub returns : goal.returns
returns c = c.last_round.ensures ∙ sym (after_past c.args.graph.now c.args.rounds.now c.args.count (omega (arith, c.if-count-rounds.false)))
