use Rattle.std.proofs.Common.{◌∙◌, sym, arith}
use Rattle.cond_flow.proofs.FactLaws.{codes_same, joined_self}
use Rattle.cond_flow.proofs.Joins.{join_same}
use Rattle.cond_flow.proofs.code_joins.join_part.Goals as goal

pub returns-then-are_same_numbers-clause-joined : goal.returns-then-are_same_numbers-clause-joined
returns-then-are_same_numbers-clause-joined g c =
    let r = g.K.Knowledge.rules in
    let d = g.K.Coded.decoded in
    join_same r.joined r.top _ _ c.args.start c.args.stop (joined_self g.met.K.Knowledge.laws.order)
    (codes_same d c.args.kinds.now c.args.other_kinds.now c.args.numbers.now c.args.other_numbers.now c.args.start c.args.stop r.top c.requires.long (c.requires.other_long ∙ sym c.requires.other) c.requires.stop (omega (arith, c.requires.stop, c.requires.other))
    (c.are_same_kinds.ensures c.if-are_same_kinds.true) (c.are_same_numbers.ensures c.if-are_same_numbers.true))
