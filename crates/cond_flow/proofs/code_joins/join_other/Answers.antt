use Rattle.std.proofs.Common.{◌∙◌, ap}
use Rattle.cond_flow.specs.FactLists.{decoded_each}
use Rattle.cond_flow.proofs.FactLaws.{kind_joins, kind_stays}
use Rattle.cond_flow.proofs.code_joins.join_other.Goals as goal

pub returns-in-Some-clause-joined : goal.returns-in-Some-clause-joined
returns-in-Some-clause-joined g c =
    ap (λ l. decoded_each g.K.Coded.decoded l c.args.numbers.now) c.put_kind.ensures.kinds
    ∙ kind_joins g.K.Knowledge.rules g.K.Coded.decoded c.args.kinds.now c.args.numbers.now c.args.i c.args.kind c.in-Some.met c.args.number.now c.requires.long c.requires.there c.in-Some.ensures

pub returns-in-Some-clause-unchanged : goal.returns-in-Some-clause-unchanged
returns-in-Some-clause-unchanged g c =
    kind_stays g.K.Knowledge.rules g.K.Coded.decoded c.args.kinds.now c.args.numbers.now c.args.i c.args.kind c.in-Some.met c.args.number.now c.put_kind.result c.requires.long c.requires.there c.in-Some.ensures c.put_kind.ensures.unchanged
