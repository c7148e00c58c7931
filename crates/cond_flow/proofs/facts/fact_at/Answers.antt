use Rattle.std.proofs.Common.{◌∙◌, pos, sym, arith}
use Rattle.cond_flow.proofs.FactLaws.{facts_at, facts_past}
use Rattle.cond_flow.proofs.facts.fact_at.Goals as goal

pub returns-then-x-kinds : goal.returns-then-x-kinds
returns-then-x-kinds g c =
    c.of_code.ensures ∙ sym (facts_at g.K.Coded.decoded c.args.kinds.now c.args.numbers.now c.args.x 0 (pos 0) c.args.otherwise c.requires c.if-x-kinds.true)

pub returns-else-x-kinds : goal.returns-else-x-kinds
returns-else-x-kinds g c = sym (facts_past g.K.Coded.decoded c.args.kinds.now c.args.numbers.now c.args.x c.args.otherwise c.requires (omega (arith, c.if-x-kinds.false)))
