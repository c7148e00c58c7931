use Rattle.std.proofs.Common.{sym, arith}
use Rattle.cond_flow.proofs.FactLaws.{items_kept}
use Rattle.cond_flow.proofs.facts.put_code.Goals as goal

pub returns-else-x-kinds-clause-kinds : goal.returns-else-x-kinds-clause-kinds
returns-else-x-kinds-clause-kinds c = sym (items_kept c.args.kinds.now c.args.x c.args.kind (omega (arith, c.if-x-kinds.false)))

pub returns-else-x-kinds-clause-numbers : goal.returns-else-x-kinds-clause-numbers
returns-else-x-kinds-clause-numbers c = sym (items_kept c.args.numbers.now c.args.x c.args.number (omega (arith, c.if-x-kinds.false, c.requires)))
