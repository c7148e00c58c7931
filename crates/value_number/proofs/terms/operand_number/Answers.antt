use Rattle.std.proofs.Common.{length, subst}
use Rattle.mir_base.specs.Shapes.{AllBelow, operand_vars}
use Rattle.value_number.specs.declared.terms.TermKey.TheVariants as keys
use Rattle.value_number.specs.Terms.{Initial, Number}
use Rattle.value_number.proofs.Entries.{leaf_grows}
use Rattle.value_number.proofs.Stands.{leaf_all}
use Rattle.value_number.proofs.terms.operand_number.Goals as goal

pub returns-in-None-clause-all : goal.returns-in-None-clause-all
returns-in-None-clause-all c =
    leaf_all c.args.table.now (keys.Initial c.in-Var.x c.args.root) c.term_number.new.table c.args.numbers.now
    c.args.root (Initial c.in-Var.x c.args.root) c.term_number.result c.term_number.ensures.with_key (λ k at. at)

pub returns-in-Const-clause-all : goal.returns-in-Const-clause-all
returns-in-Const-clause-all c =
    leaf_all c.args.table.now _ c.term_number-in-Const.new.table c.args.numbers.now c.args.root (Number _)
    c.term_number-in-Const.result c.term_number-in-Const.ensures.with_key (λ k at. at)

pub returns-in-None-clause-grows : goal.returns-in-None-clause-grows
returns-in-None-clause-grows c =
    leaf_grows c.args.table.now (keys.Initial c.in-Var.x c.args.root) c.term_number.new.table c.args.numbers.now c.args.root c.term_number.result c.term_number.ensures.with_key c.term_number.ensures.only
    (λ nodes lt. ((subst (λ o. AllBelow (length c.args.numbers.now) (operand_vars o)) c.in-Var.is c.requires).0, lt))

pub returns-in-Const-clause-grows : goal.returns-in-Const-clause-grows
returns-in-Const-clause-grows c =
    leaf_grows c.args.table.now _ c.term_number-in-Const.new.table c.args.numbers.now c.args.root
    c.term_number-in-Const.result c.term_number-in-Const.ensures.with_key c.term_number-in-Const.ensures.only (λ nodes lt. tt)
