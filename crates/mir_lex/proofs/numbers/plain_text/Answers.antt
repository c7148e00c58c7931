use Rattle.std.proofs.Common.{sym, ◌∙◌, inl, inr}
use Rattle.mir_lex.proofs.numbers.plain_text.Goals as goal

pub returns-then-begins_with_plus-clause-none : goal.returns-then-begins_with_plus-clause-none
returns-then-begins_with_plus-clause-none c = inl (sym c.begins_with_plus.ensures ∙ c.if-begins_with_plus.true)

pub returns-in-Ok-clause-some : goal.returns-in-Ok-clause-some
returns-in-Ok-clause-some c = (c.in-Ok.ensures.cases.0, sym c.begins_with_plus.ensures ∙ c.if-begins_with_plus.false)

pub returns-in-Err-clause-none : goal.returns-in-Err-clause-none
returns-in-Err-clause-none c = inr c.in-Err.ensures.cases.0
