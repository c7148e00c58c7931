use Rattle.mir_parse.proofs.Texts.{refusals_same, refusal_spells}
use Rattle.mir_parse.proofs.laws.refusal_is_unique.Goals as goal

pub returns-clause-one : goal.returns-clause-one
returns-clause-one c = λ text. refusals_same text (c.tokens_are_unique.ensures text) (c.refusal_is_unique.ensures.one text) (c.refusal_is_unique.ensures.none text)

pub returns-clause-none : goal.returns-clause-none
returns-clause-none c = λ text. refusal_spells text (c.tokens_are_unique.ensures text) (c.refusal_is_unique.ensures.none text)
