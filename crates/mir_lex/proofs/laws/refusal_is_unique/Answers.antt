use Rattle.mir_lex.proofs.LexLaws.{refusal_same, refusal_tokens}
use Rattle.mir_lex.proofs.laws.refusal_is_unique.Goals as goal

pub returns-clause-one : goal.returns-clause-one
returns-clause-one c = refusal_same

pub returns-clause-none : goal.returns-clause-none
returns-clause-none c = refusal_tokens
