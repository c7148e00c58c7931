use Rattle.mir_lex.proofs.LexLaws.{tokens_same}
use Rattle.mir_lex.proofs.laws.tokens_are_unique.Goals as goal

pub returns : goal.returns
returns c = tokens_same
