use Rattle.mir_parse.proofs.Texts.{spells_same}
use Rattle.mir_parse.proofs.laws.raw_is_unique.Goals as goal

pub returns : goal.returns
returns c = λ text. spells_same text (c.tokens_are_unique.ensures text)
