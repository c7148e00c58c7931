use Rattle.bit_rows.proofs.Views.{word_bit_is}
use Rattle.bit_rows.proofs.words.word_bit.Goals as goal

pub returns : goal.returns
returns c = word_bit_is c.args.words.now c.args.bit
