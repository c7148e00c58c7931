use Rattle.std.proofs.Common.{ap, ◌∙◌}
use Rattle.bit_rows.specs.Words.{bits_of}
use Rattle.bit_rows.proofs.row.Row.of.Goals as goal

pub invariant_of-result : goal.invariant_of-result
invariant_of-result c = rw c.in_ok-copy_of_words.ensures c.row.invariant

pub returns : goal.returns
returns c = ap (bits_of c.row.inside.bits) c.in_ok-copy_of_words.ensures ∙ c.row.view_is
