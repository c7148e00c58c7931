use Rattle.std.proofs.Common.{length, ap, get_or, true, ◌∙◌}
use Rattle.bit_rows.specs.Bits.{not_bits}
use Rattle.path_laws.specs.RowMarks.{all_marked}
use Rattle.path_laws.proofs.row_news.RowNewsNews.renew.Goals as goal

pub invariant_of-self : goal.invariant_of-self
invariant_of-self c = λ _ k.
    ap (λ row. get_or row k true) (c.flip.ensures.flipped ∙ ap not_bits c.clear.ensures) ∙ all_marked (length c.self.inside.marks) k

pub returns-clause-all : goal.returns-clause-all
returns-clause-all c = λ k.
    ap (λ row. get_or row k true) (c.flip.ensures.flipped ∙ ap not_bits c.clear.ensures) ∙ all_marked (length c.self.inside.marks) k
