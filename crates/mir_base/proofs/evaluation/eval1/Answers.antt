use Rattle.std.proofs.Common.{◌∙◌, ap, w64, neg_ℤ, to_z-of_z}
use Rattle.std.specs.Int.{int_wrapping_neg}
use Rattle.std.proofs.lemmas.Int.{wrapping_neg_is}
use Rattle.mir_base.specs.WordLaws.{handed}
use Rattle.mir_base.proofs.evaluation.eval1.Goals as goal

pub returns-in-Neg : goal.returns-in-Neg
returns-in-Neg c =
    rw c.in-Neg.is
    (handed c.wrapping_neg.result (neg_ℤ c.args.a) (c.wrapping_neg.ensures ∙ ap (int_wrapping_neg w64) (to_z-of_z c.ranges.a) ∙ wrapping_neg_is w64 c.args.a c.ranges.a))
