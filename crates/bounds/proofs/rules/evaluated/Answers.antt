use Rattle.std.proofs.Common.{◌∙◌}
use Rattle.bounds.specs.BoundsLaws.{evaluated_words, evaluated_trap}
use Rattle.bounds.proofs.rules.evaluated.Goals as goal

pub returns-in-Ok : goal.returns-in-Ok
returns-in-Ok c = evaluated_words c.args.op c.args.a c.args.b c.in-Ok.v c.ranges.a c.ranges.b c.in-Ok.ensures

pub returns-in-Err : goal.returns-in-Err
returns-in-Err c =
    c.spanned.ensures
    ∙ evaluated_trap c.args.op c.args.a c.args.b c.in-Err.field-0 c.ranges.a c.ranges.b c.in-Err.ensures
