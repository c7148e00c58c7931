use Rattle.std.proofs.Common.{refl}
use Rattle.mir_top.proofs.making.shown.Goals as goal

pub returns : goal.returns
returns c = record {
  trail = c.in_ok-trail.trail;
  source = c.in_ok-trail.ensures.source;
  reached = c.in_ok-trail.ensures.optimises;
  shows = c.in_ok-output.ensures;
  outcome_is = refl;
}
