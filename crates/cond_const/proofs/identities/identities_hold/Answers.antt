use Rattle.cond_const.specs.IdentityLaws.{same_keeps, right_keeps, left_keeps}
use Rattle.cond_const.proofs.identities.identities_hold.Goals as goal

pub returns-clause-same : goal.returns-clause-same
returns-clause-same c = same_keeps

pub returns-clause-right : goal.returns-clause-right
returns-clause-right c = right_keeps

pub returns-clause-left : goal.returns-clause-left
returns-clause-left c = left_keeps
