use Rattle.mir_base.specs.Shapes.{ProgramShape}
use Rattle.mir_opt.specs.declared.stages.Stage.TheVariants.{Result}
use Rattle.mir_opt.specs.Links.{IsLinked, IsOnlyTrail}
use Rattle.mir_opt.specs.Stages.{graph_at}
use Rattle.pass_chain.specs.TrailLaws.{trail_heads}
use Rattle.mir_top.specs.Outputs.{ReachesBest}
use Rattle.mir_top.proofs.MadeLaws.{improves_from}
use Rattle.mir_top.proofs.making.trail_of.Goals as goal

pub returns-clause-optimises : goal.returns-clause-optimises
returns-clause-optimises c =
    let trail = c.in_ok-trail.trail in
    let is = c.in_ok-trail.ensures in
    improves_from (IsLinked trail) (λ (p : ProgramShape). IsOnlyTrail p trail) (ReachesBest trail) c.args.program.now trail.source trail.target is.source is.linked is.only is.keeps is.linked.globals
    (trail_heads graph_at Result trail.source trail.units trail.target is.stages is.linked.laid)
    (record { moves = is.best; sinks = is.sinks; rounds = is.rounds; divisions = is.divisions; stay = is.stay })
