use Rattle.std.specs.Prelude.{All}
use Rattle.mir_base.specs.Shapes.{ProgramShape}
use Rattle.mir_opt.specs.declared.stages.MoveStage.TheVariants.{Result}
use Rattle.mir_opt.specs.Best.{DivisionsAreBest}
use Rattle.mir_opt.specs.Links.{IsDivisionLinked, IsOnlyDivisionTrail}
use Rattle.mir_opt.specs.Stages.{move_graph_at}
use Rattle.pass_chain.specs.TrailLaws.{trail_heads}
use Rattle.mir_top.proofs.MadeLaws.{improves_from}
use Rattle.mir_top.proofs.dividing.best_divisions.Goals as goal

pub returns-clause-divides : goal.returns-clause-divides
returns-clause-divides c =
    let trail = c.in_ok-trail.trail in
    let is = c.in_ok-trail.ensures in
    let heads = trail_heads move_graph_at Result trail.source trail.units trail.target is.stages is.linked.laid in
    record {
      improves = improves_from (IsDivisionLinked trail) (λ (p : ProgramShape). IsOnlyDivisionTrail p trail) (All DivisionsAreBest trail.units) c.args.program.now trail.source trail.target is.source is.linked is.only is.keeps is.linked.globals heads is.best;
      least = c.divisions_hold_least.ensures;
    }
