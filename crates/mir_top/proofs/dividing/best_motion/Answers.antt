use Rattle.std.specs.Prelude.{All}
use Rattle.mir_base.specs.Shapes.{ProgramShape}
use Rattle.mir_opt.specs.declared.stages.MoveStage.TheVariants.{Result}
use Rattle.mir_opt.specs.Best.{MotionIsBest}
use Rattle.mir_opt.specs.Links.{IsMoveLinked, IsOnlyMoveTrail}
use Rattle.mir_opt.specs.Stages.{move_graph_at}
use Rattle.pass_chain.specs.TrailLaws.{trail_heads}
use Rattle.mir_top.proofs.MadeLaws.{improves_from}
use Rattle.mir_top.proofs.dividing.best_motion.Goals as goal

pub returns-clause-moves : goal.returns-clause-moves
returns-clause-moves c =
    let trail = c.in_ok-trail.trail in
    let is = c.in_ok-trail.ensures in
    let heads = trail_heads move_graph_at Result trail.source trail.units trail.target is.stages is.linked.laid in
    record {
      improves = improves_from (IsMoveLinked trail) (λ (p : ProgramShape). IsOnlyMoveTrail p trail) (All MotionIsBest trail.units) c.args.program.now trail.source trail.target is.source is.linked is.only is.keeps is.linked.globals heads is.best;
      least = c.moves_hold_least.ensures;
      divisions = is.divisions;
    }
