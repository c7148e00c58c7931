use Rattle.std.proofs.Common.{◌≡◌, sym, subst}
use Rattle.mir_base.specs.Shapes.{ProgramShape}
use Rattle.mir_opt.specs.declared.stages.Stage.TheVariants.{Result}
use Rattle.mir_opt.specs.declared.trails.Trail.{Trail}
use Rattle.mir_opt.specs.Links.{IsLinked}
use Rattle.mir_opt.specs.Stages.{KeepsProgram, graph_at}
use Rattle.program_pass.specs.PassPrograms.{heads_of}
use Rattle.pass_chain.specs.PassLaws.{keeps_runs, trail_rewrites}
use Rattle.pass_chain.specs.TrailLaws.{trail_heads}
use Rattle.pass_chain.proofs.whole.optimised.Goals as goal

pub returns : goal.returns
returns c =
    let source = c.args.program.now in
    let trail = c.in_ok-trail.trail in
    let made = c.in_ok-trail.ensures in
    let heads = trail_heads graph_at Result trail.source trail.units trail.target made.stages made.linked.laid (subst (λ (p : ProgramShape). KeepsProgram p trail.target) (sym made.source) made.keeps) in
    trail_rewrites {T = Trail} (λ trail. trail.source) (λ trail. trail.target) IsLinked source trail made.source made.linked made.only
    (keeps_runs source trail.target made.keeps (subst (λ (p : ProgramShape). trail.target.globals ≡ p.globals) made.source made.linked.globals) (subst (λ (p : ProgramShape). heads_of trail.target ≡ heads_of p) made.source heads))
