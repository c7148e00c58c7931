use Rattle.std.proofs.Common.{◌≡◌, sym, subst}
use Rattle.mir_base.specs.Runs.{Cheaper, inputs_of}
use Rattle.mir_base.specs.Shapes.{ProgramShape}
use Rattle.mir_top.proofs.ReportLaws.{trial_no_more}
use Rattle.mir_top.proofs.trial.trial.Goals as goal

pub returns : goal.returns
returns c =
    let trail = c.in_ok-trail.trail in
    let is = c.in_ok-trail.ensures in
    record {
      trail = trail;
      source = is.source;
      optimises = is.optimises;
      no_more = trial_no_more trail (subst (λ (p : ProgramShape). inputs_of p ≡ 2) (sym is.source) c.requires.inputs) is.optimises.keeps.cheaper;
      output_is = c.in_ok-output.ensures;
    }
