use Rattle.std.proofs.Common.{◌≡◌, ℕ, refl, subst}
use Rattle.mir_base.specs.Limits.{most_steps}
use Rattle.mir_base.specs.Runs.{run}
use Rattle.mir_base.specs.Shapes.{ProgramShape}
use Rattle.mir_interp.specs.declared.report.Report.{Report}
use Rattle.mir_interp.specs.Reports.{report_of}
use Rattle.mir_top.specs.Outputs.{reported, trial_inputs, trial_run}
use Rattle.mir_top.proofs.trial.trial_run.Goals as goal

-- with as many steps as a trial has, the run is that of the trial
run_of_trial : (program : ProgramShape) (report : Report) (steps : ℕ) → steps ≡ most_steps → report ≡ reported program trial_inputs steps → report ≡ report_of (trial_run program)
unfolding trial_run
run_of_trial program report steps is reports = subst (λ (k : ℕ). report ≡ report_of (run program trial_inputs k)) is reports

pub returns : goal.returns
returns c = run_of_trial c.args.program.now c.in_ok-report.report most_steps refl c.in_ok-report.ensures
