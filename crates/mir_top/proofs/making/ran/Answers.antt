use Rattle.std.proofs.Common.{◌∙◌}
use Rattle.mir_top.specs.declared.command.Command.TheVariants.{Run}
use Rattle.mir_top.specs.Commands.{word_bytes}
use Rattle.mir_top.specs.Outputs.{no_memory}
use Rattle.mir_top.proofs.MadeLaws.{run_makes, run_stops}
use Rattle.mir_top.proofs.making.ran.Goals as goal

pub inputs-requires : goal.inputs-requires
inputs-requires c = (c.args.steps, c.requires)

pub returns-in-Err-clause-stopped : goal.returns-in-Err-clause-stopped
returns-in-Err-clause-stopped c = no_memory (Run c.args.steps) c.in-Err.refusal

pub returns-in-Err-run-clause-stopped : goal.returns-in-Err-run-clause-stopped
returns-in-Err-run-clause-stopped c = run_stops c.args.program.now (word_bytes c.args.words.now) c.deref.result.now c.args.steps c.in-Err-run.fault (c.deref.ensures.value ∙ c.in-Ok.ensures) c.in-Err-run.ensures

pub returns-in-Ok-text_of_report-clause-made : goal.returns-in-Ok-text_of_report-clause-made
returns-in-Ok-text_of_report-clause-made c =
    run_makes c.args.program.now (word_bytes c.args.words.now) c.deref.result.now c.args.steps c.in-Ok-run.report (c.deref.ensures.value ∙ c.in-Ok.ensures) c.in-Ok-run.ensures c.in-Ok-text_of_report.output.items c.in-Ok-text_of_report.ensures

pub returns-clause-stopped : goal.returns-clause-stopped
returns-clause-stopped c = no_memory (Run c.args.steps) c.in-Err-text_of_report.refusal
