use Rattle.std.proofs.Common.{◌∙◌, ap, length, refl, arith, rules, SFits, w64, to_z-of_z}
use Rattle.std.proofs.lemmas.Result.{err_from_is_err_and}
use Rattle.mir_base.specs.Runs.{codes_of, first_state}
use Rattle.mir_interp.specs.declared.report.Finish.TheVariants.{Ended, Trapped}
use Rattle.mir_interp.proofs.Steps.{next_state, over_within}
use Rattle.mir_interp.proofs.Answered.{finish_reported, fault_reported}
use Rattle.mir_interp.proofs.runs.run.Goals as goal

pub returns-in_err-step : goal.returns-in_err-step
returns-in_err-step c =
    let given = err_from_is_err_and c.from_residual-in_err-step.result c.from_residual-in_err-step.ensures.1 in
    rw (given.1, given.2)
    (fault_reported c.args.program.now c.args.inputs.now c.loop.counter c.args.steps _ _ (c.if-inputs-wanted.false ∙ c.inputs-wanted.ensures.inputs) c.loop-test.true c.loop.invariant.state c.in_err-step.ensures.fault)

pub returns-in-Ended : goal.returns-in-Ended
returns-in-Ended c =
    let state = rw c.in-Ended.is at c.in_ok-step.ensures.state in
    let comes = over_within (codes_of c.args.program.now) c.loop.counter c.args.steps (first_state (length c.args.program.now.globals) c.args.inputs.now) _ _ c.loop-test.true c.loop.invariant.state state refl in
    let fits : SFits w64 c.in-Ended.result = search rules in
    finish_reported c.args.program.now c.args.inputs.now c.args.steps c.step.new.self (Ended c.in-Ended.result) c.report.result (c.if-inputs-wanted.false ∙ c.inputs-wanted.ensures.inputs) comes c.in_ok-step.ensures.kept c.report.ensures.lines (c.report.ensures.finish ∙ ap Ended (to_z-of_z fits)) c.report.ensures.evals

pub returns-in-Trapped : goal.returns-in-Trapped
returns-in-Trapped c =
    let state = rw c.in-Trapped.is at c.in_ok-step.ensures.state in
    let comes = over_within (codes_of c.args.program.now) c.loop.counter c.args.steps (first_state (length c.args.program.now.globals) c.args.inputs.now) _ _ c.loop-test.true c.loop.invariant.state state refl in
    finish_reported c.args.program.now c.args.inputs.now c.args.steps c.step.new.self (Trapped c.in-Trapped.kind) c.report-in-Trapped.result (c.if-inputs-wanted.false ∙ c.inputs-wanted.ensures.inputs) comes c.in_ok-step.ensures.kept c.report-in-Trapped.ensures.lines c.report-in-Trapped.ensures.finish c.report-in-Trapped.ensures.evals

pub loop-preserved : goal.loop-preserved
loop-preserved c = record {
  state = next_state (codes_of c.args.program.now) c.loop.counter (first_state (length c.args.program.now.globals) c.args.inputs.now) _ _ c.loop.invariant.state (rw c.in-Running.is at c.in_ok-step.ensures.state);
  fits = c.in_ok-step.ensures.kept;
  few = omega (arith, c.in_ok-step.ensures.few);
}
