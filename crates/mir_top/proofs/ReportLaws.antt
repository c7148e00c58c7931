-- The report of more steps goes on from that of fewer; and what a trial's runs evaluate.
use Rattle.std.proofs.Common.{◌≡◌, ◌≢◌, ◌+◌, ℕ, List, [], ◌∷◌, length, ℤ, pos, refl, sym, ap, ◌∙◌, subst, arith, FitsSigned, w64}
use Rattle.std.proofs.lemmas.List.Elements.{All-nil, All-cons}
use Rattle.mir_base.specs.Frames.{Code}
use Rattle.mir_base.specs.Limits.{most_steps}
use Rattle.mir_base.specs.Runs.{AreNumbers, Cheaper, Control, Running, Ended, Stopped, IsPrefix, State, codes_of, first_state, inputs_of, run, steps}
use Rattle.mir_base.specs.RunLaws.{steps_add}
use Rattle.mir_base.specs.Shapes.{ProgramShape}
use Rattle.mir_interp.specs.declared.report.Finish.TheVariants.{Running as GoesOnRunning, Ended as EndedWith}
use Rattle.mir_interp.specs.Reports.{finish_of, report_of}
use Rattle.mir_opt.specs.declared.trails.Trail.{Trail}
use Rattle.mir_sim.specs.StackLaws.{IsFinished, over_stays, steps_grow}
use Rattle.mir_top.specs.Outputs.{EvaluatesNoMore, GoesOn, reported, trial_inputs, trial_run}

-- ---- more steps

-- a run that does not go on is over
over_of : (control : Control) → finish_of control ≢ GoesOnRunning → IsFinished control
over_of (Running unit frame callers) ends = absurd (ends refl)
over_of (Ended result) ends = tt
over_of (Stopped kind) ends = tt

-- a state goes on, by more steps
steps_go_on : (codes : ℕ → Code) (more : ℕ) (state : State) → GoesOn (report_of state) (report_of (steps codes more state))
steps_go_on codes more state = record {
  lines = steps_grow codes more state;
  over = λ ends. ap report_of (over_stays codes more state (over_of state.control ends));
}

-- so does a report
pub reports_go_on : (program : ProgramShape) (inputs : List ℤ) (count more : ℕ) → GoesOn (reported program inputs count) (reported program inputs (count + more))
reports_go_on program inputs count more =
    let codes = codes_of program in
    let first = first_state (length program.globals) inputs in
    subst (λ (s : State). GoesOn (reported program inputs count) (report_of s)) (sym (steps_add codes count more first)) (steps_go_on codes more (run program inputs count))

-- ---- trials

-- a run whose report has ended has
ended_of : (control : Control) (result : ℤ) → finish_of control ≡ EndedWith result → control ≡ Ended result
ended_of (Running unit frame callers) result is = cc
ended_of (Ended other) result is = let same : other ≡ result = cc in ap (λ (v : ℤ). Ended v) same
ended_of (Stopped kind) result is = cc

-- the inputs of a trial are numbers
inputs_fit : AreNumbers trial_inputs
inputs_fit = All-cons (FitsSigned w64) (pos 3) (pos 5 ∷ []) (record { sfits = omega arith }) (All-cons (FitsSigned w64) (pos 5) [] (record { sfits = omega arith }) (All-nil (FitsSigned w64)))

-- a target that evaluates no more operators does so in a trial
pub trial_no_more : (trail : Trail) → inputs_of trail.source ≡ 2 → Cheaper trail.source trail.target → EvaluatesNoMore trail
unfolding trial_run
trial_no_more trail inputs cheaper one other ends ends' =
    cheaper.cheaper trial_inputs (sym inputs) inputs_fit most_steps most_steps one other
    (ended_of (run trail.source trial_inputs most_steps).control one ends)
    (ended_of (run trail.target trial_inputs most_steps).control other ends')
