-- From what a loop over steps knows to what `run` may answer.
use Rattle.std.proofs.Common.{◌≡◌, ℕ, ◌<◌, ◌≤◌, List, length, ℤ, Ok, Err, refl, sym, ap, ◌∙◌, arith}
use Rattle.mir_base.specs.Shapes.{ProgramShape}
use Rattle.mir_base.specs.Runs.{State, first_state, codes_of, inputs_of, step, steps, run}
use Rattle.mir_interp.specs.declared.so_far.RunSoFar.{RunSoFar}
use Rattle.mir_interp.specs.declared.stack.Stack.{Stack}
use Rattle.mir_interp.specs.declared.report.Finish.{Finish}
use Rattle.mir_interp.specs.declared.report.Finish.TheVariants.{Running, Ended, Trapped}
use Rattle.mir_interp.specs.declared.report.Report.{Report}
use Rattle.mir_interp.specs.declared.report.RunFault.{RunFault}
use Rattle.mir_interp.specs.declared.report.RunFault.TheVariants.{WrongInputs, Deep, Memory}
use Rattle.mir_interp.specs.RunsSoFar.{control_of, state_of, IsRunSoFar, StopsBefore}
use Rattle.mir_base.specs.Limits.{most_frames}
use Rattle.mir_interp.specs.Reports.{finish_of, report_of, IsRunAnswer}
use Rattle.mir_interp.proofs.Steps.{deep_within}

-- how a run finished can be read back from its last state
finish_same : (stack : Stack) (finish : Finish) → finish_of (control_of stack finish) ≡ finish
finish_same stack Running = refl
finish_same stack (Ended result) = refl
finish_same stack (Trapped kind) = refl

-- the report of these
abbrev report_with : List ℤ → Finish → ℕ → Report
report_with lines finish evals = record { lines = lines; finish = finish; evals = evals }

-- reports with equal fields are equal
report_same : (lines lines' : List ℤ) (finish finish' : Finish) (evals evals' : ℕ) → lines ≡ lines' → finish ≡ finish' → evals ≡ evals' → report_with lines finish evals ≡ report_with lines' finish' evals'
report_same lines lines' finish finish' evals evals' same_lines same_finish same_evals = cc

-- the report of the state of the run so far, where the run comes to it
pub finish_reported : (program : ProgramShape) (inputs : List ℤ) (n : ℕ) (so_far : RunSoFar) (finish : Finish) (report : Report) → length inputs ≡ inputs_of program → run program inputs n ≡ state_of so_far finish → IsRunSoFar program so_far → report.lines ≡ so_far.printed.items → report.finish ≡ finish → report.evals ≡ so_far.counted → IsRunAnswer program inputs n (Ok report)
finish_reported program inputs n so_far finish report right comes fits lines finishes evals =
    let shallow : (run program inputs n).depth ≤ most_frames = omega (arith, ap (λ s. s.depth) comes, fits.depth) in
    let told : report ≡ report_of (state_of so_far finish) = report_same _ _ _ _ _ _ lines (finishes ∙ sym (finish_same so_far.stack finish)) evals in
    (right, shallow, told ∙ ap report_of (sym comes))

-- the fault of the step that follows the first i
pub fault_reported : (program : ProgramShape) (inputs : List ℤ) (i n : ℕ) (state : State) (fault : RunFault) → length inputs ≡ inputs_of program → i < n → steps (codes_of program) i (first_state (length program.globals) inputs) ≡ state → StopsBefore (step (codes_of program) state) fault → IsRunAnswer program inputs n (Err fault)
fault_reported program inputs i n state (WrongInputs wanted) right within before stops = absurd stops
fault_reported program inputs i n state Deep right within before stops = (right, deep_within (codes_of program) i n most_frames (first_state (length program.globals) inputs) state within before stops)
fault_reported program inputs i n state (Memory refusal) right within before stops = right
