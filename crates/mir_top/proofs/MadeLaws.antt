-- What the functions that make an output answer, said of the command that asked for it.
use Rattle.std.proofs.Common.{◌≡◌, ℕ, ℤ, List, Result, Err, Ok, IfOk, IfErr, sym, ap, ◌∙◌, subst}
use Rattle.std.specs.declared.alloc.AllocError.{AllocError}
use Rattle.mir_base.specs.Shapes.{ProgramShape}
use Rattle.mir_interp.specs.Reports.{IsRunAnswer}
use Rattle.mir_interp.specs.declared.report.Report.{Report}
use Rattle.mir_interp.specs.declared.report.RunFault.{RunFault}
use Rattle.mir_interp.specs.declared.report.RunFault.TheVariants.{WrongInputs, Deep, Memory}
use Rattle.mir_opt.specs.Stages.{KeepsProgram}
use Rattle.program_pass.specs.PassPrograms.{heads_of}
use Rattle.mir_top.specs.declared.command.Command.{Command}
use Rattle.mir_top.specs.declared.command.Command.TheVariants.{Run}
use Rattle.mir_top.specs.declared.making.Made.{Made}
use Rattle.mir_top.specs.declared.outcome.Outcome.TheVariants.{Ran}
use Rattle.mir_top.specs.Commands.{inputs_in}
use Rattle.mir_top.specs.Outputs.{Improves, IsMadeBy, IsWantOfMemory, CannotMake, WritesReport, report_text, too_few_or_many, too_many_frames, no_memory}

-- the report of a run with the inputs that the words give is what the command makes
pub run_makes : (program : ProgramShape) (words : List (List ℕ)) (inputs : List ℤ) (steps : ℕ) (report : Report) → inputs ≡ inputs_in words → IsRunAnswer program inputs steps (Ok report) → (output : List ℕ) → output ≡ report_text report → WritesReport program (inputs_in words) steps (Ran report.finish) output
run_makes program words inputs steps report same is output text =
    let right = subst (λ (given : List ℤ). IsRunAnswer program given steps (Ok report)) same is in
    record {
      runs = record { enough = right.0; shallow = right.1 };
      outcome_is = ap (λ (r : Report). Ran r.finish) right.2;
      output_is = text ∙ ap report_text right.2;
    }

-- why a run ends without a report is why the command makes nothing
stops : (program : ProgramShape) (words : List (List ℕ)) (steps : ℕ) (fault : RunFault) → IsRunAnswer program (inputs_in words) steps (Err fault) → CannotMake words program (Run steps) fault
stops program words steps (WrongInputs wanted) is =
    subst (λ (n : ℕ). CannotMake words program (Run steps) (WrongInputs n)) (sym is.0) (too_few_or_many steps (λ right. is.1 (right ∙ sym is.0)))
stops program words steps Deep is = too_many_frames steps is.0 is.1
stops program words steps (Memory refusal) is = no_memory (Run steps) refusal

-- the same with the inputs of the run
pub run_stops : (program : ProgramShape) (words : List (List ℕ)) (inputs : List ℤ) (steps : ℕ) (fault : RunFault) → inputs ≡ inputs_in words → IsRunAnswer program inputs steps (Err fault) → CannotMake words program (Run steps) fault
run_stops program words inputs steps fault same is = stops program words steps fault (subst (λ (given : List ℤ). IsRunAnswer program given steps (Err fault)) same is)

-- ---- by command

-- what one command makes is made by a command that is equal to it
makes_with : (words : List (List ℕ)) (program : ProgramShape) (asked command : Command) (made : Made) → asked ≡ command → IsMadeBy words program command made → IsMadeBy words program asked made
makes_with words program asked command made is makes = subst (λ (c : Command). IsMadeBy words program c made) (sym is) makes

-- where nothing stops a command but want of memory, it makes what is made for it
pub made_through : (words : List (List ℕ)) (program : ProgramShape) (asked command : Command) (inner : Result Made AllocError) (outer : Result Made RunFault) → asked ≡ command → IfOk outer (λ made. inner ≡ Ok made) → IfOk inner (IsMadeBy words program command) → IfOk outer (IsMadeBy words program asked)
made_through words program asked command inner (Err fault) is same makes = tt
made_through words program asked command inner (Ok made) is same makes = makes_with words program asked command made is (subst (λ (r : Result Made AllocError). IfOk r (IsMadeBy words program command)) same makes)

-- and is stopped by it
pub stopped_by_memory : (words : List (List ℕ)) (program : ProgramShape) (command : Command) (outer : Result Made RunFault) → IfErr outer IsWantOfMemory → IfErr outer (CannotMake words program command)
stopped_by_memory words program command (Ok made) is = tt
stopped_by_memory words program command (Err fault) is = subst (CannotMake words program command) (sym is.1) (no_memory command is.0)

-- ---- trails

-- what the passes promise of a trail is what is asked of it
pub improves_from : (Linked : Type 0) (Only : ProgramShape → Type 0) (Best : Type 0) (program source target : ProgramShape) → source ≡ program → Linked → Only program → KeepsProgram program target → target.globals ≡ source.globals → (KeepsProgram source target → heads_of target ≡ heads_of source) → Best → Improves Linked (Only source) Best source target
improves_from Linked Only Best program source target is linked only keeps globals heads best =
    let kept = subst (λ (p : ProgramShape). KeepsProgram p target) (sym is) keeps in
    record {
      linked = linked;
      only = subst Only (sym is) only;
      keeps = kept;
      globals = globals;
      heads = heads kept;
      best = best;
    }
