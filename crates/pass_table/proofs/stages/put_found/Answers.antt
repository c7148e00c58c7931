use Rattle.std.proofs.Common.{refl, subst, sym}
use Rattle.std.specs.Prelude.{OnOk}
use Rattle.flow_graph.specs.Graphs.{GraphShape}
use Rattle.mir_opt.specs.declared.stages.Stage.{Stage}
use Rattle.mir_opt.specs.declared.stages.Stage.TheVariants.{Lower, Clean, Split, Result}
use Rattle.table_text.specs.Turns.{AppendsSome}
use Rattle.pass_table.specs.Patterns.{IsPatternsText}
use Rattle.pass_table.specs.Stages.{IsFound}
use Rattle.table_text.specs.TurnLaws.{no_piece}
use Rattle.pass_table.proofs.stages.put_found.Goals as goal

pub returns-in-Lower : goal.returns-in-Lower
returns-in-Lower c = subst (λ (s : Stage). AppendsSome (IsFound c.args.unit.now s) c.args.text.now c.args.text.now) (sym c.in-Lower.is) (no_piece (IsFound c.args.unit.now Lower) c.args.text.now refl)

pub returns-in-Clean : goal.returns-in-Clean
returns-in-Clean c = subst (λ (s : Stage). AppendsSome (IsFound c.args.unit.now s) c.args.text.now c.args.text.now) (sym c.in-Clean.is) (no_piece (IsFound c.args.unit.now Clean) c.args.text.now refl)

pub returns-in-Fold : goal.returns-in-Fold
returns-in-Fold c = subst (λ (s : Stage). OnOk c.put_states.result (AppendsSome (IsFound c.args.unit.now s) c.args.text.now c.put_states.new.text)) (sym c.in-Fold.is) c.put_states.ensures

pub returns-in-Number : goal.returns-in-Number
returns-in-Number c = subst (λ (s : Stage). OnOk c.put_terms.result (AppendsSome (IsFound c.args.unit.now s) c.args.text.now c.put_terms.new.text)) (sym c.in-Number.is) c.put_terms.ensures

pub returns-in-Copies : goal.returns-in-Copies
returns-in-Copies c = subst (λ (s : Stage). OnOk c.put_copies.result (AppendsSome (IsFound c.args.unit.now s) c.args.text.now c.put_copies.new.text)) (sym c.in-Copies.is) c.put_copies.ensures

pub returns-in-Split : goal.returns-in-Split
returns-in-Split c = subst (λ (s : Stage). AppendsSome (IsFound c.args.unit.now s) c.args.text.now c.args.text.now) (sym c.in-Split.is) (no_piece (IsFound c.args.unit.now Split) c.args.text.now refl)

pub returns-in-Motion : goal.returns-in-Motion
returns-in-Motion c = subst (λ (s : Stage). OnOk c.put_motion.result (AppendsSome (IsFound c.args.unit.now s) c.args.text.now c.put_motion.new.text)) (sym c.in-Motion.is) c.put_motion.ensures

pub returns-in-CopiesAfterMotion : goal.returns-in-CopiesAfterMotion
returns-in-CopiesAfterMotion c = subst (λ (s : Stage). OnOk c.put_copies-in-CopiesAfterMotion.result (AppendsSome (IsFound c.args.unit.now s) c.args.text.now c.put_copies-in-CopiesAfterMotion.new.text)) (sym c.in-CopiesAfterMotion.is) c.put_copies-in-CopiesAfterMotion.ensures

pub returns-in-Round : goal.returns-in-Round
returns-in-Round c =
    let found = c.put_patterns in
    let here = subst (λ (g : GraphShape). OnOk found.result (AppendsSome (IsPatternsText g) c.args.text.now found.new.text)) c.before_round.ensures found.ensures in
    subst (λ (s : Stage). OnOk found.result (AppendsSome (IsFound c.args.unit.now s) c.args.text.now found.new.text)) (sym c.in-Round.is) here

pub returns-in-Result : goal.returns-in-Result
returns-in-Result c = subst (λ (s : Stage). AppendsSome (IsFound c.args.unit.now s) c.args.text.now c.args.text.now) (sym c.in-Result.is) (no_piece (IsFound c.args.unit.now Result) c.args.text.now refl)
