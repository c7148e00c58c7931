use Rattle.std.proofs.Common.{◌≡◌, ℕ, get_or, length, subst, arith}
use Rattle.std.proofs.lemmas.Option.{slice_get-get_or}
use Rattle.mir_opt.specs.declared.stages.Stage.TheVariants.{Lower}
use Rattle.table_text.specs.Lines.{names_of_units}
use Rattle.table_text.specs.Turns.{AppendsSome, InTurn}
use Rattle.pass_table.specs.Units.{IsStageAt}
use Rattle.table_text.specs.TurnLaws.{next_turn, no_turn}
use Rattle.pass_table.proofs.units.put_stages.Goals as goal

pub loop-number-init : goal.loop-number-init
loop-number-init c = no_turn (IsStageAt (names_of_units c.args.units.now) c.args.unit.now c.args.stages.now) c.args.text.now

-- the stage that is put is the next one
pub loop-number-preserved : goal.loop-number-preserved
loop-number-preserved c =
    let stages = c.args.stages.now in
    let n = c.loop-number.number in
    let stage = get_or stages n Lower in
    let put = c.in_ok-put_stage.ensures in
    next_turn (IsStageAt (names_of_units c.args.units.now) c.args.unit.now stages) n c.args.text.now c.loop-number.text c.put_stage.new.text c.loop-number.invariant
    (put.0, record { stage = stage; stands = slice_get-get_or stages n Lower c.loop-number-test.true; is = put.1 }, put.2)

-- all are put
pub returns : goal.returns
returns c =
    let stages = c.args.stages.now in
    let all : c.loop-number.number ≡ length stages = omega arith in
    subst (λ (k : ℕ). AppendsSome (InTurn (IsStageAt (names_of_units c.args.units.now) c.args.unit.now stages) k) c.args.text.now c.loop-number.text) all c.loop-number.invariant
