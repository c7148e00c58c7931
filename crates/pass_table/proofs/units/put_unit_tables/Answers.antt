use Rattle.std.proofs.Common.{List, ℕ, ◌++◌, ◌∙◌, ap, length, refl, subst}
use Rattle.mir_opt.specs.declared.stages.Stage.{Stage}
use Rattle.table_text.specs.Lines.{names_of_units, unit_line}
use Rattle.table_text.specs.Turns.{InTurn}
use Rattle.table_text.specs.TurnLaws.{two_pieces}
use Rattle.pass_table.specs.Units.{IsStageAt}
use Rattle.pass_table.proofs.units.put_unit_tables.Goals as goal

pub put_stages-requires : goal.put_stages-requires
put_stages-requires c = c.requires.motion

pub put_stage-requires : goal.put_stage-requires
put_stage-requires c = c.requires.motion

-- the parts stand one behind the other
pub returns : goal.returns
returns c =
    let names = names_of_units c.args.units.now in
    let unit = c.args.unit.now in
    let name = unit_line c.args.unit.now.lowered.name in
    let front = c.in_ok-put_stages.ensures in
    let rounds = c.in_ok-put_rounds.ensures in
    let last = c.in_ok-put_stage.ensures in
    let start = c.args.text.now in
    let named = c.put_unit.new.text in
    let begun = c.put_stages.new.text in
    let sunk = c.put_rounds.new.text in
    let end = c.put_stage.new.text in
    let is_named = c.in_ok-put_unit.ensures ∙ ap (λ (l : List ℕ). start.items ++ unit_line l) c.name.ensures in (
      name ++ front.0 ++ rounds.0 ++ last.0,
      record {
        front = front.0;
        rounds = rounds.0;
        last = last.0;
        begins = subst (λ (l : List Stage). InTurn (IsStageAt names unit l) (length l) front.0) c.before_rounds.ensures front.1;
        sinks = rounds.1;
        ends = last.1;
        text_is = refl;
      },
      two_pieces start sunk end (name ++ front.0 ++ rounds.0) last.0
          (two_pieces start begun sunk (name ++ front.0) rounds.0 (two_pieces start named begun name front.0 is_named front.2) rounds.2)
          last.2,
    )
