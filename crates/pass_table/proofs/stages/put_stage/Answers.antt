use Rattle.std.proofs.Common.{◌++◌, refl}
use Rattle.table_text.specs.Lines.{names_of_units}
use Rattle.pass_table.specs.Stages.{shown_text}
use Rattle.table_text.specs.TurnLaws.{two_pieces}
use Rattle.pass_table.proofs.stages.put_stage.Goals as goal

-- the graph stands behind what is found out
pub returns : goal.returns
returns c =
    let found = c.in_ok-put_finding.ensures in
    let shown = shown_text (names_of_units c.args.units.now) c.args.unit.now c.args.stage in
    (found.0 ++ shown, record { found = found.0; is_found = found.1; text_is = refl }, two_pieces c.args.text.now c.put_finding.new.text c.put_shown.new.text found.0 shown found.2 c.in_ok-put_shown.ensures)
