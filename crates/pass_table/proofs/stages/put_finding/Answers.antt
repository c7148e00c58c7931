use Rattle.std.proofs.Common.{◌++◌, refl}
use Rattle.pass_table.specs.Stages.{pass_line}
use Rattle.table_text.specs.TurnLaws.{two_pieces}
use Rattle.pass_table.proofs.stages.put_finding.Goals as goal

-- what is found out stands behind the name of the pass
pub returns : goal.returns
returns c =
    let found = c.in_ok-put_found.ensures in
    let line = pass_line c.args.stage in
    (line ++ found.0, record { found = found.0; is_found = found.1; text_is = refl }, two_pieces c.args.text.now c.put_pass.new.text c.put_found.new.text line found.0 c.in_ok-put_pass.ensures found.2)
