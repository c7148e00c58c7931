use Rattle.std.proofs.Common.{◌++◌, codes, refl}
use Rattle.table_text.specs.Lines.{names_of_units}
use Rattle.table_text.specs.Steps.{back_text}
use Rattle.table_text.specs.TurnLaws.{two_pieces}
use Rattle.division_table.specs.Units.{up_to_split}
use Rattle.division_table.proofs.units.put_divided.Goals as goal

-- the parts stand one behind the other
pub returns : goal.returns
returns c =
    let names = names_of_units c.args.units.now in
    let unit = c.args.unit.now in
    let front = up_to_split names unit in
    let found = c.in_ok-put_divisions.ensures in
    let back = back_text names (codes "divisions") unit.moved unit.swept in
    let start = c.args.text.now in
    let two = two_pieces start c.put_up_to_split.new.text c.put_divisions.new.text front found.0 c.in_ok-put_up_to_split.ensures found.2 in (
      front ++ found.0 ++ back,
      record { found = found.0; is_found = found.1; text_is = refl },
      two_pieces start c.put_divisions.new.text c.put_back.new.text (front ++ found.0) back two c.in_ok-put_back.ensures,
    )
