use Rattle.std.proofs.Common.{◌++◌, codes, refl}
use Rattle.table_text.specs.Lines.{names_of_units}
use Rattle.table_text.specs.TurnLaws.{two_pieces}
use Rattle.wanted_table.specs.Narrowings.{text_before, text_behind}
use Rattle.wanted_table.proofs.narrowed.put_tables.Goals as goal

-- the pieces stand one behind the other
pub returns : goal.returns
returns c =
    let names = names_of_units c.args.units.now in
    let start = c.args.text.now in
    let before = text_before names c.args.steps.now in
    let head = codes "pass wanted\n" in
    let lines = c.in_ok-put_numbers.ensures.0 in
    let behind = text_behind names (codes "wanted") c.args.steps.now in
    let two = two_pieces start c.put_before.new.text c.extend_from_slice.new.self before head c.in_ok-put_before.ensures c.in_ok-extend_from_slice.ensures.items in
    let three = two_pieces start c.extend_from_slice.new.self c.put_numbers.new.text (before ++ head) lines two c.in_ok-put_numbers.ensures.2 in (
      before ++ head ++ lines ++ behind,
      record { lines = lines; are = c.in_ok-put_numbers.ensures.1; text_is = refl },
      two_pieces start c.put_numbers.new.text c.put_behind.new.text (before ++ head ++ lines) behind three c.in_ok-put_behind.ensures,
    )
