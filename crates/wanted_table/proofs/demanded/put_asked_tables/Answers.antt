use Rattle.std.proofs.Common.{◌++◌, codes, refl}
use Rattle.node_list.specs.Lists.{list_at}
use Rattle.table_text.specs.Lines.{names_of_units}
use Rattle.table_text.specs.TurnLaws.{two_pieces}
use Rattle.wanted_table.specs.Demanding.{text_asked}
use Rattle.wanted_table.specs.Narrowings.{text_behind}
use Rattle.wanted_table.proofs.demanded.put_asked_tables.Goals as goal

-- the pieces stand one behind the other
pub returns : goal.returns
returns c =
    let names = names_of_units c.args.units.now in
    let steps = c.args.steps.now in
    let start = c.args.text.now in
    let around = c.args.around.now in
    let front = text_asked names (list_at around.globals.now c.args.number) (list_at around.arguments.now c.args.number) around.back.now steps in
    let lines = c.in_ok-put_asked_numbers.ensures.0 in
    let behind = text_behind names (codes "demanded") steps in
    let two = two_pieces start c.put_front.new.text c.put_asked_numbers.new.text front lines c.in_ok-put_front.ensures c.in_ok-put_asked_numbers.ensures.2 in (
      front ++ lines ++ behind,
      record { lines = lines; are = c.in_ok-put_asked_numbers.ensures.1; text_is = refl },
      two_pieces start c.put_asked_numbers.new.text c.put_behind.new.text (front ++ lines) behind two c.in_ok-put_behind.ensures,
    )
