use Rattle.std.proofs.Common.{◌++◌, refl}
use Rattle.table_text.specs.Lines.{names_of_units}
use Rattle.table_text.specs.Steps.{back_text, front_text, pass_line}
use Rattle.table_text.specs.TurnLaws.{two_pieces}
use Rattle.table_text.proofs.steps.put_steps.Goals as goal

-- the pieces stand one behind the other
pub returns : goal.returns
returns g c =
    let names = names_of_units c.args.units.now in
    let steps = c.args.steps.now in
    let pass = c.args.through.now.pass.now in
    let start = c.args.text.now in
    let front = front_text names steps.lowered steps.cleaned in
    let line = pass_line pass in
    let found = c.in_ok-put_found.ensures in
    let back = back_text names pass steps.passed steps.swept in
    let two = two_pieces start c.put_front.new.text c.put_pass.new.text front line c.in_ok-put_front.ensures c.in_ok-put_pass.ensures in
    let three = two_pieces start c.put_pass.new.text c.put_found.new.text (front ++ line) found.0 two found.2 in (
      front ++ line ++ found.0 ++ back,
      record { found = found.0; is_found = found.1; text_is = refl },
      two_pieces start c.put_found.new.text c.put_back.new.text (front ++ line ++ found.0) back three c.in_ok-put_back.ensures,
    )
