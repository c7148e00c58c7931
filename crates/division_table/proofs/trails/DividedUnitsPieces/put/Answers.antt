use Rattle.std.proofs.Common.{◌∙◌, ap, subst, sym, Some}
use Rattle.std.proofs.lemmas.Option.{slice_get-get_or}
use Rattle.division_table.specs.Rows.{IsUnitDivision}
use Rattle.division_table.proofs.trails.DividedUnitsPieces.put.Goals as goal

pub put_divided-requires : goal.put_divided-requires
put_divided-requires c =
    let unit = c.index-units-number.result in
    subst IsUnitDivision (sym c.index-units-number.is) (c.requires.all c.args.number unit c.requires.number)

-- the tables are those of the unit of this number
pub returns : goal.returns
returns c =
    let unit = c.index-units-number.result in
    let put = c.in_ok-put_divided.ensures in
    let at = slice_get-get_or c.args.self.now.units.now c.args.number unit c.requires.number ∙ ap Some (sym c.index-units-number.is) in
    (put.0, record { unit = unit; stands = at; is = put.1 }, put.2)
