use Rattle.std.proofs.Common.{◌∙◌, ap, subst, sym, Some}
use Rattle.std.proofs.lemmas.Option.{slice_get-get_or}
use Rattle.table_text.specs.Lines.{names_of_units}
use Rattle.pass_table.specs.Trails.{IsUnitAt}
use Rattle.pass_table.specs.Units.{IsUnitLinked}
use Rattle.table_text.specs.TurnLaws.{next_turn}
use Rattle.pass_table.proofs.trails.put_units.Goals as goal

pub put_unit_tables-requires : goal.put_unit_tables-requires
put_unit_tables-requires c =
    let unit = c.index-units-number.result in
    subst IsUnitLinked (sym c.index-units-number.is) (c.requires c.loop-number.number unit c.loop-number-test.true)

-- the unit whose tables are put is the next one
pub loop-number-preserved : goal.loop-number-preserved
loop-number-preserved c =
    let units = c.args.units.now in
    let n = c.loop-number.number in
    let unit = c.index-units-number.result in
    let put = c.in_ok-put_unit_tables.ensures in
    let at = slice_get-get_or units n unit c.loop-number-test.true ∙ ap Some (sym c.index-units-number.is) in
    next_turn (IsUnitAt (names_of_units c.args.sources.now) units) n c.args.text.now c.loop-number.text c.put_unit_tables.new.text c.loop-number.invariant
    (put.0, record { unit = unit; stands = at; is = put.1 }, put.2)
