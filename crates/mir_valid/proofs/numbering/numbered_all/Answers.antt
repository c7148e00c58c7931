use Rattle.std.proofs.Common.{List, [], ◌∷◌, ◌++◌, All, take, ap, ◌∙◌, sym, subst, arith}
use Rattle.std.proofs.lemmas.Grind.{common_steps}
use Rattle.std.proofs.lemmas.List.{take_more}
use Rattle.std.proofs.lemmas.List.Elements.{All-push}
use Rattle.mir_parse.specs.RawUnit.{RawUnitShape, HasPlaces}
use Rattle.mir_valid.proofs.numbering.numbered_all.Goals as goal

abbrev Placed : RawUnitShape → Type 0
Placed unit = HasPlaces unit.labels unit.body

pub loop-unit-preserved : goal.loop-unit-preserved
loop-unit-preserved c = record {
  made = grind (arith, common_steps);
  places =
      subst (λ (units : List RawUnitShape). All Placed units)
      (sym (take_more c.args.units.now c.loop-unit.unit-index c.unit-item.result c.loop-unit-test.true ∙ ap (λ u. take c.loop-unit.unit-index c.args.units.now ++ u ∷ []) (sym c.unit-item.is)))
      (All-push Placed (take c.loop-unit.unit-index c.args.units.now) c.unit-item.result c.loop-unit.invariant.places c.numbered_unit.ensures.places);
}
