use Rattle.std.proofs.Common.{◌≡◌, Bool, true, false, count_by, not, refl, ap, ◌∙◌, subst}
use Rattle.std.proofs.lemmas.Option.{same_Some}
use Rattle.flow_graph.specs.Layouts.{IsLayout}
use Rattle.sink_rounds.specs.Outlines.{is_assign}
use Rattle.sink_rounds.specs.RoundLaws.{is_one_layout, one_layout_is}
use Rattle.sink_rounds.proofs.outlines.laid_out.Goals as goal

-- what is true where its negation is false
not_not : (b : Bool) → not b ≡ false → b ≡ true
not_not true h = refl
not_not false h = cc

pub returns : goal.returns
returns c = record {
  changed = (
    λ same. is_one_layout c.args.graph.now c.args.other.now c.in_ok-unit.unit c.in_ok-laid.laid c.in_ok-unit.ensures c.in_ok-laid.ensures.layout (c.same_unit-changed.ensures.0 (not_not c.same_unit-changed.result same)),
    λ one. ap not (c.same_unit-changed.ensures.1 (one_layout_is c.args.graph.now c.args.other.now c.in_ok-unit.unit c.in_ok-laid.laid c.in_ok-unit.ensures c.in_ok-laid.ensures.layout one)),
  );
  outline = record {
    assigns = c.assigns-assigns.ensures ∙ ap (λ l. count_by is_assign l) c.nodes.ensures.value;
    laid = λ unit is. subst (IsLayout c.args.other.now) (same_Some c.in_ok-laid.laid unit is) c.in_ok-laid.ensures.layout;
  };
  flow = tt;
}
