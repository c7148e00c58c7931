use Rattle.std.proofs.Common.{◌≡◌, ◌&&◌, ◌||◌, not, take, length, ap, ◌∙◌, sym, arith}
use Rattle.std.specs.List.{list_any}
use Rattle.std.proofs.lemmas.List.{length-take-le}
use Rattle.mir_parse.specs.RawUnit.{RawUnitShape}
use Rattle.mir_parse.specs.declared.raw.RawInst.{RawInst}
use Rattle.mir_valid.specs.Rules.{is_receive, is_other, is_late, has_label_before}
use Rattle.mir_valid.specs.NameTables.{is_at_most}
use Rattle.mir_valid.proofs.BrokenLaws.{least_next, any_next}
use Rattle.mir_valid.proofs.FirstPlace.{first_place_reaches}
use Rattle.mir_valid.proofs.receives.LateReceiveRule.least_in.Goals as goal

pub loop-place-preserved : goal.loop-place-preserved
loop-place-preserved c = record {
  others =
      ap (λ b. b || not c.is_receive-receives.result) c.loop-place.invariant.others
      ∙ ap (λ b. list_any is_other (take c.loop-place.place c.items-inst-items.result.now) || not b) c.is_receive-receives.ensures
      ∙ sym (any_next is_other c.items-inst-items.result.now c.loop-place.place c.inst-item.result c.loop-place-test.true c.inst-item.is);
  least =
      let size : length (take c.loop-place.place c.items-inst-items.result.now) ≡ c.loop-place.place = length-take-le c.loop-place.place c.items-inst-items.result.now (omega arith) in
      let others = list_any is_other (take c.loop-place.place c.items-inst-items.result.now) in
      least_next (λ (inst : RawInst). inst.line) (is_late c.args.unit.now.labels) c.args.best c.items-inst-items.result.now c.loop-place.place c.inst-item.result c.loop-place.best
      c.lesser_if-best.result c.is_late.result c.loop-place-test.true c.inst-item.is c.loop-place.invariant.least
      (c.is_late.ensures
      ∙ ap (λ b. b && (c.loop-place.others || is_at_most c.first_place-first_label.result c.loop-place.place)) c.is_receive-receives.ensures
      ∙ ap (λ b. is_receive c.inst-item.result && (b || is_at_most c.first_place-first_label.result c.loop-place.place)) c.loop-place.invariant.others
      ∙ ap (λ b. is_receive c.inst-item.result && (others || b))
      (ap (λ first. is_at_most first c.loop-place.place) c.first_place-first_label.ensures
      ∙ first_place_reaches c.loop-place.place c.items.result.now
      ∙ ap (λ labels. has_label_before labels c.loop-place.place) (c.items.ensures ∙ ap (λ (u : RawUnitShape). u.labels) c.unit.view_is)
      ∙ ap (has_label_before c.args.unit.now.labels) (sym size)))
      c.lesser_if-best.ensures;
}
