use Rattle.std.proofs.Common.{fold, ap, ◌∙◌}
use Rattle.mir_parse.specs.RawUnit.{RawUnitShape}
use Rattle.mir_valid.specs.Rules.{lines_where, misses_label}
use Rattle.mir_valid.specs.Refusals.{lesser}
use Rattle.mir_valid.specs.NameTables.{misses_place}
use Rattle.mir_valid.proofs.NamesFound.{misses_place_labels}
use Rattle.mir_valid.proofs.labels.NoLabelRule.least_in.Goals as goal

pub returns : goal.returns
returns c =
    c.least_where.ensures
    ∙ ap (λ insts. fold lesser c.args.best (lines_where (misses_place c.in_ok-labels.labels) insts)) c.items-2.ensures
    ∙ ap (λ test. fold lesser c.args.best (lines_where test c.unit.inside.body)) (ap misses_place c.in_ok-labels.ensures ∙ misses_place_labels c.items.result.now ∙ ap misses_label c.items.ensures)
    ∙ ap (λ (u : RawUnitShape). fold lesser c.args.best (lines_where (misses_label u.labels) u.body)) c.unit.view_is
