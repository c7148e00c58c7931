use Rattle.std.proofs.Common.{◌∙◌, ◌<◌, length, Some, IfSome, refl, sym, ap, subst}
use Rattle.std.proofs.lemmas.Option.{slice_get_read}
use Rattle.unit_join.specs.CopyTables.{TakesInLeaves}
use Rattle.unit_join.specs.JoinPrograms.{some_unit}
use Rattle.unit_join.proofs.Tabled.{takes_known, takes_new}
use Rattle.unit_join.proofs.copy_table.CopyTable.add.Goals as goal

pub returns-in-Some-index : goal.returns-in-Some-index
returns-in-Some-index c =
    let leaves = c.args.leaves.now.units in
    let old = c.args.self.now in
    let unit = c.in-Some.unit in
    let within : unit < length leaves = subst (λ o. IfSome o (λ u. u < length leaves)) c.in-Some.is c.requires.within in
    let room : unit < length old.firsts.items = subst (λ n. unit < n) (sym c.requires.long) within in
    let here = slice_get_read old.firsts.items (length old.firsts.items) unit c.index.result.now refl room c.index.ensures in
    subst (λ o. TakesInLeaves leaves (some_unit o) old old) (sym c.in-Some.is) (takes_known leaves old old unit c.in-Some-index.field-0 within (here ∙ ap Some c.in-Some-index.is) refl)

pub returns-in_ok-push-in-None-index : goal.returns-in_ok-push-in-None-index
returns-in_ok-push-in-None-index c =
    let leaves = c.args.leaves.now.units in
    let old = c.args.self.now in
    let new = c.push.new.self in
    let unit = c.in-Some.unit in
    let within : unit < length leaves = subst (λ o. IfSome o (λ u. u < length leaves)) c.in-Some.is c.requires.within in
    let room : unit < length old.firsts.items = subst (λ n. unit < n) (sym c.requires.long) within in
    let here = slice_get_read old.firsts.items (length old.firsts.items) unit c.index.result.now refl room c.index.ensures in
    subst (λ o. TakesInLeaves leaves (some_unit o) old new) (sym c.in-Some.is)
    (takes_new leaves old new unit within (here ∙ ap Some c.in-None-index.is) c.in_ok-push-in-None-index.ensures.units c.in_ok-push-in-None-index.ensures.firsts c.in_ok-push-in-None-index.ensures.end)
