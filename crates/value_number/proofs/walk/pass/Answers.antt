use Rattle.std.proofs.Common.{◌≤◌, ◌∙◌, ap, sym, subst, length, ◌++◌}
use Rattle.value_number.specs.TermWalks.{NewTermWithin, changed_numbers, undoing}
use Rattle.value_number.proofs.Undoing.{changed_long, node_passes}
use Rattle.value_number.proofs.walk.pass.Goals as goal

pub change-requires : goal.change-requires
change-requires c = let found = c.in_ok-found.ensures.finds in subst (λ l. NewTermWithin (length l) c.in_ok-found.found.change) (sym c.find.ensures.same) found.within

pub renew_globals-requires : goal.renew_globals-requires
renew_globals-requires c =
    subst (λ k. c.args.shared ≤ k) (sym (ap length c.in_ok-change.ensures.numbers ∙ changed_long c.find.new.numbers c.in_ok-found.found.change ∙ ap length c.find.ensures.same)) c.requires.shared

pub returns : goal.returns
returns c =
    let change = c.in_ok-found.found.change in
    let steps = c.args.steps.now.items in
    node_passes c.args.shared c.args.root c.args.n c.args.node.now c.args.table.now c.find.new.table c.renew_globals.new.table c.args.numbers.now c.change.new.numbers c.renew_globals.new.numbers steps c.change.new.steps.items c.renew_globals.new.steps.items c.in_ok-found.found
    c.in_ok-found.ensures.finds (c.in_ok-change.ensures.numbers ∙ ap (λ l. changed_numbers l change) c.find.ensures.same) (c.in_ok-change.ensures.steps ∙ ap (λ l. steps ++ undoing steps l change) c.find.ensures.same) c.in_ok-renew_globals.ensures
