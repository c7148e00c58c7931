use Rattle.std.proofs.Common.{◌+◌, ◌∙◌, ap, sym, drop, length, slice_index, arith}
use Rattle.std.proofs.lemmas.List.{drop_all, length-set}
use Rattle.std.proofs.lemmas.Option.{slice_get-get_or}
use Rattle.mir_base.specs.BelowLaws.{all_below_at}
use Rattle.flow_graph.specs.ListLaws.{drop_at}
use Rattle.value_number.specs.TermWalks.{listed_after, steps_after}
use Rattle.value_number.proofs.walk.list.Goals as goal

pub list_one-requires : goal.list_one-requires
list_one-requires c =
    let i = c.loop-succ.succ-index in
    let succs = c.args.succs.now in
    let below = all_below_at (length c.args.listed.now.items) succs i (slice_index succs i) c.requires (slice_get-get_or succs i 0 c.loop-succ-test.true) in
    omega (arith, below, c.loop-succ.invariant.0)

pub loop-succ-preserved : goal.loop-succ-preserved
loop-succ-preserved c =
    let i = c.loop-succ.succ-index in
    let succs = c.args.succs.now in
    let inv = c.loop-succ.invariant in
    let next = drop_at succs i (slice_index succs i) (slice_get-get_or succs i 0 c.loop-succ-test.true) in
    let listed = c.loop-succ.listed.items in
    let steps = c.loop-succ.steps.items in
    let e = c.in_ok-list_one.ensures in (
      ap length e.listed ∙ length-set listed (slice_index succs i) _ ∙ inv.0,
      ap (listed_after (drop (i + 1) succs)) e.listed ∙ sym (ap (λ l. listed_after l listed) next) ∙ inv.1,
      ap (λ l. steps_after c.args.root (drop (i + 1) succs) l c.list_one.new.steps.items) e.listed ∙ ap (steps_after c.args.root (drop (i + 1) succs) _) e.steps ∙ sym (ap (λ l. steps_after c.args.root l listed steps) next) ∙ inv.2,
    )

pub returns-clause-listed : goal.returns-clause-listed
returns-clause-listed c =
    let none = drop_all c.loop-succ.succ-index c.args.succs.now c.loop-succ-test.false in
    sym (ap (λ l. listed_after l c.loop-succ.listed.items) none) ∙ c.loop-succ.invariant.1

pub returns-clause-steps : goal.returns-clause-steps
returns-clause-steps c =
    let none = drop_all c.loop-succ.succ-index c.args.succs.now c.loop-succ-test.false in
    sym (ap (λ l. steps_after c.args.root l c.loop-succ.listed.items c.loop-succ.steps.items) none) ∙ c.loop-succ.invariant.2
