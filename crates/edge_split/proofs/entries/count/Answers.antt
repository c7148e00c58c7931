use Rattle.std.proofs.Common.{◌≡◌, ◌+◌, ◌<◌, ◌≤◌, ◌∙◌, ap, refl, length, min, take, slice_index, slice_set, arith}
use Rattle.std.proofs.lemmas.List.{length-set, take_all}
use Rattle.node_list.specs.Lists.{times_in}
use Rattle.edge_split.proofs.Targets.{item_below, counted_one, times_front}
use Rattle.edge_split.proofs.entries.count.Goals as goal

pub loop-succ-init : goal.loop-succ-init
loop-succ-init c = record { len = refl; counted = λ s. omega (arith, c.requires.few s) }

pub count_one-requires-clause-there : goal.count_one-requires-clause-there
count_one-requires-clause-there c = omega (arith, item_below (length c.args.entries.now.items) c.args.succs.now c.loop-succ.succ-index c.requires.within c.loop-succ-test.true, c.loop-succ.invariant.len)

pub count_one-requires-clause-few : goal.count_one-requires-clause-few
count_one-requires-clause-few c = omega (arith, c.loop-succ.invariant.counted (slice_index c.args.succs.now c.loop-succ.succ-index))

pub loop-succ-preserved : goal.loop-succ-preserved
loop-succ-preserved c =
    let i = c.loop-succ.succ-index in
    let succs = c.args.succs.now in
    let node = slice_index succs i in
    let old = c.args.entries.now.items in
    let entries = c.loop-succ.entries.items in
    let inv = c.loop-succ.invariant in
    let lt : node < length entries = omega (arith, item_below (length old) succs i c.requires.within c.loop-succ-test.true, inv.len) in
    record {
      len = ap length c.count_one.ensures ∙ length-set entries node (min 2 (slice_index entries node + 1)) ∙ inv.len;
      counted = λ s.
          let few : slice_index entries s ≤ 2 = omega (arith, inv.counted s) in
          let now : slice_index (slice_set entries node (min 2 (slice_index entries node + 1))) s ≡ min 2 (slice_index old s + times_in s (take (i + 1) succs)) =
          omega (arith, counted_one entries node (slice_index entries node) lt refl s few, inv.counted s, times_front s succs i c.loop-succ-test.true) in
          ap (λ l. slice_index l s) c.count_one.ensures ∙ now;
    }

pub returns-clause-counted : goal.returns-clause-counted
returns-clause-counted c = λ s.
    c.loop-succ.invariant.counted s
    ∙ ap (λ l. min 2 (slice_index c.args.entries.now.items s + times_in s l)) (take_all c.loop-succ.succ-index c.args.succs.now c.loop-succ-test.false)
