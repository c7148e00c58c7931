use Rattle.std.proofs.Common.{◌≡◌, ◌≤◌, ◌-◌, ◌+◌, ◌∙◌, suc, length, sym, subst, arith}
use Rattle.sink_code.specs.Heads.{AreHeadsDone}
use Rattle.sink_code.specs.BlockPlaces.{AreBlockPlaces}
use Rattle.sink_code.proofs.SettledHeads.{heads_weaker, none_settled}
use Rattle.sink_code.proofs.heads.from_heads.Goals as goal

pub loop-later-init : goal.loop-later-init
loop-later-init c =
    let over = c.args.over.now in
    let count = length over.blocks.now.lists in
    let whole : count - 0 ≡ count = omega arith in
    record {
      places = subst (λ n. AreBlockPlaces over.graph.now n c.in_ok-places.places) (c.len-count.ensures ∙ sym whole) c.in_ok-places.ensures;
      done = none_settled over c.args.coming.now.into c.args.leaves.now c.args.puts.now.items (λ b k. count - 0 ≤ b) c.requires.leaves (λ b k late h. omega (arith, late, h));
    }

pub loop-later-preserved : goal.loop-later-preserved
loop-later-preserved c =
    let over = c.args.over.now in
    let count = length over.blocks.now.lists in
    let inv = c.loop-later.invariant in
    let one : count - (c.loop-later.later + 1) ≡ c.len-count.result - 1 - c.loop-later.later = omega (arith, c.len-count.ensures, c.loop-later-test.true) in
    let two : count - c.loop-later.later ≡ suc (c.len-count.result - 1 - c.loop-later.later) = omega (arith, c.len-count.ensures, c.loop-later-test.true) in
    record {
      places = subst (λ n. AreBlockPlaces over.graph.now n c.from_head.new.places) (sym one) c.in_ok-from_head.ensures.places;
      done = subst (λ n. AreHeadsDone over c.args.coming.now.into c.args.leaves.now c.args.puts.now.items n c.from_head.new.leaves c.from_head.new.puts.items) (sym one)
          (c.in_ok-from_head.ensures.done c.args.leaves.now c.args.puts.now.items (subst (λ n. AreHeadsDone over c.args.coming.now.into c.args.leaves.now c.args.puts.now.items n c.loop-later.leaves c.loop-later.puts.items) two inv.done));
    }

pub returns : goal.returns
returns c =
    let over = c.args.over.now in
    let count = length over.blocks.now.lists in
    let none : count - c.loop-later.later ≡ 0 = omega (arith, c.len-count.ensures, c.loop-later-test.false) in
    heads_weaker over c.args.coming.now.into c.args.leaves.now c.loop-later.leaves c.args.puts.now.items c.loop-later.puts.items (λ b k. count - c.loop-later.later ≤ b) (λ b k. Unit {0}) (λ b k d on. omega (arith, none)) c.loop-later.invariant.done
