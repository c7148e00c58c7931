use Rattle.std.proofs.Common.{◌≡◌, ◌-◌, ◌+◌, suc, length, subst, arith}
use Rattle.sink_code.specs.Inside.{AreInsideFrom}
use Rattle.sink_code.specs.BlockPlaces.{AreBlockPlaces}
use Rattle.sink_code.proofs.Sinks.{all_inside, nothing_found}
use Rattle.sink_code.proofs.inside.found_inside.Goals as goal

pub loop-later-init : goal.loop-later-init
loop-later-init c =
    let lists = c.args.blocks.now.lists in
    let count = c.len-count.result in
    let same : c.len-count.result ≡ length c.args.blocks.now.lists - 0 = omega (arith, c.len-count.ensures) in
    record {
      places = subst (λ b. AreBlockPlaces c.args.graph.now b c.in_ok-places.places) same c.in_ok-places.ensures;
      found = nothing_found c.args.graph.now lists (length lists - 0) _ (omega arith) c.in_ok-found.ensures.puts c.in_ok-found.ensures.table c.in_ok-found.ensures.leaving;
    }

pub inside_block-requires-clause-places : goal.inside_block-requires-clause-places
inside_block-requires-clause-places c =
    let same : length c.args.blocks.now.lists - c.loop-later.later ≡ suc (c.len-count.result - 1 - c.loop-later.later) = omega (arith, c.len-count.ensures, c.loop-later-test.true) in
    subst (λ b. AreBlockPlaces c.args.graph.now b c.loop-later.places) same c.loop-later.invariant.places

pub inside_block-requires-clause-found : goal.inside_block-requires-clause-found
inside_block-requires-clause-found c =
    let same : length c.args.blocks.now.lists - c.loop-later.later ≡ suc (c.len-count.result - 1 - c.loop-later.later) = omega (arith, c.len-count.ensures, c.loop-later-test.true) in
    subst (λ b. AreInsideFrom c.args.graph.now c.args.blocks.now.lists b c.loop-later.found) same c.loop-later.invariant.found

pub loop-later-preserved : goal.loop-later-preserved
loop-later-preserved c =
    let same : c.len-count.result - 1 - c.loop-later.later ≡ length c.args.blocks.now.lists - (c.loop-later.later + 1) = omega (arith, c.len-count.ensures, c.loop-later-test.true) in
    record {
      places = subst (λ b. AreBlockPlaces c.args.graph.now b c.inside_block.new.places) same c.in_ok-inside_block.ensures.places;
      found = subst (λ b. AreInsideFrom c.args.graph.now c.args.blocks.now.lists b c.inside_block.new.found) same c.in_ok-inside_block.ensures.found;
    }

pub returns : goal.returns
returns c = all_inside c.args.graph.now c.args.blocks.now.lists (length c.args.blocks.now.lists - c.loop-later.later) c.loop-later.found (omega (arith, c.len-count.ensures, c.loop-later-test.false)) c.loop-later.invariant.found
