use Rattle.std.proofs.Common.{refl, subst, ◌<◌}
use Rattle.path_laws.specs.Problem.{block_seeds, is_barred, is_seed, orders}
use Rattle.path_laws.proofs.Coming.{led_blocks}
use Rattle.path_laws.specs.Leaving.{between_listed}
use Rattle.path_laws.proofs.RowsPassed.{seeds_passed}
use Rattle.path_laws.proofs.answers.led.Goals as goal

pub out_of_blocks-requires : goal.out_of_blocks-requires
out_of_blocks-requires g c =
    let p = c.args.problem.now in
    let passed = seeds_passed p c.requires.problem in
    record {
      listed = between_listed p.against p.graph.now.nodes p.blocks.now.lists c.args.between.now.edges.items c.args.between.now.edges.items c.args.between.now.firsts.items c.args.between.now.firsts.items c.len-count.result p.bits (block_seeds p) c.in_ok-stops.stops
          c.requires.between refl refl c.len-count.ensures passed.shape c.in_ok-stops.ensures.shape;
      seeds_are = λ block low. (c.requires.problem, subst (λ k. block < k) c.len-count.ensures low);
    }

pub returns-clause-shape : goal.returns-clause-shape
returns-clause-shape g c = rw c.len-count.ensures at c.in_ok-work.ensures.shape

pub returns-clause-leads : goal.returns-clause-leads
returns-clause-leads g c =
    let p = c.args.problem.now in
    let passed = seeds_passed p c.requires.problem in
    led_blocks p.against p.graph.now.nodes p.blocks.now.lists p.bits _ c.args.between.now.edges.items c.args.between.now.edges.items c.args.between.now.firsts.items (orders p) (is_seed p) (is_barred p) (block_seeds p) c.in_ok-stops.stops c.in_ok-work.work
    c.requires.between passed c.in_ok-stops.ensures passed.shape.len refl c.in_ok-work.ensures.out
