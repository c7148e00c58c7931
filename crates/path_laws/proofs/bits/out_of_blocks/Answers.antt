use Rattle.std.proofs.Common.{◌≡◌, ◌<◌, length, [], subst, arith}
use Rattle.std.proofs.lemmas.List.{get_or_default}
use Rattle.bit_rows.specs.Bits.{row_of}
use Rattle.flow_graph.specs.NumberTables.{number_at}
use Rattle.path_laws.specs.Flow.{seed_rows}
use Rattle.path_laws.proofs.RowBits.{rows_lead}
use Rattle.path_laws.proofs.bits.out_of_blocks.Goals as goal

pub returns-clause-shape : goal.returns-clause-shape
returns-clause-shape g c = record {
  len = c.solve.ensures.len;
  each = λ n h.
      let len : length c.solve.new.work ≡ c.args.count = c.solve.ensures.len in
      rw (get_or_default c.solve.new.work n [] (row_of (seed_rows c.args.seeds.now) n) (omega arith)) (c.solve.ensures.sizes n h);
}

pub returns-clause-out : goal.returns-clause-out
returns-clause-out g c = λ n b low.
    let listed = c.requires.listed in
    rows_lead c.args.count c.args.between.now.edges.items (number_at c.args.between.now.firsts.items) c.args.bits (seed_rows c.args.seeds.now) c.args.stops.now _ listed.flow c.solve.ensures.len c.solve.ensures.least
    n b (subst (λ k. n < k) listed.flow.first_rows.len low)
