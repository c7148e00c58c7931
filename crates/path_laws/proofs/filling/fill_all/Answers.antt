use Rattle.std.proofs.Common.{◌≡◌, ◌≤◌, length, arith}
use Rattle.path_laws.proofs.Coming.{stands_at}
use Rattle.path_laws.proofs.filling.fill_all.Goals as goal

pub returns : goal.returns
returns c =
    let p = c.args.problem.now in
    let inv = c.loop-block.invariant in
    let late : c.len-block-end.result ≤ c.loop-block.block = c.loop-block-test.false in
    let count : c.len-block-end.result ≡ length c.args.problem.now.blocks.now.lists = c.len-block-end.ensures in
    record {
      shape = inv.rows.shape;
      are = λ n b h l. (
        λ on. inv.rows.sound n b h l on,
        λ has. let s = stands_at p.against p.graph.now.nodes p.blocks.now.lists c.requires.problem.blocks_are.are n h in inv.blocks s.0 s.1 n (omega (arith, s.2)) s.3 b l has,
      );
    }
