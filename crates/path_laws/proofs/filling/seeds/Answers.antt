use Rattle.std.proofs.Common.{◌<◌, length, sym, arith, ◌∙◌}
use Rattle.path_laws.proofs.Growing.{ends_done, ends_rest, inside_done, joined_shape}
use Rattle.path_laws.proofs.filling.seeds.Goals as goal
use Rattle.path_laws.proofs.filling.seeds.Goals.{else-is_end, then-is_end}

pub loop-node-preserved : goal.loop-node-preserved
loop-node-preserved c =
    let p = c.args.problem.now in
    let nodes = p.graph.now.nodes in
    let inv = c.loop-node.invariant in
    let node = c.loop-node.node in
    let early : c.loop-node.node < length c.args.problem.now.graph.now.nodes = rw c.len-node-end.ensures at c.loop-node-test.true in
    let born_rows = c.requires.problem.flow.born_rows in
    let stop_rows = c.requires.problem.flow.stop_rows in
    elim c.if-is_end.branch [
      | then-is_end w ↦
          let made = w.join_seeds.ensures in
          rw w.rows-is (record {
            shape = joined_shape (length nodes) p.bits c.loop-node.rows w.join_seeds.new.rows node _ inv.shape made;
            done = ends_done p.every p.against nodes p.bits p.born.now p.stop.now born_rows stop_rows c.requires.every node early c.loop-node.rows w.join_seeds.new.rows inv.done inv.rest made;
            rest = ends_rest p.every p.against nodes p.bits p.born.now p.stop.now born_rows stop_rows c.requires.every node early c.loop-node.rows w.join_seeds.new.rows inv.done inv.rest made;
          })
      | else-is_end w ↦
          rw w.rows-is (record {
            shape = inv.shape;
            done = inside_done p.every p.against nodes p.bits p.born.now p.stop.now born_rows stop_rows c.requires.every node early c.loop-node.rows c.loop-node.rows inv.done inv.rest (sym c.is_end.ensures ∙ w.if-is_end.false);
            rest = λ n b h late l. inv.rest n b h (omega (arith, late)) l;
          })
    ]
