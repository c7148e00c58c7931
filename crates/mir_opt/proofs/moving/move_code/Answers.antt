use Rattle.flow_graph.specs.DividingLaws.{unchanged_trans}
use Rattle.mir_opt.proofs.moving.move_code.Goals as goal

pub returns : goal.returns
returns g c = record {
  motion = record {
    splits = c.in_ok-split.ensures.exact;
    table_is = c.in_ok-table.ensures.exprs;
    placed = c.in_ok-code.ensures.placed;
    flattened = c.in_ok-code.ensures.flattened;
  };
  best = c.in_ok-code.ensures.best;
  is_split = c.in_ok-code.ensures.is_split;
  split_keeps = c.in_ok-split.ensures.keeps;
  moved_keeps = c.in_ok-code.ensures.keeps;
  divides = unchanged_trans c.args.graph.now.nodes c.in_ok-split.split.nodes c.in_ok-code.code.moved.nodes c.in_ok-split.ensures.divides c.in_ok-code.ensures.divides;
}
