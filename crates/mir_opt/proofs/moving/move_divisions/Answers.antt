use Rattle.mir_opt.proofs.moving.move_divisions.Goals as goal

pub returns : goal.returns
returns c = record {
  motion = record {
    splits = c.in_ok-split.ensures.exact;
    table_is = c.in_ok-code.ensures.exact.table_is;
    placed = c.in_ok-code.ensures.exact.placed;
    flattened = c.in_ok-code.ensures.exact.flattened;
  };
  best = record { optimal = c.in_ok-code.ensures.optimal; evaluates = c.in_ok-code.ensures.paths; follows = c.in_ok-code.ensures.runs };
  comes = c.in_ok-code.ensures.comes;
  split_keeps = c.in_ok-split.ensures.keeps;
  moved_keeps = c.in_ok-code.ensures.keeps;
}
