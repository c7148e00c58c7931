use Rattle.down_safe.proofs.equations.busy_over.Goals as goal

pub available-requires : goal.available-requires
available-requires g c = record {
  split = c.requires.split;
  edges_are = c.requires.edges;
  blocks_are = c.requires.blocks;
  uses_are = c.in_ok-uses.ensures;
  kills_are = c.in_ok-kills.ensures;
}

pub down-requires : goal.down-requires
down-requires g c = record {
  split = c.requires.split;
  edges_are = c.requires.edges;
  blocks_are = c.requires.blocks;
  uses_are = c.in_ok-uses.ensures;
  kills_are = c.in_ok-kills.ensures;
}
