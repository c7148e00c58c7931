use Rattle.flow_graph.specs.DividingLaws.{stay_trans, unchanged_stay}
use Rattle.mir_opt.proofs.front.make_values.Goals as goal

pub returns : goal.returns
returns c = record {
  values = record { folds = c.in_ok-folded.ensures.folded; numbers = c.in_ok-numbered.ensures.numbered; copies = c.in_ok-copied.ensures.copied };
  folded_keeps = c.in_ok-folded.ensures.keeps;
  numbered_keeps = c.in_ok-numbered.ensures.keeps;
  copied_keeps = c.in_ok-copied.ensures.keeps;
  folded_divides = c.in_ok-folded.ensures.divides;
  copied_divides = stay_trans c.in_ok-folded.folded.nodes c.in_ok-numbered.numbered.nodes c.in_ok-copied.copied.nodes (unchanged_stay c.in_ok-folded.folded.nodes c.in_ok-numbered.numbered.nodes c.in_ok-numbered.ensures.divides) c.in_ok-copied.ensures.divides;
}
