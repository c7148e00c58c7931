use Rattle.std.proofs.Common.{sym}
use Rattle.flow_graph.proofs.Whole.{all_retained}
use Rattle.flow_graph.proofs.retain.only_marked.Goals as goal

pub returns-then-are_all_set : goal.returns-then-are_all_set
returns-then-are_all_set c = sym (all_retained c.args.nodes.items c.args.marks.now c.requires.within c.requires.long (c.are_all_set.ensures.0 c.if-are_all_set.true))
