use Rattle.std.proofs.Common.{◌≡◌, take, flat_map}
use Rattle.mir_base.specs.Frames.{shared_vars}
use Rattle.mir_base.specs.Shapes.{inst_vars}
use Rattle.flow_graph.specs.Numbering.{seen_after}
use Rattle.flow_graph.proofs.seen.SeenVars.of.Given as goal

abbrev pub invariant-loop-inst : goal.invariant-loop-inst
invariant-loop-inst l = record {
  vars : l.seen.vars ≡ l.vars;
  seen : l.seen.seen ≡ seen_after (shared_vars l.fn.shared) (flat_map inst_vars (take l.inst-index l.body));
}
