use Rattle.std.proofs.Common.{◌≡◌}
use Rattle.mir_base.specs.Frames.{shared_vars}
use Rattle.flow_graph.proofs.seen.SeenVars.see_globals.Given as goal

abbrev pub invariant-loop-x : goal.invariant-loop-x
invariant-loop-x l = record {
  vars : l.self.vars ≡ l.fn.self.vars;
  seen : l.self.seen ≡ shared_vars l.x;
}
