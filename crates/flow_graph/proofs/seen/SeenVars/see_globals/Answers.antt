use Rattle.std.proofs.Common.{◌∙◌}
use Rattle.flow_graph.specs.RenamingLaws.{shared_more}
use Rattle.flow_graph.proofs.seen.SeenVars.see_globals.Goals as goal

pub loop-x-preserved : goal.loop-x-preserved
loop-x-preserved c = record {
  vars = c.in_ok-see.ensures.vars ∙ c.loop-x.invariant.vars;
  seen = shared_more c.loop-x.x c.loop-x.self.seen c.see.new.self.seen c.loop-x.invariant.seen c.in_ok-see.ensures.seen;
}
