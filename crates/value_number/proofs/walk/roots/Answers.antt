use Rattle.value_number.specs.Roots.{is_root}
use Rattle.value_number.proofs.Pushes.{list_more}
use Rattle.value_number.proofs.walk.roots.Goals as goal

pub loop-n-preserved : goal.loop-n-preserved
loop-n-preserved c = list_more (is_root c.args.graph.now.nodes) c.loop-n.n c.loop-n.roots.items c.push.new.self.items c.is_root.result c.in_ok-push.ensures.items c.is_root.ensures c.loop-n.invariant
