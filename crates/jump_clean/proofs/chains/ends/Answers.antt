use Rattle.std.proofs.Common.{◌≡◌, ◌++◌, ◌∷◌, [], ap, arith, length, length-append}
use Rattle.flow_graph.specs.ListLaws.{table_push}
use Rattle.jump_clean.specs.Chains.{IsEnd}
use Rattle.jump_clean.proofs.chains.ends.Goals as goal

pub loop-n-preserved : goal.loop-n-preserved
loop-n-preserved c =
    let inv = c.loop-n.invariant in
    let pushed : c.push.new.self.items ≡ c.loop-n.ends.items ++ c.in_ok-end.end ∷ [] = c.in_ok-push.ensures.items in
    record {
      found = c.in_ok-end.ensures.found;
      long = omega (arith, ap length pushed, length-append c.loop-n.ends.items (c.in_ok-end.end ∷ []), inv.long);
      within = omega (arith, c.loop-n-test.true);
      are = table_push (IsEnd c.args.nodes.now) 0 c.loop-n.ends.items c.push.new.self.items c.loop-n.n c.in_ok-end.end pushed inv.long inv.are c.in_ok-end.ensures.end;
    }
