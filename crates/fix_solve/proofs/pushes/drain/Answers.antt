use Rattle.std.proofs.Common.{◌<◌, length, arith, ◌∙◌}
use Rattle.node_list.specs.Lists.{is_listed}
use Rattle.fix_solve.specs.Net.{value_at}
use Rattle.fix_solve.proofs.Solves.{end_solves}
use Rattle.fix_solve.proofs.Visits.{LessLeft, load_taken}
use Rattle.fix_solve.proofs.Waiting.{none_waits}
use Rattle.fix_solve.proofs.pushes.drain.Goals as goal
use Rattle.fix_solve.proofs.pushes.drain.Goals.{After-visit}

less_left : (g : _) (c : After-visit g) → LessLeft (g.F.Flow.net c.args.flow.now) g.F.Value.Lattice.rank c.loop-node.values (is_listed c.loop-node.waiting.lists) (is_listed c.take.new.waiting.lists) c.in-Some.node
less_left g c =
    let inv = c.loop-node.invariant in
    let low : c.in-Some.node < length c.args.values.now = c.in-Some.ensures.in_range in
    load_taken g.F.Value.Lattice.below g.F.Value.Lattice.size g.F.Value.Lattice.rank g.met.F.Value.Lattice.laws (g.F.Flow.net c.args.flow.now) (g.met.F.Flow.laws c.args.flow.now c.requires.valid)
    c.in-Some.node c.loop-node.values c.loop-node.waiting.lists (is_listed c.take.new.waiting.lists) (rw c.requires.working.len at low) inv.working c.in-Some.ensures.waited c.in-Some.ensures.listed

pub loop-node-smaller : goal.loop-node-smaller
loop-node-smaller g c =
    let less = less_left g (goal.at.loop-node-smaller g c).After-visit in
    omega (arith, less.nodes, c.visit.ensures.visits)

pub loop-node-preserved : goal.loop-node-preserved
loop-node-preserved g c =
    let less = less_left g (goal.at.loop-node-preserved g c).After-visit in
    let inv = c.loop-node.invariant in
    record {
      counts = omega (arith, inv.counts, c.visit.ensures.counts);
      one_list = c.visit.ensures.one_list;
      nodes = c.visit.ensures.nodes ∙ c.in-Some.ensures.nodes ∙ c.requires.working.len;
      working = c.visit.ensures.working;
      fit = c.visit.ensures.fit;
      room = λ n h. c.visit.ensures.room;
      telling = c.visit.ensures.telling;
      pushes = omega (arith, less.pushes, inv.pushes, c.visit.ensures.pushes);
    }

pub returns-clause-least : goal.returns-clause-least
returns-clause-least g c =
    let inv = c.loop-node.invariant in
    end_solves g.F.Value.Lattice.below g.F.Value.Lattice.size g.F.Value.Lattice.rank g.met.F.Value.Lattice.laws (g.F.Flow.net c.args.flow.now) (g.met.F.Flow.laws c.args.flow.now c.requires.valid)
    (value_at (g.F.Flow.net c.args.flow.now) c.loop-node.values) (is_listed c.loop-node.waiting.lists) (λ n h. none_waits c.loop-node.waiting.lists n inv.one_list c.in_default.ensures.empty.0) inv.working.solving

pub visit-requires-clause-room : goal.visit-requires-clause-room
visit-requires-clause-room g c =
    let low : c.in-Some.node < length c.args.values.now = c.in-Some.ensures.in_range in
    c.loop-node.invariant.room c.in-Some.node (rw c.requires.working.len at low)
