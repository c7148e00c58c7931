use Rattle.std.proofs.Common.{◌≡◌, ◌+◌, ◌≤◌}
use Rattle.node_list.specs.Lists.{is_listed}
use Rattle.fix_solve.specs.Solving.{AllDone, IsOneList, IsRoomy, Working, pushes_left, nodes_left}
use Rattle.fix_solve.specs.NewsFlows.{NewsFit, Telling}
use Rattle.fix_solve.proofs.pushes.drain.Given as goal

abbrev pub invariant-loop-node : goal.invariant-loop-node
invariant-loop-node g l =
    let net = g.F.Flow.net l.flow in
    record {
      counts : l.initial.steps ≤ l.steps;
      one_list : IsOneList l.waiting;
      nodes : l.waiting.nodes ≡ net.nodes;
      working : Working g.F.Value.Lattice.below net l.values (is_listed l.waiting.lists) AllDone;
      fit : NewsFit g.F.Value.News.News.fits net.nodes net.size l.news;
      room : IsRoomy g.F.Value.Room.Room.fits net.nodes net.size l.room;
      telling : Telling net (g.F.Flow.caught l.flow) l.values l.news;
      pushes : l.steps + pushes_left net g.F.Value.Lattice.rank l.values (is_listed l.waiting.lists) ≤ l.initial.steps + pushes_left net g.F.Value.Lattice.rank l.initial.values (is_listed l.initial.waiting.lists);
    }

abbrev pub decreases-loop-node : goal.decreases-loop-node
decreases-loop-node g l = nodes_left (g.F.Flow.net l.flow) g.F.Value.Lattice.rank l.values (is_listed l.waiting.lists)
