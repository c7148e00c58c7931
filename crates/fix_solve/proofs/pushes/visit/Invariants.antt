use Rattle.std.proofs.Common.{◌≡◌, ◌+◌, ◌-◌, ◌<◌, ◌≤◌}
use Rattle.node_list.specs.Lists.{is_listed}
use Rattle.fix_solve.specs.Solving.{IsOneList, Working, pushes_left, nodes_left}
use Rattle.fix_solve.specs.NewsFlows.{NewsFit, Telling}
use Rattle.fix_solve.proofs.pushes.visit.Given as goal

abbrev pub invariant-loop-number : goal.invariant-loop-number
invariant-loop-number g l =
    let net = g.F.Flow.net l.flow in
    let rank = g.F.Value.Lattice.rank in
    record {
      counts : l.initial.steps ≤ l.steps;
      one_list : IsOneList l.waiting;
      nodes : l.waiting.nodes ≡ net.nodes;
      working : Working g.F.Value.Lattice.below net l.values (is_listed l.waiting.lists) (λ e. net.source e ≡ l.node → e < l.number);
      fit : NewsFit g.F.Value.News.News.fits net.nodes net.size l.news;
      room : g.F.Value.Room.Room.fits l.room net.size;
      telling : Telling net (g.F.Flow.caught l.flow) l.values l.news;
      pushes : l.steps + (l.stop - l.number) + pushes_left net rank l.values (is_listed l.waiting.lists) ≤ l.initial.steps + (l.stop - l.initial.number) + pushes_left net rank l.initial.values (is_listed l.initial.waiting.lists);
      visits : nodes_left net rank l.values (is_listed l.waiting.lists) ≤ nodes_left net rank l.initial.values (is_listed l.initial.waiting.lists);
    }
