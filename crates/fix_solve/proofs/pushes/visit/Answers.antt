use Rattle.std.proofs.Common.{◌≡◌, ◌+◌, ◌-◌, ◌<◌, ◌≤◌, sym, arith, ◌∙◌}
use Rattle.node_list.specs.Lists.{is_listed}
use Rattle.fix_solve.specs.Solving.{pushes_left, nodes_left, degree}
use Rattle.fix_solve.proofs.Telling.{telling_settle}
use Rattle.fix_solve.proofs.Visits.{working_push, working_ends, load_after}
use Rattle.fix_solve.proofs.pushes.visit.Goals as goal

pub loop-number-preserved : goal.loop-number-preserved
loop-number-preserved g c =
    let below = g.F.Value.Lattice.below in
    let size = g.F.Value.Lattice.size in
    let rank = g.F.Value.Lattice.rank in
    let order = g.met.F.Value.Lattice.laws in
    let net = g.F.Flow.net c.args.flow.now in
    let laws = g.met.F.Flow.laws c.args.flow.now c.requires.valid in
    let inv = c.loop-number.invariant in
    let number = c.loop-number.number in
    let early : number < c.out-start.result.1 = c.loop-number-test.true in
    let late : c.out-start.result.0 ≤ number = c.loop-number.auto.number in
    let start_is : c.out-start.result.0 ≡ net.start c.args.node = c.out-start.ensures.start in
    let stop_is : c.out-start.result.1 ≡ net.stop c.args.node = c.out-start.ensures.stop in
    let stops : net.stop c.args.node ≤ net.edges = laws.stops c.args.node c.requires.in_range in
    let in_range : number < net.edges = omega arith in
    let of_node : net.source number ≡ c.args.node = laws.within c.args.node number c.requires.in_range (omega arith) (omega arith) in
    let t = c.edge-source.result.1 in
    let b = c.push_along-changed.result in
    let fl = is_listed c.loop-number.waiting.lists in
    let fl' = is_listed c.enlist.new.waiting.lists in
    let push = working_push below size rank order net laws number t c.loop-number.values c.push_along-changed.new.values fl fl' b in_range c.edge-source.ensures.target c.push_along-changed.ensures.pushed c.enlist.ensures.others c.enlist.ensures.here c.args.node of_node inv.working in
    let loads = load_after below size rank order net laws number t c.loop-number.values c.push_along-changed.new.values fl fl' b in_range c.edge-source.ensures.target c.push_along-changed.ensures.pushed c.enlist.ensures.others c.enlist.ensures.here in
    let counted : c.push_along-changed.new.steps ≡ c.loop-number.steps + 1 = c.push_along-changed.ensures.counted in
    let fewer_pushes : pushes_left net rank c.push_along-changed.new.values fl' ≤ pushes_left net rank c.loop-number.values fl = loads (degree net) _ inv.working in
    let fewer_nodes : nodes_left net rank c.push_along-changed.new.values fl' ≤ nodes_left net rank c.loop-number.values fl = loads (λ _. 1) _ inv.working in
    let pushes : c.loop-number.steps + (c.out-start.result.1 - number) + pushes_left net rank c.loop-number.values fl
    ≤ c.args.steps.now + (c.out-start.result.1 - c.out-start.result.0) + pushes_left net rank c.args.values.now (is_listed c.args.waiting.now.lists) = inv.pushes in
    let visits : nodes_left net rank c.loop-number.values fl ≤ nodes_left net rank c.args.values.now (is_listed c.args.waiting.now.lists) = inv.visits in
    let rises : c.args.steps.now ≤ c.loop-number.steps = inv.counts in
    record {
      counts = omega arith;
      one_list = c.enlist.ensures.one_list;
      nodes = c.enlist.ensures.nodes ∙ inv.nodes;
      working = push;
      fit = c.push_along-changed.ensures.fit;
      room = c.push_along-changed.ensures.room;
      telling = c.push_along-changed.ensures.telling;
      pushes = omega arith;
      visits = omega arith;
    }

pub returns-then-not-is_listed-clause-telling : goal.returns-then-not-is_listed-clause-telling
returns-then-not-is_listed-clause-telling g c =
    let net = g.F.Flow.net c.args.flow.now in
    let laws = g.met.F.Flow.laws c.args.flow.now c.requires.valid in
    let inv = c.loop-number.invariant in
    let fl = is_listed c.loop-number.waiting.lists in
    let over : c.out-start.result.1 ≤ c.loop-number.number = c.loop-number-test.false in
    let stop_is : c.out-start.result.1 ≡ net.stop c.args.node = c.out-start.ensures.stop in
    telling_settle g.F.Value.Lattice.below g.F.Value.Lattice.size g.F.Value.Lattice.rank g.met.F.Value.Lattice.laws net laws g.F.Value.News.News.fits g.F.Value.News.News.is_all g.F.Value.News.News.is_none (g.F.Flow.caught c.args.flow.now) (g.met.F.Flow.news_laws c.args.flow.now c.requires.valid) c.args.node c.loop-number.values c.loop-number.news c.settle.new.self fl c.requires.in_range inv.fit.long (sym c.is_listed.ensures.listed ∙ c.if-not-is_listed.true)
    (c.settle.ensures.fits net.size (inv.fit.each c.index-news-node.result c.args.node c.requires.in_range)) c.settle.ensures.none
    (working_ends g.F.Value.Lattice.below g.F.Value.Lattice.size g.F.Value.Lattice.rank g.met.F.Value.Lattice.laws net laws c.args.node c.loop-number.number c.loop-number.values fl (omega arith) inv.working) inv.telling
