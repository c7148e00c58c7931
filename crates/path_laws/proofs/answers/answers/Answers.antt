use Rattle.std.proofs.Common.{◌≤◌, ◌+◌, ℕ, length, arith}
use Rattle.flow_graph.specs.Edges.{edges_from}
use Rattle.flow_graph.specs.Graphs.{AllWithin}
use Rattle.path_laws.specs.Crossings.{crossings}
use Rattle.path_laws.specs.declared.between.BlockEdges.{BlockEdges}
use Rattle.path_laws.specs.Problem.{HasBetween, HasGraph, IsProblem, born_room, room_along}
use Rattle.path_laws.specs.Counting.{few_between}
use Rattle.path_laws.proofs.Handed.{as_born, in_width, problem, pushes_born, pushes_few}
use Rattle.path_laws.proofs.answers.answers.Goals as goal
use Rattle.path_laws.proofs.answers.answers.Goals.{After-nodes-nodes}

-- what the calls are handed is a problem
is_problem : (g : _) (c : After-nodes-nodes g) → IsProblem c.args.problem.now
is_problem g c =
    let p = c.args.problem.now in
    let graph : HasGraph c.args.problem.now = rw c.nodes-nodes.ensures.value at c.nodes-nodes.ensures.graph in
    let within : AllWithin c.args.problem.now.graph.now.nodes = λ m slot s edge. (graph.can.succs m slot s edge).1 in
    problem p.graph.now.nodes p.bits p.born.now c.requires.born c.requires.bits p.edges.now p.blocks.now p.stop.now within c.requires.edges c.requires.blocks c.requires.stop

-- the edges between blocks are no more than those that cross, so the counter rises by no more than there is room for
within_room : (g : _) (c : After-nodes-nodes g) (made : BlockEdges) (new : ℕ) → HasBetween c.args.problem.now made → new ≤ c.args.steps.now + room_along c.args.problem.now made → new ≤ c.args.steps.now + born_room c.args.problem.now
within_room g c made new between pushes =
    let p = c.args.problem.now in
    let is = is_problem g c in
    let most = few_between p.against p.graph.now.nodes p.blocks.now.lists is.blocks_are.are is.flow.within in
    let few : length made.edges.items ≤ crossings p.blocks.now.lists (edges_from 0 p.graph.now.nodes) = omega (arith, between.few, most) in
    pushes_born p.graph.now.nodes p.bits p.born.now c.requires.born c.requires.bits p.blocks.now.lists p.edges.now c.args.steps.now new c.requires.edges
    (pushes_few c.args.steps.now new (length made.edges.items) (crossings p.blocks.now.lists p.edges.now.edges) p.bits pushes (rw c.requires.edges few))

pub led-requires-clause-problem : goal.led-requires-clause-problem
led-requires-clause-problem g c = is_problem g (goal.at.led-requires-clause-problem g c).After-nodes-nodes

pub fill_all-requires-clause-problem : goal.fill_all-requires-clause-problem
fill_all-requires-clause-problem g c = is_problem g (goal.at.fill_all-requires-clause-problem g c).After-nodes-nodes

pub fill_all-requires-clause-edges : goal.fill_all-requires-clause-edges
fill_all-requires-clause-edges g c = (c.in_ok-between.between.firsts.items, rw c.deref.ensures.value c.in_ok-between.ensures)

pub fill_all-requires-clause-leads : goal.fill_all-requires-clause-leads
fill_all-requires-clause-leads g c = rw c.deref.ensures.value c.in_ok-work.ensures.leads

pub returns-clause-graph : goal.returns-clause-graph
returns-clause-graph g c = rw c.nodes-nodes.ensures.value at c.nodes-nodes.ensures.graph

pub returns-clause-shape : goal.returns-clause-shape
returns-clause-shape g c = let p = c.args.problem.now in as_born p.graph.now.nodes p.bits p.born.now c.requires.born c.requires.bits c.fill_all.new.rows c.fill_all.ensures.shape

pub returns-clause-answers : goal.returns-clause-answers
returns-clause-answers g c = λ n b h l. let p = c.args.problem.now in c.fill_all.ensures.are n b h (in_width p.graph.now.nodes p.bits p.born.now c.requires.born c.requires.bits n b h l)

pub returns-clause-pushes : goal.returns-clause-pushes
returns-clause-pushes g c = within_room g (goal.at.returns-clause-pushes g c).After-nodes-nodes c.in_ok-between.between c.led.new.steps c.in_ok-between.ensures c.in_ok-work.ensures.pushes

pub returns-in_err-work-clause-pushes : goal.returns-in_err-work-clause-pushes
returns-in_err-work-clause-pushes g c = within_room g (goal.at.returns-in_err-work-clause-pushes g c).After-nodes-nodes c.in_ok-between.between c.led.new.steps c.in_ok-between.ensures c.in_err-work.ensures.pushes
