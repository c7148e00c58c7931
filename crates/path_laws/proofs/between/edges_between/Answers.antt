use Rattle.std.proofs.Common.{◌≡◌, ℕ, ◌≤◌, [], ◌∷◌, ◌++◌, length, ap, subst, arith, ◌∙◌}
use Rattle.path_laws.specs.Between.{AreBetween}
use Rattle.path_laws.specs.Leaving.{between_more}
use Rattle.flow_graph.specs.BlockLaws.{chain_some}
use Rattle.path_laws.specs.Places.{flow_within}
use Rattle.path_laws.specs.Runs.{ahead_last}
use Rattle.path_laws.proofs.between.edges_between.Goals as goal

pub ahead-from-requires : goal.ahead-from-requires
ahead-from-requires c = chain_some c.args.graph.now.nodes c.nodes.result.now (c.requires.blocks.are.blocks c.loop-block.block c.nodes.result.now c.nodes.ensures).chain

pub leave-requires-clause-from : goal.leave-requires-clause-from
leave-requires-clause-from c =
    let last = ahead_last c.args.against c.nodes.result.now c.ahead-from.result c.ahead-from.ensures in
    flow_within c.args.against c.args.graph.now.nodes c.nodes.result.now last.0 c.ahead-from.result (c.requires.blocks.are.blocks c.loop-block.block c.nodes.result.now c.nodes.ensures).chain last.1

pub loop-block-preserved : goal.loop-block-preserved
loop-block-preserved c =
    let left = c.in_ok-leave.ensures in
    let many : c.len.result ≡ length c.leave.new.list.items = omega (arith, c.len.ensures, c.leave.new.list.ok.0) in
    between_more c.args.against c.args.graph.now.nodes c.args.blocks.now.lists c.loop-block.block c.ahead-from.result c.loop-block.list.items c.leave.new.list.items left.0 c.loop-block.firsts.items c.push-in-loop-block.new.self.items
    c.loop-block.invariant (record { list = c.nodes.result.now; listed = c.nodes.ensures; ahead = c.ahead-from.ensures }) left.2 left.1 (c.in_ok-push-2.ensures.items ∙ ap (λ (k : ℕ). c.loop-block.firsts.items ++ k ∷ []) many)

pub returns : goal.returns
returns c =
    let late : length c.args.blocks.now.lists ≤ c.loop-block.block = rw c.len-count.ensures at c.loop-block-test.false in
    let most : c.loop-block.block ≤ length c.args.blocks.now.lists = rw c.len-count.ensures at c.loop-block.auto.block-end in
    let all : c.loop-block.block ≡ length c.args.blocks.now.lists = omega (arith, late, most) in
    subst (λ k. AreBetween c.args.against c.args.graph.now.nodes c.args.blocks.now.lists k c.loop-block.list.items c.loop-block.firsts.items) all c.loop-block.invariant
