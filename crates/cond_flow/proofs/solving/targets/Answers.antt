use Rattle.std.proofs.Common.{◌-◌, ◌<◌, ◌∙◌, ◌++◌, ◌∷◌, ℕ, [], List, length, sym, ap, subst, arith}
use Rattle.std.proofs.lemmas.Option.{get_or_from_slice_get}
use Rattle.cond_flow.specs.Blockwise.{last_of}
use Rattle.flow_graph.specs.BlockLaws.{chain_some}
use Rattle.cond_flow.proofs.Steps.{chain_at}
use Rattle.cond_flow.proofs.Targets.{targets_more}
use Rattle.cond_flow.proofs.solving.targets.Goals as goal

pub last-last-requires : goal.last-last-requires
last-last-requires c = chain_some c.args.graph.now.nodes c.nodes.result.now (c.requires.are.blocks c.loop-block.block c.nodes.result.now c.nodes.ensures).chain

pub target-taken-requires-clause-there : goal.target-taken-requires-clause-there
target-taken-requires-clause-there c =
    let block = c.requires.are.blocks c.loop-block.block c.nodes.result.now c.nodes.ensures in
    let some = chain_some c.args.graph.now.nodes c.nodes.result.now block.chain in
    subst (λ n. n < length c.args.graph.now.nodes) (sym c.last-last.ensures) (chain_at c.args.graph.now.nodes c.nodes.result.now (length c.nodes.result.now - 1) block.chain (omega (arith, some)))

pub target-other-requires-clause-there : goal.target-other-requires-clause-there
target-other-requires-clause-there c =
    let block = c.requires.are.blocks c.loop-block.block c.nodes.result.now c.nodes.ensures in
    let some = chain_some c.args.graph.now.nodes c.nodes.result.now block.chain in
    subst (λ n. n < length c.args.graph.now.nodes) (sym c.last-last.ensures) (chain_at c.args.graph.now.nodes c.nodes.result.now (length c.nodes.result.now - 1) block.chain (omega (arith, some)))

pub loop-block-preserved : goal.loop-block-preserved
loop-block-preserved c =
    targets_more c.args.graph.now.nodes c.args.blocks.now.lists c.loop-block.block c.last-last.result c.target-taken.result c.target-other.result c.loop-block.targets.items c.push-in-loop-block.new.self.items c.loop-block.invariant
    (ap last_of (get_or_from_slice_get c.args.blocks.now.lists c.loop-block.block c.nodes.result.now [] c.nodes.ensures) ∙ sym c.last-last.ensures) c.target-taken.ensures c.target-other.ensures
    (c.in_ok-push-2.ensures.items ∙ ap (λ (l : List ℕ). l ++ c.target-other.result ∷ []) c.in_ok-push.ensures.items)
