use Rattle.std.proofs.Common.{◌≡◌, ◌++◌, ◌∙◌, List, ap, length, refl, subst, sym}
use Rattle.flow_graph.specs.declared.nodes.Node.{Node}
use Rattle.pass_table.specs.Rounds.{became_skip, dead_line}
use Rattle.pass_table.proofs.RoundLaws.{pruned_long, skips_dead}
use Rattle.pass_table.proofs.rounds.put_dead.Goals as goal

pub put_dead_line-requires : goal.put_dead_line-requires
put_dead_line-requires c = ap length c.nodes-2.ensures.value ∙ pruned_long c.args.graph.now c.args.pruned.now c.requires ∙ sym (ap length c.nodes.ensures.value)

-- the nodes that became Skips are the dead assignments
pub returns : goal.returns
returns c =
    let graph = c.args.graph.now in
    let pruned = c.args.pruned.now in
    let old = c.args.text.now in
    let new = c.put_dead_line.new.text in
    let appended = subst (λ (l : List Node). new.items ≡ old.items ++ dead_line (became_skip l pruned.nodes) (length l)) c.nodes.ensures.value
    (subst (λ (l : List Node). new.items ≡ old.items ++ dead_line (became_skip c.nodes.result.now l) (length c.nodes.result.now)) c.nodes-2.ensures.value c.in_ok-put_dead_line.ensures) in
    (dead_line (became_skip graph.nodes pruned.nodes) (length graph.nodes), record { dead = became_skip graph.nodes pruned.nodes; dead_are = λ n lt. skips_dead graph pruned c.requires n lt; text_is = refl }, appended)
