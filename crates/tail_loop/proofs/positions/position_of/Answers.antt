use Rattle.std.proofs.Common.{◌≡◌, ◌∙◌, Some, ap, length, refl, slice_get, subst, sym, true≢false}
use Rattle.std.proofs.lemmas.Option.{slice_get_read}
use Rattle.tail_loop.specs.Positions.{HasPosition, called_at}
use Rattle.tail_loop.proofs.PositionsTold.{other_told}
use Rattle.tail_loop.proofs.positions.position_of.Goals as goal

-- a call that is not in tail position
pub returns-else-is_tail_call : goal.returns-else-is_tail_call
returns-else-is_tail_call c =
    let nodes = c.args.nodes.now in
    let n = c.args.n in
    let node = c.index-nodes-n.result in
    let here : slice_get nodes n ≡ Some node = slice_get_read nodes (length nodes) n node refl c.requires.node c.index-nodes-n.is in
    subst (HasPosition c.args.shared nodes c.args.unit n c.args.called) (sym c.other_position.ensures)
    (other_told c.args.shared nodes c.args.unit n c.args.called c.args.ends.now node c.requires.within c.requires.ends here (sym (ap called_at here) ∙ c.requires.calls)
    (λ has. true≢false (sym (c.is_tail_call.ensures.1 has) ∙ c.if-is_tail_call.false)))
