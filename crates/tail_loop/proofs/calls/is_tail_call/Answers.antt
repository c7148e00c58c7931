use Rattle.std.proofs.Common.{◌∙◌, false, IsTrue, sym}
use Rattle.tail_loop.proofs.Found.{call_next, call_told, none_told}
use Rattle.tail_loop.proofs.calls.is_tail_call.Goals as goal

pub returns_next-requires-clause-node : goal.returns_next-requires-clause-node
returns_next-requires-clause-node c = call_next c.args.shared c.args.nodes.now c.args.unit c.args.n c.in-Some.call c.requires.within c.requires.node (sym c.in-Some.is ∙ c.answered_at.ensures)

pub returns-in-None : goal.returns-in-None
returns-in-None c =
    (λ no_. absurd (no_true no_), λ has. absurd (none_told c.args.shared c.args.nodes.now c.args.unit c.args.n c.requires.node (sym c.in-None.is ∙ c.answered_at.ensures) has))
  where
    no_true : IsTrue false → ⊥
    no_true e = cc

pub returns-in-Some : goal.returns-in-Some
returns-in-Some c =
    let told = call_told c.args.shared c.args.nodes.now c.args.unit c.args.n c.in-Some.call c.requires.node (sym c.in-Some.is ∙ c.answered_at.ensures) in
    (λ holds. told.0 (c.returns_next.ensures.0 holds), λ has. c.returns_next.ensures.1 (told.1 has))
