use Rattle.std.proofs.Common.{sym, ◌∙◌, subst}
use Rattle.fix_solve.specs.Order.{IsLeastUpper}
use Rattle.cond_flow.specs.States.{BelowState, Knows, state_where}
use Rattle.cond_flow.proofs.JoinCases.{kept_long, meets_first, meets_known}
use Rattle.cond_flow.proofs.states.BlockState.meet.Goals as goal

pub returns-then-self-clause-joined : goal.returns-then-self-clause-joined
returns-then-self-clause-joined g c =
    let i = c.self.inside in
    let size = kept_long i.reached i.known c.args.self.now c.self.view_is ∙ sym c.requires in
    subst (λ s. IsLeastUpper (BelowState g.K.Knowledge.below) s (Knows c.args.known.now) (state_where i.reached c.join_from.new.self)) c.self.view_is
    (meets_known g.met.K.Knowledge.laws.order i.reached i.known c.args.known.now c.join_from.new.self c.if-self.true size c.join_from.ensures.joined)

pub returns-else-self-clause-joined : goal.returns-else-self-clause-joined
returns-else-self-clause-joined g c =
    let i = c.self.inside in
    let size = kept_long i.reached i.known c.args.self.now c.self.view_is ∙ sym c.requires in
    subst (λ s. IsLeastUpper (BelowState g.K.Knowledge.below) s (Knows c.args.known.now) (Knows c.refill.new.self)) c.self.view_is
    (meets_first g.met.K.Knowledge.laws.order i.reached i.known c.args.known.now c.refill.new.self c.if-self.false size c.refill.ensures)
