use Rattle.std.proofs.Common.{◌≡◌, ◌↔◌, ◌∙◌, false, sym, ap, subst}
use Rattle.cond_flow.specs.Flows.{net_of}
use Rattle.cond_flow.specs.States.{state_where}
use Rattle.cond_flow.proofs.JoinCases.{kept_long, known_is, known_same}
use Rattle.cond_flow.proofs.PushLaws.{caught_known, joins_known}
use Rattle.cond_flow.proofs.RaisingLaws.{keeps_renewed, keeps_where}
use Rattle.cond_flow.proofs.flow.StateFlowFlow.push_self_news.Goals as goal

pub returns-then-is_whole-clause-keeps : goal.returns-then-is_whole-clause-keeps
returns-then-is_whole-clause-keeps g c = record {
  along = λ e w h same caught.
      keeps_renewed g.K.Knowledge.rules ((net_of g.K.Knowledge.rules c.args.self.now).transfer e) c.args.news.now c.renew_if.new.news c.push_self-changed.result c.args.value.now c.push_self-changed.new.value w
      (λ off. c.push_self-changed.ensures.unchanged.0 off) (λ on. c.renew_if.ensures.all on) (λ off. c.renew_if.ensures.kept off) caught;
}

pub join_round-requires-clause-caught : goal.join_round-requires-clause-caught
join_round-requires-clause-caught g c =
    let i = c.value.inside in
    caught_known ((net_of g.K.Knowledge.rules c.args.self.now).transfer c.args.number) c.args.news.now i.reached i.reached i.known i.known c.args.value.now c.args.value.now (c.is_whole.ensures.into c.if-is_whole.false) (c.is_whole.ensures.into c.if-is_whole.false) c.value.view_is c.value.view_is c.requires.caught

pub returns-else-is_whole-clause-joined : goal.returns-else-is_whole-clause-joined
returns-else-is_whole-clause-joined g c =
    let i = c.value.inside in
    joins_known i.reached i.known c.join_round.new.known c.args.value.now _ _ (c.is_whole.ensures.into c.if-is_whole.false) c.value.view_is
    (ap ((net_of g.K.Knowledge.rules c.args.self.now).transfer c.args.number) (known_is i.reached i.known c.args.value.now (c.is_whole.ensures.into c.if-is_whole.false) c.value.view_is)) c.join_round.ensures.joined

pub returns-else-is_whole-clause-unchanged : goal.returns-else-is_whole-clause-unchanged
returns-else-is_whole-clause-unchanged g c =
    let i = c.value.inside in
    subst (λ s. (c.join_round.result ≡ false) ↔ (state_where i.reached c.join_round.new.known ≡ s)) c.value.view_is (known_same i.reached i.known c.join_round.new.known c.join_round.result (c.is_whole.ensures.into c.if-is_whole.false) c.join_round.ensures.unchanged)

pub returns-else-is_whole-clause-keeps : goal.returns-else-is_whole-clause-keeps
returns-else-is_whole-clause-keeps g c = record {
  along = λ e w h same caught.
      let i = c.value.inside in
      keeps_where g.K.Knowledge.rules ((net_of g.K.Knowledge.rules c.args.self.now).transfer e) c.args.news.now c.join_round.new.news i.reached i.known c.join_round.new.known c.args.value.now w (c.is_whole.ensures.into c.if-is_whole.false) c.value.view_is c.join_round.ensures.keeps caught;
}

pub join_round-requires-clause-fits : goal.join_round-requires-clause-fits
join_round-requires-clause-fits g c =
    let i = c.value.inside in
    kept_long i.reached i.known c.args.value.now c.value.view_is ∙ c.requires.size ∙ sym c.requires.room

pub returns-else-is_whole-clause-room : goal.returns-else-is_whole-clause-room
returns-else-is_whole-clause-room g c = c.join_round.ensures.room ∙ c.requires.room
