use Rattle.std.proofs.Common.{◌≡◌, ◌↔◌, ◌∙◌, false, sym, ap, subst}
use Rattle.cond_flow.specs.Flows.{net_of}
use Rattle.cond_flow.specs.States.{state_where}
use Rattle.cond_flow.proofs.JoinCases.{kept_long, known_is, known_same}
use Rattle.cond_flow.proofs.PushLaws.{caught_known, joins_known}
use Rattle.cond_flow.proofs.RaisingLaws.{keeps_renewed, keeps_where}
use Rattle.cond_flow.proofs.flow.StateFlowFlow.push_news.Goals as goal

pub returns-then-is_whole-clause-keeps : goal.returns-then-is_whole-clause-keeps
returns-then-is_whole-clause-keeps g c = record {
  along = λ e w h same caught.
      keeps_renewed g.K.Knowledge.rules ((net_of g.K.Knowledge.rules c.args.self.now).transfer e) c.args.into_news.now c.renew_if.new.news c.push-changed.result c.args.into.now c.push-changed.new.into w
      (λ off. c.push-changed.ensures.unchanged.0 off) (λ on. c.renew_if.ensures.all on) (λ off. c.renew_if.ensures.kept off) caught;
}

pub join_news-requires-clause-long : goal.join_news-requires-clause-long
join_news-requires-clause-long g c =
    let f = c.from.inside in
    let i = c.into.inside in
    kept_long f.reached f.known c.args.from.now c.from.view_is ∙ c.requires.from_size ∙ sym c.requires.into_size ∙ sym (kept_long i.reached i.known c.args.into.now c.into.view_is)

pub join_news-requires-clause-fits : goal.join_news-requires-clause-fits
join_news-requires-clause-fits g c =
    let f = c.from.inside in
    kept_long f.reached f.known c.args.from.now c.from.view_is ∙ c.requires.from_size ∙ sym c.requires.room

pub join_news-requires-clause-caught : goal.join_news-requires-clause-caught
join_news-requires-clause-caught g c =
    let f = c.from.inside in
    let i = c.into.inside in
    caught_known ((net_of g.K.Knowledge.rules c.args.self.now).transfer c.args.number) c.args.news.now f.reached i.reached f.known i.known c.args.from.now c.args.into.now (c.is_whole.ensures.from c.if-is_whole.false) (c.is_whole.ensures.into c.if-is_whole.false) c.from.view_is c.into.view_is c.requires.caught

pub returns-else-is_whole-clause-joined : goal.returns-else-is_whole-clause-joined
returns-else-is_whole-clause-joined g c =
    let f = c.from.inside in
    let i = c.into.inside in
    joins_known i.reached i.known c.join_news.new.into c.args.into.now _ _ (c.is_whole.ensures.into c.if-is_whole.false) c.into.view_is
    (ap ((net_of g.K.Knowledge.rules c.args.self.now).transfer c.args.number) (known_is f.reached f.known c.args.from.now (c.is_whole.ensures.from c.if-is_whole.false) c.from.view_is)) c.join_news.ensures.joined

pub returns-else-is_whole-clause-unchanged : goal.returns-else-is_whole-clause-unchanged
returns-else-is_whole-clause-unchanged g c =
    let i = c.into.inside in
    subst (λ s. (c.join_news.result ≡ false) ↔ (state_where i.reached c.join_news.new.into ≡ s)) c.into.view_is (known_same i.reached i.known c.join_news.new.into c.join_news.result (c.is_whole.ensures.into c.if-is_whole.false) c.join_news.ensures.unchanged)

pub returns-else-is_whole-clause-keeps : goal.returns-else-is_whole-clause-keeps
returns-else-is_whole-clause-keeps g c = record {
  along = λ e w h same caught.
      let i = c.into.inside in
      keeps_where g.K.Knowledge.rules ((net_of g.K.Knowledge.rules c.args.self.now).transfer e) c.args.into_news.now c.join_news.new.into_news i.reached i.known c.join_news.new.into c.args.into.now w (c.is_whole.ensures.into c.if-is_whole.false) c.into.view_is c.join_news.ensures.keeps caught;
}

pub returns-else-is_whole-clause-room : goal.returns-else-is_whole-clause-room
returns-else-is_whole-clause-room g c = c.join_news.ensures.room ∙ c.requires.room
