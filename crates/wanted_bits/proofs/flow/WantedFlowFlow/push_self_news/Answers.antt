use Rattle.std.proofs.Common.{◌≡◌, ◌∙◌, ◌++◌, List, ℕ, drop, length, refl, sym, ap, subst, take}
use Rattle.fix_solve.specs.Order.{IsLeastUpper}
use Rattle.wanted_bits.specs.Asking.{asked_by}
use Rattle.wanted_bits.specs.BitsOrder.{BelowLists, HasFew, joined_bits}
use Rattle.wanted_bits.specs.Touching.{IsCaught}
use Rattle.wanted_bits.specs.Walking.{back_in}
use Rattle.wanted_bits.specs.WalkLaws.{asks_few}
use Rattle.wanted_bits.specs.WantedFlows.{list_left, passed_back}
use Rattle.wanted_bits.specs.WantedNet.{capped}
use Rattle.wanted_bits.proofs.Keeping.{keeps_caught}
use Rattle.wanted_bits.proofs.Pushing.{news_few, news_joins}
use Rattle.wanted_bits.proofs.Raising.{written_back}
use Rattle.wanted_bits.proofs.flow.WantedFlowFlow.push_self_news.Given.{Over}
use Rattle.wanted_bits.proofs.flow.WantedFlowFlow.push_self_news.Goals as goal
use Rattle.wanted_bits.proofs.flow.WantedFlowFlow.push_self_news.Goals.{After-join_round}

module _ (g : Over) (c : After-join_round g) where
  -- what is written is the join
  joined : c.join_round.new.bits ≡ joined_bits c.value.inside.bits.items (passed_back c.args.self.now c.args.number c.value.inside.bits.items)
  joined =
      c.join_round.ensures.joined
      ∙ ap (λ (l : List ℕ). joined_bits l (passed_back c.args.self.now c.args.number l)) c.as_mut_slice.ensures.value

  as_long : length c.join_round.new.bits ≡ length c.value.inside.bits.items
  as_long = c.join_round.ensures.keeps.long ∙ ap length c.as_mut_slice.ensures.value

  written : take c.value.inside.bits.len (c.join_round.new.bits ++ drop (length c.join_round.new.bits) c.value.inside.bits.items) ≡ c.join_round.new.bits
  written = written_back c.value.inside.bits.len c.join_round.new.bits c.value.inside.bits.items as_long (sym c.value.inside.bits.ok.0)

pub invariant_of-value : goal.invariant_of-value
invariant_of-value g c =
    let after = (goal.at.invariant_of-value g c).After-join_round in
    let f = c.args.self.now in
    let graph = f.graph.now in
    let bits = c.value.inside.bits.items in (
      subst HasFew (sym (written g after)) (news_few graph (asked_by graph.shared f.around.now) (asks_few graph.shared f.around.now) (back_in f.backs.now) (list_left f c.args.number) bits bits c.join_round.new.bits refl c.value.invariant.0 c.value.invariant.0 (joined g after)),
      c.join_round.ensures.room_few,
      c.join_round.ensures.fits ∙ c.value.invariant.2 ∙ sym (ap length (written g after) ∙ as_long g after),
    )

pub returns-clause-joined : goal.returns-clause-joined
returns-clause-joined g c =
    let after = (goal.at.returns-clause-joined g c).After-join_round in
    let f = c.args.self.now in
    let graph = f.graph.now in
    let bits = c.value.inside.bits.items in
    let new = c.join_round.new.bits in
    subst (λ z. IsLeastUpper BelowLists c.args.value.now (capped (passed_back f c.args.number c.args.value.now)) z) (sym (written g after))
    (subst (λ x. IsLeastUpper BelowLists x (capped (passed_back f c.args.number x)) new) c.value.view_is
    (news_joins graph (asked_by graph.shared f.around.now) (asks_few graph.shared f.around.now) (back_in f.backs.now) (list_left f c.args.number) bits bits new refl c.value.invariant.0 c.value.invariant.0 (joined g after)))

pub returns-clause-keeps : goal.returns-clause-keeps
returns-clause-keeps g c = record {
  along = λ e w h same caught.
      let after = (goal.at.returns-clause-keeps g c).After-join_round in
      let f = c.args.self.now in
      let news = c.join_round.new.news in
      let is_caught = IsCaught f.graph.now (back_in f.backs.now) (list_left f e) in
      subst (λ l. is_caught news l w) (sym (written g after))
      (keeps_caught f.graph.now (back_in f.backs.now) (list_left f e) c.args.news.now news c.as_mut_slice.result.now c.join_round.new.bits w c.join_round.ensures.keeps
      (subst (λ l. is_caught c.args.news.now l w) (sym (c.as_mut_slice.ensures.value ∙ c.value.view_is)) caught));
}
