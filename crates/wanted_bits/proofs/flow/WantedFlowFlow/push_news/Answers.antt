use Rattle.std.proofs.Common.{◌≡◌, ◌∙◌, ◌++◌, List, ℕ, drop, length, sym, ap, subst, take}
use Rattle.fix_solve.specs.Order.{IsLeastUpper}
use Rattle.wanted_bits.specs.Asking.{asked_by}
use Rattle.wanted_bits.specs.BitsOrder.{BelowLists, HasFew, joined_bits}
use Rattle.wanted_bits.specs.Touching.{IsCaught}
use Rattle.wanted_bits.specs.Walking.{back_in}
use Rattle.wanted_bits.specs.WalkLaws.{asks_few}
use Rattle.wanted_bits.specs.WantedFlows.{list_left, passed_back}
use Rattle.wanted_bits.specs.WantedNet.{capped}
use Rattle.wanted_bits.proofs.Keeping.{keeps_caught}
use Rattle.wanted_bits.proofs.Pushing.{news_few, news_joins}
use Rattle.wanted_bits.proofs.Raising.{written_back}
use Rattle.wanted_bits.proofs.flow.WantedFlowFlow.push_news.Given.{Over}
use Rattle.wanted_bits.proofs.flow.WantedFlowFlow.push_news.Goals as goal
use Rattle.wanted_bits.proofs.flow.WantedFlowFlow.push_news.Goals.{After-join_news}

pub join_news-requires-clause-long : goal.join_news-requires-clause-long
join_news-requires-clause-long g c =
    ap length (c.as_mut_slice.ensures.value ∙ c.into.view_is) ∙ c.requires.into_size ∙ sym (ap length (c.as_slice.ensures.value ∙ c.from.view_is) ∙ c.requires.from_size)

module _ (g : Over) (c : After-join_news g) where
  -- there are equally many numbers
  long : length c.from.inside.bits.items ≡ length c.into.inside.bits.items
  long = ap length c.from.view_is ∙ c.requires.from_size ∙ sym (ap length c.into.view_is ∙ c.requires.into_size)

  -- what is written is the join
  joined : c.join_news.new.bits ≡ joined_bits c.into.inside.bits.items (passed_back c.args.self.now c.args.number c.from.inside.bits.items)
  joined =
      c.join_news.ensures.joined ∙ ap (λ (l : List ℕ). joined_bits l (passed_back c.args.self.now c.args.number c.as_slice.result.now)) c.as_mut_slice.ensures.value
      ∙ ap (λ (l : List ℕ). joined_bits c.into.inside.bits.items (passed_back c.args.self.now c.args.number l)) c.as_slice.ensures.value

  as_long : length c.join_news.new.bits ≡ length c.into.inside.bits.items
  as_long = c.join_news.ensures.keeps.long ∙ ap length c.as_mut_slice.ensures.value

  written : take c.into.inside.bits.len (c.join_news.new.bits ++ drop (length c.join_news.new.bits) c.into.inside.bits.items) ≡ c.join_news.new.bits
  written = written_back c.into.inside.bits.len c.join_news.new.bits c.into.inside.bits.items as_long (sym c.into.inside.bits.ok.0)

pub invariant_of-into : goal.invariant_of-into
invariant_of-into g c =
    let after = (goal.at.invariant_of-into g c).After-join_news in
    let f = c.args.self.now in
    let graph = f.graph.now in (
      subst HasFew (sym (written g after)) (news_few graph (asked_by graph.shared f.around.now) (asks_few graph.shared f.around.now) (back_in f.backs.now) (list_left f c.args.number) c.from.inside.bits.items c.into.inside.bits.items c.join_news.new.bits (long g after) c.from.invariant.0 c.into.invariant.0 (joined g after)),
      c.join_news.ensures.room_few,
      c.join_news.ensures.fits ∙ c.into.invariant.2 ∙ sym (ap length (written g after) ∙ as_long g after),
    )

pub returns-clause-joined : goal.returns-clause-joined
returns-clause-joined g c =
    let after = (goal.at.returns-clause-joined g c).After-join_news in
    let f = c.args.self.now in
    let graph = f.graph.now in
    let new = c.join_news.new.bits in
    subst (λ z. IsLeastUpper BelowLists c.args.into.now (capped (passed_back f c.args.number c.args.from.now)) z) (sym (written g after))
    (subst (λ y. IsLeastUpper BelowLists c.args.into.now (capped (passed_back f c.args.number y)) new) c.from.view_is
    (subst (λ x. IsLeastUpper BelowLists x (capped (passed_back f c.args.number c.from.inside.bits.items)) new) c.into.view_is
    (news_joins graph (asked_by graph.shared f.around.now) (asks_few graph.shared f.around.now) (back_in f.backs.now) (list_left f c.args.number) c.from.inside.bits.items c.into.inside.bits.items new (long g after) c.from.invariant.0 c.into.invariant.0 (joined g after))))

pub returns-clause-keeps : goal.returns-clause-keeps
returns-clause-keeps g c = record {
  along = λ e w h same caught.
      let after = (goal.at.returns-clause-keeps g c).After-join_news in
      let f = c.args.self.now in
      let news = c.join_news.new.bits_news in
      let is_caught = IsCaught f.graph.now (back_in f.backs.now) (list_left f e) in
      subst (λ l. is_caught news l w) (sym (written g after))
      (keeps_caught f.graph.now (back_in f.backs.now) (list_left f e) c.args.into_news.now news c.as_mut_slice.result.now c.join_news.new.bits w c.join_news.ensures.keeps
      (subst (λ l. is_caught c.args.into_news.now l w) (sym (c.as_mut_slice.ensures.value ∙ c.into.view_is)) caught));
}
