use Rattle.std.proofs.Common.{get_or, pos, refl, sym, ◌∙◌, arith}
use Rattle.cond_flow.specs.FactLists.{decoded_each}
use Rattle.cond_flow.proofs.FactLaws.{facts_at, length_facts}
use Rattle.cond_flow.proofs.RaisingLaws.{keeps_more, keeps_none, raise_absent, raise_joined, stays_where, tells_joined}
use Rattle.cond_flow.proofs.code_joins.raise_at.Goals as goal

pub returns-then-x-kinds-clause-raised : goal.returns-then-x-kinds-clause-raised
returns-then-x-kinds-clause-raised g c =
    let laws = g.met.K.Knowledge.laws in
    let r = g.K.Knowledge.rules in
    let d = g.K.Coded.decoded in
    let xs = length_facts d c.args.kinds.now c.args.numbers.now c.requires.long in
    let other = d (get_or c.args.other_kinds.now c.args.x 0) (get_or c.args.other_numbers.now c.args.x (pos 0)) in
    let there = facts_at d c.args.other_kinds.now c.args.other_numbers.now c.args.x 0 (pos 0) r.top (c.requires.other_long ∙ sym c.requires.other) (omega (arith, c.if-x-kinds.true, c.requires.other)) in
    raise_joined laws.order laws.rising c.args.x (decoded_each d c.args.other_kinds.now c.args.other_numbers.now) (decoded_each d c.args.kinds.now c.args.numbers.now) _ other _ (omega (arith, c.if-x-kinds.true, xs))
    (sym there) refl c.join_one.ensures.joined

pub returns-then-x-kinds-clause-unchanged : goal.returns-then-x-kinds-clause-unchanged
returns-then-x-kinds-clause-unchanged g c =
    let laws = g.met.K.Knowledge.laws in
    let d = g.K.Coded.decoded in
    let xs = length_facts d c.args.kinds.now c.args.numbers.now c.requires.long in
    tells_joined laws.order laws.rising (decoded_each d c.args.kinds.now c.args.numbers.now) _ c.join_one.result c.args.x _ (d (get_or c.args.other_kinds.now c.args.x 0) (get_or c.args.other_numbers.now c.args.x (pos 0))) (omega (arith, c.if-x-kinds.true, xs)) c.join_one.ensures.joined c.join_one.ensures.unchanged

pub returns-then-x-kinds-clause-keeps : goal.returns-then-x-kinds-clause-keeps
returns-then-x-kinds-clause-keeps g c =
    let r = g.K.Knowledge.rules in
    let d = g.K.Coded.decoded in
    let ys = decoded_each d c.args.kinds.now c.args.numbers.now in
    keeps_more r c.args.news.now c.args.news.now c.join_one.new.news ys ys _ c.join_one.result c.args.x _ (keeps_none r c.args.news.now ys) c.join_one.ensures.noted c.join_one.ensures.joined
    (stays_where r ys _ c.args.x _ (d (get_or c.args.other_kinds.now c.args.x 0) (get_or c.args.other_numbers.now c.args.x (pos 0))) c.join_one.result c.join_one.ensures.joined c.join_one.ensures.unchanged)

pub returns-else-x-kinds-clause-raised : goal.returns-else-x-kinds-clause-raised
returns-else-x-kinds-clause-raised g c =
    let laws = g.met.K.Knowledge.laws in
    let d = g.K.Coded.decoded in
    let xs = length_facts d c.args.kinds.now c.args.numbers.now c.requires.long in
    let ys = length_facts d c.args.other_kinds.now c.args.other_numbers.now (c.requires.other_long ∙ sym c.requires.other) in
    raise_absent laws.order laws.rising c.args.x _ _ (omega (arith, c.if-x-kinds.false, xs)) (ys ∙ c.requires.other ∙ sym xs)

pub returns-else-x-kinds-clause-keeps : goal.returns-else-x-kinds-clause-keeps
returns-else-x-kinds-clause-keeps g c = keeps_none g.K.Knowledge.rules _ _
