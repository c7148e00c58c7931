use Rattle.std.proofs.Common.{◌≡◌, ◌∙◌, true, false, pos, refl, sym, ap, slice_index_or, slice_set, to_z-of_z, w64}
use Rattle.std.proofs.lemmas.List.{set-get_or}
use Rattle.cond_flow.specs.FactLists.{decoded_each, joined_code}
use Rattle.cond_flow.proofs.FactLaws.{facts_at, facts_set}
use Rattle.cond_flow.proofs.code_joins.join_decoded.Goals as goal
use Rattle.cond_flow.proofs.code_joins.join_decoded.Goals.{After-is_same}
use Rattle.cond_flow.proofs.code_joins.join_decoded.Given.{Over}

-- what the code stands for, by what is read
other_is : (g : Over) (c : After-is_same g) → c.of_code.result ≡ g.K.Coded.decoded c.args.kind c.args.number.now
other_is g c = c.of_code.ensures

-- what is known of the variable
before_is : (g : Over) (c : After-is_same g) → c.of_code-before.result ≡ slice_index_or (decoded_each g.K.Coded.decoded c.args.kinds.now c.args.numbers.now) c.args.i (g.K.Coded.decoded c.args.kind c.args.number.now)
before_is g c =
    c.of_code-before.ensures ∙ sym (facts_at g.K.Coded.decoded c.args.kinds.now c.args.numbers.now c.args.i 0 (pos 0) _ c.requires.long c.requires.there)

-- and where the paths meet
after_is : (g : Over) (c : After-is_same g) → c.joined-after.result ≡ joined_code g.K.Knowledge.rules g.K.Coded.decoded c.args.kinds.now c.args.numbers.now c.args.i c.args.kind c.args.number.now
after_is g c =
    c.joined-after.ensures ∙ ap (λ k. g.K.Knowledge.rules.joined k c.of_code.result) (before_is g c)
    ∙ ap (g.K.Knowledge.rules.joined (slice_index_or (decoded_each g.K.Coded.decoded c.args.kinds.now c.args.numbers.now) c.args.i (g.K.Coded.decoded c.args.kind c.args.number.now))) (other_is g c)

pub returns-then-is_same-clause-joined : goal.returns-then-is_same-clause-joined
returns-then-is_same-clause-joined g c =
    let at = (goal.at.returns-then-is_same-clause-joined g c).After-is_same in
    let zs = decoded_each g.K.Coded.decoded c.args.kinds.now c.args.numbers.now in
    sym (set-get_or zs c.args.i _) ∙ ap (slice_set zs c.args.i) (sym (before_is g at) ∙ sym (c.is_same.ensures.same c.if-is_same.true) ∙ after_is g at)

pub returns-then-is_same-clause-unchanged : goal.returns-then-is_same-clause-unchanged
returns-then-is_same-clause-unchanged g c =
    let at = (goal.at.returns-then-is_same-clause-unchanged g c).After-is_same in
    (λ _. sym (after_is g at) ∙ c.is_same.ensures.same c.if-is_same.true ∙ before_is g at, λ _. refl)

pub returns-else-is_same-clause-joined : goal.returns-else-is_same-clause-joined
returns-else-is_same-clause-joined g c =
    let at = (goal.at.returns-else-is_same-clause-joined g c).After-is_same in
    let d = g.K.Coded.decoded in
    let ks = c.args.kinds.now in
    let ns = c.args.numbers.now in
    let i = c.args.i in
    let k = g.K.Coded.kind_of c.joined-after.result in
    let v = g.K.Coded.number_of c.joined-after.result in
    ap (λ l. decoded_each d l c.put_code.new.numbers) (c.put_code.ensures.kinds ∙ ap (slice_set ks i) c.kind.ensures)
    ∙ ap (decoded_each d (slice_set ks i k)) (c.put_code.ensures.numbers ∙ ap (slice_set ns i) (to_z-of_z {w = w64} (record { sfits = c.number.type_inv }) ∙ c.number.ensures))
    ∙ facts_set d ks ns i k v c.requires.long ∙ ap (slice_set (decoded_each d ks ns) i) (g.met.K.Coded.stands c.joined-after.result ∙ after_is g at)

pub returns-else-is_same-clause-unchanged : goal.returns-else-is_same-clause-unchanged
returns-else-is_same-clause-unchanged g c =
    let at = (goal.at.returns-else-is_same-clause-unchanged g c).After-is_same in (
      λ off. absurd (let bad : true ≡ false = off in cc),
      λ same. (let yes : c.is_same.result ≡ true = c.is_same.ensures.differ (after_is g at ∙ same ∙ sym (before_is g at)) in absurd (let bad : true ≡ false = sym yes ∙ c.if-is_same.false in cc)),
    )
