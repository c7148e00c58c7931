use Rattle.std.proofs.Common.{◌≡◌, ◌∙◌, pos, refl, sym, ap, slice_index_or, slice_set}
use Rattle.std.proofs.lemmas.List.{set-get_or}
use Rattle.cond_flow.specs.FactLists.{decoded_each}
use Rattle.cond_flow.proofs.FactLaws.{facts_at, joined_self}
use Rattle.cond_flow.proofs.code_joins.join_at.Goals as goal

pub returns-then-is_code-clause-joined : goal.returns-then-is_code-clause-joined
returns-then-is_code-clause-joined g c =
    let d = g.K.Coded.decoded in
    let other = d c.args.kind c.args.number.now in
    let zs = decoded_each d c.args.kinds.now c.args.numbers.now in
    let same : slice_index_or zs c.args.i other ≡ other = facts_at d c.args.kinds.now c.args.numbers.now c.args.i 0 (pos 0) other c.requires.long c.requires.there ∙ c.is_code.ensures c.if-is_code.true in
    sym (set-get_or zs c.args.i other)
    ∙ ap (slice_set zs c.args.i) (same ∙ sym (joined_self g.met.K.Knowledge.laws.order other) ∙ ap (λ k. g.K.Knowledge.rules.joined k other) (sym same))

pub returns-then-is_code-clause-unchanged : goal.returns-then-is_code-clause-unchanged
returns-then-is_code-clause-unchanged g c =
    let d = g.K.Coded.decoded in
    let other = d c.args.kind c.args.number.now in
    let zs = decoded_each d c.args.kinds.now c.args.numbers.now in
    let same : slice_index_or zs c.args.i other ≡ other = facts_at d c.args.kinds.now c.args.numbers.now c.args.i 0 (pos 0) other c.requires.long c.requires.there ∙ c.is_code.ensures c.if-is_code.true in
    (λ _. ap (λ k. g.K.Knowledge.rules.joined k other) same ∙ joined_self g.met.K.Knowledge.laws.order other ∙ sym same, λ _. refl)
