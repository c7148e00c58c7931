use Rattle.std.proofs.Common.{◌≡◌, ◌∙◌, [], ◌∷◌, ◌++◌, append-nil, append_assoc, replicate, pos, sym, ap, arith}
use Rattle.bounds.specs.Edges.{anything}
use Rattle.bounds.specs.declared.facts.Fact.TheVariants.{Fixed}
use Rattle.program_bounds.proofs.Rows.{replicate_more}
use Rattle.program_bounds.proofs.starting.first_facts.Goals as goal

pub loop-preserved : goal.loop-preserved
loop-preserved c = c.in_ok-push.ensures.items ∙ ap (λ k. c.loop.list.items ++ k ∷ []) c.zero.ensures ∙ ap (λ l. l ++ Fixed (pos 0) ∷ []) c.loop.invariant ∙ replicate_more c.loop.counter (Fixed (pos 0))

pub loop-2-init : goal.loop-2-init
loop-2-init c =
    let end : c.loop.counter ≡ c.args.shared = omega (arith, c.loop-test.false, c.loop.auto.counter-end) in
    c.loop.invariant ∙ ap (λ n. replicate n (Fixed (pos 0))) end ∙ sym (append-nil (replicate c.args.shared (Fixed (pos 0))))

pub loop-2-preserved : goal.loop-2-preserved
loop-2-preserved c =
    c.in_ok-push-2.ensures.items ∙ ap (λ k. c.loop-2.list.items ++ k ∷ []) c.top.ensures ∙ ap (λ l. l ++ anything ∷ []) c.loop-2.invariant
    ∙ append_assoc (replicate c.args.shared (Fixed (pos 0))) (replicate c.loop-2.counter anything) (anything ∷ [])
    ∙ ap (λ l. replicate c.args.shared (Fixed (pos 0)) ++ l) (replicate_more c.loop-2.counter anything)

pub returns : goal.returns
returns c =
    let end : c.loop-2.counter ≡ c.args.receives = omega (arith, c.loop-2-test.false, c.loop-2.auto.counter-end) in
    c.in_ok-facts.ensures ∙ c.as_slice.ensures.value ∙ c.loop-2.invariant ∙ ap (λ n. replicate c.args.shared (Fixed (pos 0)) ++ replicate n anything) end
