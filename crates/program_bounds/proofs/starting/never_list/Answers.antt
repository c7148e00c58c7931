use Rattle.std.proofs.Common.{◌≡◌, ◌∙◌, ◌+◌, [], ◌∷◌, ◌++◌, replicate, ap, arith}
use Rattle.bounds.specs.declared.facts.Fact.TheVariants.{Never}
use Rattle.program_bounds.proofs.Rows.{replicate_more}
use Rattle.program_bounds.proofs.starting.never_list.Goals as goal

pub loop-preserved : goal.loop-preserved
loop-preserved c = c.in_ok-push.ensures.items ∙ ap (λ l. l ++ Never ∷ []) c.loop.invariant ∙ replicate_more c.loop.counter Never

pub loop-2-init : goal.loop-2-init
loop-2-init c =
    let end : c.loop.counter ≡ c.args.first + 0 = omega (arith, c.loop-test.false, c.loop.auto.counter-end) in
    c.loop.invariant ∙ ap (λ n. replicate n Never) end

pub loop-2-preserved : goal.loop-2-preserved
loop-2-preserved c =
    let more : c.args.first + c.loop-2.counter + 1 ≡ c.args.first + (c.loop-2.counter + 1) = omega arith in
    c.in_ok-push-2.ensures.items ∙ ap (λ l. l ++ Never ∷ []) c.loop-2.invariant ∙ replicate_more (c.args.first + c.loop-2.counter) Never ∙ ap (λ n. replicate n Never) more

pub returns : goal.returns
returns c =
    let end : c.args.first + c.loop-2.counter ≡ c.args.first + c.args.more = omega (arith, c.loop-2-test.false, c.loop-2.auto.counter-end) in
    c.loop-2.invariant ∙ ap (λ n. replicate n Never) end
