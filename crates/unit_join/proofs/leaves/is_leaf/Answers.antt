use Rattle.std.proofs.Common.{◌≡◌, ◌∙◌, ◌≤◌, length, ap, sym, subst}
use Rattle.unit_join.specs.JoinPrograms.{calls_none}
use Rattle.unit_join.proofs.Pushed.{no_call_none, none_call}
use Rattle.unit_join.proofs.leaves.is_leaf.Goals as goal

pub returns-then-is_short : goal.returns-then-is_short
returns-then-is_short c =
    let body = c.args.unit.now.body in
    let told : c.calls_none.result ≡ calls_none body = c.calls_none.ensures ∙ ap calls_none c.insts-then-is_short.ensures.value in
    let short = subst (λ l. length l ≤ 32) c.insts.ensures.value (c.is_short.ensures.0 c.if-is_short.true) in (
      λ none. record { short = short; no_calls = none_call body (sym told ∙ none) },
      λ is. told ∙ no_call_none body is.no_calls,
    )
