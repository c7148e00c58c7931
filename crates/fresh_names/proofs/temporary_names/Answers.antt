use Rattle.std.proofs.Common.{rules, ◌≡◌, ◌∙◌, ap, sym, true≢false, length, arith}
use Rattle.fresh_names.proofs.FreeNames.{one_more, passed_by}
use Rattle.fresh_names.proofs.temporary_names.Goals as goal
use Rattle.fresh_names.proofs.temporary_names.Goals.{then-not-has+in_ok-push, else-not-has}

pub loop-number-preserved : goal.loop-number-preserved
loop-number-preserved c =
    let number = c.loop-number.number in
    let names = c.loop-number.names.items in
    let name = c.in_ok-name.name in
    let known = c.in_ok-taken.ensures name in
    let counted : c.len.result ≡ length c.loop-number.names.items = search (rules, c.len.ensures) in
    elim c.if-not-has.branch [
      | then-not-has+in_ok-push w ↦ one_more c.args.vars.now c.args.count number names c.if-not-has.names.items name (omega (arith, c.loop-number-test.true)) c.in_ok-name.ensures
          (λ there. true≢false (sym (c.has.ensures.1 (known.1 there)) ∙ w.if-not-has.true))
          (λ same. c.if-len-count.false (counted ∙ same))
          (ap (λ v. v.items) w.names-is ∙ w.in_ok-push.ensures.items) c.loop-number.invariant
      | else-not-has w ↦ passed_by c.args.vars.now c.args.count number names c.if-not-has.names.items name c.in_ok-name.ensures (known.0 (c.has.ensures.0 w.if-not-has.false)) (ap (λ v. v.items) w.names-is) c.loop-number.invariant
    ]
