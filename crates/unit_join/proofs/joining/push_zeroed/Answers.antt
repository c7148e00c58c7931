use Rattle.std.proofs.Common.{ℕ, ◌++◌, ◌+◌, ◌-◌, ◌∙◌, pos, ap, sym}
use Rattle.mir_base.specs.declared.instructions.Operand.TheVariants.{Const}
use Rattle.mir_base.specs.declared.instructions.Rhs.TheVariants.{Plain}
use Rattle.program_pass.specs.Marks.{mark_told}
use Rattle.program_pass.specs.PutLaws.{pushed}
use Rattle.program_pass.specs.Puts.{insertions}
use Rattle.unit_join.specs.Joins.{copy_number, zeroed}
use Rattle.unit_join.proofs.Pushed.{zeroed_next, zeroed_passed}
use Rattle.unit_join.proofs.joining.push_zeroed.Goals as goal
use Rattle.unit_join.proofs.joining.push_zeroed.Goals.{then-not-marked+in_ok-copy+in_ok-push, else-not-marked}

pub loop-x-preserved : goal.loop-x-preserved
loop-x-preserved c =
    let received = c.args.received.now in
    let copy : ℕ → ℕ = copy_number c.args.to.shared c.args.to.base in
    let x = c.loop-x.x in
    let all = insertions c.args.puts.now.items ++ zeroed copy received c.args.first (c.args.vars - c.args.first) in
    let told = mark_told received c.args.vars c.args.marks.now x c.requires.marks c.loop-x-test.true in
    elim c.if-not-marked.branch [
      | then-not-marked+in_ok-copy+in_ok-push w ↦
          pushed c.loop-x.puts.items c.if-not-marked.puts.items w.plain_put.result (zeroed copy received x (c.args.vars - x)) (zeroed copy received (x + 1) (c.args.vars - (x + 1))) all
          (ap (λ v. v.items) w.puts-is ∙ w.in_ok-push.ensures.items)
          (zeroed_next copy received x c.args.vars w.plain_put.result c.loop-x-test.true (sym told ∙ w.if-not-marked.true) (w.plain_put.ensures ∙ ap (λ n. record { var = n; rhs = Plain (Const (pos 0)) }) w.in_ok-copy.ensures)) c.loop-x.invariant
      | else-not-marked w ↦
          ap (λ l. insertions l ++ zeroed copy received (x + 1) (c.args.vars - (x + 1))) (ap (λ v. v.items) w.puts-is)
          ∙ ap (λ l. insertions c.loop-x.puts.items ++ l) (sym (zeroed_passed copy received x c.args.vars c.loop-x-test.true (sym told ∙ w.if-not-marked.false))) ∙ c.loop-x.invariant
    ]
