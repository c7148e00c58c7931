use Rattle.std.proofs.Common.{◌++◌, ◌+◌, ◌-◌, ◌∙◌, ap, sym}
use Rattle.program_pass.specs.Marks.{mark_told}
use Rattle.program_pass.specs.PutLaws.{pushed}
use Rattle.program_pass.specs.Puts.{insertions}
use Rattle.tail_loop.specs.Tails.{cleared}
use Rattle.tail_loop.proofs.Pushed.{cleared_next, cleared_passed}
use Rattle.tail_loop.proofs.looping.push_cleared.Goals as goal
use Rattle.tail_loop.proofs.looping.push_cleared.Goals.{then-not-marked+in_ok-push, else-not-marked}

pub loop-x-preserved : goal.loop-x-preserved
loop-x-preserved c =
    let received = c.args.received.now in
    let x = c.loop-x.x in
    let all = insertions c.args.puts.now.items ++ cleared received c.args.first (c.args.vars - c.args.first) in
    let told = mark_told received c.args.vars c.args.marks.now x c.requires.marks c.loop-x-test.true in
    elim c.if-not-marked.branch [
      | then-not-marked+in_ok-push w ↦
          pushed c.loop-x.puts.items c.if-not-marked.puts.items w.plain_put.result (cleared received x (c.args.vars - x)) (cleared received (x + 1) (c.args.vars - (x + 1))) all (ap (λ v. v.items) w.puts-is ∙ w.in_ok-push.ensures.items)
          (cleared_next received x c.args.vars w.plain_put.result c.loop-x-test.true (sym told ∙ w.if-not-marked.true) w.plain_put.ensures) c.loop-x.invariant
      | else-not-marked w ↦
          ap (λ l. insertions l ++ cleared received (x + 1) (c.args.vars - (x + 1))) (ap (λ v. v.items) w.puts-is)
          ∙ ap (λ l. insertions c.loop-x.puts.items ++ l) (sym (cleared_passed received x c.args.vars c.loop-x-test.true (sym told ∙ w.if-not-marked.false))) ∙ c.loop-x.invariant
    ]
