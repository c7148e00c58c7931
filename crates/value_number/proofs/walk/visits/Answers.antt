use Rattle.std.proofs.Common.{false, subst}
use Rattle.std.proofs.lemmas.List.{take_all}
use Rattle.std.proofs.lemmas.Option.{slice_get-get_or}
use Rattle.value_number.specs.TermWalks.{VisitRoots}
use Rattle.value_number.proofs.Pushes.{roots_more}
use Rattle.value_number.proofs.walk.visits.Goals as goal

pub loop-n-preserved : goal.loop-n-preserved
loop-n-preserved c = roots_more c.args.roots.now c.loop-n.n c.loop-n.steps.items c.visit_root.new.steps.items _ (slice_get-get_or c.args.roots.now c.loop-n.n false c.loop-n-test.true) c.in_ok-visit_root.ensures c.loop-n.invariant

pub returns : goal.returns
returns c = subst (λ l. VisitRoots l c.loop-n.steps.items) (take_all c.loop-n.n c.args.roots.now c.loop-n-test.false) c.loop-n.invariant
