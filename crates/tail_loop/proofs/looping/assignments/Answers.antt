use Rattle.std.proofs.Common.{◌≤◌, ℕ, List, length, sym, subst}
use Rattle.program_pass.specs.Marks.{AreMarksOf}
use Rattle.tail_loop.proofs.looping.assignments.Goals as goal

pub push_cleared-requires-clause-marks : goal.push_cleared-requires-clause-marks
push_cleared-requires-clause-marks c = subst (AreMarksOf c.received-received.result.now (length c.vars-vars.result.now)) (sym c.as_slice.ensures.value) c.in_ok-marks.ensures

pub push_cleared-requires-clause-first : goal.push_cleared-requires-clause-first
push_cleared-requires-clause-first c = subst (λ (l : List (List ℕ)). c.shared.result ≤ length l) (sym c.vars-vars.ensures) c.shared.ensures.shares.count
