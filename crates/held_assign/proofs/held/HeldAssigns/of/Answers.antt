use Rattle.std.proofs.Common.{ℕ, List, length, subst}
use Rattle.held_assign.specs.Rows.{AreTargetRows}
use Rattle.held_assign.proofs.Found.{row_tells}
use Rattle.held_assign.proofs.held.HeldAssigns.of.Goals as goal

pub returns-clause-lookup : goal.returns-clause-lookup
returns-clause-lookup g c = record {
  below = λ i a at. (c.in_ok-table.ensures.holdable i a at).below.0;
  targets = subst (λ (l : List (List ℕ)). AreTargetRows (length l) c.in_ok-table.table c.in_ok-targets.targets) c.vars.ensures c.in_ok-targets.ensures;
  rows = c.in_ok-held.ensures.shape;
}

pub returns-clause-tells : goal.returns-clause-tells
returns-clause-tells g c = λ n v n_in.
    row_tells (g.P.Picks.picked c.args.picks.now) c.args.graph.now (length c.args.graph.now.vars) c.in_ok-table.table c.in_ok-held.held c.in_ok-table.ensures.all c.in_ok-table.ensures.holdable c.in_ok-held.ensures n v n_in
