use Rattle.std.proofs.Common.{subst, sym}
use Rattle.motion_rewrite.specs.Expressions.{uses}
use Rattle.motion_rewrite.specs.Rows.{AreRowsOf, AreRowsWhere}
use Rattle.down_safe.specs.Busy.{IsEarliest}
use Rattle.latest_place.proofs.placement.late.Goals as goal

-- the copies are the rows that are given
pub late_rows-requires-clause-used_are : goal.late_rows-requires-clause-used_are
late_rows-requires-clause-used_are g c = subst (AreRowsOf c.args.graph.now c.args.table.now (uses c.args.graph.now)) (sym c.in_ok-used.ensures) c.requires.busy.uses

pub late_rows-requires-clause-earliest_are : goal.late_rows-requires-clause-earliest_are
late_rows-requires-clause-earliest_are g c =
    subst (AreRowsWhere c.args.graph.now c.args.table.now (λ e. IsEarliest c.args.graph.now e (g.R.DownRule.is_down c.args.rule.now c.args.graph.now e))) (sym c.in_ok-earliest.ensures) c.requires.busy.earliest
