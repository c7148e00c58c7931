-- What the motion of divisions finds out has a bit for each expression.
use Rattle.std.proofs.Common.{◌≡◌, ℕ, ◌<◌, Bool, List, length, sym, subst}
use Rattle.path_laws.specs.Paths.{AreRows}
use Rattle.mir_opt.specs.declared.trails.MoveUnit.{MoveUnit}
use Rattle.table_text.specs.Rows.{HaveBit}
use Rattle.division_table.specs.declared.columns.DivisionColumns.{DivisionColumns}
use Rattle.division_table.specs.Expressions.{HaveColumnsBit, TellDivisions}
use Rattle.division_table.specs.Rows.{IsUnitDivision}

-- rows of a shape have the bits below it, and so have columns that are these rows
has_bit : (count bits : ℕ) (rows columns : List (List Bool)) (bit : ℕ) → columns ≡ rows → AreRows count bits rows → bit < bits → HaveBit columns bit
has_bit count bits rows columns bit are shape lt =
    subst (λ (l : List (List Bool)). HaveBit l bit) (sym are) (λ n within. subst (λ k. bit < k) (sym (shape.each n (subst (λ k. n < k) shape.len within))) lt)

-- rows of a shape are of as many rows as there are
pub own_count : (count bits : ℕ) (rows : List (List Bool)) → AreRows count bits rows → AreRows (length rows) bits rows
own_count count bits rows shape = subst (λ n. AreRows n bits rows) (sym shape.len) shape

-- each column has the bits of the expressions
pub column_bits : (unit : MoveUnit) (columns : DivisionColumns) (i : ℕ) → IsUnitDivision unit → TellDivisions unit columns → i < length unit.table → HaveColumnsBit columns i
column_bits unit columns i division tell low =
    let busy = tell.rows_are.sure_are.busy_are in
    let late = tell.rows_are.sure_are.late_are in
    let bounds = tell.rows_are.bounds_are in
    let flow = tell.columns_are.flow_are in
    let delays = tell.columns_are.delays_are in
    let placed = tell.columns_are.placed_are in
    record {
      uses = has_bit _ _ tell.rows.sure.busy.uses columns.flow.uses i flow.uses_are busy.uses.shape low;
      kills = has_bit _ _ tell.rows.bounds.kills columns.flow.kills i flow.kills_are bounds.kills_are.shape low;
      available = has_bit _ _ tell.rows.sure.busy.available columns.flow.available i flow.available_are busy.available.shape low;
      anticipatable = has_bit _ _ tell.rows.bounds.anticipatable columns.flow.anticipatable i flow.anticipatable_are bounds.anticipatable_are.shape low;
      sure = has_bit _ _ tell.rows.sure.busy.anticipatable columns.flow.sure i flow.sure_are busy.anticipatable.shape low;
      earliest = has_bit _ _ tell.rows.sure.busy.earliest columns.delays.earliest i delays.earliest_are busy.earliest.shape low;
      delayed = has_bit _ _ tell.rows.sure.late.delayed columns.delays.delayed i delays.delayed_are late.delayed.shape low;
      latest = has_bit _ _ tell.rows.sure.late.latest columns.delays.latest i delays.latest_are late.latest.shape low;
      isolated = has_bit _ _ tell.rows.sure.late.isolated columns.delays.isolated i delays.isolated_are late.isolated.shape low;
      inserted = has_bit _ _ unit.placement.insert columns.placed.inserted i placed.inserted_are division.placed.insert_rows low;
      replaced = has_bit _ _ unit.placement.replace columns.placed.replaced i placed.replaced_are division.placed.replace_rows low;
      held = has_bit _ _ tell.rows.sure.held.edges columns.placed.held i placed.held_are tell.rows_are.sure_are.held_are.shape low;
    }
