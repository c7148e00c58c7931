-- The lines of the expressions of a unit whose divisions move. Cited by contracts.
use Rattle.std.specs.Prelude.{◌≡◌, ℕ, List, ◌++◌, codes, length}
use Rattle.mir_opt.specs.declared.trails.MoveUnit.{MoveUnit}
use Rattle.expression_table.specs.Expressions.{expressions_below}
use Rattle.table_text.specs.Rows.{HaveBit, bits_line, edge_bits_line}
use Rattle.division_table.specs.declared.columns.DelayColumns.{DelayColumns}
use Rattle.division_table.specs.declared.columns.DivisionColumns.{DivisionColumns}
use Rattle.division_table.specs.declared.columns.FlowColumns.{FlowColumns}
use Rattle.division_table.specs.declared.columns.PlacedColumns.{PlacedColumns}
use Rattle.division_table.specs.declared.rows.DivisionRows.{DivisionRows}
use Rattle.division_table.specs.Columns.{AreDivisionColumns}
use Rattle.division_table.specs.Rows.{AreDivisionRows}

-- ---- expressions

-- where it is used and killed, where it is available and anticipatable, and where each run is sure to come to it
abbrev pub flow_lines : FlowColumns → ℕ → List ℕ
flow_lines flow i =
    bits_line flow.uses i (codes "used")
    ++ bits_line flow.kills i (codes "killed")
    ++ bits_line flow.available i (codes "available")
    ++ bits_line flow.anticipatable i (codes "anticipatable")
    ++ bits_line flow.sure i (codes "sure")

-- how far its evaluations can be delayed
abbrev pub delay_lines : DelayColumns → ℕ → List ℕ
delay_lines delays i =
    bits_line delays.earliest i (codes "earliest")
    ++ bits_line delays.delayed i (codes "delayed")
    ++ bits_line delays.latest i (codes "latest")
    ++ bits_line delays.isolated i (codes "isolated")

-- the lazy placement of expression i, and the edges on which its temporary is held
abbrev pub placed_lines : PlacedColumns → ℕ → List ℕ
placed_lines placed i =
    bits_line placed.inserted i (codes "inserted")
    ++ bits_line placed.replaced i (codes "replaced")
    ++ edge_bits_line placed.held i (codes "held")

-- all of its rows
abbrev pub column_lines : DivisionColumns → ℕ → List ℕ
column_lines columns i =
    flow_lines columns.flow i ++ delay_lines columns.delays i ++ placed_lines columns.placed i

-- the lines of all expressions of a unit
abbrev pub lines_of_expressions : MoveUnit → DivisionColumns → List ℕ
lines_of_expressions unit columns =
    expressions_below unit.split.vars unit.moved.vars unit.placement.insert unit.table
    (column_lines columns) (length unit.table)

-- ---- what is found out

-- the columns are those of rows that say of the divisions of a unit what their motion finds out, and of its placement
pub record TellDivisions (unit : MoveUnit) (columns : DivisionColumns) : Type 0 where
  pub rows : DivisionRows
  pub rows_are : AreDivisionRows unit rows
  pub columns_are : AreDivisionColumns unit.placement rows columns

-- the text is that of the divisions of the unit, by columns that say this
pub record IsExpressionsText (unit : MoveUnit) (text : List ℕ) : Type 0 where
  pub columns : DivisionColumns
  pub tell : TellDivisions unit columns
  pub text_is : text ≡ lines_of_expressions unit columns

-- ---- for the functions that write them

-- each row of these has a bit of this number
pub record HaveColumnsBit (columns : DivisionColumns) (bit : ℕ) : Type 0 where
  pub uses : HaveBit columns.flow.uses bit
  pub kills : HaveBit columns.flow.kills bit
  pub available : HaveBit columns.flow.available bit
  pub anticipatable : HaveBit columns.flow.anticipatable bit
  pub sure : HaveBit columns.flow.sure bit
  pub earliest : HaveBit columns.delays.earliest bit
  pub delayed : HaveBit columns.delays.delayed bit
  pub latest : HaveBit columns.delays.latest bit
  pub isolated : HaveBit columns.delays.isolated bit
  pub inserted : HaveBit columns.placed.inserted bit
  pub replaced : HaveBit columns.placed.replaced bit
  pub held : HaveBit columns.placed.held bit
