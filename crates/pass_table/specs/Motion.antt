-- The lines of what code motion finds out. Cited by contracts.
use Rattle.std.specs.Prelude.{◌≡◌, ℕ, List, ◌++◌, codes, length}
use Rattle.expression_table.specs.Expressions.{expressions_below}
use Rattle.motion_rewrite.specs.declared.placement.Placement.{Placement}
use Rattle.motion_rewrite.specs.Expressions.{kills}
use Rattle.motion_rewrite.specs.Placements.{IsAnticipatable}
use Rattle.motion_rewrite.specs.Rows.{AreRowsOf}
use Rattle.down_safe.specs.declared.safety.Busy.{Busy}
use Rattle.down_safe.specs.Busy.{AreBusyRows}
use Rattle.down_safe.specs.BusyPlaces.{placement_of}
use Rattle.latest_place.specs.declared.delays.Late.{Late}
use Rattle.latest_place.specs.Lazy.{AreLateRows}
use Rattle.live_range.specs.Held.{AreHeldEdges}
use Rattle.mir_opt.specs.declared.trails.UnitTrail.{UnitTrail}
use Rattle.pass_table.specs.declared.motion.BoundRows.{BoundRows}
use Rattle.pass_table.specs.declared.motion.BusyRanges.{BusyRanges}
use Rattle.pass_table.specs.declared.motion.MotionRows.{MotionRows}
use Rattle.pass_table.specs.declared.motion.PlaceRows.{PlaceRows}
use Rattle.table_text.specs.Rows.{HaveBit, bits_line, edge_bits_line}

-- ---- expressions

-- where it is used and killed, and where it is safe
abbrev pub safe_lines : MotionRows → ℕ → List ℕ
safe_lines rows i =
    bits_line rows.places.busy.uses i (codes "used")
    ++ bits_line rows.bounds.kills i (codes "killed")
    ++ bits_line rows.places.busy.available i (codes "available")
    ++ bits_line rows.places.busy.anticipatable i (codes "anticipatable")
    ++ bits_line rows.places.busy.earliest i (codes "earliest")

-- how far its evaluations can be delayed
abbrev pub late_lines : Late → ℕ → List ℕ
late_lines late i =
    bits_line late.delayed i (codes "delayed")
    ++ bits_line late.latest i (codes "latest")
    ++ bits_line late.isolated i (codes "isolated")

-- the busy placement of it, which inserts where it is earliest and replaces every use, and the edges on which its
-- temporary lives
abbrev pub busy_lines : PlaceRows → ℕ → List ℕ
busy_lines places i =
    bits_line places.busy.earliest i (codes "busy inserted")
    ++ bits_line places.busy.uses i (codes "busy replaced")
    ++ edge_bits_line places.busy_held.edges i (codes "busy held")

-- the lazy placement of it, and the edges on which its temporary lives
abbrev pub lazy_lines : Placement → MotionRows → ℕ → List ℕ
lazy_lines placement rows i =
    bits_line placement.insert i (codes "inserted")
    ++ bits_line placement.replace i (codes "replaced")
    ++ edge_bits_line rows.bounds.held.edges i (codes "held")

-- all of its rows
abbrev pub motion_lines : Placement → MotionRows → ℕ → List ℕ
motion_lines placement rows i =
    safe_lines rows i ++ late_lines rows.places.late i ++ busy_lines rows.places i
    ++ lazy_lines placement rows i

-- the lines of all expressions of a unit
abbrev pub lines_of_expressions : UnitTrail → MotionRows → List ℕ
lines_of_expressions unit rows =
    expressions_below unit.split.vars unit.moved.vars unit.placement.insert unit.table
    (motion_lines unit.placement rows) (length unit.table)

-- ---- what is found out

-- the rows say of each expression of the split graph where it is used, available, anticipatable, earliest, delayed,
-- latest and isolated, and on which edges the busy placement holds its temporary
pub record ArePlaceRows (unit : UnitTrail) (rows : PlaceRows) : Type 0 where
  pub busy_are : AreBusyRows unit.split unit.table (IsAnticipatable unit.split) rows.busy
  pub late_are : AreLateRows unit.split unit.table (IsAnticipatable unit.split) rows.late
  pub busy_held_are :
      AreHeldEdges unit.split unit.table (placement_of rows.busy) rows.busy_held.edges

-- where it is killed, and on which edges the lazy placement holds its temporary
pub record AreBoundRows (unit : UnitTrail) (rows : BoundRows) : Type 0 where
  pub kills_are : AreRowsOf unit.split unit.table (kills unit.split) rows.kills
  pub held_are : AreHeldEdges unit.split unit.table unit.placement rows.held.edges

-- and all of this
pub record AreMotionRows (unit : UnitTrail) (rows : MotionRows) : Type 0 where
  pub places_are : ArePlaceRows unit rows.places
  pub bounds_are : AreBoundRows unit rows.bounds

-- the text is that of the expressions of the unit, by the rows that say this
pub record IsMotionText (unit : UnitTrail) (text : List ℕ) : Type 0 where
  pub rows : MotionRows
  pub are : AreMotionRows unit rows
  pub text_is : text ≡ lines_of_expressions unit rows

-- ---- for the functions that find and write them

-- the rows of the busy placement, and the edges on which it holds the temporaries
pub record AreBusyRanges (unit : UnitTrail) (ranges : BusyRanges) : Type 0 where
  pub busy_are : AreBusyRows unit.split unit.table (IsAnticipatable unit.split) ranges.busy
  pub held_are : AreHeldEdges unit.split unit.table (placement_of ranges.busy) ranges.held.edges

-- each row of these has a bit of this number
pub record HaveBusyBit (busy : Busy) (bit : ℕ) : Type 0 where
  pub uses : HaveBit busy.uses bit
  pub available : HaveBit busy.available bit
  pub anticipatable : HaveBit busy.anticipatable bit
  pub earliest : HaveBit busy.earliest bit

-- so it is of these
pub record HaveLateBit (late : Late) (bit : ℕ) : Type 0 where
  pub delayed : HaveBit late.delayed bit
  pub latest : HaveBit late.latest bit
  pub isolated : HaveBit late.isolated bit

-- and of all that code motion finds out, and of the placement
pub record HaveMotionBit (placement : Placement) (rows : MotionRows) (bit : ℕ) : Type 0 where
  pub busy : HaveBusyBit rows.places.busy bit
  pub busy_held : HaveBit rows.places.busy_held.edges bit
  pub late : HaveLateBit rows.places.late bit
  pub kills : HaveBit rows.bounds.kills bit
  pub held : HaveBit rows.bounds.held.edges bit
  pub insert : HaveBit placement.insert bit
  pub replace : HaveBit placement.replace bit
