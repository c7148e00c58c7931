-- What `ranges` writes: of each temporary of code motion how often it is set and read, and on how many edges it is
-- held. Cited by contracts.
use Rattle.std.specs.Prelude.{ℕ, zero, suc, ◌≡◌, Bool, if◌then◌else◌, List, [], ◌∷◌, ◌++◌, codes, decimal, length, slice_get, slice_index_or, Option, None, Some, Vec}
use Rattle.mir_base.specs.declared.instructions.Expr.{Expr}
use Rattle.mir_base.specs.ExpressionVars.{rhs_of}
use Rattle.mir_base.specs.Text.{rhs_text}
use Rattle.flow_graph.specs.Graphs.{GraphShape}
use Rattle.edge_split.specs.Split.{IsEdgeSplit}
use Rattle.motion_rewrite.specs.Temporaries.{has_insertion, temporary}
use Rattle.latest_place.specs.Lazy.{IsLazyPlacement}
use Rattle.live_range.specs.Counts.{rows_with}
use Rattle.live_range.specs.Held.{AreHeldEdges, AreHeldLeast}
use Rattle.mir_opt.specs.declared.trails.MoveUnit.{MoveUnit}
use Rattle.mir_print.specs.Sides.{naming_with}

-- ---- one unit

-- the number of the temporary of expression i
abbrev pub temporary_at : MoveUnit → ℕ → ℕ
temporary_at unit i = temporary (length unit.split.vars) unit.placement.insert i

-- and its name
abbrev pub temporary_of : MoveUnit → ℕ → List ℕ
temporary_of unit i = slice_index_or unit.moved.vars (temporary_at unit i) []

-- a name and an expression over these variables, and behind them three numbers
abbrev pub range_line : List ℕ → List (List ℕ) → Expr → ℕ → ℕ → ℕ → List ℕ
range_line name vars e inserted replaced held =
    name ++ codes " <- " ++ rhs_text (naming_with vars) (rhs_of e)
    ++ (codes " inserted " ++ decimal inserted) ++ (codes " replaced " ++ decimal replaced)
    ++ (codes " held " ++ decimal held) ++ codes "\n"

-- the line of expression i, where it is inserted: its temporary and the expression, before how many nodes it is
-- inserted, how many of its uses are replaced, and on how many edges its temporary is held
abbrev pub line_at : MoveUnit → List (List Bool) → ℕ → Option Expr → List ℕ
line_at unit held i None = []
line_at unit held i (Some e) =
    if has_insertion unit.placement.insert i then
    range_line (temporary_of unit i) unit.split.vars e (rows_with unit.placement.insert i)
    (rows_with unit.placement.replace i) (rows_with held i) else []

-- the lines of the expressions before number n
abbrev pub lines_below : MoveUnit → List (List Bool) → ℕ → List ℕ
lines_below unit held zero = []
lines_below unit held (suc n) =
    lines_below unit held n ++ line_at unit held n (slice_get unit.table n)

-- the text of a unit, by the rows that say where temporaries are held
abbrev pub range_text : MoveUnit → List (List Bool) → List ℕ
range_text unit held =
    codes "unit " ++ unit.split.name ++ codes "\n" ++ lines_below unit held (length unit.table)

-- the text is that of the unit, by the rows that say exactly where its temporaries are held
pub record IsRangeText (unit : MoveUnit) (text : List ℕ) : Type 0 where
  pub held : List (List Bool)
  pub are_held : AreHeldEdges unit.split unit.table unit.placement held
  pub text_is : text ≡ range_text unit held

-- what a linked trail says of the unit: the split graph is that of the clean one, and the placement the lazy one by the
-- rule
pub record IsLazilyPlaced (Down : GraphShape → Expr → ℕ → Type 0) (unit : MoveUnit) : Type 0 where
  pub splits : IsEdgeSplit unit.cleaned unit.split
  pub placed : IsLazyPlacement Down unit.split unit.table unit.placement

-- every placement that is optimal by the rule holds a temporary wherever that of the unit does
abbrev pub UnitHoldsLeast : (GraphShape → Expr → ℕ → Type 0) → MoveUnit → Type 0
UnitHoldsLeast Down unit = AreHeldLeast unit.split unit.table (Down unit.split) unit.placement

-- ---- all units

-- the text is that of each unit in turn
abbrev pub ShowsRanges : List MoveUnit → List ℕ → Type 0
ShowsRanges [] text = text ≡ []
ShowsRanges (unit ∷ units) text =
    (first : List ℕ) × (others : List ℕ) × IsRangeText unit first × ShowsRanges units others
    × (text ≡ first ++ others)

-- ---- for the functions that write them

-- the vector ends as it was with the text of a unit behind
abbrev pub AppendsRange : {A : Type 0} → MoveUnit → Vec ℕ A → Vec ℕ A → Type 0
AppendsRange unit old new = (piece : List ℕ) × IsRangeText unit piece
    × (new.items ≡ old.items ++ piece)

-- and with those of these units in turn
abbrev pub AppendsRanges : {A : Type 0} → List MoveUnit → Vec ℕ A → Vec ℕ A → Type 0
AppendsRanges units old new = (piece : List ℕ) × ShowsRanges units piece
    × (new.items ≡ old.items ++ piece)
