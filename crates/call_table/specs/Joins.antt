-- The text of the tables of joined leaves. Cited by contracts, those of the crates above too.
use Rattle.std.specs.Prelude.{◌≡◌, ℕ, zero, suc, Bool, if◌then◌else◌, nat_lt, List, [], ◌++◌, codes, decimal, length, slice_get, Option, Some, None}
use Rattle.mir_base.specs.Limits.{most_insts}
use Rattle.mir_base.specs.Shapes.{ProgramShape, UnitShape}
use Rattle.flow_graph.specs.declared.nodes.Node.{Node}
use Rattle.flow_graph.specs.declared.nodes.Node.TheVariants.{Call}
use Rattle.flow_graph.specs.Graphs.{GraphShape}
use Rattle.table_text.specs.Lines.{field, name_field, names_of_units}
use Rattle.table_text.specs.Steps.{steps_text}
use Rattle.table_text.specs.Turns.{InTurn}
use Rattle.unit_join.specs.declared.leaf_tests.LeafTest.{LeafTest}
use Rattle.unit_join.specs.declared.steps.JoinSteps.{JoinSteps}
use Rattle.unit_join.specs.Joins.{AreLeavesOf, leaf_at}
use Rattle.unit_join.specs.JoinSteps.{IsJoinMade}
use Rattle.unit_join.specs.LeafTests.{IsLeafTest}

-- ---- leaves

-- which unit is called first, and this text where none is
abbrev pub first_called_text : List (List ℕ) → List ℕ → Option ℕ → List ℕ
first_called_text names none None = none
first_called_text names none (Some unit) = codes " calls" ++ name_field names unit

-- that a unit is a leaf, or why it is none: it is long, or calls this unit first
abbrev pub why_text : List (List ℕ) → Bool → Option ℕ → List ℕ
why_text names long calls =
    if long then field (codes "long") ++ first_called_text names [] calls
    else first_called_text names (codes " leaf") calls

-- the line of the unit of this number: its name, how many instructions it has, and what decides whether it is a leaf
abbrev pub body_line : List (List ℕ) → ℕ → LeafTest → List ℕ
body_line names number test =
    codes "body" ++ name_field names number ++ field (decimal test.insts)
    ++ why_text names test.long test.calls ++ codes "\n"

-- the text is the line of the unit of this number among these
pub record IsBodyAt (units : List UnitShape) (number : ℕ) (text : List ℕ) : Type 0 where
  pub unit : UnitShape
  pub test : LeafTest
  pub stands : slice_get units number ≡ Some unit
  pub told : IsLeafTest unit test
  pub text_is : text ≡ body_line (names_of_units units) number test

-- ---- calls

-- what becomes of a call, behind a blank: where the unit is a leaf, this leaf stands in its place
abbrev pub became_text : Option GraphShape → List ℕ
became_text None = field (codes "stays")
became_text (Some leaf) = field (codes "joined")

-- the line of a call of this unit: its node, the unit, and what becomes of it
abbrev pub call_line : List (List ℕ) → List (Option GraphShape) → ℕ → ℕ → List ℕ
call_line names leaves number unit =
    codes "call" ++ field (decimal number) ++ name_field names unit
    ++ became_text (leaf_at leaves unit) ++ codes "\n"

-- the line of a node, where it is a call
abbrev pub join_line : List (List ℕ) → List (Option GraphShape) → ℕ → Node → List ℕ
join_line names leaves number (Call into unit operands next) = call_line names leaves number unit
join_line names leaves number _ = []

-- the same of a node that may be absent
abbrev pub join_at : List (List ℕ) → List (Option GraphShape) → ℕ → Option Node → List ℕ
join_at names leaves number None = []
join_at names leaves number (Some node) = join_line names leaves number node

-- the lines of the first nodes, of which there are so many
abbrev pub calls_below : List (List ℕ) → List (Option GraphShape) → List Node → ℕ → List ℕ
calls_below names leaves nodes zero = []
calls_below names leaves nodes (suc n) =
    calls_below names leaves nodes n ++ join_at names leaves n (slice_get nodes n)

-- ---- units

-- whether a unit of so many instructions is taken, or left since a unit of a text may not have as many
abbrev pub taken_text : ℕ → List ℕ
taken_text insts = if nat_lt most_insts insts then field (codes "left") else field (codes "taken")

-- the line of how many instructions a unit has with its leaves
abbrev pub laid_line : ℕ → List ℕ
laid_line insts = codes "laid" ++ field (decimal insts) ++ taken_text insts ++ codes "\n"

-- the graphs of a unit on its way, between them what becomes of its calls, and behind them how long it becomes
abbrev pub joined_text : List (List ℕ) → List (Option GraphShape) → JoinSteps → List ℕ
joined_text names leaves made =
    steps_text names (codes "join") made.steps
    (calls_below names leaves made.steps.cleaned.nodes (length made.steps.cleaned.nodes))
    ++ laid_line made.insts

-- the text is that of the unit of this number among these, whose leaves are these: of the graphs that the pass makes of
-- it, of what becomes of each call of its cleaned graph, and of how long it becomes
pub record IsJoinedAt (units : List UnitShape) (leaves : List (Option GraphShape)) (number : ℕ)
    (text : List ℕ)
    : Type 0 where
  pub unit : UnitShape
  pub made : JoinSteps
  pub stands : slice_get units number ≡ Some unit
  pub are : IsJoinMade leaves unit number made
  pub text_is : text ≡ joined_text (names_of_units units) leaves made

-- the text is that of what decides of each unit whether it is a leaf, and then of each unit in turn, with the leaves of
-- the program
pub record ShowsJoins (program : ProgramShape) (text : List ℕ) : Type 0 where
  pub leaves : List (Option GraphShape)
  pub bodies : List ℕ
  pub units : List ℕ
  pub are_leaves : AreLeavesOf program.units leaves
  pub tests : InTurn (IsBodyAt program.units) (length program.units) bodies
  pub are : InTurn (IsJoinedAt program.units leaves) (length program.units) units
  pub text_is : text ≡ codes "tables 1 join\n" ++ bodies ++ units
