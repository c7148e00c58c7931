-- The text of the tables of self tail calls. Cited by contracts, those of the crates above too.
use Rattle.std.specs.Prelude.{◌≡◌, ℕ, zero, suc, List, [], ◌++◌, codes, decimal, length, slice_get, Option, Some, None}
use Rattle.mir_base.specs.Shapes.{ProgramShape, UnitShape}
use Rattle.flow_graph.specs.Graphs.{GraphShape}
use Rattle.table_text.specs.Lines.{field, name_field, names_of_units}
use Rattle.table_text.specs.Steps.{ShowsPass}
use Rattle.tail_loop.specs.declared.positions.CallPosition.{CallPosition}
use Rattle.tail_loop.specs.declared.positions.Position.{Position}
use Rattle.tail_loop.specs.declared.positions.Position.TheVariants.{Loop, Tail, Dropped, Global, Then}
use Rattle.tail_loop.specs.Positions.{AreCallPositions}
use Rattle.tail_loop.specs.Tails.{Tailed}

-- ---- calls

-- how a call stands, behind a blank
abbrev pub position_text : Position → List ℕ
position_text Loop = field (codes "loop")
position_text Tail = field (codes "tail")
position_text Dropped = field (codes "dropped")
position_text Global = field (codes "global")
position_text (Then node) = codes " then" ++ field (decimal node)

-- the line of a call: its node, the unit that it calls, and how it stands
abbrev pub tail_line : List (List ℕ) → ℕ → CallPosition → List ℕ
tail_line names node call =
    codes "call" ++ field (decimal node) ++ name_field names call.unit
    ++ position_text call.position ++ codes "\n"

-- the line of a node, where it is a call
abbrev pub entry_line : List (List ℕ) → ℕ → Option CallPosition → List ℕ
entry_line names node None = []
entry_line names node (Some call) = tail_line names node call

-- the same of an entry that may be absent
abbrev pub tail_at : List (List ℕ) → ℕ → Option (Option CallPosition) → List ℕ
tail_at names node None = []
tail_at names node (Some entry) = entry_line names node entry

-- the lines of the first nodes, of which there are so many
abbrev pub tails_below : List (List ℕ) → List (Option CallPosition) → ℕ → List ℕ
tails_below names calls zero = []
tails_below names calls (suc n) = tails_below names calls n ++ tail_at names n (slice_get calls n)

-- ---- units

-- the text says of each node of the graph of the unit of this number how it stands, where it is a call
pub record TellsCalls (units : List UnitShape) (number : ℕ) (graph : GraphShape) (text : List ℕ)
    : Type 0 where
  pub calls : List (Option CallPosition)
  pub are : AreCallPositions graph number calls
  pub text_is : text ≡ tails_below (names_of_units units) calls (length calls)

-- the text is that of each unit of the program in turn: of the graphs that the pass makes of it, and of how each call of
-- its cleaned graph stands
abbrev pub ShowsTails : ProgramShape → List ℕ → Type 0
ShowsTails program text = ShowsPass (codes "tails") Tailed TellsCalls program text
