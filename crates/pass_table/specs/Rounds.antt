-- The lines of the rounds of sinking. Cited by contracts.
use Rattle.std.specs.Prelude.{◌≡◌, ◌↔◌, ◌<◌, ℕ, zero, suc, ◌+◌, Bool, true, ◌&&◌, not, List, [], ◌∷◌, ◌++◌, codes, decimal, length, slice_get, slice_index_or, Option, Some, None}
use Rattle.flow_graph.specs.declared.nodes.Node.{Node}
use Rattle.flow_graph.specs.Graphs.{GraphShape}
use Rattle.path_laws.specs.Paths.{HaveShape}
use Rattle.dead_code.specs.LiveRows.{TellLive}
use Rattle.dead_code.specs.Pruned.{IsDeadAt}
use Rattle.graph_edit.specs.NodeKinds.{is_skip}
use Rattle.sink_code.specs.SunkGraphs.{IsSunk}
use Rattle.mir_opt.specs.declared.stages.Stage.TheVariants.{Round}
use Rattle.mir_opt.specs.declared.trails.UnitTrail.{UnitTrail}
use Rattle.mir_opt.specs.Stages.{graph_at}
use Rattle.pass_table.specs.Stages.{IsFoundText, shown_text}
use Rattle.table_text.specs.Lines.{field}
use Rattle.table_text.specs.Nodes.{graph_text}
use Rattle.table_text.specs.Rows.{bit_byte, bits_line}

-- ---- dead assignments

-- a bit for each node below this number
abbrev pub flags_below : (ℕ → Bool) → ℕ → List ℕ
flags_below flag zero = []
flags_below flag (suc n) = flags_below flag n ++ bit_byte (flag n) ∷ []

-- the line of these bits, behind the name of the pass
abbrev pub dead_line : (ℕ → Bool) → ℕ → List ℕ
dead_line dead count = codes "pass prune\nrow " ++ flags_below dead count ++ codes " dead\n"

-- the text is the line that tells which nodes of the graph are dead assignments
pub record IsDeadLine (graph : GraphShape) (text : List ℕ) : Type 0 where
  pub dead : ℕ → Bool
  pub dead_are : (n : ℕ) → n < length graph.nodes → (dead n ≡ true) ↔ IsDeadAt graph n
  pub text_is : text ≡ dead_line dead (length graph.nodes)

-- node n became a Skip
abbrev pub became_skip : List Node → List Node → ℕ → Bool
became_skip before after n = not (is_skip (slice_get before n)) && is_skip (slice_get after n)

-- ---- live variables

-- the number and the name of a variable
abbrev pub variable_line : List (List ℕ) → ℕ → List ℕ
variable_line vars number =
    codes "variable" ++ field (decimal number) ++ codes " " ++ slice_index_or vars number []
    ++ codes "\n"

-- the lines of the first variables, of which there are so many, each with the nodes before which it is live
abbrev pub variables_below : List (List ℕ) → List (List Bool) → ℕ → List ℕ
variables_below vars live zero = []
variables_below vars live (suc n) =
    variables_below vars live n ++ variable_line vars n ++ bits_line live n (codes "live before")

-- the text is that of what is live in the graph, by the rows that say it
pub record IsLiveText (graph : GraphShape) (text : List ℕ) : Type 0 where
  pub live : List (List Bool)
  pub shape : HaveShape graph (length graph.vars) live
  pub live_are : TellLive graph live
  pub text_is : text ≡ variables_below graph.vars live (length graph.vars)

-- ---- a round

-- the name of the stage at which assignments have sunk in the round of this number
abbrev pub sunk_line : ℕ → List ℕ
sunk_line number = codes "stage sunk" ++ field (decimal number) ++ codes "\n"

-- the text is that of the graph whose assignments have sunk in the round of this number, and of what is dead and live
-- in it
pub record IsSunkText (units : List (List ℕ)) (number : ℕ) (sunk : GraphShape)
    (text : List ℕ) : Type 0 where
  pub dead : List ℕ
  pub live : List ℕ
  pub is_dead : IsDeadLine sunk dead
  pub is_live : IsLiveText sunk live
  pub text_is : text ≡ sunk_line number ++ graph_text units sunk ++ dead ++ live

-- the text is that of the round of a unit behind so many others: what sinking finds out, the graph that it makes, what is
-- dead and live there, and the graph without the dead assignments
pub record IsRoundAt (units : List (List ℕ)) (unit : UnitTrail) (number : ℕ)
    (text : List ℕ) : Type 0 where
  pub sunk : GraphShape
  pub sinking : List ℕ
  pub pruning : List ℕ
  pub is_sunk : IsSunk (graph_at unit (Round number)) sunk
  pub sinks : IsFoundText unit (Round (number + 1)) sinking
  pub prunes : IsSunkText units (number + 1) sunk pruning
  pub text_is : text ≡ sinking ++ pruning ++ shown_text units unit (Round (number + 1))
