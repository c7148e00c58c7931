-- The text of the tables of a unit whose divisions move. Cited by contracts.
use Rattle.std.specs.Prelude.{◌≡◌, ℕ, List, ◌++◌, codes}
use Rattle.flow_graph.specs.Graphs.{GraphShape}
use Rattle.mir_opt.specs.declared.trails.MoveUnit.{MoveUnit}
use Rattle.table_text.specs.Nodes.{stage_text}
use Rattle.table_text.specs.Steps.{back_text, front_text, pass_line}
use Rattle.division_table.specs.Expressions.{IsExpressionsText}

-- the split graph, between the passes that make it and that it is given to, among units of these names
abbrev pub split_text : List (List ℕ) → GraphShape → List ℕ
split_text names split =
    pass_line (codes "split") ++ stage_text names (codes "split") split
    ++ pass_line (codes "divisions")

-- the name of the unit and its graphs before divisions move
abbrev pub up_to_split : List (List ℕ) → MoveUnit → List ℕ
up_to_split names unit = front_text names unit.lowered unit.cleaned ++ split_text names unit.split

-- the tables of a unit, among units of these names: its graphs, and what the motion of divisions finds out of the split
-- one
pub record IsDividedText (names : List (List ℕ)) (unit : MoveUnit) (text : List ℕ) : Type 0 where
  pub found : List ℕ
  pub is_found : IsExpressionsText unit found
  pub text_is :
      text
      ≡ up_to_split names unit ++ found
      ++ back_text names (codes "divisions") unit.moved unit.swept
