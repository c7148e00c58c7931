-- The lines that say what is known before each node. Cited by contracts.
use Rattle.std.specs.Prelude.{◌≡◌, ℕ, List, codes, Option}
use Rattle.std.specs.Fmt.{signed_decimal}
use Rattle.flow_graph.specs.Graphs.{GraphShape}
use Rattle.cond_const.specs.declared.known.Known.{Known}
use Rattle.cond_const.specs.declared.known.Known.TheVariants.{Fixed, Varying}
use Rattle.cond_const.specs.KnownBefore.{IsKnownBefore}
use Rattle.table_text.specs.Known.{state_line}
use Rattle.table_text.specs.Lines.{field}

-- what is known of a variable: its value, or `?`
abbrev pub known_text : Known → List ℕ
known_text (Fixed value) = field (signed_decimal value)
known_text Varying = codes " ?"

-- the line is that of what the least states of the graph say of the node
pub record IsStateLine (graph : GraphShape) (node : ℕ) (line : List ℕ) : Type 0 where
  pub known : Option (List Known)
  pub is_known : IsKnownBefore graph node known
  pub line_is : line ≡ state_line known_text node known
