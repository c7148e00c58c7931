-- The lines that say what is known before each node. Cited by contracts, those of the crates above too.
use Rattle.std.specs.Prelude.{◌≡◌, ℕ, List, [], ◌++◌, codes, Option}
use Rattle.std.specs.Fmt.{signed_decimal}
use Rattle.flow_graph.specs.Graphs.{GraphShape}
use Rattle.bounds.specs.declared.ends.End.{End}
use Rattle.bounds.specs.declared.ends.End.TheVariants.{Least, Min32, Min16, Min8, MinusOne, Zero, One, Max8, MaxU8, Max16, MaxU16, Max32, MaxU32, Greatest}
use Rattle.bounds.specs.declared.facts.Fact.{Fact}
use Rattle.bounds.specs.declared.facts.Fact.TheVariants.{Never, Fixed, Between}
use Rattle.bounds.specs.BoundRules.{bound_rules}
use Rattle.bounds.specs.Facts.{BelowFact}
use Rattle.cond_flow.specs.KnownBefore.{IsKnownBefore}
use Rattle.table_text.specs.Known.{state_line}
use Rattle.table_text.specs.Lines.{field}

-- the number of an end; past the least and the greatest there is none, and they are left out
abbrev pub end_text : End → List ℕ
end_text Least = []
end_text Min32 = codes "-2147483648"
end_text Min16 = codes "-32768"
end_text Min8 = codes "-128"
end_text MinusOne = codes "-1"
end_text Zero = codes "0"
end_text One = codes "1"
end_text Max8 = codes "127"
end_text MaxU8 = codes "255"
end_text Max16 = codes "32767"
end_text MaxU16 = codes "65535"
end_text Max32 = codes "2147483647"
end_text MaxU32 = codes "4294967295"
end_text Greatest = []

-- an interval, behind a blank
abbrev pub interval_text : End → End → List ℕ
interval_text low high = codes " " ++ end_text low ++ codes ".." ++ end_text high

-- what is known of a variable: nothing holds, its value, or the ends between which it lies
abbrev pub fact_text : Fact → List ℕ
fact_text Never = codes " never"
fact_text (Fixed value) = field (signed_decimal value)
fact_text (Between low high) = interval_text low high

-- the line is that of what the least bounds of the graph say of the node
pub record IsBoundLine (graph : GraphShape) (node : ℕ) (line : List ℕ) : Type 0 where
  pub known : Option (List Fact)
  pub is_known : IsKnownBefore BelowFact bound_rules graph node known
  pub line_is : line ≡ state_line fact_text node known
