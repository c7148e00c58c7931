-- Kinds of nodes: Skips, and nodes that touch no variable. Cited by contracts, those of sink_code, dead_code and
-- pass_table too.
use Rattle.std.specs.Prelude.{Bool, true, false, Option, Some, None}
use Rattle.flow_graph.specs.declared.nodes.Node.{Node}
use Rattle.flow_graph.specs.declared.nodes.Node.TheVariants.{Start, Skip, Assign, Print, Guard, Call, Test, Return}

-- the node, where there is one, is a Skip
abbrev pub is_skip : Option Node → Bool
is_skip None = false
is_skip (Some (Start next)) = false
is_skip (Some (Skip next)) = true
is_skip (Some (Assign x rhs next)) = false
is_skip (Some (Print a next)) = false
is_skip (Some (Guard test number next)) = false
is_skip (Some (Call into unit operands next)) = false
is_skip (Some (Test test taken other)) = false
is_skip (Some (Return a)) = false

-- the node is of a kind that reads and assigns nothing
abbrev pub touches_none : Node → Bool
touches_none (Start next) = true
touches_none (Skip next) = true
touches_none (Assign x rhs next) = false
touches_none (Print a next) = false
touches_none (Guard test number next) = false
touches_none (Call into unit operands next) = false
touches_none (Test test taken other) = false
touches_none (Return a) = false
