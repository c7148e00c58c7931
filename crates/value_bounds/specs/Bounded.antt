-- The graph that is made by bounds. Cited by contracts.
use Rattle.flow_graph.specs.Graphs.{GraphShape}
use Rattle.bounds.specs.Facts.{BelowFact}
use Rattle.cond_flow.specs.Rewritten.{IsOnlyRewritten, IsRewritten, KeepsDivisions}
use Rattle.bounds.specs.BoundRules.{bound_rules}

-- the graph is made of what the nodes of the first become by the least bounds before them, and of these exactly those are
-- kept to which a run may come by the bounds
abbrev pub IsBounded : GraphShape → GraphShape → Type 0
IsBounded = IsRewritten BelowFact bound_rules

-- there is no other such graph
abbrev pub IsOnlyBounded : GraphShape → GraphShape → Type 0
IsOnlyBounded = IsOnlyRewritten BelowFact bound_rules

-- each division that is reached stands in the result, in the old order: with the same variable and what its right side
-- becomes by the bounds there. Unless its divisor cannot be 0 by them it divides still, with the same operator, and of
-- its operands each is the old one, or the number that it is known to be
abbrev pub KeepsBoundedDivisions : GraphShape → GraphShape → Type 0
KeepsBoundedDivisions = KeepsDivisions BelowFact bound_rules
