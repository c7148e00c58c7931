-- The states of the nodes of a graph, and the graph that is made by the least ones: those of conditional flow, by the
-- rules of folding. Cited by contracts.
use Rattle.std.specs.Prelude.{◌≡◌, ℕ}
use Rattle.flow_graph.specs.Graphs.{GraphShape}
use Rattle.cond_flow.specs.Solutions.{HasLeastStates as HasLeastBy}
use Rattle.cond_flow.specs.Rewritten.{IsRewritten, KeepsDivisions as KeepsDivisionsBy}
use Rattle.cond_const.specs.States.{NodeState, BelowKnown}
use Rattle.cond_const.specs.Folding.{fold_rules}

-- the least states of the nodes of a graph
abbrev pub HasLeastStates : GraphShape → (ℕ → NodeState) → Type 0
HasLeastStates graph states = HasLeastBy BelowKnown fold_rules graph states

-- the graph is made of what the nodes of the first become by its least states, and of these exactly those are kept
-- whose state is reached
abbrev pub IsFolded : GraphShape → GraphShape → Type 0
IsFolded graph folded = IsRewritten BelowKnown fold_rules graph folded

-- there is no other such graph
abbrev pub IsOnlyFolded : GraphShape → GraphShape → Type 0
IsOnlyFolded graph folded = (other : GraphShape) → IsFolded graph other → other ≡ folded

-- each node that divides and is reached stands in the result at `place` of its number, in the old order: with the same
-- variable and what its right side becomes by what is known there. Unless its divisor is known and not 0 it divides
-- still, with the same operator, and of its operands each is the old one, or the constant that it is known to be
abbrev pub KeepsDivisions : GraphShape → GraphShape → Type 0
KeepsDivisions graph folded = KeepsDivisionsBy BelowKnown fold_rules graph folded
