-- What is known outside of a unit, as the code has it. Cited by contracts.
use Rattle.std.specs.Prelude.{ℕ}
use Rattle.flow_graph.specs.declared.nodes.Node.{Node}
use Rattle.flow_graph.specs.Graphs.{GraphShape}
use Rattle.cond_flow.specs.declared.outside.Outside.{Outside}
use Rattle.cond_flow.specs.Passing.{passed_along}
use Rattle.cond_flow.specs.Rules.{OutsideShape, Rules, within}
use Rattle.cond_flow.specs.States.{NodeState}

-- as the rules have it
abbrev pub outside_of : {K : Type 0} → Outside K → OutsideShape K
outside_of outside = record { entry = outside.entry.now; backs = outside.backs.now }

-- the rules, where this is known outside
abbrev pub rules_in : {K : Type 0} → Outside K → Rules K → Rules K
rules_in outside rules = within (outside_of outside) rules

-- what passes along the edge at a slot of a node of this graph, where this is known outside
abbrev pub along_in : {K : Type 0} → Rules K → Outside K → GraphShape → Node → ℕ → NodeState K
    → NodeState K
along_in rules outside graph = passed_along (rules_in outside rules) graph.shared graph.received
