-- The flow as `StateFlow` has it. Cited by its ghost members.
use Rattle.std.specs.Prelude.{◌≡◌, length}
use Rattle.fix_solve.specs.Net.{Net}
use Rattle.flow_graph.specs.Blocks.{AreBlocksOf}
use Rattle.cond_flow.specs.declared.flow.StateFlow.{StateFlow}
use Rattle.cond_flow.specs.States.{NodeState}
use Rattle.cond_flow.specs.Rules.{Rules}
use Rattle.cond_flow.specs.Outsides.{rules_in}
use Rattle.cond_flow.specs.Passing.{first_known}
use Rattle.cond_flow.specs.Blockwise.{IsStateNet, net_in}

-- its parts fit together
pub record IsStateFlow {K : Type 0} {L : Type 0} (rules : Rules K)
    (f : StateFlow K L) : Type 0 where
  pub blocks : AreBlocksOf f.graph.now.nodes f.blocks.now
  pub is_net : IsStateNet f.graph.now.nodes f.blocks.now.lists f.entry f.targets.now
  pub zeros : f.zeros.now ≡ first_known (rules_in f.outside.now rules) f.graph.now.shared
      (length f.graph.now.vars)

-- the flow as the solver sees it
abbrev pub net_of : {K : Type 0} {L : Type 0} → Rules K → StateFlow K L → Net (NodeState K)
net_of rules f =
    net_in (rules_in f.outside.now rules) f.graph.now f.blocks.now f.entry f.targets.now
