-- What a node becomes by what is known before it. Cited by contracts.
use Rattle.std.specs.Prelude.{ℕ, suc, Bool, true, false, List, [], ◌∷◌, map, pos}
use Rattle.mir_base.specs.declared.instructions.Operand.TheVariants.{Const}
use Rattle.mir_base.specs.declared.instructions.Test as tests
use Rattle.mir_base.specs.declared.instructions.Test.TheVariants.{Rel, Holds, Fails}
use Rattle.flow_graph.specs.declared.nodes.Node.{Node}
use Rattle.flow_graph.specs.declared.nodes.Node.TheVariants.{Start, Skip, Assign, Print, Guard, Call, Test, Return}
use Rattle.cond_flow.specs.Rules.{Rules}
use Rattle.cond_flow.specs.States.{NodeState, Unreached, Knows}

-- the test with its operands replaced
abbrev pub test_becomes : {K : Type 0} → Rules K → List K → tests.Test → tests.Test
test_becomes rules known (Rel op a b) = Rel op (rules.operand known a) (rules.operand known b)
test_becomes rules known (Holds a) = Holds (rules.operand known a)
test_becomes rules known (Fails a) = Fails (rules.operand known a)

-- a test that can go one way alone becomes a Skip to the successor there. One that can go neither way stands where no run
-- comes to, and becomes a Return
abbrev pub decided_node : tests.Test → ℕ → ℕ → Bool → Bool → Node
decided_node test taken other true true = Test test taken other
decided_node test taken other true false = Skip taken
decided_node test taken other false true = Skip other
decided_node test taken other false false = Return (Const (pos 0))

-- a trap that cannot be raised becomes a Skip
abbrev pub guarded_node : tests.Test → ℕ → ℕ → Bool → Node
guarded_node test number next true = Guard test number next
guarded_node test number next false = Skip next

-- what a node becomes that is reached
abbrev pub node_becomes : {K : Type 0} → Rules K → List K → Node → Node
node_becomes rules known (Start next) = Start next
node_becomes rules known (Skip next) = Skip next
node_becomes rules known (Assign x rhs next) = Assign x (rules.rhs known rhs) next
node_becomes rules known (Print a next) = Print (rules.operand known a) next
node_becomes rules known (Guard test number next) =
    guarded_node (test_becomes rules known test) number next (rules.goes test true known)
node_becomes rules known (Call into unit operands next) =
    Call into unit (map (rules.operand known) operands) next
node_becomes rules known (Test test taken other) =
    decided_node (test_becomes rules known test) taken other (rules.goes test true known)
    (rules.goes test false known)
node_becomes rules known (Return a) = Return (rules.operand known a)

-- a node that is not reached stays as it is; it is dropped afterwards
abbrev pub becomes_at : {K : Type 0} → Rules K → NodeState K → Node → Node
becomes_at rules (Unreached size) node = node
becomes_at rules (Knows known) node = node_becomes rules known node

-- the nodes from number n on
abbrev pub become_from : {K : Type 0} → Rules K → ℕ → (ℕ → NodeState K) → List Node → List Node
become_from rules n states [] = []
become_from rules n states (node ∷ nodes) =
    becomes_at rules (states n) node ∷ become_from rules (suc n) states nodes

-- what the nodes become
abbrev pub nodes_become : {K : Type 0} → Rules K → (ℕ → NodeState K) → List Node → List Node
nodes_become rules states nodes = become_from rules 0 states nodes
