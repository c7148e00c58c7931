-- Units that stay served while others are: where what is known around them has not changed.
use Rattle.std.proofs.Common.{◌≡◌, ◌↔◌, ◌<◌, ℕ, suc, true, false, List, [], ◌∷◌, length, slice_get, Option, Some, refl, sym, ap, ◌∙◌, subst}
use Rattle.mir_base.specs.declared.instructions.Operand.{Operand}
use Rattle.mir_base.specs.declared.instructions.Test as tests
use Rattle.mir_base.specs.declared.instructions.Test.TheVariants.{Rel, Holds, Fails}
use Rattle.flow_graph.specs.declared.nodes.Node.{Node}
use Rattle.flow_graph.specs.declared.nodes.Node.TheVariants.{Start, Skip, Assign, Print, Guard, Call, Test, Return}
use Rattle.flow_graph.specs.Graphs.{GraphShape, Reached}
use Rattle.flow_graph.specs.Passes.{GraphCalls, GraphCheaper, GraphSame}
use Rattle.flow_graph.specs.Retained.{IsMade}
use Rattle.bounds.specs.declared.facts.Fact.{Fact}
use Rattle.bounds.specs.BoundRules.{bound_rules}
use Rattle.bounds.specs.BoundRuleLaws.{bound_laws}
use Rattle.bounds.specs.Facts.{BelowFact}
use Rattle.cond_flow.specs.Becoming.{become_from, becomes_at, decided_node, guarded_node, node_becomes, nodes_become, test_becomes}
use Rattle.cond_flow.specs.Handing.{handed}
use Rattle.cond_flow.specs.Rewritten.{IsMadeWithin, become_graph}
use Rattle.cond_flow.specs.Rules.{OutsideShape, within}
use Rattle.cond_flow.specs.Solutions.{HasLeastStates}
use Rattle.cond_flow.specs.StateLaws.{below_refl, below_trans}
use Rattle.cond_flow.specs.States.{BelowState, NodeState, Unreached, Knows, is_reached}
use Rattle.program_bounds.specs.Facts.{AreSurer, IsServed, ProgramFacts, around, row_at, rules_at}
use Rattle.program_bounds.proofs.LessKnown.{LessAround, states_less}

-- as much is known around a unit: where it is entered, and of what the units that it calls hand back
pub record AroundStays (old new : ProgramFacts) (graph : GraphShape) (u : ℕ) : Type 0 where
  pub entry : row_at new.entries u ≡ row_at old.entries u
  pub backs : (n : ℕ) (into : Option ℕ) (v : ℕ) (operands : List Operand) (next : ℕ) → slice_get graph.nodes n ≡ Some (Call into v operands next) → row_at new.backs v ≡ row_at old.backs v

-- equal states are in order
below_same : (s t : NodeState Fact) → s ≡ t → BelowState BelowFact s t
below_same s t same = subst (BelowState BelowFact s) same (below_refl bound_laws.order s)

-- what nodes become does not depend on what is known outside
module _ (first second : OutsideShape Fact) where
  test_same : (known : List Fact) (test : tests.Test) → test_becomes (within first bound_rules) known test ≡ test_becomes (within second bound_rules) known test
  test_same known (Rel op a b) = refl
  test_same known (Holds a) = refl
  test_same known (Fails a) = refl

  node_same : (known : List Fact) (node : Node) → node_becomes (within first bound_rules) known node ≡ node_becomes (within second bound_rules) known node
  node_same known (Start next) = refl
  node_same known (Skip next) = refl
  node_same known (Assign x rhs next) = refl
  node_same known (Print a next) = refl
  node_same known (Guard test number next) = ap (λ t. guarded_node t number next (bound_rules.goes test true known)) (test_same known test)
  node_same known (Call into unit operands next) = refl
  node_same known (Test test taken other) = ap (λ t. decided_node t taken other (bound_rules.goes test true known) (bound_rules.goes test false known)) (test_same known test)
  node_same known (Return a) = refl

  at_same : (s : NodeState Fact) (node : Node) → becomes_at (within first bound_rules) s node ≡ becomes_at (within second bound_rules) s node
  at_same (Unreached n) node = refl
  at_same (Knows known) node = node_same known node

  pub become_same : (states : ℕ → NodeState Fact) (n : ℕ) (nodes : List Node) → become_from (within first bound_rules) n states nodes ≡ become_from (within second bound_rules) n states nodes
  become_same states n [] = refl
  become_same states n (node ∷ nodes) =
      ap (λ m. m ∷ become_from (within first bound_rules) (suc n) states nodes) (at_same (states n) node)
      ∙ ap (λ l. becomes_at (within second bound_rules) (states n) node ∷ l) (become_same states (suc n) nodes)

module _ (old new : ProgramFacts) (graph : GraphShape) (u : ℕ) (stays : AroundStays old new graph u) where
  less : LessAround new old graph u
  less = record {
    entry = below_same (row_at new.entries u) (row_at old.entries u) stays.entry;
    backs = λ n into v operands next here. below_same (row_at new.backs v) (row_at old.backs v) (stays.backs n into v operands next here);
  }

  more : LessAround old new graph u
  more = record {
    entry = below_same (row_at old.entries u) (row_at new.entries u) (sym stays.entry);
    backs = λ n into v operands next here. below_same (row_at old.backs v) (row_at new.backs v) (sym (stays.backs n into v operands next here));
  }

  -- so the least states stay
  pub least_kept : (states : ℕ → NodeState Fact) → HasLeastStates BelowFact (rules_at old u) graph states → HasLeastStates BelowFact (rules_at new u) graph states
  least_kept states least = record {
    are = states_less new old graph u less states least.are;
    least = λ others are n lt. least.least others (states_less old new graph u more others are) n lt;
  }

  -- and what serves the unit serves it where less is known elsewhere
  pub served_kept : AreSurer old new → IsServed old graph u → IsServed new graph u
  served_kept surer served = record {
    states = served.states;
    least = least_kept served.states served.least;
    calls = λ n into v operands next facts here state. below_trans bound_laws.order (Knows (handed bound_rules graph.shared operands facts)) (row_at old.entries v) (row_at new.entries v) (served.calls n into v operands next facts here state) (surer.entries v);
    returns = λ n a facts here state. below_trans bound_laws.order (Knows (handed bound_rules graph.shared (a ∷ []) facts)) (row_at old.backs u) (row_at new.backs u) (served.returns n a facts here state) (surer.backs u);
  }

  -- nodes become the same by as much as is known
  pub nodes_same : (states : ℕ → NodeState Fact) (nodes : List Node) → nodes_become (rules_at old u) states nodes ≡ nodes_become (rules_at new u) states nodes
  nodes_same states nodes = become_same (around old u) (around new u) states 0 nodes

  -- what was made of the unit is what is made of it
  pub made_kept : (made : GraphShape) → IsMadeWithin BelowFact (rules_at old u) graph made → IsMadeWithin BelowFact (rules_at new u) graph made
  made_kept made is =
      let states = is.rewritten.states in
      let same = nodes_same states graph.nodes in
      let between : become_graph (rules_at old u) states graph ≡ become_graph (rules_at new u) states graph = ap (λ l. record graph { nodes = l }) same in
      record {
        rewritten = record {
          states = states;
          least = least_kept states is.rewritten.least;
          made = subst (λ l. IsMade graph.name graph.shared graph.vars graph.received l made) same is.rewritten.made;
          kept = subst (λ l. (n : ℕ) → n < length graph.nodes → Reached l n ↔ (is_reached (states n) ≡ true)) same is.rewritten.kept;
        };
        same = subst (λ g. GraphSame g made) between is.same;
        cheaper = subst (λ g. GraphCheaper g made) between is.cheaper;
        middle_calls = subst (GraphCalls graph) between is.middle_calls;
        calls = subst (λ g. GraphCalls g made) between is.calls;
      }
