-- What is known over the units of a program. Cited by contracts.
use Rattle.std.specs.Prelude.{◌≡◌, ℕ, suc, true, ◌+◌, List, [], ◌∷◌, ◌++◌, length, map, pos, replicate, slice_get, slice_index_or, Option, Some}
use Rattle.mir_base.specs.declared.instructions.Operand.{Operand}
use Rattle.flow_graph.specs.declared.nodes.Node.TheVariants.{Call, Return}
use Rattle.flow_graph.specs.Graphs.{GraphShape}
use Rattle.bounds.specs.declared.facts.Fact.{Fact}
use Rattle.bounds.specs.declared.facts.Fact.TheVariants.{Never, Fixed}
use Rattle.bounds.specs.BoundRules.{bound_rules}
use Rattle.bounds.specs.Edges.{anything}
use Rattle.bounds.specs.Facts.{BelowFact}
use Rattle.cond_flow.specs.Handing.{handed}
use Rattle.cond_flow.specs.Rules.{OutsideShape, Rules, within}
use Rattle.cond_flow.specs.Solutions.{HasLeastStates}
use Rattle.cond_flow.specs.States.{BelowState, NodeState, Unreached, Knows, is_reached, size_of}

-- for each unit, whether it is entered and what is then known of each global and of each argument, and what is known of
-- each global and of the result that it hands back
pub record ProgramFacts : Type 0 where
  pub entries : List (NodeState Fact)
  pub backs : List (NodeState Fact)

-- the state of this number
abbrev pub row_at : List (NodeState Fact) → ℕ → NodeState Fact
row_at rows u = slice_index_or rows u (Unreached 0)

-- the facts of a state: nothing but "never" where no run comes to
abbrev pub facts_in : NodeState Fact → List Fact
facts_in (Unreached n) = replicate n Never
facts_in (Knows facts) = facts

-- what is known outside of the unit u
abbrev pub around : ProgramFacts → ℕ → OutsideShape Fact
around known u =
    record { entry = facts_in (row_at known.entries u); backs = map facts_in known.backs }

-- the rules of bounds, where this is known outside
abbrev pub rules_at : ProgramFacts → ℕ → Rules Fact
rules_at known u = within (around known u) bound_rules

-- ---- what serves

-- a state for each graph, of so many facts
pub record AreRows (graphs : List GraphShape) (count : GraphShape → ℕ)
    (rows : List (NodeState Fact)) : Type 0 where
  pub long : length rows ≡ length graphs
  pub each : (u : ℕ) (graph : GraphShape) → slice_get graphs u ≡ Some graph
      → size_of (row_at rows u) ≡ count graph

-- they have a fact for each global and argument, and for each global and the result; of what a unit hands back there are
-- facts always, each of them "never" where it does not return
pub record FitGraphs (graphs : List GraphShape) (known : ProgramFacts) : Type 0 where
  pub entries : AreRows graphs (λ graph. graph.shared + length graph.received) known.entries
  pub backs : AreRows graphs (λ graph. suc graph.shared) known.backs
  pub returns : (u : ℕ) (graph : GraphShape) → slice_get graphs u ≡ Some graph
      → is_reached (row_at known.backs u) ≡ true

-- The facts serve the unit u, which has this graph: by the least states of its nodes, where these facts are known outside,
-- what each call hands over is below what is known where the called unit is entered, and what each return hands back
-- below what is known of what the unit hands back
pub record IsServed (known : ProgramFacts) (graph : GraphShape) (u : ℕ) : Type 0 where
  pub states : ℕ → NodeState Fact
  pub least : HasLeastStates BelowFact (rules_at known u) graph states
  pub calls : (n : ℕ) (into : Option ℕ) (v : ℕ) (operands : List Operand) (next : ℕ)
      (facts : List Fact)
      → slice_get graph.nodes n ≡ Some (Call into v operands next) → states n ≡ Knows facts
      → BelowState BelowFact (Knows (handed bound_rules graph.shared operands facts))
      (row_at known.entries v)
  pub returns : (n : ℕ) (a : Operand) (facts : List Fact)
      → slice_get graph.nodes n ≡ Some (Return a) → states n ≡ Knows facts
      → BelowState BelowFact (Knows (handed bound_rules graph.shared (a ∷ []) facts))
      (row_at known.backs u)

-- what is known where a program begins: each global is 0, and the arguments may be anything
abbrev pub first_facts : ℕ → ℕ → List Fact
first_facts shared receives = replicate shared (Fixed (pos 0)) ++ replicate receives anything

-- they serve all units that are entered, of which the first is one
pub record AreServed (graphs : List GraphShape) (known : ProgramFacts) : Type 0 where
  pub fit : FitGraphs graphs known
  pub first : (graph : GraphShape) → slice_get graphs 0 ≡ Some graph
      → BelowState BelowFact (Knows (first_facts graph.shared (length graph.received)))
      (row_at known.entries 0)
  pub units : (u : ℕ) (graph : GraphShape) (facts : List Fact) → slice_get graphs u ≡ Some graph
      → row_at known.entries u ≡ Knows facts → IsServed known graph u

-- each state of the rows is below that of the others
abbrev pub BelowRows : List (NodeState Fact) → List (NodeState Fact) → Type 0
BelowRows rows others = (u : ℕ) → BelowState BelowFact (row_at rows u) (row_at others u)

-- the facts are surer than the others
pub record AreSurer (known others : ProgramFacts) : Type 0 where
  pub entries : BelowRows known.entries others.entries
  pub backs : BelowRows known.backs others.backs

-- the surest facts that serve all units
pub record AreLeastFacts (graphs : List GraphShape) (known : ProgramFacts) : Type 0 where
  pub served : AreServed graphs known
  pub least : (others : ProgramFacts) → AreServed graphs others → AreSurer known others
