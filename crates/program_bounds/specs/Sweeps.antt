-- Facts that are raised until they serve all units. Cited by contracts of private functions.
use Rattle.std.specs.Prelude.{◌≡◌, ◌<◌, ◌≤◌, ◌-◌, ◌+◌, ◌*◌, ℕ, suc, Bool, true, false, List, [], ◌∷◌, length, map, replicate, slice_get, slice_set, Option, Some, None}
use Rattle.mir_base.specs.declared.instructions.Operand.{Operand}
use Rattle.flow_graph.specs.declared.nodes.Node.{Node}
use Rattle.flow_graph.specs.declared.nodes.Node.TheVariants.{Start, Skip, Assign, Print, Guard, Call, Test, Return}
use Rattle.flow_graph.specs.Graphs.{GraphShape}
use Rattle.program_pass.specs.GraphPrograms.{shared_in}
use Rattle.bounds.specs.declared.facts.Fact.{Fact}
use Rattle.bounds.specs.declared.facts.Fact.TheVariants.{Never}
use Rattle.bounds.specs.Facts.{BelowFact, fact_rank, joined_fact}
use Rattle.cond_flow.specs.States.{BelowState, NodeState, Unreached, Knows, joined, size_of, state_rank}
use Rattle.program_bounds.specs.Facts.{AreServed, AreSurer, FitGraphs, IsServed, ProgramFacts, first_facts, row_at}

-- ---- graphs

-- there is a graph, they have equally many globals, and their calls are of units that there are and give as many
-- arguments as these receive
pub record FitTogether (graphs : List GraphShape) : Type 0 where
  pub some : 0 < length graphs
  pub share : (u : ℕ) (graph : GraphShape) → slice_get graphs u ≡ Some graph
      → graph.shared ≡ shared_in graphs
  pub calls : (u : ℕ) (graph : GraphShape) → slice_get graphs u ≡ Some graph
      → (n : ℕ) (into : Option ℕ) (v : ℕ) (operands : List Operand) (next : ℕ)
      → slice_get graph.nodes n ≡ Some (Call into v operands next)
      → (called : GraphShape) × (slice_get graphs v ≡ Some called)
      × (length operands ≡ length called.received)

-- ---- rows

-- how far a state is from the least sure of so many facts
abbrev pub state_room : NodeState Fact → ℕ
state_room s = suc (28 * size_of s) - state_rank fact_rank s

-- of rows
abbrev pub rows_room : List (NodeState Fact) → ℕ
rows_room [] = 0
rows_room (row ∷ rows) = state_room row + rows_room rows

-- of the facts of a program
abbrev pub facts_room : ProgramFacts → ℕ
facts_room known = rows_room known.entries + rows_room known.backs

-- the rows with this joined to that of a number
abbrev pub row_joined : List (NodeState Fact) → ℕ → List Fact → List (NodeState Fact)
row_joined rows v facts =
    slice_set rows v (joined joined_fact (row_at rows v) (Knows facts))

-- ---- what nodes give

-- the facts after a node of the unit u has handed over these
abbrev pub given_by : Node → ℕ → List Fact → ProgramFacts → ProgramFacts
given_by (Start next) u facts known = known
given_by (Skip next) u facts known = known
given_by (Assign x rhs next) u facts known = known
given_by (Print a next) u facts known = known
given_by (Guard test number next) u facts known = known
given_by (Call into v operands next) u facts known =
    record known { entries = row_joined known.entries v facts }
given_by (Test test taken other) u facts known = known
given_by (Return a) u facts known = record known { backs = row_joined known.backs u facts }

-- where it hands over something
abbrev pub given_at : Node → ℕ → Option (List Fact) → ProgramFacts → ProgramFacts
given_at node u None known = known
given_at node u (Some facts) known = given_by node u facts known

-- there is a row for what a node of the unit u hands over, as long as that
abbrev pub CanJoin : Node → ℕ → List Fact → ProgramFacts → Type 0
CanJoin (Start next) u facts known = Unit {0}
CanJoin (Skip next) u facts known = Unit {0}
CanJoin (Assign x rhs next) u facts known = Unit {0}
CanJoin (Print a next) u facts known = Unit {0}
CanJoin (Guard test number next) u facts known = Unit {0}
CanJoin (Call into v operands next) u facts known =
    (v < length known.entries) × (length facts ≡ size_of (row_at known.entries v))
CanJoin (Test test taken other) u facts known = Unit {0}
CanJoin (Return a) u facts known =
    (u < length known.backs) × (length facts ≡ size_of (row_at known.backs u))

-- where it hands over something
abbrev pub CanGiveAt : Node → ℕ → Option (List Fact) → ProgramFacts → Type 0
CanGiveAt node u None known = Unit {0}
CanGiveAt node u (Some facts) known = CanJoin node u facts known

-- a node has given this, and it is told whether a fact was surer
pub record GivesAt (node : Node) (u : ℕ) (handed : Option (List Fact))
    (old new : ProgramFacts) (raised : Bool) : Type 0 where
  pub given : new ≡ given_at node u handed old
  pub stays : raised ≡ false → new ≡ old
  pub changes : new ≡ old → raised ≡ false

-- this is known where a node of the unit u hands it over
abbrev pub HasGiven : Node → ℕ → List Fact → ProgramFacts → Type 0
HasGiven (Start next) u facts known = Unit {0}
HasGiven (Skip next) u facts known = Unit {0}
HasGiven (Assign x rhs next) u facts known = Unit {0}
HasGiven (Print a next) u facts known = Unit {0}
HasGiven (Guard test number next) u facts known = Unit {0}
HasGiven (Call into v operands next) u facts known =
    BelowState BelowFact (Knows facts) (row_at known.entries v)
HasGiven (Test test taken other) u facts known = Unit {0}
HasGiven (Return a) u facts known = BelowState BelowFact (Knows facts) (row_at known.backs u)

-- so it is of the nodes of a graph up to this one, which hand over these
abbrev pub HaveGiven : GraphShape → ℕ → List (Option (List Fact)) → ℕ → ProgramFacts → Type 0
HaveGiven graph u all count known = (n : ℕ) (node : Node) (facts : List Fact) → n < count
    → slice_get graph.nodes n ≡ Some node → slice_get all n ≡ Some (Some facts)
    → HasGiven node u facts known

-- there are rows for what the nodes of a graph hand over
pub record CanGive (graph : GraphShape) (u : ℕ) (all : List (Option (List Fact)))
    (known : ProgramFacts) : Type 0 where
  pub long : length all ≡ length graph.nodes
  pub each : (n : ℕ) (node : Node) (handed : Option (List Fact))
      → slice_get graph.nodes n ≡ Some node → slice_get all n ≡ Some handed
      → CanGiveAt node u handed known

-- each row has as many facts as it had
abbrev pub StaySized : (old new : List (NodeState Fact)) → Type 0
StaySized old new = (length new ≡ length old)
    × ((u : ℕ) → size_of (row_at new u) ≡ size_of (row_at old u))

-- facts that are raised as little as the nodes of a graph up to this one give, and whether one was
pub record GivesTo (graph : GraphShape) (u : ℕ) (all : List (Option (List Fact))) (count : ℕ)
    (old new : ProgramFacts) (raised : Bool) : Type 0 where
  pub entries : StaySized old.entries new.entries
  pub backs : StaySized old.backs new.backs
  pub rise : AreSurer old new
  pub have : HaveGiven graph u all count new
  pub least : (tops : ProgramFacts) → AreSurer old tops
      → HaveGiven graph u all (length graph.nodes) tops → AreSurer new tops
  pub room : facts_room new ≤ facts_room old
  pub changes : raised ≡ true → facts_room new < facts_room old
  pub stays : raised ≡ false → new ≡ old

-- ---- units

-- on the way to the surest facts: they are surer than all that serve all units
pub record IsProgress (graphs : List GraphShape) (known : ProgramFacts) : Type 0 where
  pub fit : FitGraphs graphs known
  pub first : (graph : GraphShape) → slice_get graphs 0 ≡ Some graph
      → BelowState BelowFact (Knows (first_facts graph.shared (length graph.received)))
      (row_at known.entries 0)
  pub below : (others : ProgramFacts) → AreServed graphs others → AreSurer known others

-- facts that are raised to what a unit hands over and back by them; where nothing was raised, they serve it
pub record Serves (graphs : List GraphShape) (u : ℕ) (old new : ProgramFacts) (raised : Bool)
    : Type 0 where
  pub progress : IsProgress graphs new
  pub room : facts_room new ≤ facts_room old
  pub changes : raised ≡ true → facts_room new < facts_room old
  pub stays : raised ≡ false → new ≡ old
  pub served : raised ≡ false → (graph : GraphShape) (facts : List Fact)
      → slice_get graphs u ≡ Some graph → row_at new.entries u ≡ Knows facts
      → IsServed new graph u

-- of all units up to this one
pub record SweepsTo (graphs : List GraphShape) (Done : ℕ → Type 0) (old new : ProgramFacts)
    (raised : Bool) : Type 0 where
  pub progress : IsProgress graphs new
  pub room : facts_room new ≤ facts_room old
  pub changes : raised ≡ true → facts_room new < facts_room old
  pub stays : raised ≡ false → new ≡ old
  pub served : raised ≡ false → (u : ℕ) (graph : GraphShape) (facts : List Fact) → Done u
      → slice_get graphs u ≡ Some graph → row_at new.entries u ≡ Knows facts
      → IsServed new graph u

-- of all units
abbrev pub Sweeps : List GraphShape → ProgramFacts → ProgramFacts → Bool → Type 0
Sweeps graphs old new raised = SweepsTo graphs (λ u. u < length graphs) old new raised

-- ---- at first

-- no unit is entered
abbrev pub AreNeverEntries : List GraphShape → List (NodeState Fact) → Type 0
AreNeverEntries graphs rows =
    rows ≡ map (λ (g : GraphShape). Unreached (g.shared + length g.received)) graphs

-- but for the first
abbrev pub AreFirstEntries : List GraphShape → List (NodeState Fact) → Type 0
AreFirstEntries graphs rows = (others : List (NodeState Fact)) × AreNeverEntries graphs others
    × ((graph : GraphShape) → slice_get graphs 0 ≡ Some graph
    → rows ≡ row_joined others 0 (first_facts graph.shared (length graph.received)))

-- no unit returns
abbrev pub AreNeverBacks : List GraphShape → List (List Fact) → Type 0
AreNeverBacks graphs rows =
    rows ≡ map (λ (g : GraphShape). replicate (suc g.shared) Never) graphs
