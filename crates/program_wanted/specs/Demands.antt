-- How many bits the units of a program ask of one another. Cited by contracts.
use Rattle.std.specs.Prelude.{◌≡◌, ◌<◌, ◌≤◌, ℕ, suc, List, length, slice_get, Option, Some}
use Rattle.mir_base.specs.declared.instructions.Operand.{Operand}
use Rattle.node_list.specs.Lists.{list_at}
use Rattle.flow_graph.specs.declared.nodes.Node.TheVariants.{Call}
use Rattle.flow_graph.specs.Graphs.{GraphShape}
use Rattle.program_pass.specs.GraphPrograms.{shared_in}
use Rattle.wanted_bits.specs.declared.around.Around.{Around}
use Rattle.wanted_bits.specs.declared.picking.Shift.{Shift}
use Rattle.wanted_bits.specs.Asking.{width_at}
use Rattle.wanted_bits.specs.Asks.{back_list}
use Rattle.wanted_bits.specs.BitsOrder.{HasFew}
use Rattle.wanted_bits.specs.MostRemoved.{TellShifts}
use Rattle.wanted_bits.specs.Walking.{bits_at}
use Rattle.wanted_bits.specs.WalkLaws.{FewerEach}
use Rattle.wanted_bits.specs.Wanted.{AreWantedBy, Asked}

-- For each unit, how many bits are asked for of each global where it is entered, of each of its arguments, and of what
-- it hands back: of each global, and then of its result
pub record Demands : Type 0 where
  pub globals : List (List ℕ)
  pub arguments : List (List ℕ)
  pub backs : List (List ℕ)

-- what is asked for around the unit u, where there are so many globals
abbrev pub asked_at : Demands → ℕ → ℕ → Asked
asked_at demands shared u = record {
  globals = λ v x. width_at (list_at demands.globals v) x;
  arguments = λ v i. width_at (list_at demands.arguments v) i;
  left = λ x. width_at (list_at demands.backs u) x;
  result = width_at (list_at demands.backs u) shared;
}

-- what is asked for around a unit, as the demands have it
pub record IsAround (demands : Demands) (u : ℕ) (around : Around) : Type 0 where
  pub globals : around.globals.now ≡ demands.globals
  pub arguments : around.arguments.now ≡ demands.arguments
  pub back : around.back.now ≡ list_at demands.backs u

-- a list for each graph, of so many numbers, each of which is at most 64
pub record AreNumberRows (graphs : List GraphShape) (count : GraphShape → ℕ) (rows : List (List ℕ))
    : Type 0 where
  pub long : length rows ≡ length graphs
  pub each : (u : ℕ) (graph : GraphShape) → slice_get graphs u ≡ Some graph
      → (length (list_at rows u) ≡ count graph) × HasFew (list_at rows u)

-- they have a number for each global, for each argument, and for each global and the result
pub record FitGraphs (graphs : List GraphShape) (demands : Demands) : Type 0 where
  pub globals : AreNumberRows graphs (λ graph. graph.shared) demands.globals
  pub arguments : AreNumberRows graphs (λ graph. length graph.received) demands.arguments
  pub backs : AreNumberRows graphs (λ graph. suc graph.shared) demands.backs

-- The demands serve the unit u, which has this graph: by numbers of wanted bits, where as many are asked for around it,
-- at most as many are wanted of each global and of each argument where it is entered, and behind each call at most as
-- many of each global, unless the result goes to it, and of the result
pub record IsServed (demands : Demands) (graph : GraphShape) (u : ℕ) : Type 0 where
  pub shifts : ℕ → ℕ → Option Shift
  pub tell : TellShifts graph shifts
  pub wanted : ℕ → ℕ → ℕ
  pub are : AreWantedBy (asked_at demands graph.shared u) graph shifts wanted
  pub globals : (x : ℕ) → x < graph.shared → wanted 0 x ≤ bits_at (list_at demands.globals u) x
  pub arguments : (i x : ℕ) → slice_get graph.received i ≡ Some x
      → wanted 0 x ≤ bits_at (list_at demands.arguments u) i
  pub calls : (n : ℕ) (into : Option ℕ) (v : ℕ) (operands : List Operand) (next : ℕ)
      → slice_get graph.nodes n ≡ Some (Call into v operands next)
      → FewerEach (back_list graph.shared into (wanted next)) (list_at demands.backs v)

-- they serve all units, and all bits are asked for of the result of the first
pub record AreServed (graphs : List GraphShape) (demands : Demands) : Type 0 where
  pub fit : FitGraphs graphs demands
  pub whole : 64 ≤ bits_at (list_at demands.backs 0) (shared_in graphs)
  pub units : (u : ℕ) (graph : GraphShape) → slice_get graphs u ≡ Some graph
      → IsServed demands graph u

-- each number of the rows is at most that of the others
abbrev pub FewerRows : List (List ℕ) → List (List ℕ) → Type 0
FewerRows rows others = (u : ℕ) → FewerEach (list_at rows u) (list_at others u)

-- no more is asked for than by the others
pub record AskNoMore (demands others : Demands) : Type 0 where
  pub globals : FewerRows demands.globals others.globals
  pub arguments : FewerRows demands.arguments others.arguments
  pub backs : FewerRows demands.backs others.backs

-- the least demands that serve all units
pub record AreLeastDemands (graphs : List GraphShape) (demands : Demands) : Type 0 where
  pub served : AreServed graphs demands
  pub least : (others : Demands) → AreServed graphs others → AskNoMore demands others
