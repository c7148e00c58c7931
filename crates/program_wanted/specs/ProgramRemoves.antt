-- That the narrowed units are without the most assignments, over all units at once. Cited by contracts.
use Rattle.std.specs.Prelude.{◌≡◌, ◌≤◌, ◌<◌, ℕ, Bool, true, List, slice_get, Option, Some}
use Rattle.mir_base.specs.declared.instructions.Operand.{Operand}
use Rattle.mir_base.specs.declared.instructions.Rhs.{Rhs}
use Rattle.mir_base.specs.Shapes.{ProgramShape}
use Rattle.node_list.specs.Lists.{list_at}
use Rattle.flow_graph.specs.declared.nodes.Node.TheVariants.{Assign, Call, Skip}
use Rattle.flow_graph.specs.Graphs.{GraphShape}
use Rattle.program_pass.specs.GraphPrograms.{shared_in}
use Rattle.wanted_bits.specs.Asks.{back_list}
use Rattle.wanted_bits.specs.declared.picking.Shift.{Shift}
use Rattle.wanted_bits.specs.MostRemoved.{KeepsTaken, TellShifts}
use Rattle.wanted_bits.specs.Walking.{bits_at}
use Rattle.wanted_bits.specs.WalkLaws.{FewerEach}
use Rattle.program_wanted.specs.Demands.{Demands, FitGraphs, asked_at}
use Rattle.program_wanted.specs.NarrowedUnits.{AreNarrowedUnits}

-- A removal of these nodes of the unit u keeps what is wanted, where so many bits are taken for wanted: what stays
-- wants at most these, where as many are asked for around the unit as the demands say; and no more are taken than the
-- demands ask for, of each global and of each argument where the unit is entered, and behind each call of what the
-- called unit hands back
pub record KeepsTakenIn (demands : Demands) (graph : GraphShape) (u : ℕ)
    (shifts : ℕ → ℕ → Option Shift) (removed : ℕ → Bool) (taken : ℕ → ℕ → ℕ) : Type 0 where
  pub keeps : KeepsTaken (asked_at demands graph.shared u) graph shifts removed taken
  pub globals : (x : ℕ) → x < graph.shared → taken 0 x ≤ bits_at (list_at demands.globals u) x
  pub arguments : (i x : ℕ) → slice_get graph.received i ≡ Some x
      → taken 0 x ≤ bits_at (list_at demands.arguments u) i
  pub calls : (n : ℕ) (into : Option ℕ) (v : ℕ) (operands : List Operand) (next : ℕ)
      → slice_get graph.nodes n ≡ Some (Call into v operands next)
      → FewerEach (back_list graph.shared into (taken next)) (list_at demands.backs v)

-- of all units together, by their numbers, where all bits are asked for of the result of the first
pub record KeepTaken (graphs : List GraphShape) (demands : Demands)
    (shifts : ℕ → ℕ → ℕ → Option Shift) (removed : ℕ → ℕ → Bool) (taken : ℕ → ℕ → ℕ → ℕ)
    : Type 0 where
  pub fit : FitGraphs graphs demands
  pub whole : 64 ≤ bits_at (list_at demands.backs 0) (shared_in graphs)
  pub tell : (u : ℕ) (graph : GraphShape) → slice_get graphs u ≡ Some graph
      → TellShifts graph (shifts u)
  pub units : (u : ℕ) (graph : GraphShape) → slice_get graphs u ≡ Some graph
      → KeepsTakenIn demands graph u (shifts u) (removed u) (taken u)

-- each assignment of a unit that is removed where what is wanted is kept over all units, whatever is asked for around
-- them and taken for wanted, is a Skip in the graph that its unit is narrowed to
pub record ProgramRemovesMost (source target : ProgramShape) : Type 0 where
  pub graphs : List GraphShape
  pub narrowed : List GraphShape
  pub units : AreNarrowedUnits source target graphs narrowed
  pub most : (demands : Demands) (shifts : ℕ → ℕ → ℕ → Option Shift) (removed : ℕ → ℕ → Bool)
      (taken : ℕ → ℕ → ℕ → ℕ) → KeepTaken graphs demands shifts removed taken
      → (u : ℕ) (graph made : GraphShape) (n x next : ℕ) (rhs : Rhs)
      → slice_get graphs u ≡ Some graph → slice_get narrowed u ≡ Some made
      → slice_get graph.nodes n ≡ Some (Assign x rhs next) → removed u n ≡ true
      → slice_get made.nodes n ≡ Some (Skip next)
