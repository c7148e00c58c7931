-- What is made of the units of a program by the least demands: its runs agree with those of the source, no removal takes
-- an assignment that stays, and no path is dearer.
use Rattle.std.proofs.Common.{◌≡◌, ℕ, List, Some, slice_get, ap, subst}
use Rattle.std.proofs.lemmas.Option.{slice_get_within}
use Rattle.mir_base.specs.Shapes.{IsProgram, ProgramShape}
use Rattle.flow_graph.specs.Graphs.{CanMake, GraphShape}
use Rattle.program_pass.specs.Fronts.{AreFronts}
use Rattle.program_pass.specs.GraphPrograms.{graph_or_empty, shared_in}
use Rattle.wanted_bits.specs.Made.{IsMadeNarrowed}
use Rattle.wanted_bits.specs.Narrowed.{AreNarrowed}
use Rattle.program_wanted.specs.Demands.{AreLeastDemands, Demands, asked_at}
use Rattle.program_wanted.specs.ProgramRemoves.{ProgramRemovesMost}
use Rattle.program_wanted.specs.ProgramRuns.{ProgramRunsAgree}
use Rattle.program_wanted.specs.UnitPaths.{ProgramPathsKept}
use Rattle.program_wanted.specs.WantedProgramLaws.{are_units, is_program, least_sides, made, made_narrowed, own, own_least, whole}
use Rattle.program_wanted.specs.WantedPrograms.{WantedUnits}
use Rattle.program_wanted.proofs.PathsStay.{paths_stay}
use Rattle.program_wanted.proofs.RunsBeside.{runs_agree, unit_numbers, unit_shifts, unit_wanted}
use Rattle.program_wanted.proofs.TakenOver.{removed_goes}

module _ (demands : Demands) (gs : List GraphShape) (source target : ProgramShape) (program : IsProgram source.globals source.units) (globals : target.globals ≡ source.globals) (all : WantedUnits demands source.units target.units) (fronts : AreFronts source.units gs) (least : AreLeastDemands gs demands) where
  -- the graphs of the units, and what they are narrowed to
  abbrev graphs : List GraphShape
  graphs = own demands gs source target program globals all fronts least

  abbrev narrowed : List GraphShape
  narrowed = made demands gs source target program globals all fronts least

  -- the graph of a number
  can_at : (u : ℕ) (graph : GraphShape) → slice_get graphs u ≡ Some graph → CanMake graph.vars graph.received graph.nodes
  can_at u graph at =
      let lt = slice_get_within graphs u graph at in
      subst (λ g. CanMake g.vars g.received g.nodes) (ap (graph_or_empty (shared_in graphs)) at) ((is_program demands gs source target program globals all fronts least).are u lt)

  -- what it is narrowed to
  narrowed_at : (u : ℕ) (graph to : GraphShape) → slice_get graphs u ≡ Some graph → slice_get narrowed u ≡ Some to → IsMadeNarrowed (asked_at demands graph.shared u) graph to
  narrowed_at = made_narrowed demands gs source target program globals all fronts least

  -- run beside the source's graphs, the narrowed ones agree in the bits that are wanted
  pub wanted_agree : ProgramRunsAgree source target
  wanted_agree =
      let sound = is_program demands gs source target program globals all fronts least in
      let enough = whole demands gs source target program globals all fronts least in
      let sides = least_sides demands gs source target program globals all fronts least in
      record {
        graphs = graphs;
        narrowed = narrowed;
        units = are_units demands gs source target program globals all fronts least;
        shifts = unit_shifts graphs narrowed sound demands enough sides;
        wanted = unit_wanted graphs narrowed sound demands enough sides;
        least = unit_numbers graphs narrowed sound demands enough sides;
        agree = runs_agree graphs narrowed sound demands enough sides;
      }

  -- what is removed where what is wanted is kept goes
  pub wanted_removes : ProgramRemovesMost source target
  wanted_removes =
      let least_own = own_least demands gs source target program globals all fronts least in
      record {
        graphs = graphs;
        narrowed = narrowed;
        units = are_units demands gs source target program globals all fronts least;
        most = λ others shifts removed taken keep u graph to n x next rhs at at'.
            removed_goes graphs others shifts removed taken keep can_at demands least_own u graph to at (narrowed_at u graph to at at').most n x next rhs;
      }

  -- no path is dearer
  pub wanted_paths : ProgramPathsKept source target
  wanted_paths = record {
    graphs = graphs;
    narrowed = narrowed;
    units = are_units demands gs source target program globals all fronts least;
    paths = λ u graph to at at'.
        let one = narrowed_at u graph to at at' in
        let found = one.found in
        let are : AreNarrowed (asked_at demands graph.shared u) graph to.nodes = record { shifts = found.shifts; wanted = found.wanted; shifts_hold = found.shifts_hold; are_wanted = found.least.are; nodes_are = found.nodes_are } in
        paths_stay (asked_at demands graph.shared u) graph to (can_at u graph at) are one.narrowed_is.shared_is one.narrowed_is.received_are;
  }
