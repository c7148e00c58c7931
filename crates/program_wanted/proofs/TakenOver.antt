-- What is removed where what is wanted is kept over all units goes.
use Rattle.std.proofs.Common.{◌≡◌, ℕ, Bool, true, List, slice_get, Option, Some}
use Rattle.mir_base.specs.declared.instructions.Rhs.{Rhs}
use Rattle.flow_graph.specs.declared.nodes.Node.TheVariants.{Assign, Skip}
use Rattle.flow_graph.specs.Graphs.{CanMake, GraphShape}
use Rattle.wanted_bits.specs.declared.picking.Shift.{Shift}
use Rattle.wanted_bits.specs.MostRemoved.{RemovesMostBy}
use Rattle.wanted_bits.specs.NarrowedLaws.{taken_wanted}
use Rattle.program_wanted.specs.Demands.{AreLeastDemands, AreServed, Demands, asked_at}
use Rattle.program_wanted.specs.DemandLaws.{demands_more, keeps_less}
use Rattle.program_wanted.specs.ProgramRemoves.{KeepTaken}

module _ (graphs : List GraphShape) (demands : Demands) (shifts : ℕ → ℕ → ℕ → Option Shift) (removed : ℕ → ℕ → Bool) (taken : ℕ → ℕ → ℕ → ℕ) (keep : KeepTaken graphs demands shifts removed taken) (can : (u : ℕ) (graph : GraphShape) → slice_get graphs u ≡ Some graph → CanMake graph.vars graph.received graph.nodes) where
  -- demands by which a removal keeps what is wanted serve all units
  taken_served : AreServed graphs demands
  taken_served = record {
    fit = keep.fit;
    whole = keep.whole;
    units = λ u graph at.
        let unit = keep.units u graph at in
        record {
          shifts = shifts u;
          tell = keep.tell u graph at;
          wanted = taken u;
          are = taken_wanted (asked_at demands graph.shared u) graph (can u graph at) (shifts u) (removed u) (taken u) unit.keeps;
          globals = unit.globals;
          arguments = unit.arguments;
          calls = unit.calls;
        };
  }

  -- so the least ask for no more, and each assignment that is removed goes
  pub removed_goes : (least : Demands) → AreLeastDemands graphs least → (u : ℕ) (graph made : GraphShape) → slice_get graphs u ≡ Some graph → RemovesMostBy (asked_at least graph.shared u) graph made
      → (n x next : ℕ) (rhs : Rhs) → slice_get graph.nodes n ≡ Some (Assign x rhs next) → removed u n ≡ true → slice_get made.nodes n ≡ Some (Skip next)
  removed_goes least are u graph made at most =
      let fewer = are.least demands taken_served in
      let than = demands_more graphs least demands are.served.fit keep.fit fewer graph.shared u in
      most (shifts u) (removed u) (taken u) (keep.tell u graph at)
      (keeps_less (asked_at least graph.shared u) (asked_at demands graph.shared u) than graph (shifts u) (removed u) (taken u) (keep.units u graph at).keeps)
