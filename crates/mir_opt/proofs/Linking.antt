-- A program of layouts keeps what its units keep.
use Rattle.std.proofs.Common.{◌≡◌, List, sym, subst}
use Rattle.std.specs.List.{AllZip}
use Rattle.mir_base.specs.Shapes.{IsProgram, ProgramShape, UnitShape}
use Rattle.mir_sim.specs.Calls.{CallsNoMore}
use Rattle.mir_sim.specs.Pairs.{AllUnitsCheaper, AllUnitsSame}
use Rattle.flow_graph.specs.DividingUnits.{DivisionsLaid}
use Rattle.flow_graph.specs.Graphs.{GraphShape}
use Rattle.flow_graph.specs.Keeps.{AsGraph, AsUnit, Keeps}
use Rattle.flow_graph.specs.KeepsLaws.{keeps_trans}
use Rattle.flow_graph.specs.Layouts.{IsLayout}
use Rattle.mir_opt.specs.Made.{AllLaidOut, AllLayDivisions, IsKept, IsLaidOut}
use Rattle.mir_opt.specs.Stages.{AllKeep, AreLaid}
use Rattle.mir_opt.proofs.Fits.{kept_calls, kept_cheaper, kept_same}
use Rattle.mir_opt.proofs.Zips.{zip_map, zip_trans}

module _ {T S : Type 0} (graph_of : T → S → GraphShape) (stage : S) (units : List T) (targets : List UnitShape) (laid : AllLaidOut graph_of stage units targets) where
  -- they are layouts
  pub are_laid : AreLaid graph_of stage units targets
  are_laid = zip_map (λ unit target. IsLaidOut (graph_of unit stage) target) (λ unit target. IsLayout (graph_of unit stage) target) (λ unit target laid. laid.layout) units targets laid

  -- that have the divisions of the graphs
  pub lay_divisions : AllLayDivisions graph_of stage units targets
  lay_divisions = zip_map (λ unit target. IsLaidOut (graph_of unit stage) target) (λ unit target. DivisionsLaid (graph_of unit stage) target) (λ unit target laid. laid.divides) units targets laid

  -- a unit that is the layout of a graph that keeps the source keeps the source
  pub laid_kept : (sources : List UnitShape) → AllKeep graph_of sources units → AllZip IsKept sources targets
  laid_kept sources keep =
      zip_trans (λ source unit. (stage : S) → Keeps (AsUnit source) (AsGraph (graph_of unit stage))) (λ unit target. IsLaidOut (graph_of unit stage) target) IsKept
      (λ source unit target keeps laid. record { keeps = keeps_trans (AsUnit source) (AsGraph (graph_of unit stage)) (AsUnit target) (keeps stage) laid.keeps; lowers = laid.lowers })
      sources units targets keep laid

  -- so the programs are the same, unit by unit, no unit evaluates more operators, and none calls another unit
  module _ (source program : ProgramShape) (is : program ≡ record { globals = source.globals; units = targets }) (fits : IsProgram source.globals source.units) (keep : AllKeep graph_of source.units units) where
    pub laid_same : AllUnitsSame source program
    laid_same = subst (AllUnitsSame source) (sym is) (kept_same source.globals source.units targets fits (laid_kept source.units keep))

    pub laid_cheaper : AllUnitsCheaper source program
    laid_cheaper = subst (AllUnitsCheaper source) (sym is) (kept_cheaper source.globals source.units targets fits (laid_kept source.units keep))

    pub laid_calls : CallsNoMore source program
    laid_calls = subst (CallsNoMore source) (sym is) (kept_calls source.globals source.units targets fits (laid_kept source.units keep))
