-- Laws of programs whose units go through a pass on graphs that has one result and keeps each graph: there is one such
-- program, and it keeps the runs of the source. For proofs only.
use Rattle.std.proofs.Common.{◌≡◌, ℕ, suc, List, [], ◌∷◌, refl, sym, subst}
use Rattle.mir_base.specs.Shapes.{IsProgram, ProgramShape, UnitShape}
use Rattle.mir_sim.specs.MachineLaws.{keep_refl}
use Rattle.mir_sim.specs.Machines.{MachinesKeep}
use Rattle.flow_graph.specs.Graphs.{GraphShape}
use Rattle.flow_graph.specs.ListLaws.{cons_same}
use Rattle.flow_graph.specs.Passes.{GraphKeeps}
use Rattle.program_pass.specs.GraphPrograms.{graph_machines}
use Rattle.program_pass.specs.PassOneLaws.{program_only}
use Rattle.program_pass.specs.PassPrograms.{IsOnly, KeepsRuns, PassKeeps, Rewrites}
use Rattle.program_pass.specs.PassProgramLaws.{MadeOf, graphs, graphs_of, middles, middles_of, passes_keep}
use Rattle.program_pass.specs.UnitMakes.{all_passed}
use Rattle.pass_chain.specs.GraphPasses.{AllMadeBy, Itself, OnlyResults}
use Rattle.pass_chain.specs.Passes.{PassesGraphs}

-- a result that keeps the graph keeps it with nothing in between
pub keeps_itself : (number : ℕ) (graph passed : GraphShape) → GraphKeeps graph passed → PassKeeps (Itself number) graph passed
keeps_itself number graph passed keeps = record {
  name = keeps.name;
  globals = keeps.globals;
  middle = graph;
  between = refl;
  shared = refl;
  received = refl;
  same = keeps.same;
  cheaper = keeps.cheaper;
  middle_calls = λ called count c. c;
  calls = keeps.calls;
}

module _ (Exact : GraphShape → GraphShape → Type 0) where
  -- the graphs in between are the graphs
  middles_are : (number : ℕ → ℕ) (sources targets : List UnitShape) (made : MadeOf (OnlyResults Exact) Itself number sources targets) → middles_of (OnlyResults Exact) Itself number sources targets made ≡ graphs_of (OnlyResults Exact) Itself number sources targets made
  middles_are number [] targets made = refl
  middles_are number (s ∷ sources) [] made = refl
  middles_are number (s ∷ sources) (t ∷ targets) made =
      cons_same (made 0 s t refl refl).keeps.between (middles_are (λ u. number (suc u)) sources targets (λ u. made (suc u)))

  module _ (source target : ProgramShape) (program : IsProgram source.globals source.units) (globals : target.globals ≡ source.globals) (all : AllMadeBy Exact source.units target.units) where
    -- so runs are kept
    made_keeps : KeepsRuns source target
    made_keeps =
        let before = graphs (OnlyResults Exact) Itself source target program globals all in
        let after = middles (OnlyResults Exact) Itself source target program globals all in
        let same : after ≡ before = middles_are (λ u. u) source.units target.units all.units in
        passes_keep (OnlyResults Exact) Itself source target program globals all (subst (λ gs. MachinesKeep (graph_machines before) (graph_machines gs)) (sym same) (keep_refl (graph_machines before)))

    -- the program is the exact one
    made_exact : PassesGraphs Exact source target
    made_exact =
        let passed = all_passed (OnlyResults Exact) Itself source target globals all in
        record {
          globals = passed.globals;
          long = passed.long;
          units = λ u s t at at'.
              let unit = passed.units u s t at at' in
              record {
                lowered = unit.lowered;
                cleaned = unit.cleaned;
                passed = unit.passed;
                swept = unit.swept;
                is_lowered = unit.is_lowered;
                is_cleaned = unit.is_cleaned;
                is_passed = unit.is_passed.is;
                is_swept = unit.is_swept;
                is_laid = unit.is_laid;
              };
        }

    -- and the only one
    made_only : IsOnly (PassesGraphs Exact source) target
    made_only = λ other is.
        program_only (OnlyResults Exact) Itself (λ number. Exact) (λ u graph a b only exact. only.only b exact) source target other globals all is

    pub made_rewrites : Rewrites (PassesGraphs Exact) source target
    made_rewrites = record { exact = made_exact; only = made_only; keeps = made_keeps }
