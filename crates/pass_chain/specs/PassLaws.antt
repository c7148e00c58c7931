-- Laws of the passes over whole programs, and of the rounds of sinking: each has one result, which keeps runs. For proofs
-- only.
use Rattle.std.proofs.Common.{◌≡◌, List, refl, sym, ap, ◌∙◌, subst}
use Rattle.mir_base.specs.Shapes.{ProgramShape}
use Rattle.flow_graph.specs.Graphs.{GraphShape}
use Rattle.flow_graph.specs.OneLaws.{same_graphs}
use Rattle.edge_split.specs.Split.{IsEdgeSplit}
use Rattle.sink_rounds.specs.RoundGraphs.{AreOnlyRounds, AreRounds, last_round}
use Rattle.mir_opt.specs.Stages.{KeepsProgram}
use Rattle.program_pass.specs.HeadLaws.{heads_stay}
use Rattle.program_pass.specs.PassPrograms.{KeepsRuns, Rewrites, heads_of}
use Rattle.pass_chain.specs.Passes.{HasTrail, SunkInRounds}

-- ---- rounds of sinking

-- a graph has one split graph
split_one : (graph a b : GraphShape) → IsEdgeSplit graph a → IsEdgeSplit graph b → a ≡ b
split_one graph a b p q = same_graphs a b (p.name_is ∙ sym q.name_is) (p.shared_is ∙ sym q.shared_is) (p.vars_are ∙ sym q.vars_are) (p.received_are ∙ sym q.received_are) (p.nodes_are ∙ sym q.nodes_are)

-- so rounds on it that are the only ones have the only last graph
pub sinks_only : (graph split : GraphShape) (rounds : List GraphShape) → IsEdgeSplit graph split → AreOnlyRounds split rounds → (other : GraphShape) → SunkInRounds graph other → last_round split rounds ≡ other
sinks_only graph split rounds splits only other s =
    let same : split ≡ s.split = split_one graph split s.split splits s.splits in
    let lists : s.rounds ≡ rounds = only s.rounds (subst (λ g. AreRounds g s.rounds) (sym same) s.are_rounds) in
    ap (λ g. last_round g rounds) same ∙ ap (last_round s.split) (sym lists) ∙ sym s.last

-- ---- trails

-- what a target keeps of its source, unit by unit, with the heads of its units
pub keeps_runs : (source target : ProgramShape) → KeepsProgram source target → target.globals ≡ source.globals → heads_of target ≡ heads_of source → KeepsRuns source target
keeps_runs source target keeps globals heads = record {
  same = keeps.same;
  cheaper = keeps.cheaper;
  shallower = keeps.shallower;
  heads = heads_stay source target globals heads;
}

-- where a trail is the only one of its source, its target is the only one
pub trail_rewrites : {T : Type 0} (source_of target_of : T → ProgramShape) (Linked : T → Type 0) (source : ProgramShape) (trail : T) → source_of trail ≡ source → Linked trail → ((other : T) → source_of other ≡ source → Linked other → trail ≡ other) → KeepsRuns source (target_of trail)
    → Rewrites (HasTrail source_of target_of Linked) source (target_of trail)
trail_rewrites source_of target_of Linked source trail is linked only keeps = record {
  exact = record { trail = trail; linked = linked; from_source = is; to_target = refl };
  only = λ other h. ap target_of (only h.trail h.from_source h.linked) ∙ h.to_target;
  keeps = keeps;
}
