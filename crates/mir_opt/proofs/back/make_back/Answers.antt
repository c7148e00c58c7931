use Rattle.std.proofs.Common.{◌≡◌, ◌≤◌, ◌∙◌, length, ap, subst}
use Rattle.flow_graph.specs.DividingLaws.{stay_trans, unchanged_stay, unchanged_trans}
use Rattle.flow_graph.specs.Graphs.{IsGraph}
use Rattle.flow_graph.specs.Passes.{GraphDividesUnchanged, GraphKeeps}
use Rattle.jump_clean.specs.Cleaned.{IsClean}
use Rattle.sink_rounds.specs.RoundGraphs.{last_round}
use Rattle.sink_best.specs.AtRest.{best_at_rest}
use Rattle.mir_opt.proofs.back.make_back.Goals as goal

-- the graph that is cleaned is that of the last round
last_is : (c : goal.In_ok-swept) → c.last_round.result.now ≡ last_round c.in_ok-recopied.recopied c.in_ok-rounds.rounds.graphs
last_is c = c.last_round.ensures ∙ ap (last_round c.in_ok-recopied.recopied) c.items.ensures

pub rounds-requires : goal.rounds-requires
rounds-requires c = c.in_ok-recopied.ensures.split c.requires

pub returns : goal.returns
returns c =
    let recopied = c.in_ok-recopied.recopied in
    let last = last_round recopied c.in_ok-rounds.rounds.graphs in
    let swept = c.in_ok-swept.swept in
    let made = c.in_ok-rounds.ensures in
    record {
      back = record {
        copies = c.in_ok-recopied.ensures.copied;
        sinks = made.rounds;
        sweeps = subst (λ g. IsClean g swept) (last_is c) c.in_ok-swept.ensures.clean;
      };
      recopied_keeps = c.in_ok-recopied.ensures.keeps;
      rounds_keep = made.keeps;
      last_keeps = made.last;
      rounds_best = record {
        steps = made.best;
        at_rest = best_at_rest recopied
            (subst (IsGraph recopied.vars recopied.received) c.nodes-nodes.ensures.value c.nodes-nodes.ensures.graph)
            (subst (λ k. k ≤ length recopied.vars) c.shared-shared.ensures.value c.shared-shared.ensures.shares.count)
            (c.in_ok-recopied.ensures.split c.requires) c.in_ok-rounds.rounds.graphs made.rounds made.keeps;
      };
      swept_keeps = subst (λ g. GraphKeeps g swept) (last_is c) c.in_ok-swept.ensures.keeps;
      divides = stay_trans c.args.moved.now.nodes recopied.nodes swept.nodes c.in_ok-recopied.ensures.divides
          (unchanged_stay recopied.nodes swept.nodes (unchanged_trans recopied.nodes last.nodes swept.nodes made.last.divides (subst (λ g. GraphDividesUnchanged g swept) (last_is c) c.in_ok-swept.ensures.divides)));
    }
