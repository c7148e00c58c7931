-- Each pass keeps the graph before it, so each stage keeps the source; and what divides stays from pass to pass.
use Rattle.std.proofs.Common.{List, [], ◌∷◌, arith}
use Rattle.std.specs.Prelude.{All}
use Rattle.flow_graph.specs.DividingLaws.{stay_trans, unchanged_stay}
use Rattle.flow_graph.specs.Keeps.{AsGraph, AsUnit, Form, KeepInTurn, Keeps}
use Rattle.flow_graph.specs.KeepsLaws.{chain_keeps}
use Rattle.flow_graph.specs.Passes.{GraphDivides}
use Rattle.sink_rounds.specs.RoundGraphs.{last_round}
use Rattle.sink_rounds.specs.RoundLaws.{rounds_in_turn}
use Rattle.mir_opt.specs.declared.stages.Stage.TheVariants.{Lower, Clean, Fold, Number, Copies, Split, Motion, CopiesAfterMotion, Round, Result}
use Rattle.mir_opt.proofs.Rounds.{rounds_keep}
use Rattle.mir_opt.proofs.chain.OptimisingUnitSteps.make.Goals as goal

pub make_back-requires : goal.make_back-requires
make_back-requires c = c.in_ok-code.ensures.is_split

pub returns : goal.returns
returns c =
    let start = c.in_ok-front.front.start in
    let values = c.in_ok-front.front.values in
    let code = c.in_ok-code.code in
    let back = c.in_ok-back.back in
    let front = c.in_ok-front.ensures in
    let after = c.in_ok-back.ensures in
    let source : Form = AsUnit c.args.source.now in
    let stages : List Form = AsGraph start.lowered ∷ AsGraph start.cleaned ∷ AsGraph values.folded ∷ AsGraph values.numbered ∷ AsGraph values.copied ∷ AsGraph code.split ∷ AsGraph code.moved ∷ AsGraph back.recopied ∷ AsGraph (last_round back.recopied back.rounds.graphs) ∷ AsGraph back.swept ∷ [] in
    let passes : KeepInTurn source stages = (front.start.lowered_keeps, (front.start.cleaned_keeps, (front.values.folded_keeps, (front.values.numbered_keeps, (front.values.copied_keeps, (c.in_ok-code.ensures.split_keeps, (c.in_ok-code.ensures.moved_keeps, (after.recopied_keeps, (after.last_keeps.keeps, (after.swept_keeps, tt)))))))))) in
    let keep : All (Keeps source) stages = chain_keeps source stages passes in
    let rest : GraphDivides values.folded back.swept =
    stay_trans values.folded.nodes values.copied.nodes back.swept.nodes front.values.copied_divides (stay_trans values.copied.nodes code.moved.nodes back.swept.nodes (unchanged_stay values.copied.nodes code.moved.nodes c.in_ok-code.ensures.divides) after.divides) in
    record {
      linked = record { start = front.start.start; front = front.values.values; motion = c.in_ok-code.ensures.motion; back = after.back };
      best = record {
        moves = c.in_ok-code.ensures.best;
        lowers = front.start.lowered_divides;
        divisions = record { cleans = front.start.divides; folds = front.values.folded_divides; keeps = rest };
        sinks = after.last_keeps.no_more;
        rounds = after.rounds_best;
      };
      keeps = elim [
        | Lower ↦ keep 0 source (omega arith)
        | Clean ↦ keep 1 source (omega arith)
        | Fold ↦ keep 2 source (omega arith)
        | Number ↦ keep 3 source (omega arith)
        | Copies ↦ keep 4 source (omega arith)
        | Split ↦ keep 5 source (omega arith)
        | Motion ↦ keep 6 source (omega arith)
        | CopiesAfterMotion ↦ keep 7 source (omega arith)
        | Round count ↦ rounds_keep source back.recopied back.rounds.graphs (keep 7 source (omega arith)) (rounds_in_turn back.recopied back.rounds.graphs after.rounds_keep) count
        | Result ↦ keep 9 source (omega arith)
      ];
      within = (front.start.within, after.last_keeps.within);
    }
