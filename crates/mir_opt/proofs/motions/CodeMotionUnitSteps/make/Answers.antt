-- Each step keeps the graph before it, so each stage keeps the source; and what divides stays as it is.
use Rattle.std.proofs.Common.{List, [], ◌∷◌, subst, arith}
use Rattle.std.specs.Prelude.{All}
use Rattle.flow_graph.specs.DividingLaws.{unchanged_trans}
use Rattle.flow_graph.specs.Graphs.{AllWithin}
use Rattle.flow_graph.specs.Keeps.{AsGraph, AsUnit, Form, KeepInTurn, Keeps}
use Rattle.flow_graph.specs.KeepsLaws.{chain_keeps}
use Rattle.mir_opt.specs.declared.stages.MoveStage.TheVariants.{Lower, Clean, Split, Motion, Result}
use Rattle.mir_opt.proofs.motions.CodeMotionUnitSteps.make.Goals as goal

pub returns : goal.returns
returns c =
    let start = c.in_ok-start.start in
    let code = c.in_ok-code.code in
    let made = c.in_ok-start.ensures in
    let source : Form = AsUnit c.args.source.now in
    let stages : List Form = AsGraph start.lowered ∷ AsGraph start.cleaned ∷ AsGraph code.split ∷ AsGraph code.moved ∷ AsGraph c.in_ok-swept.swept ∷ [] in
    let passes : KeepInTurn source stages = (made.lowered_keeps, (made.cleaned_keeps, (c.in_ok-code.ensures.split_keeps, (c.in_ok-code.ensures.moved_keeps, (c.in_ok-swept.ensures.keeps, tt))))) in
    let keep : All (Keeps source) stages = chain_keeps source stages passes in
    record {
      linked = record { start = made.start; motion = c.in_ok-code.ensures.motion; sweeps = c.in_ok-swept.ensures.clean };
      best = record {
        moves = c.in_ok-code.ensures.best;
        lowers = made.lowered_divides;
        divisions = unchanged_trans start.lowered.nodes start.cleaned.nodes c.in_ok-swept.swept.nodes made.divides (unchanged_trans start.cleaned.nodes code.moved.nodes c.in_ok-swept.swept.nodes c.in_ok-code.ensures.divides c.in_ok-swept.ensures.divides);
      };
      keeps = elim [ Lower ↦ keep 0 source (omega arith) | Clean ↦ keep 1 source (omega arith) | Split ↦ keep 2 source (omega arith) | Motion ↦ keep 3 source (omega arith) | Result ↦ keep 4 source (omega arith) ];
      within = (made.within, subst AllWithin c.nodes-nodes.ensures.value (λ m slot s edge. (c.nodes-nodes.ensures.graph.can.succs m slot s edge).1));
    }
