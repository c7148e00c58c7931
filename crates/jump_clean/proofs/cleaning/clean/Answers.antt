-- What holds of the copy holds of the graph, which it is equal to.
use Rattle.std.proofs.Common.{subst}
use Rattle.flow_graph.specs.Graphs.{GraphShape}
use Rattle.flow_graph.specs.Passes.{GraphDividesUnchanged, GraphKeeps}
use Rattle.jump_clean.specs.Cleaned.{IsClean, IsOnlyClean}
use Rattle.jump_clean.proofs.cleaning.clean.Goals as goal

pub returns-clause-clean : goal.returns-clause-clean
returns-clause-clean c = subst (λ (g : GraphShape). IsClean g c.in_ok-cleaned.cleaned) c.in_ok-copy.ensures c.in_ok-cleaned.ensures.clean

pub returns-clause-only : goal.returns-clause-only
returns-clause-only c = subst (λ (g : GraphShape). IsOnlyClean g c.in_ok-cleaned.cleaned) c.in_ok-copy.ensures c.in_ok-cleaned.ensures.only

pub returns-clause-keeps : goal.returns-clause-keeps
returns-clause-keeps c = subst (λ (g : GraphShape). GraphKeeps g c.in_ok-cleaned.cleaned) c.in_ok-copy.ensures c.in_ok-cleaned.ensures.keeps

pub returns-clause-divides : goal.returns-clause-divides
returns-clause-divides c = subst (λ (g : GraphShape). GraphDividesUnchanged g c.in_ok-cleaned.cleaned) c.in_ok-copy.ensures c.in_ok-cleaned.ensures.divides
