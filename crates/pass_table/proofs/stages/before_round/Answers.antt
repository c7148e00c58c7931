use Rattle.std.proofs.Common.{ℕ, ◌∙◌, ap, arith}
use Rattle.mir_opt.specs.declared.stages.Stage.TheVariants.{Round}
use Rattle.mir_opt.specs.Stages.{graph_at}
use Rattle.pass_table.proofs.stages.before_round.Goals as goal

pub returns : goal.returns
returns c = c.graph.ensures ∙ ap (λ (n : ℕ). graph_at c.args.unit.now (Round n)) (omega arith)
