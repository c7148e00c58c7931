use Rattle.std.proofs.Common.{◌++◌, ◌∙◌, ap, refl, subst, sym}
use Rattle.flow_graph.specs.Edges.{edges_of}
use Rattle.flow_graph.specs.Graphs.{GraphShape}
use Rattle.mir_opt.specs.declared.stages.Stage.TheVariants.{Round}
use Rattle.table_text.specs.Turns.{AppendsSome}
use Rattle.pass_table.specs.Patterns.{IsPatternsText}
use Rattle.pass_table.specs.Stages.{pass_line}
use Rattle.table_text.specs.TurnLaws.{two_pieces}
use Rattle.pass_table.proofs.stages.put_round_finding.Goals as goal

pub put_patterns_by-requires : goal.put_patterns_by-requires
put_patterns_by-requires c = c.requires ∙ sym (ap (λ (g : GraphShape). edges_of g.nodes) c.before_round.ensures)

-- what is found out stands behind the name of the pass
pub returns : goal.returns
returns c =
    let found = subst (λ (g : GraphShape). AppendsSome (IsPatternsText g) c.put_pass.new.text c.put_patterns_by.new.text) c.before_round.ensures c.in_ok-put_patterns_by.ensures in
    let line = pass_line (Round c.args.number) in
    (line ++ found.0, record { found = found.0; is_found = found.1; text_is = refl }, two_pieces c.args.text.now c.put_pass.new.text c.put_patterns_by.new.text line found.0 c.in_ok-put_pass.ensures found.2)
