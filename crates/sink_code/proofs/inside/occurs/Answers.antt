use Rattle.std.proofs.Common.{◌∙◌, sym}
use Rattle.std.proofs.lemmas.Option.{none-some}
use Rattle.sink_code.proofs.Sinks.{none_found, occurs_pattern}
use Rattle.sink_code.proofs.inside.occurs.Goals as goal

pub returns-in-None : goal.returns-in-None
returns-in-None c =
    let at = c.args.at.now in
    none_found at.graph.now at.blocks.now.lists at.block c.args.index at.list.now c.requires.block.is c.args.found.now
    (λ p occurs. none-some p (sym c.in-None.is ∙ c.pattern_at.ensures ∙ occurs_pattern at.graph.now at.list.now c.args.index c.args.node.now p c.requires.node occurs))
    c.requires.found
