use Rattle.std.proofs.Common.{sym, ◌∙◌}
use Rattle.path_laws.specs.Flow.{flow_laws}
use Rattle.path_laws.specs.OrderLaws.{push_joins}
use Rattle.path_laws.proofs.bits.BitFlowFlow.push.Goals as goal

pub returns-clause-joined : goal.returns-clause-joined
returns-clause-joined g c =
    let laws = flow_laws c.args.self.now c.requires.valid in
    let long = c.requires.valid.listed.flow.bar_rows.each _ (laws.targets c.args._number c.requires.in_range) in
    rw (c.or_minus_from.ensures.or_minus, c.into.view_is, c.view.ensures, c.from.view_is, c.row-stop.ensures, c.requires.target)
    (push_joins c.args.into.now c.args.from.now _ (c.requires.from_size ∙ sym c.requires.into_size) (long ∙ sym c.requires.into_size))
