use Rattle.std.proofs.Common.{sym, ◌∙◌}
use Rattle.path_laws.specs.Flow.{flow_laws}
use Rattle.path_laws.specs.OrderLaws.{loop_joins}
use Rattle.path_laws.proofs.bits.BitFlowFlow.push_self.Goals as goal

pub returns-clause-joined : goal.returns-clause-joined
returns-clause-joined g c =
    let laws = flow_laws c.args.self.now c.requires.valid in
    loop_joins c.args._value.now _ (c.requires.size ∙ sym (c.requires.valid.listed.flow.bar_rows.each _ (laws.targets c.args._number c.requires.in_range)))
