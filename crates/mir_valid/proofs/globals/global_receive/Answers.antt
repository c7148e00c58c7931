use Rattle.std.proofs.Common.{ap, ◌∙◌}
use Rattle.std.specs.List.{flat_map}
use Rattle.mir_valid.specs.Rules.{lines_where}
use Rattle.mir_valid.specs.Refusals.{least}
use Rattle.mir_valid.specs.NameTables.{has_received}
use Rattle.mir_valid.proofs.NamesFound.{receives_global_found}
use Rattle.mir_valid.proofs.globals.global_receive.Goals as goal

pub returns : goal.returns
returns c =
    c.in_ok-line.ensures
    ∙ ap (λ lines. least (flat_map (λ unit. lines_where (has_received lines) unit.body) c.args.units.now)) c.in_ok-table.ensures
    ∙ ap (λ test. least (flat_map (λ unit. lines_where test unit.body) c.args.units.now)) (receives_global_found c.args.globals.now)
