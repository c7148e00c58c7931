use Rattle.std.proofs.Common.{ap, ◌∙◌}
use Rattle.std.specs.List.{flat_map}
use Rattle.mir_valid.specs.Rules.{lines_where}
use Rattle.mir_valid.specs.Refusals.{least}
use Rattle.mir_valid.specs.NameTables.{misses_number}
use Rattle.mir_valid.proofs.NamesFound.{misses_number_units}
use Rattle.mir_valid.proofs.calls.no_such_unit.Goals as goal

pub returns : goal.returns
returns c =
    c.in_ok-line.ensures
    ∙ ap (λ numbers. least (flat_map (λ unit. lines_where (misses_number numbers) unit.body) c.args.units.now)) c.in_ok-numbers.ensures
    ∙ ap (λ test. least (flat_map (λ unit. lines_where test unit.body) c.args.units.now)) (misses_number_units c.args.units.now)
