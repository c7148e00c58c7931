use Rattle.std.proofs.Common.{ap, ◌∙◌}
use Rattle.std.specs.List.{flat_map}
use Rattle.mir_valid.specs.Rules.{lines_where, differs_from}
use Rattle.mir_valid.specs.Refusals.{least}
use Rattle.mir_valid.proofs.NamesFound.{differs_from_counts}
use Rattle.mir_valid.proofs.calls.wrong_count.Goals as goal

pub returns : goal.returns
returns c =
    c.in_ok-line.ensures
    ∙ ap (λ counts. least (flat_map (λ unit. lines_where (differs_from counts) unit.body) c.args.units.now)) c.in_ok-counts.ensures
    ∙ ap (λ test. least (flat_map (λ unit. lines_where test unit.body) c.args.units.now)) (differs_from_counts c.args.units.now)
