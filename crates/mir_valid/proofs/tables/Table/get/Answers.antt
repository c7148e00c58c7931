use Rattle.std.proofs.Common.{ap, ◌∙◌}
use Rattle.mir_valid.specs.Names.{number_in}
use Rattle.mir_valid.proofs.TableLaws.{map_entries, lookup_seen}
use Rattle.mir_valid.proofs.tables.Table.get.Goals as goal

pub returns : goal.returns
returns c =
    c.copied.ensures
    ∙ c.get.ensures.value
    ∙ lookup_seen c.bytes.result.now c.self.inside.numbers.entries
    ∙ ap (λ x. number_in (map_entries c.self.inside.numbers.entries) x) c.bytes.ensures.value
    ∙ ap (λ table. number_in table c.args.name.now) c.self.view_is
