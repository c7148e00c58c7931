use Rattle.std.proofs.Common.{◌∙◌, sym, ap}
use Rattle.std.proofs.lemmas.List.{get_or_read}
use Rattle.bounds.specs.BoundRules.{bound_rules}
use Rattle.cond_flow.specs.Rules.{within}
use Rattle.cond_flow.specs.States.{Unreached}
use Rattle.program_bounds.specs.Facts.{facts_in, row_at}
use Rattle.program_bounds.proofs.Rows.{map_known}
use Rattle.program_bounds.proofs.known.around.Goals as goal

pub returns : goal.returns
returns c =
    let entries = c.args.tables.now.entries.items in
    let backs = c.args.tables.now.backs.items in
    let entry = c.facts.ensures ∙ ap facts_in (get_or_read entries c.args.unit c.index.result.now c.requires c.index.ensures (Unreached 0)) in
    let back = c.as_slice.ensures.value ∙ sym (map_known backs) in
    ap (λ l. within (record { entry = l; backs = c.as_slice.result.now }) bound_rules) entry
    ∙ ap (λ l. within (record { entry = facts_in (row_at entries c.args.unit); backs = l }) bound_rules) back
