use Rattle.std.proofs.Common.{◌≡◌, List, [], ◌∷◌, ◌++◌, None, ap, ◌∙◌, sym}
use Rattle.mir_valid.specs.Names.{NameEntry, number_in}
use Rattle.mir_valid.proofs.TableLaws.{map_entries, seen_insert, with_entry_new}
use Rattle.mir_valid.proofs.tables.Table.add.Goals as goal

pub returns-in_ok-insert-in-None-clause-added : goal.returns-in_ok-insert-in-None-clause-added
returns-in_ok-insert-in-None-clause-added c =
    let absent : number_in c.args.self.now c.args.name.now ≡ None = sym c.in-None.ensures in
    let entries = c.self.inside.numbers.entries in
    let inside : number_in (map_entries entries) c.bytes.result.now ≡ None =
    ap (λ x. number_in (map_entries entries) x) c.bytes.ensures.value ∙ ap (λ table. number_in table c.args.name.now) c.self.view_is ∙ absent in
    ap map_entries c.in_ok-insert-in-None.ensures.entries
    ∙ seen_insert c.bytes.result c.args.number entries inside
    ∙ ap (λ x. map_entries entries ++ (x, c.args.number) ∷ []) c.bytes.ensures.value
    ∙ ap (λ (table : List NameEntry). table ++ (c.args.name.now, c.args.number) ∷ []) c.self.view_is
    ∙ sym (with_entry_new c.args.self.now c.args.name.now c.args.number absent)
