use Rattle.std.proofs.Common.{◌∙◌, ◌++◌, [], ap, sym, slice_set}
use Rattle.std.proofs.lemmas.List.{get_or-map, map-set}
use Rattle.jump_clean.proofs.classes.Classes.add.Goals as goal

pub returns-clause-added : goal.returns-clause-added
returns-clause-added c =
    let members = c.args.self.now.members.items in
    map-set (λ v. v.items) members c.args.class c.extend_from_slice.new.self
    ∙ ap (slice_set _ c.args.class) (c.in_ok-extend_from_slice.ensures.ok ∙ ap (λ l. l ++ c.args.nodes.now) (ap (λ v. v.items) c.index_mut.ensures.value ∙ sym (get_or-map (λ v. v.items) members c.args.class c.index_mut.result.now [] c.requires)))
