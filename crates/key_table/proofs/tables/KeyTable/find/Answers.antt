use Rattle.std.proofs.Common.{subst, ◌∙◌, ap}
use Rattle.std.specs.List.{list_any, position}
use Rattle.mir_base.specs.Shapes.{AllDiffer}
use Rattle.key_table.specs.KeyLaws.{position_finds}
use Rattle.key_table.proofs.tables.KeyTable.find.Goals as goal

pub returns-clause-finds : goal.returns-clause-finds
returns-clause-finds g c =
    let same = c.self.view_is in
    let eq = g.K.PartialEq.eq in
    let key = c.args.key.now in
    position_finds eq g.met.K.Key.same (λ a. g.met.K.Eq.laws.refl a) c.args.self.now key c.get_index_of.result (subst AllDiffer same c.self.invariant)
    (c.get_index_of.ensures.index ∙ ap (position (eq key)) same) (c.get_index_of.ensures.found ∙ ap (list_any (eq key)) same)
