use Rattle.std.proofs.Common.{◌∙◌, ap}
use Rattle.indexmap.specs.IndexSet.{insert_key}
use Rattle.key_table.specs.KeyLaws.{inserted_is, put_differs}
use Rattle.key_table.proofs.tables.KeyTable.number.Goals as goal

pub returns-clause-with_key : goal.returns-clause-with_key
returns-clause-with_key g c =
    let eq = g.K.PartialEq.eq in
    inserted_is eq g.met.K.Key.same (λ a. g.met.K.Eq.laws.refl a) c.args.self.now c.args.key c.insert_full.new.self.keys (c.in_ok-number.ensures.keys ∙ ap (λ l. insert_key eq l c.args.key) c.self.view_is)

pub invariant_of-self-2 : goal.invariant_of-self-2
invariant_of-self-2 g c =
    let eq = g.K.PartialEq.eq in
    let put = inserted_is eq g.met.K.Key.same (λ a. g.met.K.Eq.laws.refl a) c.self.inside.keys.keys c.args.key c.insert_full.new.self.keys c.in_ok-number.ensures.keys in
    put_differs c.self.inside.keys.keys c.args.key c.insert_full.new.self.keys put c.self.invariant
