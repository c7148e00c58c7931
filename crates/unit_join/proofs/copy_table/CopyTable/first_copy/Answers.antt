use Rattle.std.proofs.Common.{◌∙◌, ◌<◌, length, Some, None, refl, ap, subst}
use Rattle.std.proofs.lemmas.Option.{slice_get_read}
use Rattle.unit_join.proofs.Tabled.{looked_up}
use Rattle.unit_join.proofs.copy_table.CopyTable.first_copy.Goals as goal

pub returns-in-Some : goal.returns-in-Some
returns-in-Some c = λ leaves vars has.
    let firsts = c.args.self.now.firsts.items in
    let here = slice_get_read firsts (length firsts) c.args.unit c.index.result.now refl c.requires c.index.ensures in
    looked_up leaves vars c.args.self.now c.args.unit (Some c.in-Some.first) has (subst (λ n. c.args.unit < n) has.long c.requires) (here ∙ ap Some c.in-Some.is)

pub returns-in-None : goal.returns-in-None
returns-in-None c = λ leaves vars has.
    let firsts = c.args.self.now.firsts.items in
    let here = slice_get_read firsts (length firsts) c.args.unit c.index.result.now refl c.requires c.index.ensures in
    looked_up leaves vars c.args.self.now c.args.unit None has (subst (λ n. c.args.unit < n) has.long c.requires) (here ∙ ap Some c.in-None.is)
