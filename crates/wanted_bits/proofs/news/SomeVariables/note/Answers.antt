use Rattle.std.proofs.Common.{◌∷◌, [], ◌++◌, ◌∙◌, if◌then◌else◌, not, refl, ap, subst}
use Rattle.wanted_bits.specs.NewsShapes.{AreNoted, VariablesShape}
use Rattle.wanted_bits.proofs.Noted.{noted_pushed}
use Rattle.wanted_bits.proofs.news.SomeVariables.note.Goals as goal

pub returns-else-is_err : goal.returns-else-is_err
returns-else-is_err c =
    let inside = c.self.inside in
    let listed = inside.listed.items in
    let new : VariablesShape = record { whole = inside.whole; listed = c.push.new.self.items } in
    let pushed = c.push.ensures.items ∙ ap (λ b. if b then listed ++ c.args.x ∷ [] else listed) (c.is_err.ensures.negation ∙ ap not c.if-is_err.false) in
    subst (λ s. AreNoted (c.args.x ∷ []) s new) c.self.view_is (noted_pushed c.args.x (record { whole = inside.whole; listed = listed }) new refl pushed)
