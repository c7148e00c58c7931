use Rattle.std.proofs.Common.{◌≡◌, ◌&&◌, not, ℕ, length, inl, inr, sym, subst, ◌∙◌}
use Rattle.std.proofs.Math.Path.{fun_ext}
use Rattle.path_laws.specs.Paths.{AreRows, BornBefore, has_bit, width}
use Rattle.path_laws.specs.RowLaws.{are_alike, like_rows, width_is}
use Rattle.path_laws.specs.Says.{either_says}
use Rattle.latest_place.proofs.equations.delayed_rows.Goals as goal
use Rattle.latest_place.proofs.equations.delayed_rows.Goals.{In_ok-born}

pub without-requires : goal.without-requires
without-requires c = are_alike (length c.args.uses.now.graph.now.nodes) (width c.args.earliest.now) c.args.earliest.now c.args.uses.now.rows.now c.requires.rows_are c.requires.uses_are

born_shape : (c : In_ok-born) → AreRows (length c.args.uses.now.graph.now.nodes) (width c.args.earliest.now) c.in_ok-born.born
born_shape c = like_rows (length c.args.uses.now.graph.now.nodes) (width c.args.earliest.now) c.args.earliest.now c.in_ok-born.born c.requires.rows_are c.in_ok-born.ensures.alike

pub returns-clause-bits : goal.returns-clause-bits
returns-clause-bits c = λ n b h l.
    let nodes = c.args.uses.now.graph.now.nodes in
    let early = has_bit c.args.earliest.now b in
    let uses = has_bit c.args.uses.now.rows.now b in
    let known = (goal.at.returns-clause-bits c).In_ok-born in
    let born : has_bit c.in_ok-born.born b ≡ (λ (m : ℕ). has_bit c.args.earliest.now b m && not (has_bit c.args.uses.now.rows.now b m)) = fun_ext (λ m. c.in_ok-born.ensures.bits m b) in
    let wide : width c.in_ok-born.born ≡ width c.args.earliest.now = width_is (length nodes) (width c.args.earliest.now) n c.in_ok-born.born (born_shape known) h in
    let paths = c.in_ok-rows.ensures.paths n b h (rw wide l) in
    let result = c.or_rows.ensures.bits n b in
    let says = either_says (has_bit c.in_ok-rows.rows b n) (early n) in (
      λ on. elim (says.0 (sym result ∙ on)) [ inl comes ↦ inr (subst (λ good. BornBefore nodes good uses n) born (paths.0 comes)) | inr here ↦ inl here ],
      λ delayed. result ∙ says.1 (elim delayed [ inl here ↦ inr here | inr comes ↦ inl (paths.1 (subst (λ good. BornBefore nodes good uses n) (sym born) comes)) ]),
    )
