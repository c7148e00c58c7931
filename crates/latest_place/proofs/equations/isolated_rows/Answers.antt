use Rattle.std.proofs.Common.{◌≡◌, not, arith, sym, ◌∙◌}
use Rattle.path_laws.specs.Paths.{has_bit}
use Rattle.path_laws.specs.Says.{not_says, off_says}
use Rattle.latest_place.specs.Stable.{not_both}
use Rattle.latest_place.proofs.equations.isolated_rows.Goals as goal

pub returns-clause-bits : goal.returns-clause-bits
returns-clause-bits c = λ n b h l.
    let needed = has_bit c.in_ok-rows.rows b in
    let shape = c.in_ok-rows.ensures.shape in
    let flipped : has_bit c.flip_rows.new.self b n ≡ not (has_bit c.in_ok-rows.rows b n) =
    c.flip_rows.ensures.bits n b (omega arith) (rw shape.len h) (rw (shape.each n h) l) in
    let says = c.in_ok-rows.ensures.bits n b h l in (
      λ on more. not_both (says.1 more) ((not_says (needed n)).0 (sym flipped ∙ on)),
      λ none. flipped ∙ (not_says (needed n)).1 ((off_says (needed n)).1 (λ on. none (says.0 on))),
    )
