-- Patterns that compare as equal are one, and each compares as equal to itself. Cited by the impl of
-- `Key`, and by proofs.
use Rattle.std.proofs.Common.{◌≡◌, true, eqb-true, refl, ap, ◌∙◌}
use Rattle.std.proofs.lemmas.Bool.{and_parts, eq-eqb}
use Rattle.mir_base.specs.contracts.instructions.RhsPartialEq.TheImpl.{ghosts as rhs_ghosts}
use Rattle.key_table.specs.SameValues.{right_side_self, same_right_sides}
use Rattle.sink_code.specs.declared.patterns.Pattern.{Pattern}
use Rattle.sink_code.specs.contracts.patterns.PatternPartialEq.TheImpl.{ghosts}

-- patterns that compare equal are one
pub same_patterns : (p q : Pattern) → ghosts.eq p q ≡ true → p ≡ q
same_patterns p q h =
    let parts = and_parts _ (rhs_ghosts.eq p.rhs q.rhs) h in
    ap (λ y. record { var = y; rhs = p.rhs }) (eqb-true p.var q.var parts.0) ∙ ap (λ r. record { var = q.var; rhs = r }) (same_right_sides p.rhs q.rhs parts.1)

-- each pattern equals itself
pub pattern_self : (p : Pattern) → ghosts.eq p p ≡ true
pattern_self p = rw (eq-eqb p.var p.var refl, right_side_self p.rhs) refl
