-- Assignments that compare as equal are one. Cited by the impl of `Key`.
use Rattle.std.proofs.Common.{◌≡◌, ℕ, true, eqb-true, ap, ◌∙◌}
use Rattle.std.proofs.lemmas.Bool.{and_parts}
use Rattle.mir_base.specs.declared.instructions.Rhs.{Rhs}
use Rattle.mir_base.specs.contracts.instructions.RhsPartialEq.TheImpl.{ghosts as rhs_ghosts}
use Rattle.key_table.specs.SameValues.{same_right_sides}
use Rattle.held_assign.specs.declared.table.Assignment.{Assignment}
use Rattle.held_assign.specs.contracts.table.AssignmentPartialEq.TheImpl.{ghosts}

-- assignments that compare equal are one
pub same_assignments : (a b : Assignment) → ghosts.eq a b ≡ true → a ≡ b
same_assignments a b h =
    let parts = and_parts _ (rhs_ghosts.eq a.rhs b.rhs) h in
    ap (λ (x : ℕ). record { target = x; rhs = a.rhs }) (eqb-true a.target b.target parts.0)
    ∙ ap (λ (r : Rhs). record { target = b.target; rhs = r }) (same_right_sides a.rhs b.rhs parts.1)
