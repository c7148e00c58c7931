-- The comparison of a truth value has the operands of the test.
use Rattle.std.proofs.Common.{◌≡◌, Bool, true, false, refl}
use Rattle.bounds.specs.Edges.{Comparison, where_is}

-- the first
pub where_left : (b : Bool) (c : Comparison) → (where_is b c).left ≡ c.left
where_left true c = refl
where_left false c = refl

-- and the second
pub where_right : (b : Bool) (c : Comparison) → (where_is b c).right ≡ c.right
where_right true c = refl
where_right false c = refl
