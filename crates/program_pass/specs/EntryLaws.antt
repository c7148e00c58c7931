-- Laws: the values of a frame after its receives. For proofs only.
use Rattle.std.proofs.Common.{◌≡◌, ℕ, zero, suc, ◌+◌, ◌<◌, false, List, [], ◌∷◌, map, ℤ, pos, slice_index_or, refl, ap, ◌∙◌, arith}
use Rattle.std.specs.List.{range_with_len}
use Rattle.std.proofs.lemmas.Int.{int_wrap_fits}
use Rattle.mir_base.specs.EqualValues.{with_other}
use Rattle.mir_base.specs.Frames.{Values, shared_values, with_first, with_value}
use Rattle.mir_base.specs.NumberLaws.{zero_fits}
use Rattle.mir_base.specs.Numbers.{wrapped}
use Rattle.flow_graph.specs.Machines.{received_from}
use Rattle.flow_graph.specs.Numbering.{is_in}
use Rattle.flow_graph.specs.MemberLaws.{not_in}
use mir.Syntax.{w64}

-- variables that are not received stay
pub received_out : (xs : List ℕ) (i : ℕ) (arguments : List ℤ) (x : ℕ) (u : Values) → is_in x xs ≡ false → received_from i xs arguments u x ≡ u x
received_out [] i arguments x u out = refl
received_out (y ∷ ys) i arguments x u out =
    let apart = not_in x y ys out in
    received_out ys (suc i) arguments x (with_value y (slice_index_or arguments i (pos 0)) u) apart.1 ∙ with_other y x (slice_index_or arguments i (pos 0)) u apart.0

-- 0 is a signed 64-bit number
pub wrapped_zero : wrapped (pos 0) ≡ pos 0
wrapped_zero = int_wrap_fits w64 (pos 0) zero_fits

-- the values of the variables from number a on, as a list
values_at : (v : Values) (a n i : ℕ) (d : ℤ) → i < n → slice_index_or (map v (range_with_len a n)) i d ≡ v (a + i)
values_at v a zero i d lt = absurd (omega (arith, lt))
values_at v a (suc n) zero d lt = let here : a ≡ a + 0 = omega arith in ap v here
values_at v a (suc n) (suc i) d lt = let next : a + 1 + i ≡ a + suc i = omega arith in values_at v (a + 1) n i d (omega (arith, lt)) ∙ ap v next

-- a frame that begins with the globals of another has their values
pub with_shared : (shared : ℕ) (v w : Values) (x : ℕ) → x < shared → with_first (shared_values shared v) w x ≡ v x
with_shared shared v w x lt = let none : 0 + x ≡ x = omega arith in values_at v 0 shared x (w x) lt ∙ ap v none
