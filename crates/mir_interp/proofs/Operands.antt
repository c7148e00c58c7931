-- Operands whose variables are below a bound.
use Rattle.std.proofs.Common.{◌≡◌, ℕ, ◌+◌, ◌-◌, ◌<◌, ◌≤◌, List, [], ◌∷◌, ◌++◌, length, get_or, take, drop, map, flat_map, ℤ, pos, refl, sym, ap, ◌∙◌, arith, append_assoc, length-drop}
use Rattle.std.proofs.lemmas.Option.{slice_get-get_or}
use Rattle.std.proofs.lemmas.List.{get_or_append_left, take_all, drop-append-le, take_more, map_push}
use Rattle.mir_base.specs.declared.instructions.Operand.{Operand}
use Rattle.mir_base.specs.declared.instructions.Operand.TheVariants.{Var, Const}
use Rattle.mir_base.specs.Shapes.{AllBelow, operand_vars}
use Rattle.mir_base.specs.BelowLaws.{all_below_item}
use Rattle.mir_base.specs.Units.{operand_value}
use Rattle.mir_interp.specs.RunsSoFar.{values_of}

-- each of the operands
pub operand_below : (m : ℕ) (operands : List Operand) (i : ℕ) (d : Operand) → i < length operands → AllBelow m (flat_map operand_vars operands) → AllBelow m (operand_vars (get_or operands i d))
operand_below m operands i d low below = all_below_item operand_vars m operands i (get_or operands i d) below (slice_get-get_or operands i d low)

-- what is pushed behind the variables does not change an operand's value
pub value_kept : (xs ys : List ℤ) (a : Operand) → AllBelow (length xs) (operand_vars a) → operand_value (values_of (xs ++ ys)) a ≡ operand_value (values_of xs) a
value_kept xs ys (Var x) below = get_or_append_left xs ys (pos 0) x below.0
value_kept xs ys (Const c) below = refl

-- an operand that is read while values are pushed behind the variables has the value that it had before
pub operand_read : (values more read : List ℤ) (from : ℕ) (a : Operand) → from ≤ length values → read ≡ values ++ more → AllBelow (length (drop from values)) (operand_vars a) → operand_value (values_of (take (length read - from) (drop from read))) a ≡ operand_value (values_of (drop from values)) a
operand_read values more read from a within is below =
    let all : take (length read - from) (drop from read) ≡ drop from read = take_all _ _ (omega (arith, length-drop from read)) in
    let kept : drop from read ≡ drop from values ++ more = ap (drop from) is ∙ drop-append-le from values more within in
    ap (λ vs. operand_value (values_of vs) a) (all ∙ kept) ∙ value_kept (drop from values) more a below

-- one more operand is pushed
pub pushed_more : (f : Operand → ℤ) (values old new : List ℤ) (operands : List Operand) (i : ℕ) (d : Operand) (v : ℤ) → i < length operands → old ≡ values ++ map f (take i operands) → v ≡ f (get_or operands i d) → new ≡ old ++ v ∷ [] → new ≡ values ++ map f (take (i + 1) operands)
pushed_more f values old new operands i d v low is_old is_v is_new =
    is_new ∙ ap (λ vs. vs ++ v ∷ []) is_old ∙ append_assoc values (map f (take i operands)) (v ∷ [])
    ∙ ap (λ vs. values ++ vs) (ap (λ y. map f (take i operands) ++ y ∷ []) is_v ∙ sym (map_push f (take i operands) (get_or operands i d)) ∙ ap (map f) (sym (take_more operands i d low)))
