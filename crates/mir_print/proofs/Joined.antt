-- The texts of the first arguments of a call and of the first units, and one more.
use Rattle.std.proofs.Common.{◌≡◌, ℕ, zero, suc, ◌+◌, ◌<◌, List, [], ◌∷◌, ◌++◌, length, map, take, get_or, refl, sym, ap, ◌∙◌, append_assoc, arith, length-take, codes, slice_get, Some, flat_map, Bool, false, ◌==◌, if◌then◌else◌}
use Rattle.std.proofs.lemmas.Bool.Decides.{nat_tests}
use Rattle.std.proofs.lemmas.List.{map_more, length-map, take_more, flat_map_more}
use Rattle.std.proofs.lemmas.Option.{slice_get_within, get_or_from_slice_get}
use Rattle.mir_base.specs.declared.instructions.Operand.{Operand}
use Rattle.mir_print.specs.Scopes.{separator}
use Rattle.std.specs.List.{join_with_byte}

-- one more text goes behind the joined ones, with the separator before it
joined_more : (c : ℕ) (xs : List (List ℕ)) (x : List ℕ) → 0 < length xs → join_with_byte c (xs ++ x ∷ []) ≡ join_with_byte c xs ++ c ∷ x
joined_more c [] x some = absurd (omega arith)
joined_more c (y ∷ []) x some = refl
joined_more c (y ∷ z ∷ xs) x some =
    ap (λ (t : List ℕ). y ++ c ∷ t) (joined_more c (z ∷ xs) x (omega arith)) ∙ sym (append_assoc y (c ∷ join_with_byte c (z ∷ xs)) (c ∷ x))

-- the first argument goes without a separator, each later one with a semicolon before it
arg_joined : (f : Operand → List ℕ) (operands : List Operand) (i : ℕ) (a : Operand) → i < length operands → join_with_byte 59 (map f (take i operands)) ++ (separator i ++ f a) ≡ join_with_byte 59 (map f (take i operands) ++ f a ∷ [])
arg_joined f operands zero a low = refl
arg_joined f operands (suc i) a low =
    let long : 0 < length (map f (take (suc i) operands)) = simp (length-map, length-take) (omega arith) in
    let later : (suc i == 0) ≡ false = grind (arith, nat_tests) in
    ap (λ (b : Bool). join_with_byte 59 (map f (take (suc i) operands)) ++ ((if b then [] else 59 ∷ []) ++ f a)) later ∙ sym (joined_more 59 (map f (take (suc i) operands)) (f a) long)

-- the text after one more argument of a call
pub args_more : (text_of : Operand → List ℕ) (operands : List Operand) (i : ℕ) (d : Operand) (start before after : List ℕ) → i < length operands
    → before ≡ start ++ join_with_byte 59 (map (λ a. text_of a ++ codes ",int") (take i operands))
    → after ≡ before ++ (separator i ++ (text_of (get_or operands i d) ++ codes ",int"))
    → after ≡ start ++ join_with_byte 59 (map (λ a. text_of a ++ codes ",int") (take (i + 1) operands))
args_more text_of operands i d start before after low was is =
    let f : Operand → List ℕ = λ a. text_of a ++ codes ",int" in
    let a : Operand = get_or operands i d in
    is
    ∙ ap (λ (t : List ℕ). t ++ (separator i ++ f a)) was
    ∙ append_assoc start (join_with_byte 59 (map f (take i operands))) (separator i ++ f a)
    ∙ ap (λ (t : List ℕ). start ++ t) (arg_joined f operands i a low ∙ ap (join_with_byte 59) (sym (map_more f operands i d low)))

-- the text after one more unit, behind a front
pub units_more : {A : Type 0} (text_of : A → List ℕ) (units : List A) (i : ℕ) (unit : A) (front before after : List ℕ) → slice_get units i ≡ Some unit → before ≡ front ++ flat_map text_of (take i units) → after ≡ before ++ text_of unit
    → after ≡ front ++ flat_map text_of (take (i + 1) units)
units_more text_of units i unit front before after at was is =
    let more = take_more units i unit (slice_get_within units i unit at) ∙ ap (λ u. take i units ++ u ∷ []) (get_or_from_slice_get units i unit unit at) in
    is ∙ ap (λ (t : List ℕ). t ++ text_of unit) was ∙ append_assoc front (flat_map text_of (take i units)) (text_of unit)
    ∙ ap (λ (t : List ℕ). front ++ t) (flat_map_more text_of [] (take i units) unit ∙ ap (flat_map text_of) (sym more))
