-- Laws: values under copies of variables, and that the assignments of a call of a leaf give the copies the values that
-- a new frame of it has after its receives. For proofs only.
use Rattle.std.proofs.Common.{◌≡◌, inl, inr, ℕ, zero, suc, ◌+◌, ◌-◌, ◌<◌, ◌≤◌, true, false, not, ◌||◌, if◌then◌else◌, List, [], ◌∷◌, ◌++◌, length, map, flat_map, ℤ, pos, slice_get, slice_index_or, Some, refl, sym, ap, ◌∙◌, arith, le_refl}
use Rattle.std.specs.Ordering.{int_eq}
use Rattle.std.proofs.lemmas.Bool.{cases_Bool, cases_eq, cases_lt, le-ltb, lt-ltb, ne_eqb}
use Rattle.mir_base.specs.declared.instructions.Operand.{Operand}
use Rattle.mir_base.specs.declared.instructions.Operand.TheVariants.{Var, Const}
use Rattle.mir_base.specs.declared.instructions.Rhs.{Rhs}
use Rattle.mir_base.specs.declared.instructions.Rhs.TheVariants.{Plain, Unary, Binary}
use Rattle.mir_base.specs.declared.instructions.Test.{Test}
use Rattle.mir_base.specs.declared.instructions.Test.TheVariants.{Rel, Holds, Fails}
use Rattle.mir_base.specs.BelowLaws.{all_below_left, all_below_right}
use Rattle.mir_base.specs.EqualValues.{equal_below, operand_equal, with_other, with_same}
use Rattle.mir_base.specs.Expressions.{rhs_traps, rhs_value}
use Rattle.mir_base.specs.Frames.{Values, all_zero, shared_values, with_first, with_value}
use Rattle.mir_base.specs.Numbers.{relation_holds, traps, value_of_op, value_of_un_op, wrapped}
use Rattle.mir_base.specs.Shapes.{AllBelow, operand_vars, rhs_vars, test_vars}
use Rattle.mir_base.specs.SharedLaws.{shared_long, with_first_other}
use Rattle.mir_base.specs.Units.{operand_value, test_holds}
use Rattle.graph_edit.specs.InsertionRuns.{values_after}
use Rattle.flow_graph.specs.Machines.{received_from}
use Rattle.flow_graph.specs.Numbering.{is_in, renamed_operand, renamed_rhs, renamed_test}
use Rattle.program_pass.specs.ChainLaws.{ArePlain, plain_append, put_or_not, values_append}
use Rattle.unit_join.specs.Joins.{copy_number, entered, zeroed}
use Rattle.program_pass.specs.EntryLaws.{received_out, with_shared, wrapped_zero}
use Rattle.flow_graph.specs.MemberLaws.{above, apart_or_not, in_first, not_in}

-- ---- values under copies

-- the copies of the first so many variables have their values
abbrev pub CopiesHold : (ℕ → ℕ) → ℕ → Values → Values → Type 0
CopiesHold copy count v w = (x : ℕ) → x < count → w (copy x) ≡ v x

module _ (copy : ℕ → ℕ) (count : ℕ) (v w : Values) (hold : CopiesHold copy count v w) where
  -- operands, right sides, traps and tests
  pub operand_copied : (a : Operand) → AllBelow count (operand_vars a) → operand_value w (renamed_operand copy a) ≡ operand_value v a
  operand_copied (Var x) below = hold x below.0
  operand_copied (Const c) below = refl

  pub rhs_copied : (rhs : Rhs) → AllBelow count (rhs_vars rhs) → rhs_value w (renamed_rhs copy rhs) ≡ rhs_value v rhs
  rhs_copied (Plain a) below = operand_copied a below
  rhs_copied (Unary op a) below = ap (value_of_un_op op) (operand_copied a below)
  rhs_copied (Binary op a b) below =
      ap (λ u. value_of_op op u (operand_value w (renamed_operand copy b))) (operand_copied a (all_below_left count (operand_vars a) (operand_vars b) below))
      ∙ ap (value_of_op op (operand_value v a)) (operand_copied b (all_below_right count (operand_vars a) (operand_vars b) below))

  pub traps_copied : (rhs : Rhs) → AllBelow count (rhs_vars rhs) → rhs_traps w (renamed_rhs copy rhs) ≡ rhs_traps v rhs
  traps_copied (Plain a) below = refl
  traps_copied (Unary op a) below = refl
  traps_copied (Binary op a b) below = ap (traps op) (operand_copied b (all_below_right count (operand_vars a) (operand_vars b) below))

  pub test_copied : (test : Test) → AllBelow count (test_vars test) → test_holds w (renamed_test copy test) ≡ test_holds v test
  test_copied (Rel op a b) below =
      ap (λ u. relation_holds op u (operand_value w (renamed_operand copy b))) (operand_copied a (all_below_left count (operand_vars a) (operand_vars b) below))
      ∙ ap (relation_holds op (operand_value v a)) (operand_copied b (all_below_right count (operand_vars a) (operand_vars b) below))
  test_copied (Holds a) below = ap (λ u. not (int_eq u (pos 0))) (operand_copied a below)
  test_copied (Fails a) below = ap (λ u. int_eq u (pos 0)) (operand_copied a below)

  -- an assignment of a variable and of its copy
  pub set_copied : ((x y : ℕ) → copy x ≡ copy y → x ≡ y) → (x : ℕ) (a b : ℤ) → b ≡ a → CopiesHold copy count (with_value x a v) (with_value (copy x) b w)
  set_copied one x a b same y lt = elim (cases_eq y x) [
    | inl is ↦ ap (λ z. with_value (copy x) b w (copy z)) is ∙ with_same (copy x) b w ∙ same ∙ sym (ap (with_value x a v) is ∙ with_same x a v)
    | inr apart ↦ with_other (copy x) (copy y) b w (λ e. apart (one y x e)) ∙ hold y lt ∙ sym (with_other x y a v apart)
  ]

-- ---- copies

-- a global is its own copy
pub copy_global : (shared base x : ℕ) → x < shared → copy_number shared base x ≡ x
copy_global shared base x lt = ap (λ b. if b then x else base + (x - shared)) (lt-ltb x shared lt)

-- the copies of the others come one after the other
pub copy_other : (shared base x : ℕ) → shared ≤ x → copy_number shared base x ≡ base + (x - shared)
copy_other shared base x ge = ap (λ b. if b then x else base + (x - shared)) (le-ltb x shared ge)

-- two variables have two copies, where those that are new come after the globals
pub copy_of_one : (shared base x y : ℕ) → shared ≤ base → copy_number shared base x ≡ copy_number shared base y → x ≡ y
copy_of_one shared base x y least same = elim (cases_lt x shared) [
  | inl low ↦ elim (cases_lt y shared) [
    | inl low' ↦ sym (copy_global shared base x low) ∙ same ∙ copy_global shared base y low'
    | inr high' ↦ let e : x ≡ base + (y - shared) = sym (copy_global shared base x low) ∙ same ∙ copy_other shared base y high' in absurd (omega (arith, e, low, least))
  ]
  | inr high ↦ elim (cases_lt y shared) [
    | inl low' ↦ let e : base + (x - shared) ≡ y = sym (copy_other shared base x high) ∙ same ∙ copy_global shared base y low' in absurd (omega (arith, e, low', least))
    | inr high' ↦ let e : base + (x - shared) ≡ base + (y - shared) = sym (copy_other shared base x high) ∙ same ∙ copy_other shared base y high' in omega (arith, e, high, high')
  ]
]

-- none of these is a global
abbrev pub AreOwn : ℕ → List ℕ → Type 0
AreOwn shared [] = Unit {0}
AreOwn shared (x ∷ xs) = (shared ≤ x) × AreOwn shared xs

-- received variables are none
pub own_list : (shared : ℕ) (received : List ℕ) → ((i x : ℕ) → slice_get received i ≡ Some x → shared ≤ x) → AreOwn shared received
own_list shared [] each = tt
own_list shared (x ∷ received) each = (each 0 x refl, own_list shared received (λ i. each (suc i)))

-- ---- the assignments of a call

module _ (copy : ℕ → ℕ) (shared vars : ℕ) (one : (x y : ℕ) → copy x ≡ copy y → x ≡ y) (above_vars : (x : ℕ) → shared ≤ x → vars ≤ copy x) (global : (x : ℕ) → x < shared → copy x ≡ x) where
  -- a variable of the caller is no copy of a variable that is no global
  no_copy : (x y : ℕ) → shared ≤ x → y < vars → y ≡ copy x → ⊥
  no_copy x y own lt same = let ge = above_vars x own in omega (arith, lt, same, ge)

  -- the caller's variables stay
  entered_keeps : (received : List ℕ) (operands : List Operand) (w : Values) (y : ℕ) → AreOwn shared received
      → y < vars → values_after (entered copy received operands) w y ≡ w y
  entered_keeps [] operands w y own lt = refl
  entered_keeps (x ∷ received) [] w y own lt = refl
  entered_keeps (x ∷ received) (a ∷ operands) w y own lt = entered_keeps received operands (with_value (copy x) (operand_value w a) w) y own.1 lt ∙ with_other (copy x) y (operand_value w a) w (no_copy x y own.0 lt)

  zeroed_keeps : (received : List ℕ) (count x : ℕ) (w : Values) (y : ℕ) → shared ≤ x → y < vars → values_after (zeroed copy received x count) w y ≡ w y
  zeroed_keeps received zero x w y own lt = refl
  zeroed_keeps received (suc count) x w y own lt =
      put_or_not (λ puts. values_after puts w y ≡ w y) (is_in x received) (record { var = copy x; rhs = Plain (Const (pos 0)) }) (zeroed copy received (suc x) count)
      (λ is. zeroed_keeps received count (suc x) w y (omega (arith, own)) lt)
      (λ is. zeroed_keeps received count (suc x) (with_value (copy x) (wrapped (pos 0)) w) y (omega (arith, own)) lt ∙ with_other (copy x) y (wrapped (pos 0)) w (no_copy x y own lt))

  -- the copy of a variable that is not received stays
  entered_out : (received : List ℕ) (operands : List Operand) (w : Values) (x : ℕ) → is_in x received ≡ false
      → values_after (entered copy received operands) w (copy x) ≡ w (copy x)
  entered_out [] operands w x out = refl
  entered_out (y ∷ received) [] w x out = refl
  entered_out (y ∷ received) (a ∷ operands) w x out =
      let apart = not_in x y received out in
      entered_out received operands (with_value (copy y) (operand_value w a) w) x apart.1 ∙ with_other (copy y) (copy x) (operand_value w a) w (λ e. apart.0 (one x y e))

  -- that of a received one gets what a frame receives
  entered_in : (v : Values) (arguments : List ℤ) (received : List ℕ) (operands : List Operand) (i x : ℕ) (w u : Values)
      → AreOwn shared received → AllBelow vars (flat_map operand_vars operands) → ((y : ℕ) → y < vars → v y ≡ w y)
      → length operands ≡ length received
      → ((j : ℕ) (a : Operand) → slice_get operands j ≡ Some a → slice_index_or arguments (i + j) (pos 0) ≡ operand_value v a) → is_in x received ≡ true
      → values_after (entered copy received operands) w (copy x) ≡ received_from i received arguments u x
  entered_in v arguments [] operands i x w u own below same long hold there = cc
  entered_in v arguments (y ∷ received) [] i x w u own below same long hold there = absurd (omega (arith, long))
  entered_in v arguments (y ∷ received) (a ∷ operands) i x w u own below same long hold there =
      let w' : Values = with_value (copy y) (operand_value w a) w in
      let u' : Values = with_value y (slice_index_or arguments i (pos 0)) u in
      elim (cases_Bool (is_in x received)) [
        | inl within ↦
            entered_in v arguments received operands (suc i) x w' u' own.1 (all_below_right vars (operand_vars a) (flat_map operand_vars operands) below)
            (λ z lt. same z lt ∙ sym (with_other (copy y) z (operand_value w a) w (no_copy y z own.0 lt))) (omega (arith, long))
            (λ j b at. let place : suc i + j ≡ i + suc j = omega arith in ap (λ k. slice_index_or arguments k (pos 0)) place ∙ hold (suc j) b at) within
        | inr out ↦
            let is = in_first x y received there out in
            let place : i + 0 ≡ i = omega arith in
            entered_out received operands w' x out ∙ ap (λ z. w' (copy z)) (sym is) ∙ with_same (copy y) (operand_value w a) w
            ∙ sym (operand_equal v w a (equal_below vars (operand_vars a) v w (all_below_left vars (operand_vars a) (flat_map operand_vars operands) below) same))
            ∙ sym (hold 0 a refl) ∙ ap (λ k. slice_index_or arguments k (pos 0)) place
            ∙ sym (received_out received (suc i) arguments x u' out ∙ ap u' (sym is) ∙ with_same y (slice_index_or arguments i (pos 0)) u)
      ]

  -- the copy of a received variable stays
  zeroed_in : (received : List ℕ) (count y x : ℕ) (w : Values) → is_in x received ≡ true → values_after (zeroed copy received y count) w (copy x) ≡ w (copy x)
  zeroed_in received zero y x w there = refl
  zeroed_in received (suc count) y x w there =
      put_or_not (λ puts. values_after puts w (copy x) ≡ w (copy x)) (is_in y received) (record { var = copy y; rhs = Plain (Const (pos 0)) }) (zeroed copy received (suc y) count)
      (λ is. zeroed_in received count (suc y) x w there)
      (λ is. zeroed_in received count (suc y) x (with_value (copy y) (wrapped (pos 0)) w) there
      ∙ with_other (copy y) (copy x) (wrapped (pos 0)) w (λ e. let t : true ≡ false = sym there ∙ ap (λ z. is_in z received) (one x y e) ∙ is in cc))

  -- what is 0 stays 0
  zeroed_zero : (received : List ℕ) (count y x : ℕ) (w : Values) → w (copy x) ≡ pos 0 → values_after (zeroed copy received y count) w (copy x) ≡ pos 0
  zeroed_zero received zero y x w is = is
  zeroed_zero received (suc count) y x w is =
      put_or_not (λ puts. values_after puts w (copy x) ≡ pos 0) (is_in y received) (record { var = copy y; rhs = Plain (Const (pos 0)) }) (zeroed copy received (suc y) count)
      (λ in_list. zeroed_zero received count (suc y) x w is)
      (λ out. zeroed_zero received count (suc y) x (with_value (copy y) (wrapped (pos 0)) w) (elim (apart_or_not x y) [
        | inl apart ↦ with_other (copy y) (copy x) (wrapped (pos 0)) w (λ e. apart (one x y e)) ∙ is
        | inr same ↦ ap (λ z. with_value (copy y) (wrapped (pos 0)) w (copy z)) same ∙ with_same (copy y) (wrapped (pos 0)) w ∙ wrapped_zero
      ]))

  -- any other becomes 0
  zeroed_out : (received : List ℕ) (count y x : ℕ) (w : Values) → is_in x received ≡ false → y ≤ x → x < y + count
      → values_after (zeroed copy received y count) w (copy x) ≡ pos 0
  zeroed_out received zero y x w out ge lt = absurd (omega (arith, ge, lt))
  zeroed_out received (suc count) y x w out ge lt =
      put_or_not (λ puts. values_after puts w (copy x) ≡ pos 0) (is_in y received) (record { var = copy y; rhs = Plain (Const (pos 0)) }) (zeroed copy received (suc y) count)
      (λ is. zeroed_out received count (suc y) x w out (above x y ge (λ same. let e : true ≡ false = sym is ∙ ap (λ z. is_in z received) (sym same) ∙ out in cc)) (omega (arith, lt)))
      (λ is. elim (apart_or_not x y) [
        | inl apart ↦ zeroed_out received count (suc y) x (with_value (copy y) (wrapped (pos 0)) w) out (above x y ge apart) (omega (arith, lt))
        | inr same ↦ zeroed_zero received count (suc y) x (with_value (copy y) (wrapped (pos 0)) w) (ap (λ z. with_value (copy y) (wrapped (pos 0)) w (copy z)) same ∙ with_same (copy y) (wrapped (pos 0)) w ∙ wrapped_zero)
      ])

  -- the caller's variables stay, and the copies get the values of a frame that has received the arguments, with the
  -- globals as they are
  pub entry_keeps : (received : List ℕ) (count : ℕ) (operands : List Operand) (w : Values) (y : ℕ)
      → AreOwn shared received → y < vars
      → values_after (entered copy received operands ++ zeroed copy received shared count) w y ≡ w y
  entry_keeps received count operands w y own lt =
      ap (λ u. u y) (values_append (entered copy received operands) (zeroed copy received shared count) w)
      ∙ zeroed_keeps received count shared (values_after (entered copy received operands) w) y (le_refl shared) lt ∙ entered_keeps received operands w y own lt

  -- a global is none of the received variables
  own_out : (received : List ℕ) (x : ℕ) → AreOwn shared received → x < shared → is_in x received ≡ false
  own_out [] x own lt = refl
  own_out (y ∷ received) x own lt = ap (λ b. b || is_in x received) (ne_eqb y x (λ same. let low = own.0 in omega (arith, same, low, lt))) ∙ own_out received x own.1 lt

  pub entry_copies : (received : List ℕ) (count : ℕ) (operands : List Operand) (v w : Values) → shared ≤ vars
      → AreOwn shared received → AllBelow vars (flat_map operand_vars operands) → ((y : ℕ) → y < vars → v y ≡ w y)
      → length operands ≡ length received
      → CopiesHold copy (shared + count) (received_from 0 received (map (operand_value v) operands) (with_first (shared_values shared v) all_zero)) (values_after (entered copy received operands ++ zeroed copy received shared count) w)
  entry_copies received count operands v w least own below same long x lt =
      let w1 : Values = values_after (entered copy received operands) w in
      let first : Values = with_first (shared_values shared v) all_zero in
      let arguments : List ℤ = map (operand_value v) operands in
      elim (cases_lt x shared) [
        | inl low ↦
            ap (values_after (entered copy received operands ++ zeroed copy received shared count) w) (global x low) ∙ entry_keeps received count operands w x own (omega (arith, low, least)) ∙ sym (same x (omega (arith, low, least)))
            ∙ sym (with_shared shared v all_zero x low) ∙ sym (received_out received 0 arguments x first (own_out received x own low))
        | inr high ↦
            ap (λ u. u (copy x)) (values_append (entered copy received operands) (zeroed copy received shared count) w)
            ∙ elim (cases_Bool (is_in x received)) [
              | inl there ↦
                  zeroed_in received count shared x w1 there
                  ∙ entered_in v arguments received operands 0 x w first own below same long (λ j a at. let place : 0 + j ≡ j = omega arith in ap (λ k. slice_index_or arguments k (pos 0)) place ∙ argument_is v operands j a at) there
              | inr out ↦
                  zeroed_out received count shared x w1 out high lt
                  ∙ sym (with_first_other (shared_values shared v) all_zero x (let count_is = shared_long shared v in omega (arith, count_is, high))) ∙ sym (received_out received 0 arguments x first out)
            ]
      ]
    where
      argument_is : (u : Values) (args : List Operand) (j : ℕ) (a : Operand) → slice_get args j ≡ Some a
          → slice_index_or (map (operand_value u) args) j (pos 0) ≡ operand_value u a
      argument_is u [] j a at = cc
      argument_is u (b ∷ args) zero a at = let is : b ≡ a = cc in ap (operand_value u) is
      argument_is u (b ∷ args) (suc j) a at = argument_is u args j a at

-- ---- they are plain

-- those of the received variables
entered_plain : (copy : ℕ → ℕ) (received : List ℕ) (operands : List Operand) → ArePlain (entered copy received operands)
entered_plain copy [] operands = tt
entered_plain copy (x ∷ received) [] = tt
entered_plain copy (x ∷ received) (a ∷ operands) = ((a, refl), entered_plain copy received operands)

-- those of the others
zeroed_plain : (copy : ℕ → ℕ) (received : List ℕ) (count x : ℕ) → ArePlain (zeroed copy received x count)
zeroed_plain copy received zero x = tt
zeroed_plain copy received (suc count) x =
    put_or_not ArePlain (is_in x received) (record { var = copy x; rhs = Plain (Const (pos 0)) }) (zeroed copy received (suc x) count) (λ is. zeroed_plain copy received count (suc x)) (λ is. ((Const (pos 0), refl), zeroed_plain copy received count (suc x)))

-- all of them
pub entry_plain : (copy : ℕ → ℕ) (shared : ℕ) (received : List ℕ) (count : ℕ) (operands : List Operand)
    → ArePlain (entered copy received operands ++ zeroed copy received shared count)
entry_plain copy shared received count operands = plain_append (entered copy received operands) (zeroed copy received shared count) (entered_plain copy received operands) (zeroed_plain copy received count shared)
