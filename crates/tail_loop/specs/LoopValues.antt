-- The assignments of a self tail call give the variables the values that a new frame has after its receives.
use Rattle.std.proofs.Common.{◌≡◌, ◌⊎◌, inl, inr, ℕ, zero, suc, ◌+◌, ◌-◌, ◌<◌, ◌≤◌, Bool, true, false, ◌||◌, nat_eq, List, [], ◌∷◌, ◌++◌, length, map, flat_map, ℤ, pos, slice_index_or, refl, sym, ap, ◌∙◌, arith}
use Rattle.std.proofs.lemmas.Bool.{cases_Bool, cases_lt, eq-eqb, eqb-true}
use Rattle.std.proofs.lemmas.Int.{int_wrap_fits}
use Rattle.mir_base.specs.declared.instructions.Operand.{Operand}
use Rattle.mir_base.specs.declared.instructions.Operand.TheVariants.{Var, Const}
use Rattle.mir_base.specs.declared.instructions.Rhs.TheVariants.{Plain}
use Rattle.mir_base.specs.BelowLaws.{all_below_left, all_below_right}
use Rattle.mir_base.specs.EqualValues.{equal_below, operand_equal, with_other, with_same}
use Rattle.mir_base.specs.Frames.{Values, all_zero, shared_values, with_first, with_value}
use Rattle.mir_base.specs.NumberLaws.{zero_fits}
use Rattle.mir_base.specs.Numbers.{wrapped}
use Rattle.mir_base.specs.Shapes.{AllBelow, operand_vars}
use Rattle.mir_base.specs.SharedLaws.{shared_long, with_first_other}
use Rattle.mir_base.specs.Units.{operand_value}
use Rattle.graph_edit.specs.InsertionRuns.{values_after}
use Rattle.graph_edit.specs.Insertions.{Insertion}
use Rattle.flow_graph.specs.Machines.{received_from}
use Rattle.flow_graph.specs.Numbering.{is_in}
use Rattle.program_pass.specs.ChainLaws.{ArePlain, plain_append, put_or_not, values_append}
use Rattle.tail_loop.specs.Tails.{cleared, loop_assignments, moved, saved}
use mir.Syntax.{w64}
use Rattle.program_pass.specs.EntryLaws.{received_out, with_shared, wrapped_zero}
use Rattle.flow_graph.specs.MemberLaws.{above, apart_or_not, in_first, not_in}

-- ---- the temporaries get the arguments

-- the other variables stay
saved_old : (operands : List Operand) (first x : ℕ) (w : Values) → x < first → values_after (saved first operands) w x ≡ w x
saved_old [] first x w lt = refl
saved_old (a ∷ operands) first x w lt = saved_old operands (suc first) x (with_value first (operand_value w a) w) (omega (arith, lt)) ∙ with_other first x (operand_value w a) w (λ same. omega (arith, same, lt))

-- each temporary has its argument
saved_new : (vars : ℕ) (v : Values) (operands : List Operand) (first : ℕ) (w : Values) → vars ≤ first
    → AllBelow vars (flat_map operand_vars operands) → ((y : ℕ) → y < vars → v y ≡ w y)
    → (j : ℕ) → j < length operands → values_after (saved first operands) w (first + j) ≡ slice_index_or (map (operand_value v) operands) j (pos 0)
saved_new vars v [] first w ge below same j lt = absurd (omega (arith, lt))
saved_new vars v (a ∷ operands) first w ge below same zero lt =
    let w' : Values = with_value first (operand_value w a) w in
    let here : first + 0 ≡ first = omega arith in
    ap (values_after (saved (suc first) operands) w') here ∙ saved_old operands (suc first) first w' (omega arith) ∙ with_same first (operand_value w a) w
    ∙ sym (operand_equal v w a (equal_below vars (operand_vars a) v w (all_below_left vars (operand_vars a) (flat_map operand_vars operands) below) same))
saved_new vars v (a ∷ operands) first w ge below same (suc j) lt =
    let w' : Values = with_value first (operand_value w a) w in
    let here : first + suc j ≡ suc first + j = omega arith in
    ap (values_after (saved (suc first) operands) w') here
    ∙ saved_new vars v operands (suc first) w' (omega (arith, ge)) (all_below_right vars (operand_vars a) (flat_map operand_vars operands) below) (λ y lt'. same y lt' ∙ sym (with_other first y (operand_value w a) w (λ e. omega (arith, e, lt', ge)))) j (omega (arith, lt))

-- ---- the received variables get the temporaries

-- the other variables stay
moved_out : (xs : List ℕ) (first x : ℕ) (w : Values) → is_in x xs ≡ false → values_after (moved first xs) w x ≡ w x
moved_out [] first x w out = refl
moved_out (y ∷ ys) first x w out =
    let apart = not_in x y ys out in
    moved_out ys (suc first) x (with_value y (w first) w) apart.1 ∙ with_other y x (w first) w apart.0

-- and they get what a frame receives, where the temporaries have the arguments
moved_in : (vars : ℕ) (arguments : List ℤ) (xs : List ℕ) (first i x : ℕ) (w u : Values) → AllBelow vars xs
    → vars ≤ first → ((j : ℕ) → j < length xs → w (first + j) ≡ slice_index_or arguments (i + j) (pos 0))
    → is_in x xs ≡ true → values_after (moved first xs) w x ≡ received_from i xs arguments u x
moved_in vars arguments [] first i x w u below ge hold there = cc
moved_in vars arguments (y ∷ ys) first i x w u below ge hold there =
    let w' : Values = with_value y (w first) w in
    let u' : Values = with_value y (slice_index_or arguments i (pos 0)) u in
    elim (cases_Bool (is_in x ys)) [
      | inl within ↦
          moved_in vars arguments ys (suc first) (suc i) x w' u' below.1 (omega (arith, ge))
          (λ j lt.
          let next : suc first + j ≡ first + suc j = omega arith in
          let place : i + suc j ≡ suc i + j = omega arith in
          with_other y (suc first + j) (w first) w (λ e. let lt' = below.0 in omega (arith, e, lt', ge)) ∙ ap w next ∙ hold (suc j) (omega (arith, lt)) ∙ ap (λ k. slice_index_or arguments k (pos 0)) place)
          within
      | inr out ↦
          let same = in_first x y ys there out in
          let here : first + 0 ≡ first = omega arith in
          let place : i + 0 ≡ i = omega arith in
          moved_out ys (suc first) x w' out ∙ ap w' (sym same) ∙ with_same y (w first) w ∙ ap w (sym here) ∙ hold 0 (omega arith) ∙ ap (λ k. slice_index_or arguments k (pos 0)) place
          ∙ sym (received_out ys (suc i) arguments x u' out ∙ ap u' (sym same) ∙ with_same y (slice_index_or arguments i (pos 0)) u)
    ]

-- ---- the others become 0

-- the assignment of 0
abbrev zero_put : ℕ → Insertion
zero_put y = record { var = y; rhs = Plain (Const (pos 0)) }

-- the values after it
abbrev zeroed : ℕ → Values → Values
zeroed y w = with_value y (wrapped (pos 0)) w

-- a received variable stays
cleared_in : (received : List ℕ) (count y x : ℕ) (w : Values) → is_in x received ≡ true → values_after (cleared received y count) w x ≡ w x
cleared_in received zero y x w there = refl
cleared_in received (suc count) y x w there =
    put_or_not (λ puts. values_after puts w x ≡ w x) (is_in y received) (zero_put y) (cleared received (suc y) count)
    (λ is. cleared_in received count (suc y) x w there)
    (λ is. cleared_in received count (suc y) x (zeroed y w) there ∙ with_other y x (wrapped (pos 0)) w (λ same. let e : true ≡ false = sym there ∙ ap (λ z. is_in z received) same ∙ is in cc))

-- 0 in a variable that is 0
zeroed_zero : (y x : ℕ) (w : Values) → (x ≡ y → ⊥) ⊎ (x ≡ y) → ((x ≡ y → ⊥) → w x ≡ pos 0) → zeroed y w x ≡ pos 0
zeroed_zero y x w (inl apart) is = with_other y x (wrapped (pos 0)) w apart ∙ is apart
zeroed_zero y x w (inr same) is = ap (zeroed y w) same ∙ with_same y (wrapped (pos 0)) w ∙ wrapped_zero

-- a variable before the first of them stays
cleared_low : (received : List ℕ) (count y x : ℕ) (w : Values) → x < y → values_after (cleared received y count) w x ≡ w x
cleared_low received zero y x w lt = refl
cleared_low received (suc count) y x w lt =
    put_or_not (λ puts. values_after puts w x ≡ w x) (is_in y received) (zero_put y) (cleared received (suc y) count)
    (λ is. cleared_low received count (suc y) x w (omega (arith, lt)))
    (λ is. cleared_low received count (suc y) x (zeroed y w) (omega (arith, lt)) ∙ with_other y x (wrapped (pos 0)) w (λ same. omega (arith, same, lt)))

-- a variable that is 0 stays 0 through the assignments that clear the others
cleared_zero : (received : List ℕ) (count y x : ℕ) (w : Values) → w x ≡ pos 0 → values_after (cleared received y count) w x ≡ pos 0
cleared_zero received zero y x w is = is
cleared_zero received (suc count) y x w is =
    put_or_not (λ puts. values_after puts w x ≡ pos 0) (is_in y received) (zero_put y) (cleared received (suc y) count)
    (λ in_list. cleared_zero received count (suc y) x w is)
    (λ out. cleared_zero received count (suc y) x (zeroed y w) (zeroed_zero y x w (apart_or_not x y) (λ apart. is)))

-- any other becomes 0
cleared_out : (received : List ℕ) (count y x : ℕ) (w : Values) → is_in x received ≡ false → y ≤ x → x < y + count
    → values_after (cleared received y count) w x ≡ pos 0
cleared_out received zero y x w out ge lt = absurd (omega (arith, ge, lt))
cleared_out received (suc count) y x w out ge lt =
    put_or_not (λ puts. values_after puts w x ≡ pos 0) (is_in y received) (zero_put y) (cleared received (suc y) count)
    (λ is. cleared_out received count (suc y) x w out (above x y ge (λ same. let e : true ≡ false = sym is ∙ ap (λ z. is_in z received) (sym same) ∙ out in cc)) (omega (arith, lt)))
    (λ is. elim (apart_or_not x y) [
      | inl apart ↦ cleared_out received count (suc y) x (zeroed y w) out (above x y ge apart) (omega (arith, lt))
      | inr same ↦ cleared_zero received count (suc y) x (zeroed y w) (zeroed_zero y x w (inr same) (λ apart. absurd (apart same)))
    ])

-- ---- all of them

-- they are plain
saved_plain : (operands : List Operand) (first : ℕ) → ArePlain (saved first operands)
saved_plain [] first = tt
saved_plain (a ∷ operands) first = ((a, refl), saved_plain operands (suc first))

-- those of the received variables
moved_plain : (received : List ℕ) (first : ℕ) → ArePlain (moved first received)
moved_plain [] first = tt
moved_plain (x ∷ received) first = ((Var first, refl), moved_plain received (suc first))

-- those of the others
cleared_plain : (received : List ℕ) (count y : ℕ) → ArePlain (cleared received y count)
cleared_plain received zero y = tt
cleared_plain received (suc count) y =
    put_or_not ArePlain (is_in y received) (zero_put y) (cleared received (suc y) count) (λ is. cleared_plain received count (suc y)) (λ is. ((Const (pos 0), refl), cleared_plain received count (suc y)))

-- all of them
pub loop_plain : (shared vars : ℕ) (received : List ℕ) (operands : List Operand) → ArePlain (loop_assignments shared vars received operands)
loop_plain shared vars received operands =
    plain_append (saved vars operands) (moved vars received ++ cleared received shared (vars - shared)) (saved_plain operands vars) (plain_append (moved vars received) (cleared received shared (vars - shared)) (moved_plain received vars) (cleared_plain received (vars - shared) shared))

-- the variables get the values of a frame that has received these arguments, with the globals as they are
pub loop_values : (shared vars : ℕ) (received : List ℕ) (operands : List Operand) (v w : Values)
    → AllBelow vars received → AllBelow vars (flat_map operand_vars operands) → length operands ≡ length received
    → ((y : ℕ) → y < vars → v y ≡ w y)
    → (x : ℕ) → x < vars → values_after (loop_assignments shared vars received operands) w x ≡ received_from 0 received (map (operand_value v) operands) (with_first (shared_values shared v) all_zero) x
loop_values shared vars received operands v w received_below below long same x lt =
    let w1 : Values = values_after (saved vars operands) w in
    let w2 : Values = values_after (moved vars received) w1 in
    let first : Values = with_first (shared_values shared v) all_zero in
    let arguments : List ℤ = map (operand_value v) operands in
    let rest : List Insertion = cleared received shared (vars - shared) in
    let parts : values_after (loop_assignments shared vars received operands) w ≡ values_after rest w2 = values_append (saved vars operands) (moved vars received ++ rest) w ∙ values_append (moved vars received) rest w1 in
    ap (λ values. values x) parts ∙ elim (cases_Bool (is_in x received)) [
      | inl there ↦
          cleared_in received (vars - shared) shared x w2 there
          ∙ moved_in vars arguments received vars 0 x w1 first received_below (omega arith)
          (λ j lt'.
          let place : j ≡ 0 + j = omega arith in
          saved_new vars v operands vars w (omega arith) below same j (omega (arith, lt', long)) ∙ ap (λ k. slice_index_or arguments k (pos 0)) place)
          there
      | inr out ↦ elim (cases_lt x shared) [
        | inl global ↦
            cleared_low received (vars - shared) shared x w2 global ∙ moved_out received vars x w1 out ∙ saved_old operands vars x w lt ∙ sym (same x lt)
            ∙ sym (with_shared shared v all_zero x global) ∙ sym (received_out received 0 arguments x first out)
        | inr own ↦
            cleared_out received (vars - shared) shared x w2 out own (omega (arith, lt, own))
            ∙ sym (with_first_other (shared_values shared v) all_zero x (let long' = shared_long shared v in omega (arith, long', own))) ∙ sym (received_out received 0 arguments x first out)
      ]
    ]
