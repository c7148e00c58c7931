-- Rows with the bits that a list tells, as far as a loop has come.
use Rattle.std.proofs.Common.{◌≡◌, ◌↔◌, ℕ, ◌+◌, ◌<◌, ◌≤◌, Bool, true, false, List, [], get_or, length, replicate, slice_get, Some, sym, ap, inl, inr, ◌∙◌, subst, arith, true≢false}
use Rattle.std.proofs.lemmas.Bool.{cases_eq, cases_lt}
use Rattle.std.proofs.lemmas.List.{get_or_past}
use Rattle.std.proofs.lemmas.Option.{same_Some, slice_get_within}
use Rattle.key_rows.specs.KeyRowLaws.{bit_beside, bit_elsewhere, bit_set, with_bit_set, with_bit_shape}
use Rattle.path_laws.specs.FalseRows.{false_rows}
use Rattle.path_laws.specs.Paths.{AreRows, has_bit}
use Rattle.sink_code.specs.declared.inside.Leaving.{Leaving}

-- one row for each block and one bit for each pattern: whether the list has the two below an index
pub record AreListedTo (count bits : ℕ) (leaving : List Leaving) (index : ℕ) (rows : List (List Bool)) : Type 0 where
  pub shape : AreRows count bits rows
  pub bits_are : (b k : ℕ) → (has_bit rows k b ≡ true) ↔ ((i : ℕ) × (i < index) × (slice_get leaving i ≡ Some (record { block = b; number = k })))

module _ (count bits : ℕ) (leaving : List Leaving) where
  -- of none
  pub listed_none : (rows : List (List Bool)) → rows ≡ replicate count (replicate bits false) → AreListedTo count bits leaving 0 rows
  listed_none rows is = record {
    shape = (false_rows count bits rows is).0;
    bits_are = λ b k. ((λ on. absurd (true≢false (sym on ∙ off b k))), (λ from. (let lt = from.1 in absurd (omega (arith, lt)))));
  }
    where
      off : (b k : ℕ) → has_bit rows k b ≡ false
      off b k = elim (cases_lt b count) as (λ _. has_bit rows k b ≡ false) [
        | inl lt ↦ (false_rows count bits rows is).1 b k lt
        | inr past ↦
            let long = (false_rows count bits rows is).0.len in
            ap (λ (r : List Bool). get_or r k false) (get_or_past rows b [] (omega (arith, long, past))) ∙ get_or_past [] k false (omega arith)
      ]

  -- of all
  pub listed_all : (index : ℕ) (rows : List (List Bool)) → length leaving ≤ index → AreListedTo count bits leaving index rows → (b k : ℕ) → (has_bit rows k b ≡ true) ↔ ((i : ℕ) × (slice_get leaving i ≡ Some (record { block = b; number = k })))
  listed_all index rows past are b k = (
    (λ on. (let from = (are.bits_are b k).0 on in (from.0, from.2))),
    (λ from. (let within = slice_get_within leaving from.0 (record { block = b; number = k }) from.1 in (are.bits_are b k).1 (from.0, omega (arith, within, past), from.1))),
  )

  -- one more
  pub listed_more : (index : ℕ) (left : Leaving) (rows new : List (List Bool)) → slice_get leaving index ≡ Some left → left.block < count → left.number < bits → new ≡ with_bit_set rows left.block left.number → AreListedTo count bits leaving index rows → AreListedTo count bits leaving (index + 1) new
  listed_more index left rows new at block number is are = record {
    shape = subst (AreRows count bits) (sym is) (with_bit_shape count bits rows are.shape left.block left.number);
    bits_are = λ b k. (
      (λ on. there b k (ap (λ r. has_bit r k b) (sym is) ∙ on)),
      (λ from. ap (λ r. has_bit r k b) is ∙ back b k from.0 from.1 from.2),
    );
  }
    where
      longer : (b k : ℕ) → ((i : ℕ) × (i < index) × (slice_get leaving i ≡ Some (record { block = b; number = k }))) → (i : ℕ) × (i < index + 1) × (slice_get leaving i ≡ Some (record { block = b; number = k }))
      longer b k from = (from.0, (let lt = from.1 in omega (arith, lt)), from.2)

      there : (b k : ℕ) → has_bit (with_bit_set rows left.block left.number) k b ≡ true → (i : ℕ) × (i < index + 1) × (slice_get leaving i ≡ Some (record { block = b; number = k }))
      there b k on = elim (cases_eq b left.block) [
        | inr other ↦ longer b k ((are.bits_are b k).0 (sym (bit_elsewhere count bits rows are.shape left.block left.number b k other) ∙ on))
        | inl same ↦ elim (cases_eq k left.number) [
          | inr beside ↦ longer b k ((are.bits_are b k).0 (ap (has_bit rows k) same ∙ sym (bit_beside count bits rows are.shape left.block left.number k block beside) ∙ ap (has_bit (with_bit_set rows left.block left.number) k) (sym same) ∙ on))
          | inl one ↦ (index, omega arith, at ∙ ap Some (ap (λ c. record { block = c; number = left.number }) (sym same) ∙ ap (λ j. record { block = b; number = j }) (sym one)))
        ]
      ]

      -- the bits that were set are
      kept : (b k : ℕ) → has_bit rows k b ≡ true → has_bit (with_bit_set rows left.block left.number) k b ≡ true
      kept b k on = elim (cases_eq b left.block) as (λ _. has_bit (with_bit_set rows left.block left.number) k b ≡ true) [
        | inr other ↦ bit_elsewhere count bits rows are.shape left.block left.number b k other ∙ on
        | inl same ↦ elim (cases_eq k left.number) as (λ _. has_bit (with_bit_set rows left.block left.number) k b ≡ true) [
          | inr beside ↦ ap (has_bit (with_bit_set rows left.block left.number) k) same ∙ bit_beside count bits rows are.shape left.block left.number k block beside ∙ ap (has_bit rows k) (sym same) ∙ on
          | inl one ↦ ap (λ j. has_bit (with_bit_set rows left.block left.number) j b) one ∙ ap (has_bit (with_bit_set rows left.block left.number) left.number) same ∙ bit_set count bits rows are.shape left.block left.number block number
        ]
      ]

      back : (b k i : ℕ) → i < index + 1 → slice_get leaving i ≡ Some (record { block = b; number = k }) → has_bit (with_bit_set rows left.block left.number) k b ≡ true
      back b k i lt e = elim (cases_eq i index) as (λ _. has_bit (with_bit_set rows left.block left.number) k b ≡ true) [
        | inr before ↦ kept b k ((are.bits_are b k).1 (i, omega (arith, lt, before), e))
        | inl same ↦
            let is_left : left ≡ record { block = b; number = k } = same_Some left (record { block = b; number = k }) (sym at ∙ ap (slice_get leaving) (sym same) ∙ e) in
            let b_is : left.block ≡ b = ap (λ (l : Leaving). l.block) is_left in
            let k_is : left.number ≡ k = ap (λ (l : Leaving). l.number) is_left in
            ap (λ j. has_bit (with_bit_set rows left.block left.number) j b) (sym k_is) ∙ ap (has_bit (with_bit_set rows left.block left.number) left.number) (sym b_is) ∙ bit_set count bits rows are.shape left.block left.number block number
      ]
