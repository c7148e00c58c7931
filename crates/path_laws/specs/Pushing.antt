-- Rows to which one more is put at the end. Cited by proofs, here and above.
use Rattle.std.proofs.Common.{◌≡◌, ℕ, zero, suc, ◌+◌, ◌<◌, Bool, List, [], ◌∷◌, ◌++◌, length, length-append, sym, ap, subst, inl, inr, arith, ◌∙◌}
use Rattle.std.proofs.Math.Seq.{get_or-append_seam}
use Rattle.std.proofs.lemmas.Bool.{cases_eq}
use Rattle.std.proofs.lemmas.List.{get_or_append_left}
use Rattle.bit_rows.specs.Bits.{AreEquallyLong, row_of}
use Rattle.path_laws.specs.Paths.{AreRows}

module _ (count bits : ℕ) (rows after : List (List Bool)) (row : List Bool) (are : AreRows count bits rows) (is : after ≡ rows ++ row ∷ []) where
  -- it is the last
  pub pushed_last : row_of after count ≡ row
  pushed_last = ap (λ (r : List (List Bool)). row_of r count) is ∙ ap (row_of (rows ++ row ∷ [])) (sym are.len) ∙ get_or-append_seam rows row [] []

  -- those before it stay
  pub pushed_before : (n : ℕ) → n < count → row_of after n ≡ row_of rows n
  pushed_before n h = ap (λ (r : List (List Bool)). row_of r n) is ∙ get_or_append_left rows (row ∷ []) [] n (rw are.len h)

  -- and there is one more
  pub pushed_shape : length row ≡ bits → AreRows (count + 1) bits after
  pushed_shape long = record {
    len = ap length is ∙ length-append rows (row ∷ []) ∙ ap (λ k. k + 1) are.len;
    each = λ n h. elim (cases_eq n count) as (λ _. length (row_of after n) ≡ bits) [
      | inl e ↦ rw e (ap length pushed_last ∙ long)
      | inr d ↦ ap length (pushed_before n (omega (arith, h, d))) ∙ are.each n (omega (arith, h, d))
    ];
  }

-- with a row of as many bits at the end the rows are equally long
pub longer : (bits : ℕ) (rows new : List (List Bool)) (row : List Bool) → AreEquallyLong bits rows → length row ≡ bits
    → new ≡ rows ++ row ∷ [] → AreEquallyLong bits new
longer bits rows new row long is put = subst (AreEquallyLong bits) (sym put) (record { each = each rows long.each })
  where
    each : (rs : List (List Bool)) → ((k : ℕ) → k < length rs → length (row_of rs k) ≡ bits) → (k : ℕ)
        → k < length (rs ++ row ∷ []) → length (row_of (rs ++ row ∷ []) k) ≡ bits
    each [] old zero lt = is
    each [] old (suc k) lt = absurd (omega (arith, lt))
    each (r ∷ rs) old zero lt = old 0 (omega arith)
    each (r ∷ rs) old (suc k) lt = each rs (λ j j_in. old (suc j) (omega (arith, j_in))) k (omega (arith, lt))
