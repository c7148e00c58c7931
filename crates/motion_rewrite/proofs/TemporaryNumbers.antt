-- The numbers of the temporaries: they are new, and those of expressions with insertions differ.
use Rattle.std.proofs.Common.{◌≡◌, ℕ, zero, suc, ◌+◌, ◌<◌, ◌≤◌, Bool, true, cond, ◌||◌, List, [], ◌∷◌, inl, inr, ap, ◌∙◌, arith}
use Rattle.std.proofs.Math.Bool.{or-true}
use Rattle.std.proofs.lemmas.Bool.{cases_lt, cases_order}
use Rattle.path_laws.specs.Paths.{has_bit}
use Rattle.motion_rewrite.specs.declared.placement.Placement.{Placement}
use Rattle.motion_rewrite.specs.Temporaries.{has_insertion, temporaries_before, temporary}

-- temporaries are new, and those with an insertion differ
pub record AreTemps (vars : ℕ) (temp : ℕ → ℕ) (p : Placement) : Type 0 where
  pub fresh : (i : ℕ) → vars ≤ temp i
  pub differ : (i j n m : ℕ) → has_bit p.insert i n ≡ true → has_bit p.insert j m ≡ true → temp i ≡ temp j → i ≡ j

-- an expression whose bit is set in a row has an insertion
pub bit_inserted : (rows : List (List Bool)) (n i : ℕ) → has_bit rows i n ≡ true → has_insertion rows i ≡ true
bit_inserted [] n i set = cc
bit_inserted (row ∷ rows) zero i set = ap (λ b. b || has_insertion rows i) set
bit_inserted (row ∷ rows) (suc n) i set = ap (λ b. has_bit (row ∷ []) i 0 || b) (bit_inserted rows n i set) ∙ or-true (has_bit (row ∷ []) i 0)

-- the numbers ascend, and by one behind each expression with an insertion
pub temporaries_mono : (rows : List (List Bool)) (i m : ℕ) → i < m → temporaries_before rows i + cond (has_insertion rows i) 1 0 ≤ temporaries_before rows m
temporaries_mono rows i zero lt = absurd (omega (arith, lt))
temporaries_mono rows i (suc m) lt = elim (cases_lt i m) [
  | inl before ↦ omega (arith, temporaries_mono rows i m before)
  | inr ge ↦
      let same : i ≡ m = omega (arith, lt, ge) in
      let e : temporaries_before rows i + cond (has_insertion rows i) 1 0 ≡ temporaries_before rows m + cond (has_insertion rows m) 1 0 = ap (λ k. temporaries_before rows k + cond (has_insertion rows k) 1 0) same in
      omega (arith, e)
]

-- so the temporary of an expression with an insertion is below those of the later expressions
rises_at : (rows : List (List Bool)) (k j n : ℕ) → k < j → has_bit rows k n ≡ true → temporaries_before rows k < temporaries_before rows j
rises_at rows k j n lt set =
    let one = ap {B = ℕ} (λ b. cond b 1 0) (bit_inserted rows n k set) in
    omega (arith, one, temporaries_mono rows k j lt)

-- those of a placement are such
pub temporaries : (vars : ℕ) (p : Placement) → AreTemps vars (temporary vars p.insert) p
temporaries vars p = record {
  fresh = λ i. omega arith;
  differ = λ i j n m at_i at_j same. elim (cases_order i j) [
    | inl is ↦ is
    | inr differ ↦ elim differ [
      | inl lt ↦ omega (arith, rises_at p.insert i j n lt at_i, same)
      | inr gt ↦ omega (arith, rises_at p.insert j i m gt at_j, same)
    ]
  ];
}
