-- There are no more different numbers below a bound than the bound. For proofs only.
use Rattle.std.proofs.Common.{◌≡◌, ◌≤◌, ℕ, zero, suc, false, nat_eq, if◌then◌else◌, List, [], ◌∷◌, length, inl, inr, sym, ap, ◌∙◌, subst, arith}
use Rattle.std.proofs.lemmas.Bool.{cases_eq, eq-eqb, ne_eqb, or_from, or_parts, true≢false}
use Rattle.mir_base.specs.Shapes.{AllBelow}
use Rattle.flow_graph.specs.Numbering.{is_in}

-- no number twice
abbrev pub AllOnce : List ℕ → Type 0
AllOnce [] = Unit {0}
AllOnce (n ∷ l) = (is_in n l ≡ false) × AllOnce l

-- without the first m
abbrev without : ℕ → List ℕ → List ℕ
without m [] = []
without m (n ∷ l) = if nat_eq n m then l else n ∷ without m l

-- where m comes first, it goes
found : (m n : ℕ) (l : List ℕ) → n ≡ m → without m (n ∷ l) ≡ l
found m n l e = ap (λ b. (if b then l else n ∷ without m l)) (eq-eqb n m e)

-- where another number comes first, that one stays
passed : (m n : ℕ) (l : List ℕ) → (n ≡ m → ⊥) → without m (n ∷ l) ≡ n ∷ without m l
passed m n l differ = ap (λ b. (if b then l else n ∷ without m l)) (ne_eqb n m differ)

-- at most one number goes
one_less : (m : ℕ) (l : List ℕ) → length l ≤ suc (length (without m l))
one_less m [] = omega arith
one_less m (n ∷ l) = elim (cases_eq n m) [
  | inl same ↦ (let e = ap length (found m n l same) in omega (arith, e))
  | inr differ ↦ (let e = ap length (passed m n l differ) in omega (arith, e, one_less m l))
]

-- a number that is not in the list is not in what stays of it
out_of : (k m : ℕ) (l : List ℕ) → is_in k l ≡ false → is_in k (without m l) ≡ false
out_of k m [] none = none
out_of k m (n ∷ l) none = (let both = or_parts (nat_eq n k) (is_in k l) none in elim (cases_eq n m) [
  | inl same ↦ ap (is_in k) (found m n l same) ∙ both.1
  | inr differ ↦ ap (is_in k) (passed m n l differ) ∙ or_from (nat_eq n k) (is_in k (without m l)) both.0 (out_of k m l both.1)
])

-- no number is twice in what stays of a list that has none twice
once_without : (m : ℕ) (l : List ℕ) → AllOnce l → AllOnce (without m l)
once_without m [] once = tt
once_without m (n ∷ l) once = elim (cases_eq n m) [
  | inl same ↦ subst AllOnce (sym (found m n l same)) once.1
  | inr differ ↦ subst AllOnce (sym (passed m n l differ)) (out_of n m l once.0, once_without m l once.1)
]

-- numbers at most m, of which none is m, are below m
below_other : (m : ℕ) (l : List ℕ) → is_in m l ≡ false → AllBelow (suc m) l → AllBelow m l
below_other m [] none below = tt
below_other m (n ∷ l) none below =
    let both = or_parts (nat_eq n m) (is_in m l) none in
    let lt = below.0 in
    (elim (cases_eq n m) [ inl same ↦ absurd (true≢false (sym (eq-eqb n m same) ∙ both.0)) | inr differ ↦ omega (arith, lt, differ) ], below_other m l both.1 below.1)

-- different numbers at most m are below m once m is gone
below_without : (m : ℕ) (l : List ℕ) → AllOnce l → AllBelow (suc m) l → AllBelow m (without m l)
below_without m [] once below = tt
below_without m (n ∷ l) once below = elim (cases_eq n m) [
  | inl same ↦ subst (AllBelow m) (sym (found m n l same)) (below_other m l (ap (λ k. is_in k l) (sym same) ∙ once.0) below.1)
  | inr differ ↦ (let lt = below.0 in subst (AllBelow m) (sym (passed m n l differ)) (omega (arith, lt, differ), below_without m l once.1 below.1))
]

-- there are no more different numbers below a bound than the bound
pub no_more_than : (bound : ℕ) (l : List ℕ) → AllOnce l → AllBelow bound l → length l ≤ bound
no_more_than bound [] once below = omega arith
no_more_than zero (n ∷ l) once below = (let lt = below.0 in absurd (omega (arith, lt)))
no_more_than (suc m) (n ∷ l) once below =
    let deeper = no_more_than m (without m (n ∷ l)) (once_without m (n ∷ l) once) (below_without m (n ∷ l) once below) in
    let less = one_less m (n ∷ l) in
    omega (arith, deeper, less)
