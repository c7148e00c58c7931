-- Whether a number stands in a list, and among the globals. For proofs, and the ghost members of the flow.
use Rattle.std.proofs.Common.{inl, inr, ◌≡◌, ℕ, zero, suc, ◌+◌, ◌<◌, ◌≤◌, true, false, ◌||◌, nat_eq, nat_lt, List, [], ◌∷◌, ◌++◌, refl, sym, ap, ◌∙◌, arith, zero-add}
use Rattle.std.proofs.Math.Bool.{or_assoc}
use Rattle.std.specs.List.{range_with_len}
use Rattle.std.proofs.lemmas.Bool.{cases_lt, eq-eqb, le-ltb, lt-ltb, ne_eqb}
use Rattle.mir_base.specs.Frames.{shared_vars}
use Rattle.flow_graph.specs.Numbering.{is_in}

-- what stands in a joined list
pub is_in_append : (x : ℕ) (xs ys : List ℕ) → is_in x (xs ++ ys) ≡ (is_in x xs || is_in x ys)
is_in_append x [] ys = refl
is_in_append x (y ∷ xs) ys = ap (λ b. nat_eq y x || b) (is_in_append x xs ys) ∙ sym (or_assoc (nat_eq y x) (is_in x xs) (is_in x ys))

-- a number stands among so many from a on where it is one of them
in_range : (n a i : ℕ) → i < n → is_in (a + i) (range_with_len a n) ≡ true
in_range zero a i lt = absurd (omega (arith, lt))
in_range (suc n) a zero lt = ap (λ b. b || is_in (a + 0) (range_with_len (a + 1) n)) (eq-eqb a (a + 0) (let same : a ≡ a + 0 = omega arith in same))
in_range (suc n) a (suc i) lt =
    let later = ap (λ k. is_in k (range_with_len (a + 1) n)) (let same : a + suc i ≡ a + 1 + i = omega arith in same) ∙ in_range n (a + 1) i (omega (arith, lt)) in
    ap (λ b. b || is_in (a + suc i) (range_with_len (a + 1) n)) (ne_eqb a (a + suc i) (λ e. omega (arith, e))) ∙ later

-- and not where it comes after them
past_range : (n a x : ℕ) → a + n ≤ x → is_in x (range_with_len a n) ≡ false
past_range zero a x le = refl
past_range (suc n) a x le = ap (λ b. b || is_in x (range_with_len (a + 1) n)) (ne_eqb a x (λ e. omega (arith, e, le))) ∙ past_range n (a + 1) x (omega (arith, le))

-- the globals are the numbers below theirs
pub shared_is_in : (shared x : ℕ) → is_in x (shared_vars shared) ≡ nat_lt x shared
shared_is_in shared x = elim (cases_lt x shared) [
  | inl lt ↦ ap (λ k. is_in k (shared_vars shared)) (sym (zero-add x)) ∙ in_range shared 0 x lt ∙ sym (lt-ltb x shared lt)
  | inr ge ↦ past_range shared 0 x (omega (arith, ge)) ∙ sym (le-ltb x shared ge)
]
