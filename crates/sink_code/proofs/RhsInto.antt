-- The right side of the first pattern of a variable in a table whose bit is set.
use Rattle.std.proofs.Common.{◌≡◌, ℕ, zero, suc, ◌&&◌, Bool, true, false, nat_eq, if◌then◌else◌, List, [], ◌∷◌, slice_get, Option, Some, None, refl, sym, ap, ◌∙◌, eqb-true, true≢false}
use Rattle.std.proofs.lemmas.Bool.{and_from, and_parts, eq-eqb}
use Rattle.std.proofs.lemmas.Option.{none-some, same_Some}
use Rattle.mir_base.specs.declared.instructions.Rhs.{Rhs}
use Rattle.sink_code.specs.declared.patterns.Pattern.{Pattern}

-- of the variable x
abbrev pub rhs_into : ℕ → (ℕ → Bool) → List Pattern → Option Rhs
rhs_into x has [] = None
rhs_into x has (p ∷ table) = if has 0 && nat_eq p.var x then Some p.rhs else rhs_into x (λ k. has (suc k)) table

-- it is that of a pattern of the table
pub into_from : (x : ℕ) (has : ℕ → Bool) (table : List Pattern) (t : Rhs) → rhs_into x has table ≡ Some t → (k : ℕ) × (slice_get table k ≡ Some (record { var = x; rhs = t })) × (has k ≡ true)
into_from x has [] t e = absurd (none-some t e)
into_from x has (p ∷ table) t e = by (has 0 && nat_eq p.var x) refl (into_from x (λ k. has (suc k)) table t) e
  where
    by : (b : Bool) → (has 0 && nat_eq p.var x) ≡ b → (rhs_into x (λ k. has (suc k)) table ≡ Some t → (k : ℕ) × (slice_get table k ≡ Some (record { var = x; rhs = t })) × (has (suc k) ≡ true))
        → (if b then Some p.rhs else rhs_into x (λ k. has (suc k)) table) ≡ Some t → (k : ℕ) × (slice_get (p ∷ table) k ≡ Some (record { var = x; rhs = t })) × (has k ≡ true)
    by true on rest e =
        let parts = and_parts (has 0) (nat_eq p.var x) on in
        let var : p.var ≡ x = eqb-true p.var x parts.1 in
        let rhs : p.rhs ≡ t = same_Some p.rhs t e in
        (0, ap Some (ap (λ y. record { var = y; rhs = p.rhs }) var ∙ ap (λ r. record { var = x; rhs = r }) rhs), parts.0)
    by false off rest e = (let from = rest e in (suc from.0, from.1, from.2))

-- and where the table has one there is one
pub into_some : (x : ℕ) (has : ℕ → Bool) (table : List Pattern) (k : ℕ) (t : Rhs) → slice_get table k ≡ Some (record { var = x; rhs = t }) → has k ≡ true → (u : Rhs) × (rhs_into x has table ≡ Some u)
into_some x has [] k t at set = absurd (none-some (record { var = x; rhs = t }) at)
into_some x has (p ∷ table) k t at set = by (has 0 && nat_eq p.var x) refl (λ j. into_some x (λ i. has (suc i)) table j t) k at set
  where
    by : (b : Bool) → (has 0 && nat_eq p.var x) ≡ b → ((j : ℕ) → slice_get table j ≡ Some (record { var = x; rhs = t }) → has (suc j) ≡ true → (u : Rhs) × (rhs_into x (λ i. has (suc i)) table ≡ Some u))
        → (j : ℕ) → slice_get (p ∷ table) j ≡ Some (record { var = x; rhs = t }) → has j ≡ true → (u : Rhs) × (rhs_into x has (p ∷ table) ≡ Some u)
    by true first rest j at set = (p.rhs, ap (λ b. if b then Some p.rhs else rhs_into x (λ i. has (suc i)) table) first)
    by false other rest zero at set =
        let same : p ≡ record { var = x; rhs = t } = same_Some p (record { var = x; rhs = t }) at in
        let var : p.var ≡ x = ap (λ (q : Pattern). q.var) same in
        absurd (true≢false (sym (and_from (has 0) (nat_eq p.var x) set (eq-eqb p.var x var)) ∙ other))
    by false other rest (suc j) at set =
        let some = rest j at set in
        (some.0, ap (λ b. if b then Some p.rhs else rhs_into x (λ i. has (suc i)) table) other ∙ some.1)
