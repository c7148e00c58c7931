-- Numbers that are raised one after the other.
use Rattle.std.proofs.Common.{◌≡◌, ◌≢◌, ◌↔◌, ℕ, ◌+◌, ◌<◌, ◌≤◌, max, Bool, true, false, ◌||◌, inl, inr, List, length, get_or, take, drop, ◌++◌, append-nil, slice_set, refl, sym, ap, ◌∙◌, subst, arith}
use Rattle.std.proofs.lemmas.Bool.{cases_Bool, cases_eq, or_parts}
use Rattle.std.proofs.lemmas.List.{drop_all, take_all, ext_get_or, get_or-set_other, get_or-set_same, length-set}
use Rattle.wanted_bits.specs.BitsOrder.{joined_bits}
use Rattle.wanted_bits.specs.JoinedBits.{joined_at, joined_long}

-- the numbers below place i are raised, and the others are as they were
pub record RaisedTo (xs : List ℕ) (g : ℕ → ℕ) (zs : List ℕ) (changed : Bool) (i : ℕ) : Type 0 where
  pub len : length zs ≡ length xs
  pub done : (k : ℕ) → k < i → get_or zs k 0 ≡ max (get_or xs k 0) (g k)
  pub rest : (k : ℕ) → i ≤ k → get_or zs k 0 ≡ get_or xs k 0
  pub same : changed ≡ false → (k : ℕ) → get_or zs k 0 ≡ get_or xs k 0
  pub moved : changed ≡ true → (k : ℕ) × (get_or zs k 0 ≢ get_or xs k 0)

-- none yet
pub raised_none : (xs : List ℕ) (g : ℕ → ℕ) → RaisedTo xs g xs false 0
raised_none xs g = record { len = refl; done = λ k lt. absurd (omega (arith, lt)); rest = λ k le. refl; same = λ off k. refl; moved = λ on. absurd (cc) }

-- one more
pub raised_more : (xs : List ℕ) (g : ℕ → ℕ) (zs new : List ℕ) (changed raised : Bool) (i least : ℕ) → RaisedTo xs g zs changed i → i < length xs → least ≡ g i → new ≡ slice_set zs i (max (get_or zs i 0) least) → ((raised ≡ false) ↔ (least ≤ get_or zs i 0))
    → RaisedTo xs g new (changed || raised) (i + 1)
raised_more xs g zs new changed raised i least before lt least_is put tells =
    let within : i < length zs = omega (arith, lt, before.len) in
    let was = before.rest i (omega arith) in
    let at_i : get_or new i 0 ≡ max (get_or zs i 0) least = ap (λ l. get_or l i 0) put ∙ get_or-set_same zs i (max (get_or zs i 0) least) 0 within in
    let other : (k : ℕ) → k ≢ i → get_or new k 0 ≡ get_or zs k 0 = λ k ne. ap (λ l. get_or l k 0) put ∙ get_or-set_other zs i k (max (get_or zs i 0) least) 0 ne in
    record {
      len = ap length put ∙ length-set zs i (max (get_or zs i 0) least) ∙ before.len;
      done = λ k low. elim (cases_eq k i) as (λ _. get_or new k 0 ≡ max (get_or xs k 0) (g k)) [
        | inl e ↦ subst (λ m. get_or new m 0 ≡ max (get_or xs m 0) (g m)) (sym e) (omega (arith, at_i, was, least_is))
        | inr ne ↦ other k ne ∙ before.done k (omega (arith, low, ne))
      ];
      rest = λ k late. other k (λ e. omega (arith, late, e)) ∙ before.rest k (omega (arith, late));
      same = λ off k. elim (cases_eq k i) as (λ _. get_or new k 0 ≡ get_or xs k 0) [
        | inl e ↦ (let few = tells.0 (or_parts changed raised off).1 in subst (λ m. get_or new m 0 ≡ get_or xs m 0) (sym e) (omega (arith, at_i, was, few)))
        | inr ne ↦ other k ne ∙ before.same (or_parts changed raised off).0 k
      ];
      moved = λ on. moves changed raised before tells was at_i other on;
    }
  where
    moves : (changed raised : Bool) → RaisedTo xs g zs changed i → ((raised ≡ false) ↔ (least ≤ get_or zs i 0)) → get_or zs i 0 ≡ get_or xs i 0 → get_or new i 0 ≡ max (get_or zs i 0) least → ((k : ℕ) → k ≢ i → get_or new k 0 ≡ get_or zs k 0)
        → (changed || raised) ≡ true → (k : ℕ) × (get_or new k 0 ≢ get_or xs k 0)
    moves true raised before tells was at_i other on =
        let place = before.moved refl in
        elim (cases_eq place.0 i) as (λ _. (k : ℕ) × (get_or new k 0 ≢ get_or xs k 0)) [
          | inl e ↦ absurd (place.1 (before.rest place.0 (omega (arith, e))))
          | inr ne ↦ (place.0, λ same. place.1 (sym (other place.0 ne) ∙ same))
        ]
    moves false true before tells was at_i other on =
        (i, λ same. (let few : least ≤ get_or zs i 0 = omega (arith, same, was, at_i) in let off : true ≡ false = tells.1 few in cc))
    moves false false before tells was at_i other on = absurd (cc)

-- where all are raised
pub raised_joined : (xs ys zs : List ℕ) (g : ℕ → ℕ) (changed : Bool) (i : ℕ) → RaisedTo xs g zs changed i → length xs ≤ i → length ys ≡ length xs → ((k : ℕ) → k < length xs → g k ≡ get_or ys k 0) → zs ≡ joined_bits xs ys
raised_joined xs ys zs g changed i is end e each =
    ext_get_or 0 zs (joined_bits xs ys) (is.len ∙ sym (joined_long xs ys e))
    (λ k h. let k_in : k < length xs = omega (arith, h, is.len) in
    is.done k (omega (arith, k_in, end)) ∙ ap (max (get_or xs k 0)) (each k k_in) ∙ sym (joined_at xs ys k e))

-- and whether one changed
pub raised_tells : (xs zs : List ℕ) (g : ℕ → ℕ) (changed : Bool) (i : ℕ) → RaisedTo xs g zs changed i → (changed ≡ false) ↔ (zs ≡ xs)
raised_tells xs zs g changed i is = (
  λ off. ext_get_or 0 zs xs is.len (λ k h. is.same off k),
  λ same. elim (cases_Bool changed) as (λ _. changed ≡ false) [
    | inl on ↦ (let place = is.moved on in absurd (place.1 (ap (λ l. get_or l place.0 0) same)))
    | inr off ↦ off
  ],
)

-- what is written through a slice of a whole Vec
pub written_back : {A : Type 0} (n : ℕ) (new old : List A) → length new ≡ length old → length old ≡ n → take n (new ++ drop (length new) old) ≡ new
written_back {A} n new old e is =
    ap (λ (l : List A). take n (new ++ l)) (drop_all (length new) old (omega (arith, e))) ∙ ap (take n) (append-nil new) ∙ take_all n new (omega (arith, e, is))
