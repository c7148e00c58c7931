-- What is known of a variable after one is set. For proofs only; laws of rules in the crates above cite it.
use Rattle.std.proofs.Common.{◌≡◌, ℕ, zero, suc, false, nat_eq, List, [], ◌∷◌, length, slice_set, arith}
use Rattle.std.proofs.lemmas.Bool.{eqb-false}
use Rattle.std.proofs.lemmas.List.{get_or-set_other}
use Rattle.cond_flow.specs.Rules.{Rules, known_at}

module _ {K : Type 0} (rules : Rules K) where
  -- where it is set in two lists, they agree where they did
  pub set_alike : (xs ys : List K) (x : ℕ) (v w : K) (k : ℕ) → length xs ≡ length ys → v ≡ w
      → known_at rules xs k ≡ known_at rules ys k
      → known_at rules (slice_set xs x v) k ≡ known_at rules (slice_set ys x w) k
  set_alike [] [] x v w k long same h = h
  set_alike [] (b ∷ ys) x v w k long same h = absurd (omega (arith, long))
  set_alike (a ∷ xs) [] x v w k long same h = absurd (omega (arith, long))
  set_alike (a ∷ xs) (b ∷ ys) zero v w zero long same h = same
  set_alike (a ∷ xs) (b ∷ ys) zero v w (suc k) long same h = h
  set_alike (a ∷ xs) (b ∷ ys) (suc x) v w zero long same h = h
  set_alike (a ∷ xs) (b ∷ ys) (suc x) v w (suc k) long same h =
      set_alike xs ys x v w k (let long' : suc (length xs) ≡ suc (length ys) = long in omega arith) same h

  -- and another variable stays as it was
  pub set_apart : (xs : List K) (x : ℕ) (v : K) (k : ℕ) → nat_eq k x ≡ false
      → known_at rules (slice_set xs x v) k ≡ known_at rules xs k
  set_apart xs x v k apart = get_or-set_other xs x k v rules.top (eqb-false k x apart)
