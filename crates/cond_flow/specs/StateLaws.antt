-- The states are a lattice. Cited by the ghost members of `BlockState`.
use Rattle.std.proofs.Common.{◌≡◌, ◌≢◌, ℕ, suc, ◌+◌, ◌*◌, ◌<◌, ◌≤◌, inl, inr, List, [], ◌∷◌, length, refl, sym, ap, ◌∙◌, arith}
use Rattle.fix_solve.specs.Order.{OrderLaws, IsLeastUpper}
use Rattle.fix_solve.specs.Pointwise.{Pointwise, total_rank, pointwise_antisym, pointwise_length, pointwise_refl, pointwise_rises, pointwise_trans}
use Rattle.cond_flow.specs.Rules.{Rules, OrderRules}
use Rattle.cond_flow.specs.States.{NodeState, Unreached, Knows, size_of, BelowState, state_rank, joined_each, joined}

module _ {K : Type 0} {below : K → K → Type 0} {rules : Rules K} (laws : OrderRules below rules) where
  -- the order of states is reflexive
  pub below_refl : (s : NodeState K) → BelowState below s s
  below_refl (Unreached n) = refl
  below_refl (Knows xs) = pointwise_refl below laws.reflexive xs

  -- and it is transitive
  pub below_trans : (s t u : NodeState K) → BelowState below s t → BelowState below t u → BelowState below s u
  below_trans (Unreached n) (Unreached m) (Unreached k) p q = p ∙ q
  below_trans (Unreached n) (Unreached m) (Knows zs) p q = p ∙ q
  below_trans (Unreached n) (Knows ys) (Unreached k) p q = absurd q
  below_trans (Unreached n) (Knows ys) (Knows zs) p q = p ∙ pointwise_length below ys zs q
  below_trans (Knows xs) (Unreached m) u p q = absurd p
  below_trans (Knows xs) (Knows ys) (Unreached k) p q = absurd q
  below_trans (Knows xs) (Knows ys) (Knows zs) p q = pointwise_trans below laws.transitive xs ys zs p q

  -- and antisymmetric
  pub below_antisym : (s t : NodeState K) → BelowState below s t → BelowState below t s → s ≡ t
  below_antisym (Unreached n) (Unreached m) p q = ap Unreached p
  below_antisym (Unreached n) (Knows ys) p q = absurd q
  below_antisym (Knows xs) (Unreached m) p q = absurd p
  below_antisym (Knows xs) (Knows ys) p q = ap Knows (pointwise_antisym below laws.antisymmetric xs ys p q)

  -- comparable states speak of equally many variables
  pub below_size : (s t : NodeState K) → BelowState below s t → size_of s ≡ size_of t
  below_size (Unreached n) (Unreached m) p = p
  below_size (Unreached n) (Knows ys) p = p
  below_size (Knows xs) (Unreached m) p = absurd p
  below_size (Knows xs) (Knows ys) p = pointwise_length below xs ys p

  -- a state that is below another and not equal to it has a lower rank
  rank_rises : (s t : NodeState K) → BelowState below s t → s ≢ t → state_rank rules.rank s < state_rank rules.rank t
  rank_rises (Unreached n) (Unreached m) p d = absurd (d (ap Unreached p))
  rank_rises (Unreached n) (Knows ys) p d = omega arith
  rank_rises (Knows xs) (Unreached m) p d = absurd p
  rank_rises (Knows xs) (Knows ys) p d =
      elim (pointwise_rises below rules.rank laws.rises xs ys p) as
      (λ _. suc (total_rank rules.rank xs) < suc (total_rank rules.rank ys)) [
        | inl e ↦ absurd (d (ap Knows e))
        | inr l ↦ omega (arith, l)
      ]

  -- so the states are ordered as a solver needs it
  pub state_laws : OrderLaws (BelowState below) size_of (state_rank rules.rank)
  state_laws = record {
    reflexive = below_refl;
    transitive = below_trans;
    antisymmetric = below_antisym;
    same_size = below_size;
    rises = rank_rises;
  }

  -- the ranks of a list are at most the height for each item
  ranks_few : (ks : List K) → total_rank rules.rank ks ≤ rules.height * length ks
  ranks_few [] = omega arith
  ranks_few (k ∷ ks) =
      let more : rules.height * suc (length ks) ≡ rules.height + rules.height * length ks = omega arith in
      omega (arith, more, laws.ranks k, ranks_few ks)

  -- and that of a state at most one more
  pub rank_bound : (s : NodeState K) → state_rank rules.rank s ≤ rules.height * size_of s + 1
  rank_bound (Unreached n) = omega arith
  rank_bound (Knows ks) = omega (arith, ranks_few ks)

  -- ---- the join

  -- the join variable by variable is the least upper bound
  each_joins : (xs ys : List K) → length xs ≡ length ys
      → IsLeastUpper (Pointwise below) xs ys (joined_each rules.joined xs ys)
  each_joins [] [] e = record { left = tt; right = tt; least = λ w p q. p }
  each_joins [] (y ∷ ys) e = absurd (omega (arith, e))
  each_joins (x ∷ xs) [] e = absurd (omega (arith, e))
  each_joins (x ∷ xs) (y ∷ ys) e =
      let rest = each_joins xs ys (let e' : suc (length xs) ≡ suc (length ys) = e in omega arith) in
      let head = laws.joins x y in
      record { left = (head.left, rest.left); right = (head.right, rest.right); least = least head rest }
    where
      least : IsLeastUpper below x y (rules.joined x y)
          → IsLeastUpper (Pointwise below) xs ys (joined_each rules.joined xs ys)
          → (w : List K) → Pointwise below (x ∷ xs) w → Pointwise below (y ∷ ys) w
          → Pointwise below (joined_each rules.joined (x ∷ xs) (y ∷ ys)) w
      least head rest [] p q = absurd p
      least head rest (w ∷ ws) p q = (head.least w p.0 q.0, rest.least ws p.1 q.1)

  -- and so is that of states
  pub state_joins : (s t : NodeState K) → size_of s ≡ size_of t
      → IsLeastUpper (BelowState below) s t (joined rules.joined s t)
  state_joins (Unreached n) (Unreached m) e = record { left = e; right = refl; least = λ w p q. q }
  state_joins (Unreached n) (Knows ys) e = record { left = e; right = pointwise_refl below laws.reflexive ys; least = λ w p q. q }
  state_joins (Knows xs) (Unreached m) e = record { left = pointwise_refl below laws.reflexive xs; right = sym e; least = λ w p q. p }
  state_joins (Knows xs) (Knows ys) e =
      let each = each_joins xs ys e in
      record { left = each.left; right = each.right; least = least each }
    where
      least : IsLeastUpper (Pointwise below) xs ys (joined_each rules.joined xs ys) → (w : NodeState K)
          → BelowState below (Knows xs) w → BelowState below (Knows ys) w
          → BelowState below (Knows (joined_each rules.joined xs ys)) w
      least each (Unreached m) p q = absurd p
      least each (Knows ws) p q = each.least ws p q

  -- a node that is not reached is below every state of its size
  pub unreached_below : (n : ℕ) (s : NodeState K) → n ≡ size_of s → BelowState below (Unreached n) s
  unreached_below n (Unreached m) e = e
  unreached_below n (Knows ks) e = e
