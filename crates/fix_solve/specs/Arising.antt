-- The induction over a least solution, for every lattice: what holds of the first values and goes over the edges holds
-- of what arises. For proofs only; path_laws cites it.
use Rattle.std.proofs.Common.{◌≡◌, ℕ, ◌<◌, sym, ◌∙◌}
use Rattle.fix_solve.specs.Order.{OrderLaws, IsLeastUpper}
use Rattle.fix_solve.specs.Net.{Net, NetLaws, Solves, Arises, at_first, by_edge}

module _ {V : Type 0} (below : V → V → Type 0) (net : Net V) where
  -- the induction
  pub arising_hold : (P : ℕ → V → Type 0) → ((n : ℕ) → P n (net.first n))
      → ((e : ℕ) (from old new : V) → e < net.edges → P (net.source e) from → P (net.target e) old → IsLeastUpper below old (net.transfer e from) new → P (net.target e) new)
      → (n : ℕ) (x : V) → Arises below net n x → P n x
  arising_hold P first goes_on n x (at_first k) = first n
  arising_hold P first goes_on n x (by_edge e from old new within before here joined) =
      goes_on e from old new within (arising_hold P first goes_on (net.source e) from before) (arising_hold P first goes_on (net.target e) old here) joined

  -- so what arises has the flow's size, and lies below every solution
  pub arising_below : (size : V → ℕ) (rank : V → ℕ) → OrderLaws below size rank → NetLaws below size rank net → (others : ℕ → V) → Solves below net others
      → (n : ℕ) (x : V) → Arises below net n x → n < net.nodes → (size x ≡ net.size) × below x (others n)
  arising_below size rank order laws others solves =
      arising_hold (λ n x. n < net.nodes → (size x ≡ net.size) × below x (others n)) (λ n h. (laws.first_size n h, solves.above_first n h))
      (λ e from old new within before here joined h.
      let source = before (laws.sources e within) in
      let target = here h in
      let passed = order.transitive _ _ _ (laws.monotone e from (others (net.source e)) within source.0 source.1) (solves.above_edges e within) in
      (sym (order.same_size old new joined.left) ∙ target.0, joined.least (others (net.target e)) target.1 passed))
