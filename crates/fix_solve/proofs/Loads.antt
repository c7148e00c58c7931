-- How many visits and pushes may still come: laws of sums; no more edges leave all nodes than there are; so the pushes
-- are bounded at the start, a push adds none, and a node that is taken leaves one visit less.
use Rattle.std.proofs.Common.{◌≡◌, ◌≢◌, ℕ, zero, suc, ◌+◌, ◌-◌, ◌*◌, ◌<◌, ◌≤◌, ◌↔◌, Bool, true, false, ◌||◌, cond, eqb, eq-eqb, ne_eqb, add-suc, add-zero, refl, sym, ap, inl, inr, arith}
use Rattle.std.proofs.Math.Nat.{mul-le-mul_left, mul-le-mul_right}
use Rattle.std.proofs.lemmas.Bool.{cases_eq, cases_lt}
use Rattle.fix_solve.specs.Order.{OrderLaws}
use Rattle.fix_solve.specs.Net.{Net, NetLaws}
use Rattle.fix_solve.specs.Solving.{sum_below, visits_left, load, degree}

-- ---- sums

-- no term is greater
pub sum_below_le : (f g : ℕ → ℕ) (n : ℕ) → ((i : ℕ) → i < n → f i ≤ g i) → sum_below f n ≤ sum_below g n
unfolding sum_below
sum_below_le f g zero h = omega arith
sum_below_le f g (suc n) h = let a : sum_below f n ≤ sum_below g n = sum_below_le f g n (λ i l. h i (omega arith)) in let b : f n ≤ g n = h n (omega arith) in omega arith

-- one term falls by d, and none rises
pub sum_below_falls : (f g : ℕ → ℕ) (n k d : ℕ) → k < n → ((i : ℕ) → i < n → f i ≤ g i) → f k + d ≤ g k → sum_below f n + d ≤ sum_below g n
unfolding sum_below
sum_below_falls f g zero k d l h e = absurd (omega arith)
sum_below_falls f g (suc n) k d l h e =
    let a : sum_below f n ≤ sum_below g n = sum_below_le f g n (λ i m. h i (omega arith)) in
    let b : f n ≤ g n = h n (omega arith) in
    elim (cases_eq k n) as (λ _. (sum_below f n + f n) + d ≤ sum_below g n + g n) [
      | inl same ↦ let e' : f n + d ≤ g n = rw same at e in omega arith
      | inr other ↦ let r : sum_below f n + d ≤ sum_below g n = sum_below_falls f g n k d (omega arith) (λ i m. h i (omega arith)) e in omega arith
    ]

-- equal terms have equal sums
sum_below_same : (f g : ℕ → ℕ) (n : ℕ) → ((i : ℕ) → i < n → g i ≡ f i) → sum_below g n ≡ sum_below f n
unfolding sum_below
sum_below_same f g zero h = refl
sum_below_same f g (suc n) h = let a : sum_below g n ≡ sum_below f n = sum_below_same f g n (λ i l. h i (omega arith)) in let b : g n ≡ f n = h n (omega arith) in omega arith

-- one term rises by one, and the others stay
pub sum_below_rises : (f g : ℕ → ℕ) (n k : ℕ) → k < n → ((i : ℕ) → i < n → i ≢ k → g i ≡ f i) → g k ≡ f k + 1 → sum_below g n ≡ sum_below f n + 1
unfolding sum_below
sum_below_rises f g zero k l h e = absurd (omega arith)
sum_below_rises f g (suc n) k l h e =
    elim (cases_eq k n) as (λ _. sum_below g n + g n ≡ (sum_below f n + f n) + 1) [
      | inl same ↦ let e' : g n ≡ f n + 1 = rw same at e in let r : sum_below g n ≡ sum_below f n = sum_below_same f g n (λ i m. h i (omega arith) (λ s. let s' : i ≡ k = s in omega arith)) in omega arith
      | inr other ↦ let r : sum_below g n ≡ sum_below f n + 1 = sum_below_rises f g n k (omega arith) (λ i m d. h i (omega arith) d) e in let q : g n ≡ f n = h n (omega arith) (λ s. other (sym s)) in omega arith
    ]

-- all terms are zero
pub sum_below_zero : (n : ℕ) → sum_below (λ _. 0) n ≡ 0
unfolding sum_below
sum_below_zero zero = refl
sum_below_zero (suc n) = let a : sum_below (λ _. 0) n ≡ 0 = sum_below_zero n in omega arith

-- a common factor
pub sum_below_times : (f : ℕ → ℕ) (c n : ℕ) → sum_below (λ i. f i * c) n ≡ sum_below f n * c
unfolding sum_below
sum_below_times f c zero = omega arith
sum_below_times f c (suc n) = let a : sum_below (λ i. f i * c) n ≡ sum_below f n * c = sum_below_times f c n in omega arith

-- ---- edges by the node that they leave

-- how many of the first edges leave a node
leaving : (ℕ → ℕ) → ℕ → ℕ → ℕ
leaving source n count = sum_below (λ e. cond (eqb (source e) n) 1 0) count

-- one more edge counts where it leaves this node
leaving_more : (source : ℕ → ℕ) (n count : ℕ) → leaving source n (suc count) ≡ leaving source n count + cond (eqb (source count) n) 1 0
unfolding leaving sum_below
leaving_more source n count = refl

-- among no edges none leaves the node
leaving_none : (source : ℕ → ℕ) (n : ℕ) → leaving source n 0 ≡ 0
unfolding leaving sum_below
leaving_none source n = refl

-- more edges never lower the count
leaving_up : (source : ℕ → ℕ) (n count more : ℕ) → leaving source n count ≤ leaving source n (count + more)
leaving_up source n count zero = rw add-zero (omega arith)
leaving_up source n count (suc more) = rw (add-suc, leaving_more) (let a : leaving source n count ≤ leaving source n (count + more) = leaving_up source n count more in omega arith)

-- each edge leaves just one node, so the counts of all nodes add up to the number of edges
leaving_total : (source : ℕ → ℕ) (nodes count : ℕ) → ((e : ℕ) → e < count → source e < nodes) → sum_below (λ n. leaving source n count) nodes ≡ count
leaving_total source nodes zero h = simp leaving_none (sum_below_zero nodes)
leaving_total source nodes (suc count) h =
    let a : sum_below (λ n. leaving source n count) nodes ≡ count = leaving_total source nodes count (λ e l. h e (omega arith)) in
    let b : sum_below (λ n. leaving source n (suc count)) nodes ≡ sum_below (λ n. leaving source n count) nodes + 1 =
    sum_below_rises (λ n. leaving source n count) (λ n. leaving source n (suc count)) nodes (source count) (h count (omega arith))
    (λ i l d. rw (leaving_more, ne_eqb (source count) i (λ s. d (sym s))) (omega arith)) (rw (leaving_more, eq-eqb (source count) (source count) refl) refl) in
    omega arith

module _ {V : Type 0} (below : V → V → Type 0) (size : V → ℕ) (rank : V → ℕ) (order : OrderLaws below size rank) (net : Net V) (laws : NetLaws below size rank net) where
  leaving_of : (n more : ℕ) → n < net.nodes → net.start n + more ≤ net.stop n → more ≤ leaving net.source n (net.start n + more)
  leaving_of n zero h fits = omega arith
  leaving_of n (suc more) h fits =
      rw add-suc (rw (leaving_more, eq-eqb (net.source (net.start n + more)) n (laws.within n (net.start n + more) h (omega arith) (let f : net.start n + suc more ≤ net.stop n = fits in omega (arith, add-suc (net.start n) more))))
      (let a : more ≤ leaving net.source n (net.start n + more) = leaving_of n more h (let f : net.start n + suc more ≤ net.stop n = fits in omega (arith, add-suc (net.start n) more)) in omega arith))

  degree_le_leaving : (n : ℕ) → n < net.nodes → degree net n ≤ leaving net.source n net.edges
  degree_le_leaving n h =
      elim (cases_lt (net.start n) (net.stop n)) as (λ _. net.stop n - net.start n ≤ leaving net.source n net.edges) [
        | inl lt ↦
            let stops : net.stop n ≤ net.edges = laws.stops n h in
            let e : net.start n + (net.stop n - net.start n) ≡ net.stop n = omega arith in
            let a : net.stop n - net.start n ≤ leaving net.source n (net.start n + (net.stop n - net.start n)) = leaving_of n (net.stop n - net.start n) h (omega arith) in
            let b : leaving net.source n (net.stop n) ≤ leaving net.source n (net.stop n + (net.edges - net.stop n)) = leaving_up net.source n (net.stop n) (net.edges - net.stop n) in
            let e' : net.stop n + (net.edges - net.stop n) ≡ net.edges = omega arith in
            let a' : net.stop n - net.start n ≤ leaving net.source n (net.stop n) = rw e at a in
            let b' : leaving net.source n (net.stop n) ≤ leaving net.source n net.edges = rw e' at b in
            omega arith
        | inr ge ↦ omega arith
      ]

  -- all edges together leave some node
  degrees_total : sum_below (degree net) net.nodes ≤ net.edges
  degrees_total =
      let a : sum_below (degree net) net.nodes ≤ sum_below (λ n. leaving net.source n net.edges) net.nodes = sum_below_le (degree net) (λ n. leaving net.source n net.edges) net.nodes degree_le_leaving in
      let b : sum_below (λ n. leaving net.source n net.edges) net.nodes ≡ net.edges = leaving_total net.source net.nodes net.edges laws.sources in
      omega arith

  visits_le : (flag : Bool) (r : ℕ) → visits_left net.height flag r ≤ net.height + 1
  visits_le true r = omega arith
  visits_le false r = omega arith

  -- no more pushes than edges, for each rank of a node and one more
  pub pushes_left_le : (v : ℕ → V) (fl : ℕ → Bool) → load net rank (degree net) v fl ≤ net.edges * (net.height + 1)
  pushes_left_le v fl =
      let a : sum_below (λ n. degree net n * visits_left net.height (fl n) (rank (v n))) net.nodes ≤ sum_below (λ n. degree net n * (net.height + 1)) net.nodes =
      sum_below_le (λ n. degree net n * visits_left net.height (fl n) (rank (v n))) (λ n. degree net n * (net.height + 1)) net.nodes (λ i l. mul-le-mul_left (degree net i) (visits_le (fl i) (rank (v i)))) in
      let b : sum_below (λ n. degree net n * (net.height + 1)) net.nodes ≡ sum_below (degree net) net.nodes * (net.height + 1) = sum_below_times (degree net) (net.height + 1) net.nodes in
      let c : sum_below (degree net) net.nodes * (net.height + 1) ≤ net.edges * (net.height + 1) = mul-le-mul_right (net.height + 1) degrees_total in
      omega arith

  visits_push : (flag b : Bool) (r r' : ℕ) → (b ≡ false → r' ≡ r) → (b ≡ true → (r < r') × (r' ≤ net.height)) → visits_left net.height (flag || b) r' ≤ visits_left net.height flag r
  visits_push true true r r' same rises = let p : (r < r') × (r' ≤ net.height) = rises refl in let q : r < r' = p.0 in omega arith
  visits_push true false r r' same rises = let e : r' ≡ r = same refl in omega arith
  visits_push false true r r' same rises = let p : (r < r') × (r' ≤ net.height) = rises refl in let q : r < r' = p.0 in let q' : r' ≤ net.height = p.1 in omega arith
  visits_push false false r r' same rises = let e : r' ≡ r = same refl in omega arith

  -- a push leaves no more to do than there was
  pub load_push : (weight : ℕ → ℕ) (v v' : ℕ → V) (fl fl' : ℕ → Bool) (t : ℕ) (b : Bool)
      → t < net.nodes → ((n : ℕ) → n ≢ t → v' n ≡ v n) → ((n : ℕ) → n ≢ t → fl' n ≡ fl n) → fl' t ≡ (fl t || b)
      → below (v t) (v' t) → ((b ≡ false) ↔ (v' t ≡ v t)) → size (v' t) ≡ net.size
      → load net rank weight v' fl' ≤ load net rank weight v fl
  load_push weight v v' fl fl' t b in_range others_v others_fl here grows unchanged sized =
      sum_below_le (λ n. weight n * visits_left net.height (fl' n) (rank (v' n))) (λ n. weight n * visits_left net.height (fl n) (rank (v n))) net.nodes (λ n h.
      mul-le-mul_left (weight n) (elim (cases_eq n t) as (λ _. visits_left net.height (fl' n) (rank (v' n)) ≤ visits_left net.height (fl n) (rank (v n))) [
        | inl e ↦ rw (e, here) (visits_push (fl t) b (rank (v t)) (rank (v' t)) (λ off. ap rank (unchanged.0 off))
            (λ on. (order.rises (v t) (v' t) grows (λ same. let off : b ≡ false = unchanged.1 (sym same) in absurd (cc)), laws.ranks (v' t) sized)))
        | inr d ↦ rw (others_v n d, others_fl n d) (omega arith)
      ]))

  -- a node that no longer waits leaves one visit of its node less
  pub load_take : (weight : ℕ → ℕ) (v : ℕ → V) (fl fl' : ℕ → Bool) (k : ℕ)
      → k < net.nodes → ((n : ℕ) → n ≢ k → fl' n ≡ fl n) → fl k ≡ true → fl' k ≡ false
      → load net rank weight v fl' + weight k ≤ load net rank weight v fl
  load_take weight v fl fl' k in_range others on off =
      sum_below_falls (λ n. weight n * visits_left net.height (fl' n) (rank (v n))) (λ n. weight n * visits_left net.height (fl n) (rank (v n))) net.nodes k (weight k) in_range
      (λ n h. mul-le-mul_left (weight n) (elim (cases_eq n k) as (λ _. visits_left net.height (fl' n) (rank (v n)) ≤ visits_left net.height (fl n) (rank (v n))) [
        | inl e ↦ rw (e, on, off) (omega arith)
        | inr d ↦ rw (others n d) (omega arith)
      ]))
      (rw (on, off) (omega arith))
