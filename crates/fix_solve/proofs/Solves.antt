-- The values stay above the first ones and arise, and a push leaves nothing to do along its edge.
use Rattle.std.proofs.Common.{◌≡◌, ◌≢◌, ℕ, ◌+◌, ◌<◌, ◌≤◌, Bool, true, false, sym, inl, inr, arith, ◌∙◌}
use Rattle.std.proofs.lemmas.Bool.{cases_eq}
use Rattle.fix_solve.specs.Order.{OrderLaws, IsLeastUpper}
use Rattle.fix_solve.specs.Arising.{arising_below}
use Rattle.fix_solve.specs.Net.{Net, NetLaws, IsLeastSolution, Arises, at_first, by_edge}
use Rattle.fix_solve.specs.Solving.{Solving, AllDone}

module _ {V : Type 0} (below : V → V → Type 0) (size : V → ℕ) (rank : V → ℕ) (order : OrderLaws below size rank) (net : Net V) (laws : NetLaws below size rank net) where
  -- what lies above a first value has the flow's size
  pub size_above : (n : ℕ) (x : V) → n < net.nodes → below (net.first n) x → size x ≡ net.size
  size_above n x h b = sym (order.same_size (net.first n) x b) ∙ laws.first_size n h

  -- a push grows each value
  push_grows : (at : ℕ) (v v' : ℕ → V) (z : V) → IsLeastUpper below (v (net.target at)) z (v' (net.target at)) → ((n : ℕ) → n ≢ net.target at → v' n ≡ v n) → (n : ℕ) → below (v n) (v' n)
  push_grows at v v' z joined others n =
      elim (cases_eq n (net.target at)) as (λ _. below (v n) (v' n)) [
        | inl e ↦ rw e joined.left
        | inr d ↦ rw (others n d) (order.reflexive (v n))
      ]

  pub push_solves : (node at : ℕ) (v v' : ℕ → V) (fl fl' : ℕ → Bool)
      → at < net.edges → net.source at ≡ node
      → IsLeastUpper below (v (net.target at)) (net.transfer at (v node)) (v' (net.target at))
      → ((n : ℕ) → n ≢ net.target at → v' n ≡ v n)
      → ((n : ℕ) → fl' n ≡ false → (fl n ≡ false) × (v' n ≡ v n))
      → Solving below net v fl (λ e. net.source e ≡ node → e < at)
      → Solving below net v' fl' (λ e. net.source e ≡ node → e < at + 1)
  push_solves node at v v' fl fl' in_range of_node joined others kept s =
      let grows : (n : ℕ) → below (v n) (v' n) = push_grows at v v' (net.transfer at (v node)) joined others in
      let node_in : node < net.nodes = rw of_node at (laws.sources at in_range) in
      record {
        above_first = λ n h. order.transitive (net.first n) (v n) (v' n) (s.above_first n h) (grows n);
        arises = λ n h.
            elim (cases_eq n (net.target at)) as (λ _. Arises below net n (v' n)) [
              | inl e ↦ rw e (by_edge at (v node) (v (net.target at)) (v' (net.target at)) in_range (rw of_node (s.arises node node_in)) (s.arises (net.target at) (laws.targets at in_range)) joined)
              | inr d ↦ rw (others n d) (s.arises n h)
            ];
        above_done = λ e h idle done.
            let k : (fl (net.source e) ≡ false) × (v' (net.source e) ≡ v (net.source e)) = kept (net.source e) idle in
            rw (k.1) (elim (cases_eq e at) as (λ _. below (net.transfer e (v (net.source e))) (v' (net.target e))) [
              | inl same ↦ rw (same, of_node) joined.right
              | inr other ↦ order.transitive _ _ _ (s.above_done e h k.0 (λ of. let early : e < at + 1 = done of in omega arith)) (grows (net.target e))
            ]);
      }

  -- a node that no longer waits has its edges to do
  pub visit_begins : (node : ℕ) (v : ℕ → V) (fl fl' : ℕ → Bool) → ((n : ℕ) → n ≢ node → fl' n ≡ fl n)
      → Solving below net v fl AllDone → Solving below net v fl' (λ e. net.source e ≡ node → e < net.start node)
  visit_begins node v fl fl' others s = record {
    above_first = s.above_first;
    arises = s.arises;
    above_done = λ e h idle done.
        let d : net.source e ≢ node = λ same. let early : e < net.start node = done same in let late : net.start node ≤ e = rw same at (laws.from_start e h) in omega arith in
        s.above_done e h (sym (others (net.source e) d) ∙ idle) tt;
  }

  -- all edges of the node are done
  pub visit_ends : (node at : ℕ) (v : ℕ → V) (fl : ℕ → Bool) → net.stop node ≤ at
      → Solving below net v fl (λ e. net.source e ≡ node → e < at) → Solving below net v fl AllDone
  visit_ends node at v fl late s = record {
    above_first = s.above_first;
    arises = s.arises;
    above_done = λ e h idle _. s.above_done e h idle (λ same. let early : e < net.stop node = rw same at (laws.to_stop e h) in omega arith);
  }

  -- the first values, and each node waits
  pub start_solves : (v : ℕ → V) (fl : ℕ → Bool) → ((n : ℕ) → n < net.nodes → v n ≡ net.first n) → ((n : ℕ) → n < net.nodes → fl n ≡ true)
      → Solving below net v fl AllDone
  start_solves v fl firsts waiting = record {
    above_first = λ n h. rw (firsts n h) (order.reflexive (net.first n));
    arises = λ n h. rw (firsts n h) (at_first n);
    above_done = λ e h idle _. let on : fl (net.source e) ≡ true = waiting (net.source e) (laws.sources e h) in let bad : true ≡ false = sym on ∙ idle in absurd (cc);
  }

  -- where no node waits, the values are the least solution
  pub end_solves : (v : ℕ → V) (fl : ℕ → Bool) → ((n : ℕ) → n < net.nodes → fl n ≡ false)
      → Solving below net v fl AllDone → IsLeastSolution below net v
  end_solves v fl idle s = record {
    solves = record { above_first = s.above_first; above_edges = λ e h. s.above_done e h (idle (net.source e) (laws.sources e h)) tt };
    least = λ others solves n h. (arising_below below net size rank order laws others solves n (v n) (s.arises n h) h).1;
    arises = s.arises;
  }
