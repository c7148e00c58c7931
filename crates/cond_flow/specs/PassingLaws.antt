-- What passes along an edge rises, keeps the number of variables, and nothing passes where there is no edge. For proofs
-- only.
use Rattle.std.proofs.Common.{◌≡◌, ℕ, zero, suc, ◌+◌, ◌-◌, Bool, true, false, if◌then◌else◌, nat_eq, List, [], ◌∷◌, length, replicate, slice_get, Option, Some, None, refl, sym, ap, ◌∙◌, subst, arith, length-set, slice_set}
use Rattle.std.proofs.lemmas.Bool.{ne_eqb}
use Rattle.std.proofs.lemmas.List.{length-replicate}
use Rattle.std.specs.List.{range_with_len}
use Rattle.fix_solve.specs.Pointwise.{Pointwise, pointwise_length}
use Rattle.mir_base.specs.Frames.{shared_vars}
use Rattle.flow_graph.specs.Graphs.{node_succs}
use Rattle.flow_graph.specs.declared.nodes.Node.{Node}
use Rattle.flow_graph.specs.declared.nodes.Node.TheVariants.{Start, Skip, Assign, Print, Guard, Call, Test, Return}
use Rattle.cond_flow.specs.Rules.{OutsideShape, Rules, OrderRules, RisingRules, known_at, within}
use Rattle.cond_flow.specs.States.{NodeState, Unreached, Knows, size_of, BelowState}
use Rattle.cond_flow.specs.StateLaws.{below_size, unreached_below}
use Rattle.cond_flow.specs.Passing.{all_set, first_known, start_known, after_call, back_at, known_after, passes_by, passes, passed_along}
use Rattle.cond_flow.specs.Blockwise.{AlongLaws}
use Rattle.cond_flow.specs.WithinLaws.{order_within, rising_within}

-- ---- the number of variables stays

module _ {K : Type 0} where
  -- where variables are set
  pub length_set : (of : ℕ → K) (i : ℕ) (vars : List ℕ) (ks : List K) → length (all_set of i vars ks) ≡ length ks
  length_set of i [] ks = refl
  length_set of i (x ∷ xs) ks = length_set of (suc i) xs (slice_set ks x (of i)) ∙ length-set ks x (of i)

  module _ (rules : Rules K) where
    -- before Start each variable has its entry
    pub length_first : (shared n : ℕ) → length (first_known rules shared n) ≡ n
    length_first shared n =
        length_set (known_at rules rules.outside.entry) 0 (shared_vars shared) (replicate n rules.zero)
        ∙ length-replicate n rules.zero

    -- after Start as many variables are known
    length_start : (shared : ℕ) (received : List ℕ) (ks : List K) → length (start_known rules shared received ks) ≡ length ks
    length_start shared received ks =
        length_set (λ i. known_at rules rules.outside.entry (shared + i)) 0 received _
        ∙ length_set (λ i. rules.zero) shared (range_with_len shared (length ks - shared)) ks

    -- and after a call as many as before
    length_after_call : (shared : ℕ) (into : Option ℕ) (unit : ℕ) (ks : List K)
        → length (after_call rules shared into unit ks) ≡ length ks
    length_after_call shared None unit ks = length_set (known_at rules (back_at rules unit)) 0 (shared_vars shared) ks
    length_after_call shared (Some x) unit ks =
        length-set (all_set (known_at rules (back_at rules unit)) 0 (shared_vars shared) ks) x (known_at rules (back_at rules unit) shared)
        ∙ length_set (known_at rules (back_at rules unit)) 0 (shared_vars shared) ks

module _ {K : Type 0} {below : K → K → Type 0} {rules : Rules K} (order : OrderRules below rules) (rising : RisingRules below rules) where
  -- variable by variable
  pub below_at : (xs ys : List K) (x : ℕ) → Pointwise below xs ys → below (known_at rules xs x) (known_at rules ys x)
  below_at [] [] x p = order.reflexive rules.top
  below_at [] (y ∷ ys) x p = absurd p
  below_at (k ∷ xs) [] x p = absurd p
  below_at (k ∷ xs) (y ∷ ys) zero p = p.0
  below_at (k ∷ xs) (y ∷ ys) (suc x) p = below_at xs ys x p.1

  -- and after one of them is set
  pub below_set : (xs ys : List K) (x : ℕ) (k k' : K) → Pointwise below xs ys → below k k'
      → Pointwise below (slice_set xs x k) (slice_set ys x k')
  below_set [] [] x k k' p q = tt
  below_set [] (y ∷ ys) x k k' p q = absurd p
  below_set (z ∷ xs) [] x k k' p q = absurd p
  below_set (z ∷ xs) (y ∷ ys) zero k k' p q = (q, p.1)
  below_set (z ∷ xs) (y ∷ ys) (suc x) k k' p q = (p.0, below_set xs ys x k k' p.1 q)

  -- and after several are
  pub set_rises : (of of' : ℕ → K) → ((i : ℕ) → below (of i) (of' i)) → (i : ℕ) (vars : List ℕ) (xs ys : List K)
      → Pointwise below xs ys → Pointwise below (all_set of i vars xs) (all_set of' i vars ys)
  set_rises of of' surer i [] xs ys p = p
  set_rises of of' surer i (x ∷ vars) xs ys p =
      set_rises of of' surer (suc i) vars (slice_set xs x (of i)) (slice_set ys x (of' i)) (below_set xs ys x (of i) (of' i) p (surer i))

  -- after the globals are
  back_rises : (shared unit : ℕ) (xs ys : List K) → Pointwise below xs ys
      → Pointwise below (all_set (known_at rules (back_at rules unit)) 0 (shared_vars shared) xs)
      (all_set (known_at rules (back_at rules unit)) 0 (shared_vars shared) ys)
  back_rises shared unit xs ys p =
      set_rises (known_at rules (back_at rules unit)) (known_at rules (back_at rules unit)) (λ i. order.reflexive _) 0 (shared_vars shared) xs ys p

  -- after a call
  called_rises : (shared : ℕ) (into : Option ℕ) (unit : ℕ) (xs ys : List K) → Pointwise below xs ys
      → Pointwise below (after_call rules shared into unit xs) (after_call rules shared into unit ys)
  called_rises shared None unit xs ys p = back_rises shared unit xs ys p
  called_rises shared (Some x) unit xs ys p =
      below_set _ _ x (known_at rules (back_at rules unit) shared) (known_at rules (back_at rules unit) shared)
      (back_rises shared unit xs ys p) (order.reflexive _)

  -- what is known after a node rises with what is known before it
  after_rises : (shared : ℕ) (received : List ℕ) (node : Node) (slot : ℕ) (xs ys : List K) → Pointwise below xs ys
      → Pointwise below (known_after rules shared received node slot xs) (known_after rules shared received node slot ys)
  after_rises shared received (Start next) slot xs ys p =
      let of : ℕ → K = λ i. known_at rules rules.outside.entry (shared + i) in
      let rest = set_rises (λ i. rules.zero) (λ i. rules.zero) (λ i. order.reflexive _) shared (range_with_len shared (length xs - shared)) xs ys p in
      set_rises of of (λ i. order.reflexive _) 0 received _ _
      (subst (λ n. Pointwise below (all_set (λ i. rules.zero) shared (range_with_len shared (length xs - shared)) xs) (all_set (λ i. rules.zero) shared (range_with_len shared (n - shared)) ys))
      (pointwise_length below xs ys p) rest)
  after_rises shared received (Skip next) slot xs ys p = p
  after_rises shared received (Assign x rhs next) slot xs ys p =
      below_set xs ys x (rules.of_rhs xs rhs) (rules.of_rhs ys rhs) p (rising.right_side rhs xs ys p)
  after_rises shared received (Print a next) slot xs ys p = p
  after_rises shared received (Guard test number next) slot xs ys p = p
  after_rises shared received (Call into unit operands next) slot xs ys p = called_rises shared into unit xs ys p
  after_rises shared received (Test test taken other) slot xs ys p = rising.along test (nat_eq slot 0) xs ys p
  after_rises shared received (Return a) slot xs ys p = p

  -- it speaks of equally many variables
  pub length_after : (shared : ℕ) (received : List ℕ) (node : Node) (slot : ℕ) (ks : List K)
      → length (known_after rules shared received node slot ks) ≡ length ks
  length_after shared received (Start next) slot ks = length_start rules shared received ks
  length_after shared received (Skip next) slot ks = refl
  length_after shared received (Assign x rhs next) slot ks = length-set ks x (rules.of_rhs ks rhs)
  length_after shared received (Print a next) slot ks = refl
  length_after shared received (Guard test number next) slot ks = refl
  length_after shared received (Call into unit operands next) slot ks = length_after_call rules shared into unit ks
  length_after shared received (Test test taken other) slot ks = rising.long test (nat_eq slot 0) ks
  length_after shared received (Return a) slot ks = refl

  -- what passes, where it is known whether it does
  along_by : ℕ → List ℕ → Node → ℕ → List K → Bool → NodeState K
  along_by shared received node slot ks b =
      (if b then Knows (known_after rules shared received node slot ks) else Unreached (length ks))

  -- it has the size of the state
  by_size : (shared : ℕ) (received : List ℕ) (node : Node) (slot : ℕ) (ks : List K) (b : Bool)
      → size_of (along_by shared received node slot ks b) ≡ length ks
  unfolding along_by
  by_size shared received node slot ks true = length_after shared received node slot ks
  by_size shared received node slot ks false = refl

  -- the number of variables stays
  pub along_size : (shared : ℕ) (received : List ℕ) (node : Node) (slot : ℕ) (s : NodeState K)
      → size_of (passed_along rules shared received node slot s) ≡ size_of s
  unfolding along_by
  along_size shared received node slot (Unreached n) = refl
  along_size shared received node slot (Knows ks) = by_size shared received node slot ks (passes rules node slot ks)

  -- along the edges of a test more passes
  by_rises : (slot : ℕ) (a b c d : Bool) → (a ≡ true → c ≡ true) → (b ≡ true → d ≡ true) → passes_by slot a b ≡ true
      → passes_by slot c d ≡ true
  by_rises slot a b c d p q h = cases (nat_eq slot 0) (nat_eq slot 1) h
    where
      cases : (t u : Bool) → (if t then a else if u then b else false) ≡ true
          → (if t then c else if u then d else false) ≡ true
      cases true u h = p h
      cases false true h = q h
      cases false false h = h

  -- what passes at the surer state passes at the other, at every node
  passes_rises : (node : Node) (slot : ℕ) (xs ys : List K) → Pointwise below xs ys → passes rules node slot xs ≡ true
      → passes rules node slot ys ≡ true
  passes_rises (Start next) slot xs ys p h = h
  passes_rises (Skip next) slot xs ys p h = h
  passes_rises (Assign x rhs next) slot xs ys p h = h
  passes_rises (Print a next) slot xs ys p h = h
  passes_rises (Guard test number next) slot xs ys p h = h
  passes_rises (Call into unit operands next) slot xs ys p h = h
  passes_rises (Test test taken other) slot xs ys p h =
      by_rises slot (rules.goes test true xs) (rules.goes test false xs) (rules.goes test true ys) (rules.goes test false ys)
      (rising.goes test true xs ys p) (rising.goes test false xs ys p) h
  passes_rises (Return a) slot xs ys p h = h

  -- the surer the state, the surer what passes
  pub along_rises : (shared : ℕ) (received : List ℕ) (node : Node) (slot : ℕ) (s t : NodeState K) → BelowState below s t
      → BelowState below (passed_along rules shared received node slot s) (passed_along rules shared received node slot t)
  unfolding along_by
  along_rises shared received node slot (Unreached n) t p =
      unreached_below order n (passed_along rules shared received node slot t)
      (below_size order (Unreached n) t p ∙ sym (along_size shared received node slot t))
  along_rises shared received node slot (Knows xs) (Unreached m) p = absurd p
  along_rises shared received node slot (Knows xs) (Knows ys) p = cases (passes rules node slot xs) refl
    where
      cases : (b : Bool) → passes rules node slot xs ≡ b
          → BelowState below (along_by shared received node slot xs b) (passed_along rules shared received node slot (Knows ys))
      cases true is =
          subst (λ b. BelowState below (Knows (known_after rules shared received node slot xs)) (along_by shared received node slot ys b))
          (sym (passes_rises node slot xs ys p is)) (after_rises shared received node slot xs ys p)
      cases false is =
          unreached_below order (length xs) (passed_along rules shared received node slot (Knows ys))
          (pointwise_length below xs ys p ∙ sym (along_size shared received node slot (Knows ys)))

  -- ---- nothing passes where there is no edge

  -- a slot past the only one, and past both of a Test
  past_one : (slot next : ℕ) → slice_get (next ∷ []) slot ≡ None → nat_eq slot 0 ≡ false
  past_one zero next e = cc
  past_one (suc slot) next e = ne_eqb (suc slot) 0 (λ same. omega (arith, same))

  -- nothing passes at a slot that a test has not got
  past_two : (slot taken other : ℕ) (a b : Bool) → slice_get (taken ∷ other ∷ []) slot ≡ None
      → passes_by slot a b ≡ false
  past_two zero taken other a b e = cc
  past_two (suc zero) taken other a b e = cc
  past_two (suc (suc slot)) taken other a b e =
      let apart : nat_eq (suc (suc slot)) 0 ≡ false = ne_eqb (suc (suc slot)) 0 (λ same. omega (arith, same)) in
      let apart' : nat_eq (suc (suc slot)) 1 ≡ false = ne_eqb (suc (suc slot)) 1 (λ same. omega (arith, same)) in
      ap (λ t. if t then a else if nat_eq (suc (suc slot)) 1 then b else false) apart ∙ ap (λ t. if t then b else false) apart'

  -- at every node
  no_edge_passes : (node : Node) (slot : ℕ) (ks : List K) → slice_get (node_succs node) slot ≡ None
      → passes rules node slot ks ≡ false
  no_edge_passes (Start next) slot ks e = past_one slot next e
  no_edge_passes (Skip next) slot ks e = past_one slot next e
  no_edge_passes (Assign x rhs next) slot ks e = past_one slot next e
  no_edge_passes (Print a next) slot ks e = past_one slot next e
  no_edge_passes (Guard test number next) slot ks e = past_one slot next e
  no_edge_passes (Call into unit operands next) slot ks e = past_one slot next e
  no_edge_passes (Test test taken other) slot ks e =
      past_two slot taken other (rules.goes test true ks) (rules.goes test false ks) e
  no_edge_passes (Return a) slot ks e = refl

  -- so the state past its last slot is "unreached"
  along_no_edge : (shared : ℕ) (received : List ℕ) (node : Node) (slot : ℕ) (s : NodeState K)
      → slice_get (node_succs node) slot ≡ None → passed_along rules shared received node slot s ≡ Unreached (size_of s)
  unfolding along_by
  along_no_edge shared received node slot (Unreached n) e = refl
  along_no_edge shared received node slot (Knows ks) e =
      ap (along_by shared received node slot ks) (no_edge_passes node slot ks e)

  -- all together
  pub passing_laws : (shared : ℕ) (received : List ℕ) → AlongLaws below (passed_along rules shared received)
  passing_laws shared received = record {
    sized = along_size shared received;
    rises = along_rises shared received;
    no_edge = along_no_edge shared received;
    unreached = λ node slot n. refl;
  }

-- whatever is known outside
pub passing_within : {K : Type 0} {below : K → K → Type 0} {rules : Rules K} (outside : OutsideShape K) → OrderRules below rules
    → RisingRules below rules → (shared : ℕ) (received : List ℕ) → AlongLaws below (passed_along (within outside rules) shared received)
passing_within outside order rising = passing_laws (order_within outside order) (rising_within outside rising)
