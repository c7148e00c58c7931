-- What passes through a block depends on what it reads alone, and what it does not touch passes unchanged.
use Rattle.std.proofs.Common.{◌≡◌, ℕ, zero, suc, ◌+◌, ◌-◌, ◌<◌, ◌≤◌, Bool, true, false, ◌||◌, nat_eq, nat_lt, if◌then◌else◌, List, [], ◌∷◌, length, take, slice_get, slice_set, length-set, Option, Some, None, refl, sym, ap, ◌∙◌, arith}
use Rattle.std.proofs.lemmas.Bool.{eq-eqb, ltb-false, or_parts}
use Rattle.std.proofs.lemmas.List.{get_or-set_other}
use Rattle.std.proofs.lemmas.Option.{slice_get-get_or}
use Rattle.std.specs.List.{range_with_len}
use Rattle.mir_base.specs.Frames.{shared_vars}
use Rattle.mir_base.specs.declared.instructions.Operand.{Operand}
use Rattle.mir_base.specs.declared.instructions.Operand.TheVariants.{Var, Const}
use Rattle.mir_base.specs.declared.instructions.Rhs.{Rhs}
use Rattle.mir_base.specs.declared.instructions.Rhs.TheVariants.{Plain, Unary, Binary}
use Rattle.mir_base.specs.declared.instructions.Test as tests
use Rattle.mir_base.specs.declared.instructions.Test.TheVariants.{Rel, Holds, Fails}
use Rattle.flow_graph.specs.declared.nodes.Node.{Node}
use Rattle.flow_graph.specs.declared.nodes.Node.TheVariants.{Start, Skip, Assign, Print, Guard, Call, Test, Return}
use Rattle.cond_flow.specs.Blockwise.{along_at, last_of, out_of, through_nodes}
use Rattle.cond_flow.specs.Passing.{after_call, all_set, back_at, known_after, passed_along, passes, passes_by, start_known}
use Rattle.cond_flow.specs.PassingLaws.{length_after, length_set}
use Rattle.cond_flow.specs.Reading.{AgreeOnNode, IsApart, ReadsAlike, has_rhs, is_into, touches}
use Rattle.cond_flow.specs.Rules.{OutsideShape, Rules, AgreeOn, AgreeOnRhs, AgreeOnTest, FrameRules, OrderRules, RisingRules, has_test, is_operand, known_at, within}
use Rattle.cond_flow.specs.SetLaws.{set_alike, set_apart}
use Rattle.cond_flow.specs.States.{NodeState, Unreached, Knows}
use Rattle.cond_flow.specs.WithinLaws.{rhs_within, test_within}

module _ {K : Type 0} (rules : Rules K) where
  -- ---- several variables set

  -- of two lists
  all_alike : (vars : List ℕ) (of : ℕ → K) (i : ℕ) (xs ys : List K) (k : ℕ) → length xs ≡ length ys
      → known_at rules xs k ≡ known_at rules ys k
      → known_at rules (all_set of i vars xs) k ≡ known_at rules (all_set of i vars ys) k
  all_alike [] of i xs ys k long h = h
  all_alike (x ∷ vars) of i xs ys k long h =
      all_alike vars of (suc i) (slice_set xs x (of i)) (slice_set ys x (of i)) k (length-set xs x (of i) ∙ long ∙ sym (length-set ys x (of i)))
      (set_alike rules xs ys x (of i) (of i) k long refl h)

  -- and a variable that is not among so many numbers from the first on
  past_apart : (count first : ℕ) (of : ℕ → K) (i : ℕ) (xs : List K) (k : ℕ) → first + count ≤ k
      → known_at rules (all_set of i (range_with_len first count) xs) k ≡ known_at rules xs k
  past_apart zero first of i xs k past = refl
  past_apart (suc count) first of i xs k past =
      past_apart count (first + 1) of (suc i) (slice_set xs first (of i)) k (omega (arith, past))
      ∙ get_or-set_other xs first k (of i) rules.top (λ e. omega (arith, past, e))

  -- ---- after a call

  -- of two lists
  called_alike : (shared : ℕ) (into : Option ℕ) (unit : ℕ) (xs ys : List K) (k : ℕ) → length xs ≡ length ys
      → known_at rules xs k ≡ known_at rules ys k
      → known_at rules (after_call rules shared into unit xs) k ≡ known_at rules (after_call rules shared into unit ys) k
  called_alike shared None unit xs ys k long h = all_alike (shared_vars shared) (known_at rules (back_at rules unit)) 0 xs ys k long h
  called_alike shared (Some x) unit xs ys k long h =
      let of : ℕ → K = known_at rules (back_at rules unit) in
      set_alike rules (all_set of 0 (shared_vars shared) xs) (all_set of 0 (shared_vars shared) ys) x (of shared) (of shared) k
      (length_set of 0 (shared_vars shared) xs ∙ long ∙ sym (length_set of 0 (shared_vars shared) ys)) refl
      (all_alike (shared_vars shared) of 0 xs ys k long h)

  -- and a variable that is no global and does not get the result
  called_apart : (shared : ℕ) (into : Option ℕ) (unit : ℕ) (xs : List K) (k : ℕ) → shared ≤ k → is_into into k ≡ false
      → known_at rules (after_call rules shared into unit xs) k ≡ known_at rules xs k
  called_apart shared None unit xs k past apart = past_apart shared 0 (known_at rules (back_at rules unit)) 0 xs k (omega (arith, past))
  called_apart shared (Some x) unit xs k past apart =
      let of : ℕ → K = known_at rules (back_at rules unit) in
      set_apart rules (all_set of 0 (shared_vars shared) xs) x (of shared) k apart
      ∙ past_apart shared 0 of 0 xs k (omega (arith, past))

  -- ---- after Start

  -- of two lists
  started_alike : (shared : ℕ) (received : List ℕ) (xs ys : List K) (k : ℕ) → length xs ≡ length ys
      → known_at rules xs k ≡ known_at rules ys k
      → known_at rules (start_known rules shared received xs) k ≡ known_at rules (start_known rules shared received ys) k
  started_alike shared received xs ys k long h =
      let of : ℕ → K = λ i. known_at rules rules.outside.entry (shared + i) in
      let none : ℕ → K = λ i. rules.zero in
      let cleared : ℕ → List K → List K = λ n. all_set none shared (range_with_len shared (n - shared)) in
      ap (λ n. known_at rules (all_set of 0 received (cleared n xs)) k) long
      ∙ all_alike received of 0 (cleared (length ys) xs) (cleared (length ys) ys) k
      (length_set none shared (range_with_len shared (length ys - shared)) xs ∙ long ∙ sym (length_set none shared (range_with_len shared (length ys - shared)) ys))
      (all_alike (range_with_len shared (length ys - shared)) none shared xs ys k long h)

  -- ---- what agrees

  -- an operand's variable, where this is so of all that it has
  agree_operand : (xs ys : List K) (a : Operand) → ((k : ℕ) → is_operand a k ≡ true → known_at rules xs k ≡ known_at rules ys k)
      → AgreeOn rules xs ys a
  agree_operand xs ys (Var x) each = each x (eq-eqb x x refl)
  agree_operand xs ys (Const c) each = tt

  -- those of two operands
  agree_both : (xs ys : List K) (a b : Operand)
      → ((k : ℕ) → (is_operand a k || is_operand b k) ≡ true → known_at rules xs k ≡ known_at rules ys k)
      → AgreeOn rules xs ys a × AgreeOn rules xs ys b
  agree_both xs ys a b each = (
    agree_operand xs ys a (λ k is. each k (ap (λ t. t || is_operand b k) is)),
    agree_operand xs ys b (λ k is. each k (or_right (is_operand a k) (is_operand b k) is)),
  )
    where
      or_right : (s t : Bool) → t ≡ true → (s || t) ≡ true
      or_right true t on = refl
      or_right false t on = on

  -- those of a node
  pub agree_node : (shared : ℕ) (xs ys : List K) (node : Node)
      → ((k : ℕ) → touches shared node k ≡ true → known_at rules xs k ≡ known_at rules ys k)
      → AgreeOnNode rules xs ys node
  agree_node shared xs ys (Start next) each = tt
  agree_node shared xs ys (Skip next) each = tt
  agree_node shared xs ys (Assign x rhs next) each = of_rhs rhs (λ k is. each k (or_second (nat_eq k x) (has_rhs rhs k) is))
    where
      or_second : (s t : Bool) → t ≡ true → (s || t) ≡ true
      or_second true t on = refl
      or_second false t on = on

      of_rhs : (rhs : Rhs) → ((k : ℕ) → has_rhs rhs k ≡ true → known_at rules xs k ≡ known_at rules ys k)
          → AgreeOnRhs rules xs ys rhs
      of_rhs (Plain a) each = agree_operand xs ys a each
      of_rhs (Unary op a) each = agree_operand xs ys a each
      of_rhs (Binary op a b) each = agree_both xs ys a b each
  agree_node shared xs ys (Print a next) each = tt
  agree_node shared xs ys (Guard test number next) each = tt
  agree_node shared xs ys (Call into unit operands next) each = tt
  agree_node shared xs ys (Test test one other) each = of_test test each
    where
      of_test : (test : tests.Test) → ((k : ℕ) → has_test test k ≡ true → known_at rules xs k ≡ known_at rules ys k)
          → AgreeOnTest rules xs ys test
      of_test (Rel op a b) each = agree_both xs ys a b each
      of_test (Holds a) each = agree_operand xs ys a each
      of_test (Fails a) each = agree_operand xs ys a each
  agree_node shared xs ys (Return a) each = tt

  -- two lists agree where two others do
  pub record AgreesToo (xs ys xs' ys' : List K) : Type 0 where
    pub long : length xs' ≡ length ys'
    pub each : (k : ℕ) → known_at rules xs k ≡ known_at rules ys k → known_at rules xs' k ≡ known_at rules ys' k

  -- so they agree on an operand
  pub operand_too : (xs ys xs' ys' : List K) (a : Operand) → AgreesToo xs ys xs' ys' → AgreeOn rules xs ys a
      → AgreeOn rules xs' ys' a
  operand_too xs ys xs' ys' (Var x) more h = more.each x h
  operand_too xs ys xs' ys' (Const c) more h = tt

  -- and on what a node reads
  pub agree_too : (xs ys xs' ys' : List K) (node : Node) → AgreesToo xs ys xs' ys' → AgreeOnNode rules xs ys node
      → AgreeOnNode rules xs' ys' node
  agree_too xs ys xs' ys' (Start next) more h = tt
  agree_too xs ys xs' ys' (Skip next) more h = tt
  agree_too xs ys xs' ys' (Assign x (Plain a) next) more h = operand_too xs ys xs' ys' a more h
  agree_too xs ys xs' ys' (Assign x (Unary op a) next) more h = operand_too xs ys xs' ys' a more h
  agree_too xs ys xs' ys' (Assign x (Binary op a b) next) more h = (operand_too xs ys xs' ys' a more h.0, operand_too xs ys xs' ys' b more h.1)
  agree_too xs ys xs' ys' (Print a next) more h = tt
  agree_too xs ys xs' ys' (Guard test number next) more h = tt
  agree_too xs ys xs' ys' (Call into unit operands next) more h = tt
  agree_too xs ys xs' ys' (Test (Rel op a b) one other) more h = (operand_too xs ys xs' ys' a more h.0, operand_too xs ys xs' ys' b more h.1)
  agree_too xs ys xs' ys' (Test (Holds a) one other) more h = operand_too xs ys xs' ys' a more h
  agree_too xs ys xs' ys' (Test (Fails a) one other) more h = operand_too xs ys xs' ys' a more h
  agree_too xs ys xs' ys' (Return a) more h = tt

  -- the same of states that are both reached or both not
  abbrev pub AgreeStates : (xs ys : List K) → NodeState K → NodeState K → Type 0
  AgreeStates xs ys (Unreached n) (Unreached m) = n ≡ m
  AgreeStates xs ys (Unreached n) (Knows ks) = ⊥
  AgreeStates xs ys (Knows ks) (Unreached m) = ⊥
  AgreeStates xs ys (Knows ks) (Knows ls) = AgreesToo xs ys ks ls

  -- one after the other
  states_too : (xs ys xs' ys' : List K) (s t : NodeState K) → AgreesToo xs ys xs' ys' → AgreeStates xs' ys' s t
      → AgreeStates xs ys s t
  states_too xs ys xs' ys' (Unreached n) (Unreached m) more h = h
  states_too xs ys xs' ys' (Unreached n) (Knows ks) more h = absurd h
  states_too xs ys xs' ys' (Knows ks) (Unreached m) more h = absurd h
  states_too xs ys xs' ys' (Knows ks) (Knows ls) more h = record {
    long = h.long;
    each = λ k same. h.each k (more.each k same);
  }

  -- a state, if it is reached, has of this variable what the list has
  abbrev pub StaysAt : ℕ → List K → NodeState K → Type 0
  StaysAt k xs (Unreached n) = Unit {0}
  StaysAt k xs (Knows ks) = known_at rules ks k ≡ known_at rules xs k

-- a place in a first part of a list
pub take_some : {A : Type 0} (m : ℕ) (list : List A) (i : ℕ) (n : A) → slice_get (take m list) i ≡ Some n
    → slice_get list i ≡ Some n
take_some zero [] i n at = at
take_some zero (x ∷ list) i n at = cc
take_some (suc m) [] i n at = at
take_some (suc m) (x ∷ list) zero n at = at
take_some (suc m) (x ∷ list) (suc i) n at = take_some m list i n at

-- the last of these nodes is one of them
pub last_at : (list : List ℕ) → 0 < length list → slice_get list (length list - 1) ≡ Some (last_of list)
last_at list some = slice_get-get_or list (length list - 1) 0 (omega (arith, some))

module _ {K : Type 0} {below : K → K → Type 0} {rules : Rules K} (frame : FrameRules rules) (order : OrderRules below rules) (rising : RisingRules below rules) (shared : ℕ) (received : List ℕ) where
  -- ---- what agrees before agrees after

  -- what is known after a node
  after_alike : (node : Node) (slot : ℕ) (xs ys : List K) (k : ℕ) → length xs ≡ length ys → AgreeOnNode rules xs ys node
      → known_at rules xs k ≡ known_at rules ys k
      → known_at rules (known_after rules shared received node slot xs) k ≡ known_at rules (known_after rules shared received node slot ys) k
  after_alike (Start next) slot xs ys k long on h = started_alike rules shared received xs ys k long h
  after_alike (Skip next) slot xs ys k long on h = h
  after_alike (Assign x rhs next) slot xs ys k long on h = set_alike rules xs ys x (rules.of_rhs xs rhs) (rules.of_rhs ys rhs) k long (frame.right_side rhs xs ys on) h
  after_alike (Print a next) slot xs ys k long on h = h
  after_alike (Guard test number next) slot xs ys k long on h = h
  after_alike (Call into unit operands next) slot xs ys k long on h = called_alike rules shared into unit xs ys k long h
  after_alike (Test test one other) slot xs ys k long on h = frame.along test (nat_eq slot 0) xs ys k long on h
  after_alike (Return a) slot xs ys k long on h = h

  -- and whether anything passes
  passes_alike : (node : Node) (slot : ℕ) (xs ys : List K) → AgreeOnNode rules xs ys node
      → passes rules node slot xs ≡ passes rules node slot ys
  passes_alike (Start next) slot xs ys on = refl
  passes_alike (Skip next) slot xs ys on = refl
  passes_alike (Assign x rhs next) slot xs ys on = refl
  passes_alike (Print a next) slot xs ys on = refl
  passes_alike (Guard test number next) slot xs ys on = refl
  passes_alike (Call into unit operands next) slot xs ys on = refl
  passes_alike (Test test one other) slot xs ys on =
      ap (λ b. passes_by slot b (rules.goes test false xs)) (frame.goes test true xs ys on)
      ∙ ap (passes_by slot (rules.goes test true ys)) (frame.goes test false xs ys on)
  passes_alike (Return a) slot xs ys on = refl

  -- along an edge of a node
  along_alike : (node : Node) (slot : ℕ) (xs ys : List K) → length xs ≡ length ys → AgreeOnNode rules xs ys node
      → AgreeStates rules xs ys (passed_along rules shared received node slot (Knows xs)) (passed_along rules shared received node slot (Knows ys))
  along_alike node slot xs ys long on =
      by (passes rules node slot xs) (passes rules node slot ys) (passes_alike node slot xs ys on)
    where
      by : (b c : Bool) → b ≡ c
          → AgreeStates rules xs ys (if b then Knows (known_after rules shared received node slot xs) else Unreached (length xs))
          (if c then Knows (known_after rules shared received node slot ys) else Unreached (length ys))
      by true true same = record {
        long = length_after order rising shared received node slot xs ∙ long ∙ sym (length_after order rising shared received node slot ys);
        each = λ k h. after_alike node slot xs ys k long on h;
      }
      by true false same = absurd (cc)
      by false true same = absurd (cc)
      by false false same = long

  -- of a node that may be absent
  at_alike : (xs ys : List K) (o : Option Node) (slot : ℕ) (s t : NodeState K)
      → ((node : Node) → o ≡ Some node → AgreeOnNode rules xs ys node) → AgreeStates rules xs ys s t
      → AgreeStates rules xs ys (along_at (passed_along rules shared received) o slot s) (along_at (passed_along rules shared received) o slot t)
  at_alike xs ys None slot s t on h = h
  at_alike xs ys (Some node) slot (Unreached n) (Unreached m) on h = h
  at_alike xs ys (Some node) slot (Unreached n) (Knows ls) on h = absurd h
  at_alike xs ys (Some node) slot (Knows ks) (Unreached m) on h = absurd h
  at_alike xs ys (Some node) slot (Knows ks) (Knows ls) on h =
      states_too rules xs ys ks ls _ _ h (along_alike node slot ks ls h.long (agree_too rules xs ys ks ls node h (on node refl)))

  -- through several nodes
  through_alike : (xs ys : List K) (nodes : List Node) (list : List ℕ) (s t : NodeState K)
      → ((i n : ℕ) (node : Node) → slice_get list i ≡ Some n → slice_get nodes n ≡ Some node → AgreeOnNode rules xs ys node)
      → AgreeStates rules xs ys s t
      → AgreeStates rules xs ys (through_nodes (passed_along rules shared received) nodes list s) (through_nodes (passed_along rules shared received) nodes list t)
  through_alike xs ys nodes [] s t on h = h
  through_alike xs ys nodes (n ∷ list) s t on h =
      through_alike xs ys nodes list _ _ (λ i m node at is. on (suc i) m node at is)
      (at_alike xs ys (slice_get nodes n) 0 s t (λ node is. on 0 n node refl is) h)

  -- and out of a block
  pub out_alike : (xs ys : List K) (nodes : List Node) (list : List ℕ) (slot : ℕ) → 0 < length list → length xs ≡ length ys
      → ReadsAlike rules nodes list xs ys
      → AgreeStates rules xs ys (out_of (passed_along rules shared received) nodes list slot (Knows xs)) (out_of (passed_along rules shared received) nodes list slot (Knows ys))
  out_alike xs ys nodes list slot some long reads =
      at_alike xs ys (slice_get nodes (last_of list)) slot _ _
      (λ node is. reads.each (length list - 1) (last_of list) node (last_at list some) is)
      (through_alike xs ys nodes (take (length list - 1) list) (Knows xs) (Knows ys)
      (λ i n node at is. reads.each i n node (take_some (length list - 1) list i n at) is)
      (record { long = long; each = λ k h. h }))

  -- ---- what is not touched stays

  -- after a node
  after_apart : (node : Node) (slot : ℕ) (ks : List K) (k : ℕ) → touches shared node k ≡ false
      → known_at rules (known_after rules shared received node slot ks) k ≡ known_at rules ks k
  after_apart (Start next) slot ks k apart = absurd (cc)
  after_apart (Skip next) slot ks k apart = refl
  after_apart (Assign x rhs next) slot ks k apart = set_apart rules ks x (rules.of_rhs ks rhs) k (or_parts (nat_eq k x) (has_rhs rhs k) apart).0
  after_apart (Print a next) slot ks k apart = refl
  after_apart (Guard test number next) slot ks k apart = refl
  after_apart (Call into unit operands next) slot ks k apart =
      let parts = or_parts (nat_lt k shared) (is_into into k) apart in
      called_apart rules shared into unit ks k (ltb-false k shared parts.0) parts.1
  after_apart (Test test one other) slot ks k apart = frame.apart test (nat_eq slot 0) ks k apart
  after_apart (Return a) slot ks k apart = refl

  -- along an edge of a node that may be absent
  at_stays : (k : ℕ) (xs : List K) (o : Option Node) (slot : ℕ) (s : NodeState K)
      → ((node : Node) → o ≡ Some node → touches shared node k ≡ false) → StaysAt rules k xs s
      → StaysAt rules k xs (along_at (passed_along rules shared received) o slot s)
  at_stays k xs None slot s apart h = h
  at_stays k xs (Some node) slot (Unreached n) apart h = tt
  at_stays k xs (Some node) slot (Knows ks) apart h = by (passes rules node slot ks)
    where
      by : (b : Bool) → StaysAt rules k xs (if b then Knows (known_after rules shared received node slot ks) else Unreached (length ks))
      by true = after_apart node slot ks k (apart node refl) ∙ h
      by false = tt

  -- through several nodes
  through_stays : (k : ℕ) (xs : List K) (nodes : List Node) (list : List ℕ) (s : NodeState K)
      → ((i n : ℕ) (node : Node) → slice_get list i ≡ Some n → slice_get nodes n ≡ Some node → touches shared node k ≡ false)
      → StaysAt rules k xs s → StaysAt rules k xs (through_nodes (passed_along rules shared received) nodes list s)
  through_stays k xs nodes [] s apart h = h
  through_stays k xs nodes (n ∷ list) s apart h =
      through_stays k xs nodes list _ (λ i m node at is. apart (suc i) m node at is)
      (at_stays k xs (slice_get nodes n) 0 s (λ node is. apart 0 n node refl is) h)

  -- and out of a block
  pub out_stays : (k : ℕ) (xs : List K) (nodes : List Node) (list : List ℕ) (slot : ℕ) → 0 < length list
      → IsApart shared nodes list k → StaysAt rules k xs (out_of (passed_along rules shared received) nodes list slot (Knows xs))
  out_stays k xs nodes list slot some apart =
      at_stays k xs (slice_get nodes (last_of list)) slot _
      (λ node is. apart.each (length list - 1) (last_of list) node (last_at list some) is)
      (through_stays k xs nodes (take (length list - 1) list) (Knows xs)
      (λ i n node at is. apart.each i n node (take_some (length list - 1) list i n at) is) refl)

-- ---- whatever is known outside

module _ {K : Type 0} (rules : Rules K) (outside : OutsideShape K) where
  -- lists agree on what a node reads
  node_within : (xs ys : List K) (node : Node) → AgreeOnNode rules xs ys node → AgreeOnNode (within outside rules) xs ys node
  node_within xs ys (Start next) h = tt
  node_within xs ys (Skip next) h = tt
  node_within xs ys (Assign x rhs next) h = rhs_within rules outside xs ys rhs h
  node_within xs ys (Print a next) h = tt
  node_within xs ys (Guard test number next) h = tt
  node_within xs ys (Call into unit operands next) h = tt
  node_within xs ys (Test test one other) h = test_within rules outside xs ys test h
  node_within xs ys (Return a) h = tt

  -- and on what several do
  pub reads_within : (nodes : List Node) (list : List ℕ) (xs ys : List K) → ReadsAlike rules nodes list xs ys
      → ReadsAlike (within outside rules) nodes list xs ys
  reads_within nodes list xs ys h = record { each = λ i n node at is. node_within xs ys node (h.each i n node at is) }

  -- states agree
  pub states_without : (xs ys : List K) (s t : NodeState K) → AgreeStates (within outside rules) xs ys s t
      → AgreeStates rules xs ys s t
  states_without xs ys (Unreached n) (Unreached m) h = h
  states_without xs ys (Unreached n) (Knows ks) h = absurd h
  states_without xs ys (Knows ks) (Unreached m) h = absurd h
  states_without xs ys (Knows ks) (Knows ls) h = record { long = h.long; each = h.each }

  -- and have of a variable what a list has
  pub stays_without : (k : ℕ) (xs : List K) (s : NodeState K) → StaysAt (within outside rules) k xs s → StaysAt rules k xs s
  stays_without k xs (Unreached n) h = tt
  stays_without k xs (Knows ks) h = h
