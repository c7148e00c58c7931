-- What a push leaves, where what is not news has passed.
use Rattle.std.proofs.Common.{◌≡◌, inl, inr, ℕ, suc, ◌-◌, ◌<◌, Bool, true, false, ◌&&◌, if◌then◌else◌, List, [], ◌∷◌, length, take, slice_get, Option, Some, None, refl, sym, ap, ◌∙◌, subst}
use Rattle.std.proofs.lemmas.Bool.{cases_Bool}
use Rattle.fix_solve.specs.Order.{IsLeastUpper}
use Rattle.fix_solve.specs.Pointwise.{pointwise_refl}
use Rattle.flow_graph.specs.declared.nodes.Node.{Node}
use Rattle.flow_graph.specs.declared.nodes.Node.TheVariants.{Start, Skip, Assign, Print, Guard, Call, Test, Return}
use Rattle.cond_flow.specs.Blockwise.{along_at, last_of, out_of, through_nodes}
use Rattle.cond_flow.specs.Catching.{AgreeOff, AreOff, HasPassed, IsCaught}
use Rattle.cond_flow.specs.NewsShapes.{NewsShape, is_among}
use Rattle.cond_flow.specs.Passing.{known_after, passed_along, passes}
use Rattle.cond_flow.specs.Raising.{IsRaised}
use Rattle.cond_flow.specs.Reading.{AllGoOn, AreApart, ReadsAlike, goes_on}
use Rattle.cond_flow.specs.Rules.{OutsideShape, Rules, FrameRules, OrderRules, RisingRules, known_at, within}
use Rattle.cond_flow.specs.States.{NodeState, Unreached, Knows, BelowState, is_reached, state_where}
use Rattle.cond_flow.proofs.RaisingLaws.{raised_joins}
use Rattle.cond_flow.specs.WithinLaws.{frame_within, order_within, rising_within}
use Rattle.cond_flow.proofs.ReadingLaws.{AgreeStates, agree_node, last_at, out_alike, out_stays, reads_within, states_without, stays_without, take_some}

-- a state is reached where it is said so
pub reached_where : {K : Type 0} (b : Bool) (ks : List K) → is_reached (state_where b ks) ≡ b
reached_where true ks = refl
reached_where false ks = refl

-- states that agree are both reached or both not
pub reached_alike : {K : Type 0} (rules : Rules K) (xs ys : List K) (s t : NodeState K) → AgreeStates rules xs ys s t
    → is_reached s ≡ is_reached t
reached_alike rules xs ys (Unreached n) (Unreached m) h = refl
reached_alike rules xs ys (Unreached n) (Knows ls) h = absurd h
reached_alike rules xs ys (Knows ks) (Unreached m) h = absurd h
reached_alike rules xs ys (Knows ks) (Knows ls) h = refl

-- lists that agree but for variables that a block does not touch agree on what it reads
reads_off : {K : Type 0} (rules : Rules K) (shared : ℕ) (nodes : List Node) (list raised : List ℕ) (xs ks : List K)
    → AreApart shared nodes list raised → AgreeOff rules raised ks xs → ReadsAlike rules nodes list xs ks
reads_off rules shared nodes list raised xs ks apart off = record {
  each = λ i n node at is. agree_node rules shared xs ks node
      (λ k touched. elim (cases_Bool (is_among raised k)) as (λ _. known_at rules xs k ≡ known_at rules ks k) [
        | inl on ↦
            let bad : true ≡ false = sym touched ∙ (apart.each k on).each i n node at is in
            absurd (cc)
        | inr out ↦ sym (off.each k out)
      ]);
}

module _ {K : Type 0} {below : K → K → Type 0} {rules : Rules K} (frame : FrameRules rules) (order : OrderRules below rules) (rising : RisingRules below rules) (outside : OutsideShape K) (shared : ℕ) (received : List ℕ) (nodes : List Node) (list : List ℕ) (slot : ℕ) (some : 0 < length list) where
  -- what passes out of the block
  abbrev out : NodeState K → NodeState K
  out s = out_of (passed_along (within outside rules) shared received) nodes list slot s

  -- lists that agree on what the block reads let pass what agrees where they do
  outs_alike : (xs ys : List K) → length xs ≡ length ys → ReadsAlike rules nodes list xs ys
      → AgreeStates rules xs ys (out (Knows xs)) (out (Knows ys))
  outs_alike xs ys long reads =
      states_without rules outside xs ys _ _
      (out_alike (frame_within rules outside frame) (order_within outside order) (rising_within outside rising) shared received xs ys nodes list slot some long (reads_within rules outside nodes list xs ys reads))

  -- something passes a node that goes on
  along_on : (node : Node) (s : NodeState K) → goes_on node ≡ true → is_reached s ≡ true
      → is_reached (passed_along (within outside rules) shared received node 0 s) ≡ true
  along_on (Start next) (Knows xs) on here = refl
  along_on (Skip next) (Knows xs) on here = refl
  along_on (Assign x rhs next) (Knows xs) on here = refl
  along_on (Print a next) (Knows xs) on here = refl
  along_on (Guard test number next) (Knows xs) on here = refl
  along_on (Call into unit operands next) (Knows xs) on here = refl
  along_on (Test test taken other) s on here = absurd (cc)
  along_on (Return a) s on here = absurd (cc)
  along_on node (Unreached n) on here = absurd (cc)

  -- and one that may be absent
  at_on : (o : Option Node) (s : NodeState K) → ((node : Node) → o ≡ Some node → goes_on node ≡ true) → is_reached s ≡ true
      → is_reached (along_at (passed_along (within outside rules) shared received) o 0 s) ≡ true
  at_on None s on here = here
  at_on (Some node) s on here = along_on node s (on node refl) here

  -- and several
  through_on : (part : List ℕ) (s : NodeState K)
      → ((i n : ℕ) (node : Node) → slice_get part i ≡ Some n → slice_get nodes n ≡ Some node → goes_on node ≡ true)
      → is_reached s ≡ true → is_reached (through_nodes (passed_along (within outside rules) shared received) nodes part s) ≡ true
  through_on [] s on here = here
  through_on (n ∷ part) s on here =
      through_on part _ (λ i m node at is. on (suc i) m node at is)
      (at_on (slice_get nodes n) s (λ node is. on 0 n node refl is) here)

  -- and a block
  pub passes_on_first : (xs : List K) → slot ≡ 0 → AllGoOn nodes list → is_reached (out (Knows xs)) ≡ true
  passes_on_first xs first all =
      ap (λ k. is_reached (out_of (passed_along (within outside rules) shared received) nodes list k (Knows xs))) first
      ∙ at_on (slice_get nodes (last_of list)) _
      (λ node is. all.each (length list - 1) (last_of list) node (last_at list some) is)
      (through_on (take (length list - 1) list) (Knows xs)
      (λ i n node at is. all.each i n node (take_some (length list - 1) list i n at) is) refl)

  -- what was raised is all that is left to join
  pub past_joins : (raised : List ℕ) (xs old new : List K) → AreApart shared nodes list raised
      → HasPassed below rules (λ s. out s) raised (Knows xs) (Knows old)
      → (is_reached (out (Knows xs)) ≡ true → IsRaised below rules raised xs old new)
      → (is_reached (out (Knows xs)) ≡ false → new ≡ old)
      → IsLeastUpper (BelowState below) (Knows old) (out (Knows xs)) (Knows new)
  past_joins raised xs old new apart was reaches never = by was.before was.off was.passed
    where
      by : (before : NodeState K) → AreOff rules raised before (Knows xs)
          → BelowState below (out before) (Knows old)
          → IsLeastUpper (BelowState below) (Knows old) (out (Knows xs)) (Knows new)
      by (Unreached n) off passed = absurd off
      by (Knows ks) off passed =
          raised_joins order rising raised xs ks old new _ _ off
          (outs_alike xs ks (sym off.long) (reads_off rules shared nodes list raised xs ks apart off))
          passed
          (λ k on. stays_without rules outside k xs _ (out_stays (frame_within rules outside frame) (order_within outside order) (rising_within outside rising) shared received k xs nodes list slot some (apart.each k on)))
          reaches never

  -- and along an edge to itself nothing is
  pub round_joins : (raised : List ℕ) (xs : List K) → AreApart shared nodes list raised
      → HasPassed below rules (λ s. out s) raised (Knows xs) (Knows xs)
      → IsLeastUpper (BelowState below) (Knows xs) (out (Knows xs)) (Knows xs)
  round_joins raised xs apart was =
      past_joins raised xs xs xs apart was
      (λ _. record {
        above = pointwise_refl below order.reflexive xs;
        has = λ i k low at. order.reflexive (known_at rules xs k);
        least = λ others p each. p;
      }) (λ _. refl)

  -- whether a state passes a node
  reached_along : (node : Node) (b : Bool) (zs : List K)
      → (b && passes (within outside rules) node slot zs) ≡ is_reached (passed_along (within outside rules) shared received node slot (state_where b zs))
  reached_along node false zs = refl
  reached_along node true zs = by (passes (within outside rules) node slot zs)
    where
      by : (p : Bool) → p ≡ is_reached (if p then Knows (known_after (within outside rules) shared received node slot zs) else Unreached (length zs))
      by true = refl
      by false = refl

  -- whether anything passes is found out by what is read
  pub passes_by_read : (xs ys : List K) → length xs ≡ length ys → ReadsAlike rules nodes list xs ys → (node : Node)
      → slice_get nodes (last_of list) ≡ Some node → (b : Bool) (zs : List K)
      → state_where b zs ≡ through_nodes (passed_along (within outside rules) shared received) nodes (take (length list - 1) list) (Knows ys)
      → (b && passes (within outside rules) node slot zs) ≡ is_reached (out (Knows xs))
  passes_by_read xs ys long reads node at b zs is =
      reached_along node b zs
      ∙ ap (λ s. is_reached (passed_along (within outside rules) shared received node slot s)) is
      ∙ ap (λ o. is_reached (along_at (passed_along (within outside rules) shared received) o slot (through_nodes (passed_along (within outside rules) shared received) nodes (take (length list - 1) list) (Knows ys)))) (sym at)
      ∙ sym (reached_alike rules xs ys _ _ (outs_alike xs ys long reads))

-- ---- states of blocks as they are kept

-- the least upper bound of a reached block's state
pub joins_known : {K : Type 0} {below : K → K → Type 0} (b : Bool) (xs zs : List K) (s t t' : NodeState K) → b ≡ true
    → state_where b xs ≡ s → t ≡ t' → IsLeastUpper (BelowState below) (Knows xs) t (Knows zs)
    → IsLeastUpper (BelowState below) s t' (state_where b zs)
joins_known {below = below} true xs zs s t t' on is same upper =
    subst (λ u. IsLeastUpper (BelowState below) u t' (Knows zs)) is (subst (λ u. IsLeastUpper (BelowState below) (Knows xs) u (Knows zs)) same upper)
joins_known false xs zs s t t' on is same upper = absurd (cc)

-- and what was caught of two reached blocks
pub caught_known : {K : Type 0} {below : K → K → Type 0} {rules : Rules K} (transfer : NodeState K → NodeState K) (news : NewsShape)
    (b c : Bool) (xs ys : List K) (s t : NodeState K) → b ≡ true → c ≡ true → state_where b xs ≡ s → state_where c ys ≡ t
    → IsCaught below rules transfer news s t → IsCaught below rules transfer news (Knows xs) (Knows ys)
caught_known {below = below} {rules = rules} transfer news true true xs ys s t on on' is is' caught =
    subst (λ u. IsCaught below rules transfer news u (Knows ys)) (sym is) (subst (λ u. IsCaught below rules transfer news s u) (sym is') caught)
caught_known transfer news true false xs ys s t on on' is is' caught = absurd (cc)
caught_known transfer news false c xs ys s t on on' is is' caught = absurd (cc)
