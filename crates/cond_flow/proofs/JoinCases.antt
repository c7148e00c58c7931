-- The join of states as they are kept, and what passes from one.
use Rattle.std.proofs.Common.{◌≡◌, ◌↔◌, ◌-◌, ℕ, Bool, true, false, if◌then◌else◌, List, [], ◌∷◌, length, take, slice_get, Option, Some, None, refl, sym, ap, ◌∙◌, subst}
use Rattle.fix_solve.specs.Order.{IsLeastUpper}
use Rattle.flow_graph.specs.declared.nodes.Node.{Node}
use Rattle.cond_flow.specs.Rules.{Rules, OrderRules}
use Rattle.cond_flow.specs.States.{NodeState, Unreached, Knows, BelowState, size_of, state_where, joined_each, joined}
use Rattle.cond_flow.specs.StateLaws.{state_joins}
use Rattle.cond_flow.specs.Blockwise.{Along, AlongLaws, along_at, through_nodes, last_of, out_of}
use Rattle.cond_flow.specs.FlowLaws.{through_size}
use Rattle.cond_flow.specs.Passing.{known_after, passed_along, passes}

module _ {K : Type 0} {below : K → K → Type 0} {rules : Rules K} (order : OrderRules below rules) where
  -- what is equal to the join is the least upper bound
  joins_to : (s t u : NodeState K) → size_of s ≡ size_of t → u ≡ joined rules.joined s t → IsLeastUpper (BelowState below) s t u
  joins_to s t u size is = subst (IsLeastUpper (BelowState below) s t) (sym is) (state_joins order s t size)

  -- what is known and meets what is known of a block
  pub meets_known : (b : Bool) (xs ys zs : List K) → b ≡ true → length xs ≡ length ys → zs ≡ joined_each rules.joined xs ys → IsLeastUpper (BelowState below) (state_where b xs) (Knows ys) (state_where b zs)
  meets_known true xs ys zs on size is = joins_to (Knows xs) (Knows ys) (Knows zs) size (ap Knows is)
  meets_known false xs ys zs on size is = absurd (cc)

  -- the same where the block was not reached
  pub meets_first : (b : Bool) (xs ys zs : List K) → b ≡ false → length xs ≡ length ys → zs ≡ ys → IsLeastUpper (BelowState below) (state_where b xs) (Knows ys) (Knows zs)
  meets_first true xs ys zs off size is = absurd (cc)
  meets_first false xs ys zs off size is = joins_to (Unreached (length xs)) (Knows ys) (Knows zs) size (ap Knows is)

  -- what passes, if anything does, to a block that is reached
  pub passes_on : (b : Bool) (xs : List K) (r : Bool) (ys zs : List K) → b ≡ true → length xs ≡ length ys → zs ≡ (if r then joined_each rules.joined xs ys else xs) → IsLeastUpper (BelowState below) (state_where b xs) (state_where r ys) (state_where b zs)
  passes_on true xs true ys zs on size is = joins_to (Knows xs) (Knows ys) (Knows zs) size (ap Knows is)
  passes_on true xs false ys zs on size is = joins_to (Knows xs) (Unreached (length ys)) (Knows zs) size (ap Knows is)
  passes_on false xs r ys zs on size is = absurd (cc)

  -- the same where it was not reached
  pub passes_first : (b : Bool) (xs : List K) (r : Bool) (ys : List K) → b ≡ false → length xs ≡ length ys → IsLeastUpper (BelowState below) (state_where b xs) (state_where r ys) (state_where r ys)
  passes_first false xs true ys off size = joins_to (Unreached (length xs)) (Knows ys) (Knows ys) size refl
  passes_first false xs false ys off size = joins_to (Unreached (length xs)) (Unreached (length ys)) (Unreached (length ys)) size refl
  passes_first true xs r ys off size = absurd (cc)

  -- the same of states that are equal
  pub upper_of : (s s' t t' u : NodeState K) → s ≡ s' → t ≡ t' → IsLeastUpper (BelowState below) s t u → IsLeastUpper (BelowState below) s' t' u
  upper_of s s' t t' u left right is = subst (λ x. IsLeastUpper (BelowState below) x t' u) left (subst (λ y. IsLeastUpper (BelowState below) s y u) right is)

  -- nothing passes
  pub passes_none : (s : NodeState K) (m : ℕ) → size_of s ≡ m → IsLeastUpper (BelowState below) s (Unreached m) s
  passes_none (Unreached n) m size = joins_to (Unreached n) (Unreached m) (Unreached n) size (ap Unreached size)
  passes_none (Knows xs) m size = joins_to (Knows xs) (Unreached m) (Knows xs) size refl

  -- the same of two states of blocks
  pub other_none : (s : NodeState K) (b : Bool) (xs : List K) (t : NodeState K) → b ≡ false → state_where b xs ≡ t → size_of s ≡ size_of t → IsLeastUpper (BelowState below) s t s
  other_none s true xs t off is size = absurd (cc)
  other_none s false xs t off is size = subst (λ u. IsLeastUpper (BelowState below) s u s) is (passes_none s (length xs) (size ∙ sym (ap size_of is)))

  module _ {along : Along K} (laws : AlongLaws below along) where
    -- nothing passes from a node that is not reached
    none_along : (o : Option Node) (slot n : ℕ) → along_at along o slot (Unreached n) ≡ Unreached n
    none_along None slot n = refl
    none_along (Some node) slot n = laws.unreached node slot n

    -- nothing passes through a list of nodes that is not reached
    none_through : (nodes : List Node) (list : List ℕ) (n : ℕ) → through_nodes along nodes list (Unreached n) ≡ Unreached n
    none_through nodes [] n = refl
    none_through nodes (m ∷ list) n = ap (through_nodes along nodes list) (none_along (slice_get nodes m) 0 n) ∙ none_through nodes list n

    -- nor out of a block that is not
    none_out : (nodes : List Node) (list : List ℕ) (slot n : ℕ) → out_of along nodes list slot (Unreached n) ≡ Unreached n
    none_out nodes list slot n =
        ap (along_at along (slice_get nodes (last_of list)) slot) (none_through nodes (take (length list - 1) list) n) ∙ none_along (slice_get nodes (last_of list)) slot n

    -- nor from a block whose state says so
    pub pushes_none : (nodes : List Node) (list : List ℕ) (slot : ℕ) (s : NodeState K) (b : Bool) (xs : List K) (t : NodeState K) → b ≡ false → state_where b xs ≡ t → size_of s ≡ size_of t
        → IsLeastUpper (BelowState below) s (out_of along nodes list slot t) s
    pushes_none nodes list slot s true xs t off is size = absurd (cc)
    pushes_none nodes list slot s false xs t off is size =
        subst (λ u. IsLeastUpper (BelowState below) s u s) (sym (none_out nodes list slot (length xs)) ∙ ap (out_of along nodes list slot) is) (passes_none s (length xs) (size ∙ sym (ap size_of is)))

    -- what comes to the last node of a block speaks of as many variables
    pub through_long : (nodes : List Node) (list : List ℕ) (r : Bool) (ys : List K) (s : NodeState K) → state_where r ys ≡ through_nodes along nodes list s → length ys ≡ size_of s
    through_long nodes list r ys s is = sym (long r) ∙ ap size_of is ∙ through_size laws nodes list s
      where
        long : (r : Bool) → size_of (state_where r ys) ≡ length ys
        long true = refl
        long false = refl

    -- what leaves a block speaks of as many variables
    pub leaves_long : (nodes : List Node) (list : List ℕ) (slot : ℕ) (r : Bool) (ys : List K) (s : NodeState K) → state_where r ys ≡ out_of along nodes list slot s → length ys ≡ size_of s
    leaves_long nodes list slot r ys s is = sym (long r) ∙ ap size_of is ∙ sized (slice_get nodes (last_of list)) ∙ through_size laws nodes (take (length list - 1) list) s
      where
        long : (r : Bool) → size_of (state_where r ys) ≡ length ys
        long true = refl
        long false = refl

        sized : (o : Option Node) → size_of (along_at along o slot (through_nodes along nodes (take (length list - 1) list) s)) ≡ size_of (through_nodes along nodes (take (length list - 1) list) s)
        sized None = refl
        sized (Some node) = laws.sized node slot _

-- how many are known of a block
pub kept_long : {K : Type 0} (b : Bool) (xs : List K) (s : NodeState K) → state_where b xs ≡ s → length xs ≡ size_of s
kept_long true xs s is = ap size_of is
kept_long false xs s is = ap size_of is

-- which has the state that is known
pub known_is : {K : Type 0} (b : Bool) (xs : List K) (s : NodeState K) → b ≡ true → state_where b xs ≡ s → Knows xs ≡ s
known_is true xs s on is = is
known_is false xs s on is = absurd (cc)

-- whether the state of a reached block changed
pub known_same : {K : Type 0} (b : Bool) (xs zs : List K) (r : Bool) → b ≡ true → ((r ≡ false) ↔ (zs ≡ xs)) → (r ≡ false) ↔ (state_where b zs ≡ state_where b xs)
known_same true xs zs r on same = (λ off. ap Knows (same.0 off), λ e. same.1 (cc))
known_same false xs zs r on same = absurd (cc)

-- and whether that of another did
pub first_same : {K : Type 0} (b : Bool) (xs zs : List K) (r : Bool) → b ≡ false → length zs ≡ length xs → (r ≡ false) ↔ (state_where r zs ≡ state_where b xs)
first_same true xs zs r off size = absurd (cc)
first_same false xs zs true off size = (λ e. absurd (cc), λ e. absurd (cc))
first_same false xs zs false off size = (λ _. ap Unreached size, λ _. refl)

-- nothing passes along an edge along which a node passes nothing, of a block of which it is the last
pub out_none : {K : Type 0} {below : K → K → Type 0} (rules : Rules K) (shared : ℕ) (received : List ℕ) (laws : AlongLaws below (passed_along rules shared received)) (nodes : List Node) (list : List ℕ) (slot : ℕ) (s : NodeState K) (node : Node) → slice_get nodes (last_of list) ≡ Some node
    → ((known : List K) → passes rules node slot known ≡ false) → Unreached (size_of s) ≡ out_of (passed_along rules shared received) nodes list slot s
out_none {K = K} rules shared received laws nodes list slot s node here none =
    let along = passed_along rules shared received in
    let t = through_nodes along nodes (take (length list - 1) list) s in
    sym (ap (λ o. along_at along o slot t) here ∙ from t ∙ ap Unreached (through_size laws nodes (take (length list - 1) list) s))
  where
    from : (t : NodeState K) → passed_along rules shared received node slot t ≡ Unreached (size_of t)
    from (Unreached n) = refl
    from (Knows known) = ap (λ b. if b then Knows (known_after rules shared received node slot known) else Unreached (length known)) (none known)
