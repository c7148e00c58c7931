-- The numbered nodes go in lockstep with the nodes: along a run each variable has the value of its term, for some
-- values of the leaves, so a variable with the term of a right side has its value.
use Rattle.std.proofs.Common.{◌≡◌, inl, inr, ℕ, Bool, true, false, if◌then◌else◌, List, [], ◌∷◌, length, slice_get, ℤ, Option, Some, None, refl, sym, ap, ◌∙◌, subst, arith, le_refl}
use Rattle.mir_base.specs.declared.instructions.Operand.TheVariants.{Var}
use Rattle.mir_base.specs.declared.instructions.Rhs.{Rhs}
use Rattle.mir_base.specs.declared.instructions.Rhs.TheVariants.{Plain}
use Rattle.mir_base.specs.declared.operators.Trap.TheVariants.{ZeroDivisor, Raised}
use Rattle.mir_base.specs.Expressions.{divides, is_movable, rhs_traps, rhs_value, rhs_count}
use Rattle.mir_base.specs.ExpressionLaws.{assign_is, never_traps_where_movable}
use Rattle.mir_base.specs.Frames.{CallEntry, Answer, Values, first_frame, all_zero, shared_values, with_first, with_value, Frame, resumed, Transition, Continues, Traps}
use Rattle.mir_base.specs.SharedLaws.{shared_long}
use Rattle.mir_base.specs.LockstepLaws.{lockstep_same, lockstep_cheaper}
use Rattle.mir_base.specs.Locksteps.{Alike, Lockstep}
use Rattle.mir_base.specs.UnitRuns.{UnitSame, UnitCheaper}
use Rattle.mir_base.specs.Units.{test_holds, at, assigned, assign_transition}
use Rattle.flow_graph.specs.declared.nodes.Node.{Node}
use Rattle.flow_graph.specs.declared.nodes.Node.TheVariants.{Start, Skip, Assign, Print, Guard, Call, Test as TestNode, Return}
use Rattle.flow_graph.specs.Graphs.{node_succs, succs_of, slot_of}
use Rattle.flow_graph.specs.MachineLaws.{graph_hands}
use Rattle.flow_graph.specs.Machines.{received_from, node_transition, graph_code, graph_machine}
use Rattle.flow_graph.specs.Paths.{HasEdge}
use Rattle.flow_graph.specs.RedirectLaws.{resumed_place}
use Rattle.flow_graph.specs.RunFrames.{IsRunFrame}
use Rattle.flow_graph.specs.RunFrameLaws.{run_frame_related}
use Rattle.value_number.specs.Terms.{Term, Opaque, Terms, rhs_term, movable_term, movable_rhs_term, with_term, node_terms, terms_after}
use Rattle.value_number.specs.Roots.{FromRoot, terms_before}
use Rattle.value_number.specs.Numbered.{IsHolder, numbered_node, AreNumbered}
use Rattle.value_number.specs.NumberedLaws.{none_too}
use Rattle.value_number.specs.RootLaws.{one_way, root_or_not, only_enters, not_on_its_way}
use Rattle.value_number.proofs.Values.{Given, with_given, term_value, HaveTerms, rhs_has, has_assigned, has_called, has_initial, avoids_before, given_here, has_given}
use Rattle.flow_graph.specs.BoundLaws.{slot_leads}

-- at this place some values of the leaves give the values of the variables
record Termed (shared : ℕ) (nodes : List Node) (place : ℕ) (values : Values) : Type 0 where
  root : ℕ
  before : List ℕ
  path : FromRoot nodes root place before
  first : Values
  given : Given
  has : HaveTerms (terms_before shared nodes root before) first given values

-- the two frames are equal, and their variables have the values of their terms
record Together (shared : ℕ) (nodes : List Node) (f g : Frame) : Type 0 where
  same : g ≡ f
  termed : Termed shared nodes f.place f.values

-- the same after a node
record TermedAfter (shared : ℕ) (nodes : List Node) (n root : ℕ) (before : List ℕ) (node : Node) (values : Values) : Type 0 where
  first : Values
  given : Given
  has : HaveTerms (node_terms shared n node (terms_before shared nodes root before)) first given values

module _ (shared : ℕ) (nodes : List Node) where
  -- on to a successor: at a root terms begin anew, at another node they go on
  enters : (n root : ℕ) (before : List ℕ) (node : Node) (slot next : ℕ) (values : Values) → slice_get nodes n ≡ Some node → slice_get (node_succs node) slot ≡ Some next → FromRoot nodes root n before → TermedAfter shared nodes n root before node values → Termed shared nodes next values
  enters n root before node slot next values here leads path after =
      let edge : HasEdge nodes n next = (slot, subst (λ o. slice_get (succs_of o) slot ≡ Some next) (sym here) leads) in
      elim (root_or_not nodes next) as (λ _. Termed shared nodes next values) [
        | inl on ↦ record { root = next; before = []; path = (refl, on); first = values; given = after.given; has = has_initial after.given values next }
        | inr off ↦ record {
          root = root;
          before = n ∷ before;
          path = (off, only_enters nodes n next off edge, path);
          first = after.first;
          given = after.given;
          has = subst (λ o. HaveTerms (terms_after shared n o (terms_before shared nodes root before)) after.first after.given values) (sym here) after.has;
        }
      ]

-- a truth value that chooses Some is true
chosen_true : {A : Type 0} (b : Bool) (t u : A) → (if b then Some t else None) ≡ Some u → (b ≡ true) × (t ≡ u)
chosen_true true t u e = (refl, cc)
chosen_true false t u e = cc

module _ (shared : ℕ) (received : List ℕ) (nodes : List Node) where
  -- the relation of the lockstep
  abbrev S : Frame → Frame → Type 0
  S = Together shared nodes

  -- equal frames with such terms are related
  together : (next : Frame) → Termed shared nodes next.place next.values → S next next
  together next termed = record { same = refl; termed = termed }

  module _ (f : Frame) (root : ℕ) (before : List ℕ) (path : FromRoot nodes root f.place before) (first : Values) (given : Given) (has : HaveTerms (terms_before shared nodes root before) first given f.values) where
    -- the terms before the node
    abbrev terms : Terms
    terms = terms_before shared nodes root before

    -- values that the node gives change no term
    has_more : (w : Values) → HaveTerms terms first (with_given f.place w given) f.values
    has_more w = has_given terms first given f.values f.place w (avoids_before shared nodes f.place root before (not_on_its_way nodes f.place root before path)) has

    -- after an assignment
    after_assign : (x : ℕ) (rhs : Rhs) (b : Bool) → divides rhs ≡ b
        → HaveTerms (with_term x (if b then Opaque f.place x else rhs_term terms rhs) terms) first (if b then with_given f.place (λ y. rhs_value f.values rhs) given else given) (with_value x (rhs_value f.values rhs) f.values)
    after_assign x rhs true is = has_assigned terms first (with_given f.place (λ y. rhs_value f.values rhs) given) f.values x (Opaque f.place x) (rhs_value f.values rhs) (has_more (λ y. rhs_value f.values rhs)) (given_here first given f.place (λ y. rhs_value f.values rhs) x)
    after_assign x rhs false is = has_assigned terms first given f.values x (rhs_term terms rhs) (rhs_value f.values rhs) has (sym (rhs_has terms first given f.values rhs has))

    -- so at the next node the variables have the values of their terms
    termed_assign : (x : ℕ) (rhs : Rhs) (next : ℕ) → slice_get nodes f.place ≡ Some (Assign x rhs next) → Termed shared nodes next (with_value x (rhs_value f.values rhs) f.values)
    termed_assign x rhs next here =
        enters shared nodes f.place root before (Assign x rhs next) 0 next (with_value x (rhs_value f.values rhs) f.values) here refl path
        (record { first = first; given = if divides rhs then with_given f.place (λ y. rhs_value f.values rhs) given else given; has = after_assign x rhs (divides rhs) refl })

    -- what an assignment does, by whether it traps
    abbrev assigning : Rhs → ℕ → ℤ → ℕ → Bool → Transition
    assigning rhs x value next b = if b then Traps ZeroDivisor 1 else Continues (rhs_count rhs) (assigned x value next f)

    -- the same assignment on both sides
    assign_alike : (x : ℕ) (rhs : Rhs) (next : ℕ) → slice_get nodes f.place ≡ Some (Assign x rhs next) → (b : Bool) → Alike S (assigning rhs x (rhs_value f.values rhs) next b) (assigning rhs x (rhs_value f.values rhs) next b)
    assign_alike x rhs next here true = refl
    assign_alike x rhs next here false = (le_refl (rhs_count rhs), together (assigned x (rhs_value f.values rhs) next f) (termed_assign x rhs next here))

    -- the holder has the value of the right side
    holder_alike : (x v : ℕ) (rhs : Rhs) (next : ℕ) → slice_get nodes f.place ≡ Some (Assign x rhs next) → is_movable rhs ≡ true → terms v ≡ rhs_term terms rhs
        → Alike S (assign_transition x rhs next f) (assign_transition x (Plain (Var v)) next f)
    holder_alike x v rhs next here movable same =
        let value : f.values v ≡ rhs_value f.values rhs = has.is v ∙ ap (term_value first given) same ∙ rhs_has terms first given f.values rhs has in
        let left : assign_transition x rhs next f ≡ Continues (rhs_count rhs) (assigned x (rhs_value f.values rhs) next f) = assign_is x rhs next f ∙ ap (assigning rhs x (rhs_value f.values rhs) next) (never_traps_where_movable f.values rhs movable) in
        let right : assign_transition x (Plain (Var v)) next f ≡ Continues 0 (assigned x (rhs_value f.values rhs) next f) = ap (λ u. Continues 0 (assigned x u next f)) value in
        subst (λ t. Alike S t (assign_transition x (Plain (Var v)) next f)) (sym left)
        (subst (λ t. Alike S (Continues (rhs_count rhs) (assigned x (rhs_value f.values rhs) next f)) t) (sym right)
        (omega arith, together (assigned x (rhs_value f.values rhs) next f) (termed_assign x rhs next here)))

    -- a node that changes no variable
    termed_on : (node : Node) (slot next : ℕ) → slice_get nodes f.place ≡ Some node → slice_get (node_succs node) slot ≡ Some next → node_terms shared f.place node terms ≡ terms → Termed shared nodes next f.values
    termed_on node slot next here leads stay = enters shared nodes f.place root before node slot next f.values here leads path (record { first = first; given = given; has = subst (λ ts. HaveTerms ts first given f.values) (sym stay) has })

    -- after a call
    after_call : (into : Option ℕ) (a : Answer) (next : ℕ) → length a.globals ≡ shared
        → HaveTerms (node_terms shared f.place (Call into 0 [] next) terms) first (with_given f.place (resumed into a (at next f)).values given) (resumed into a (at next f)).values
    after_call into a next long = has_called shared f.place terms first given f.values has a long into (avoids_before shared nodes f.place root before (not_on_its_way nodes f.place root before path))

    -- a trap is raised on both sides
    guard_alike : (number next : ℕ) → Termed shared nodes next f.values → (b : Bool) → Alike S (if b then Traps (Raised number) 0 else Continues 0 (at next f)) (if b then Traps (Raised number) 0 else Continues 0 (at next f))
    guard_alike number next on true = refl
    guard_alike number next on false = (le_refl 0, together (at next f) on)

    -- a node that stays as it is
    stays_alike : (node : Node) → slice_get nodes f.place ≡ Some node → Alike S (node_transition shared received (Some node) f) (node_transition shared received (Some node) f)
    stays_alike (Start next) here =
        let values = received_from 0 received f.arguments (with_first (shared_values shared f.values) all_zero) in (
          le_refl 0,
          together (record { place = next; arguments = f.arguments; values = values })
              (enters shared nodes f.place root before (Start next) 0 next values here refl path (record { first = values; given = given; has = has_initial given values f.place })),
        )
    stays_alike (Skip next) here = (le_refl 0, together (at next f) (termed_on (Skip next) 0 next here refl refl))
    stays_alike (Assign x rhs next) here = subst (λ t. Alike S t t) (sym (assign_is x rhs next f)) (assign_alike x rhs next here (rhs_traps f.values rhs))
    stays_alike (Print a next) here = (refl, together (at next f) (termed_on (Print a next) 0 next here refl refl))
    stays_alike (Guard test number next) here = guard_alike number next (termed_on (Guard test number next) 0 next here refl refl) (test_holds f.values test)
    stays_alike (Call into unit operands next) here = (
      refl,
      refl,
      λ a one. together (resumed into a (at next f))
          (subst (λ p. Termed shared nodes p (resumed into a (at next f)).values) (sym (resumed_place into a (at next f)))
          (enters shared nodes f.place root before (Call into unit operands next) 0 next (resumed into a (at next f)).values here refl path
          (record { first = first; given = with_given f.place (resumed into a (at next f)).values given; has = after_call into a next (one.globals.long ∙ shared_long shared f.values) }))),
    )
    stays_alike (TestNode test taken other) here = (
      le_refl 0,
      together (at (if test_holds f.values test then taken else other) f)
          (termed_on (TestNode test taken other) (slot_of (test_holds f.values test)) (if test_holds f.values test then taken else other) here (slot_leads taken other (test_holds f.values test)) refl),
    )
    stays_alike (Return a) here = refl

    -- a node and what it becomes
    node_alike : (count : ℕ) (node : Node) (holder : Option ℕ) → slice_get nodes f.place ≡ Some node → IsHolder count terms (movable_term terms node) holder → Alike S (node_transition shared received (Some node) f) (node_transition shared received (Some (numbered_node node holder)) f)
    node_alike count node None here is = stays_alike node here
    node_alike count (Start next) (Some v) here is = stays_alike (Start next) here
    node_alike count (Skip next) (Some v) here is = stays_alike (Skip next) here
    node_alike count (Assign x rhs next) (Some v) here is = by_term (movable_rhs_term terms rhs) refl is
      where
        by_term : (o : Option Term) → movable_rhs_term terms rhs ≡ o → IsHolder count terms o (Some v) → Alike S (assign_transition x rhs next f) (assign_transition x (Plain (Var v)) next f)
        by_term None e h = cc
        by_term (Some t) e h = let chosen = chosen_true (is_movable rhs) (rhs_term terms rhs) t e in holder_alike x v rhs next here chosen.0 (h.1 ∙ sym chosen.1)
    node_alike count (Print a next) (Some v) here is = stays_alike (Print a next) here
    node_alike count (Guard test number next) (Some v) here is = stays_alike (Guard test number next) here
    node_alike count (Call into unit operands next) (Some v) here is = stays_alike (Call into unit operands next) here
    node_alike count (TestNode test taken other) (Some v) here is = stays_alike (TestNode test taken other) here
    node_alike count (Return a) (Some v) here is = stays_alike (Return a) here

  -- at the start each variable has its leaf
  starts : (entry : CallEntry) → S (first_frame entry) (first_frame entry)
  starts entry = record { same = refl; termed = record { root = 0; before = []; path = (refl, refl); first = with_first entry.globals all_zero; given = λ n. all_zero; has = has_initial (λ n. all_zero) (with_first entry.globals all_zero) 0 } }

  -- ---- the nodes as they are

  itself_at : (f : Frame) → Termed shared nodes f.place f.values → (o : Option Node) → slice_get nodes f.place ≡ o → Alike S (node_transition shared received o f) (node_transition shared received o f)
  itself_at f t None here = refl
  itself_at f t (Some node) here = stays_alike f t.root t.before t.path t.first t.given t.has node here

  -- the nodes go in lockstep with themselves
  with_itself : Lockstep (graph_machine shared received nodes) (graph_machine shared received nodes) S
  with_itself = record {
    receives = refl;
    shared = refl;
    hands = graph_hands shared received nodes;
    starts = λ entry is. starts entry;
    steps = λ f g r. subst (λ h. Alike S (graph_code shared received nodes f) (graph_code shared received nodes h)) (sym r.same) (itself_at f r.termed (slice_get nodes f.place) refl);
  }

  -- so wherever a run comes, variables with one term have one value
  pub one_value : (n root : ℕ) (before : List ℕ) → FromRoot nodes root n before → (x y : ℕ) → terms_before shared nodes root before x ≡ terms_before shared nodes root before y → (f : Frame) → IsRunFrame (graph_machine shared received nodes) f → f.place ≡ n → f.values x ≡ f.values y
  one_value n root before path x y same f of_run at =
      let t = (run_frame_related (graph_machine shared received nodes) (graph_machine shared received nodes) S with_itself f of_run).1.termed in
      let way = one_way nodes n root t.root before t.before path (subst (λ m. FromRoot nodes t.root m t.before) at t.path) in
      let terms : terms_before shared nodes root before ≡ terms_before shared nodes t.root t.before = ap (λ r. terms_before shared nodes r before) way.0 ∙ ap (terms_before shared nodes t.root) way.1 in
      let here : terms_before shared nodes t.root t.before x ≡ terms_before shared nodes t.root t.before y = subst (λ (ts : Terms). ts x ≡ ts y) terms same in
      t.has.is x ∙ ap (term_value t.first t.given) here ∙ sym (t.has.is y)

  -- ---- the nodes and what they become

  module _ (count : ℕ) (result : List Node) (numbered : AreNumbered shared count nodes result) where
    -- at a place, where there may be no node
    at_place : (f : Frame) → Termed shared nodes f.place f.values → (o : Option Node) → slice_get nodes f.place ≡ o → Alike S (node_transition shared received o f) (node_transition shared received (slice_get result f.place) f)
    at_place f t None here = subst (λ o. Alike S (node_transition shared received None f) (node_transition shared received o f)) (sym (none_too shared count nodes result numbered f.place here)) refl
    at_place f t (Some node) here =
        let to = numbered.each f.place node here in
        let same = one_way nodes f.place t.root to.holds.root t.before to.holds.before t.path to.holds.path in
        let terms : terms_before shared nodes t.root t.before ≡ terms_before shared nodes to.holds.root to.holds.before = ap (λ r. terms_before shared nodes r t.before) same.0 ∙ ap (terms_before shared nodes to.holds.root) same.1 in
        subst (λ o. Alike S (node_transition shared received (Some node) f) (node_transition shared received o f)) (sym to.is)
        (node_alike f to.holds.root to.holds.before to.holds.path t.first t.given (subst (λ ts. HaveTerms ts t.first t.given f.values) terms t.has) count node to.holder here to.holds.is)

    -- each two steps are alike
    steps : (f g : Frame) → S f g → Alike S (graph_code shared received nodes f) (graph_code shared received result g)
    steps f g r = subst (λ h. Alike S (graph_code shared received nodes f) (graph_code shared received result h)) (sym r.same) (at_place f r.termed (slice_get nodes f.place) refl)

    -- the two go in lockstep
    in_lockstep : Lockstep (graph_machine shared received nodes) (graph_machine shared received result) S
    in_lockstep = record {
      receives = refl;
      shared = refl;
      hands = graph_hands shared received nodes;
      starts = λ entry is. starts entry;
      steps = steps;
    }

    -- the numbered nodes do the same
    pub numbered_same : UnitSame (graph_machine shared received nodes) (graph_machine shared received result)
    numbered_same = lockstep_same (graph_machine shared received nodes) (graph_machine shared received result) S in_lockstep

    -- and evaluate no more operators
    pub numbered_cheaper : UnitCheaper (graph_machine shared received nodes) (graph_machine shared received result)
    numbered_cheaper = lockstep_cheaper (graph_machine shared received nodes) (graph_machine shared received result) S in_lockstep
