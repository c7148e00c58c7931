-- What the calls of a unit give, as they are noted one after the other.
use Rattle.std.proofs.Common.{◌≡◌, ◌⊎◌, ◌↔◌, inl, inr, ℕ, zero, suc, ◌+◌, ◌<◌, ◌≤◌, Bool, true, false, if◌then◌else◌, nat_eq, List, [], ◌∷◌, ◌++◌, flat_map, length, map, replicate, slice_get, slice_set, ℤ, Option, Some, None, option_map, refl, sym, ap, ◌∙◌, subst, arith, true≢false}
use Rattle.std.proofs.lemmas.Bool.{cases_eq, cases_lt, eq-eqb, eqb-true}
use Rattle.std.proofs.lemmas.List.{length-replicate, length-set}
use Rattle.std.proofs.lemmas.Option.{slice_get-map, slice_get_past, slice_get_within}
use Rattle.mir_base.specs.declared.instructions.Operand.{Operand}
use Rattle.mir_base.specs.declared.instructions.Operand.TheVariants.{Var, Const}
use Rattle.flow_graph.specs.declared.nodes.Node.{Node}
use Rattle.flow_graph.specs.declared.nodes.Node.TheVariants.{Start, Skip, Assign, Print, Guard, Call, Test, Return}
use Rattle.flow_graph.specs.Graphs.{GraphShape}
use Rattle.flow_graph.specs.ListLaws.{set_elsewhere, set_here, some_at}
use Rattle.flow_graph.specs.Numbering.{is_in}
use Rattle.constant_args.specs.declared.gathering.NotedCalls.{NotedCalls}
use Rattle.constant_args.specs.declared.states.ArgumentState.{ArgumentState}
use Rattle.constant_args.specs.declared.states.ArgumentState.TheVariants.{Open, Always, Varies}
use Rattle.constant_args.specs.ConstantArguments.{AlwaysGive, AreConstants, CallSite, GivesConstant, PassesOn, assigned_var}
use Rattle.constant_args.specs.Gathered.{AreAllConstants, AreNotedBefore, EachGives, IsCallBefore, IsNotedBy, IsStateBy, IsPassed, JoinsOperand, JoinsArguments, JoinsArgument, NotesSite, NotesNode, constant_in, kept_var, kept_vars, passed_to}

-- ---- what is passed on

-- a variable that is told is one that no node assigns
kept_told : (assigned received : List ℕ) (i x : ℕ) → (slice_get (map (kept_var assigned) received) i ≡ Some (Some x)) ↔ ((slice_get received i ≡ Some x) × (is_in x assigned ≡ false))
kept_told assigned [] i x = (λ e. cc, λ both. let e = both.0 in cc)
kept_told assigned (y ∷ received) zero x = go (is_in y assigned) refl
  where
    go : (b : Bool) → is_in y assigned ≡ b → (Some (if b then None else Some y) ≡ Some (Some x)) ↔ ((Some y ≡ Some x) × (is_in x assigned ≡ false))
    go true e = (λ told. cc, λ both. absurd (let same : y ≡ x = (let first = both.0 in cc) in true≢false (sym e ∙ ap (λ z. is_in z assigned) same ∙ both.1)))
    go false e = (
      λ told. let same : y ≡ x = cc in (ap Some same, ap (λ z. is_in z assigned) (sym same) ∙ e),
      λ both. ap Some both.0,
    )
kept_told assigned (y ∷ received) (suc i) x = kept_told assigned received i x

-- what a call passes on
passed_told : (u i : ℕ) (site : CallSite) → IsPassed site.operands (passed_to u site.caller (kept_vars site.graph)) i ↔ PassesOn u i site
passed_told u i site = go (nat_eq u site.caller) refl
  where
    go : (b : Bool) → nat_eq u site.caller ≡ b → IsPassed site.operands (if b then kept_vars site.graph else []) i ↔ PassesOn u i site
    go true e = (
      λ p. let told = (kept_told (flat_map assigned_var site.graph.nodes) site.graph.received i p.variable).0 p.is_kept in record { own = sym (eqb-true u site.caller e); variable = p.variable; received = told.0; kept = told.1; operand = p.operand },
      λ p. record { variable = p.variable; is_kept = (kept_told (flat_map assigned_var site.graph.nodes) site.graph.received i p.variable).1 (p.received, p.kept); operand = p.operand },
    )
    go false e = (λ p. absurd (let none = p.is_kept in cc), λ p. absurd (true≢false (sym (eq-eqb u site.caller (sym p.own)) ∙ e)))

-- by cases
passed_or_not : (operands : List Operand) (kept : List (Option ℕ)) (i : ℕ) → IsPassed operands kept i ⊎ (IsPassed operands kept i → ⊥)
passed_or_not operands kept i = go (slice_get kept i) refl (slice_get operands i) refl
  where
    go : (k : Option (Option ℕ)) → slice_get kept i ≡ k → (o : Option Operand) → slice_get operands i ≡ o → IsPassed operands kept i ⊎ (IsPassed operands kept i → ⊥)
    go None at o at' = inr (λ p. let e = sym at ∙ p.is_kept in cc)
    go (Some None) at o at' = inr (λ p. let e = sym at ∙ p.is_kept in cc)
    go (Some (Some x)) at None at' = inr (λ p. let e = sym at' ∙ p.operand in cc)
    go (Some (Some x)) at (Some (Const c)) at' = inr (λ p. let e = sym at' ∙ p.operand in cc)
    go (Some (Some x)) at (Some (Var y)) at' = elim (cases_eq x y) [
      | inl same ↦ inl (record { variable = x; is_kept = at; operand = at' ∙ ap (λ z. Some (Var z)) (sym same) })
      | inr apart ↦ inr (λ p.
          let one : Some (Some x) ≡ Some (Some p.variable) = sym at ∙ p.is_kept in
          let other : Some (Var y) ≡ Some (Var p.variable) = sym at' ∙ p.operand in
          let first : x ≡ p.variable = cc in
          let last : y ≡ p.variable = cc in
          apart (first ∙ sym last))
    ]

-- a constant is not passed on
not_both : (u i : ℕ) (c : ℤ) (site : CallSite) → GivesConstant site i c → PassesOn u i site → ⊥
not_both u i c site gives passes = let e = sym gives ∙ passes.operand in cc

-- ---- one call

-- where there is no call, none is given
pub given_none : (IsCall : CallSite → Type 0) (u : ℕ) (calls : NotedCalls) → calls.called ≡ false → calls.arguments.items ≡ [] → ((site : CallSite) → IsCall site → ⊥) → IsNotedBy IsCall u calls
given_none IsCall u calls off empty out = record {
  uncalled = λ e. (empty, out);
  called = λ e. absurd (true≢false (sym e ∙ off));
}

-- the same calls give the same
pub given_same : (IsCall IsOther : CallSite → Type 0) (u : ℕ) (calls : NotedCalls) → ((site : CallSite) → IsCall site → IsOther site) → ((site : CallSite) → IsOther site → IsCall site)
    → IsNotedBy IsCall u calls → IsNotedBy IsOther u calls
given_same IsCall IsOther u calls forth back is = record {
  uncalled = λ e. let none = is.uncalled e in (none.0, λ site call. none.1 site (back site call));
  called = λ e i.
      let state = is.called e i in
      record {
        open_each = λ o site call. state.open_each o site (back site call);
        always_some = λ c o. let some = state.always_some c o in (some.0, forth some.0 some.1, some.2);
        always_each = λ c o site call. state.always_each c o site (back site call);
        varies = λ closed never c each. state.varies closed never c (λ site call. each site (forth site call));
      };
}

module _ (IsCall IsMore : CallSite → Type 0) (u : ℕ) (new : CallSite) (is_new : IsMore new) (stays : (site : CallSite) → IsCall site → IsMore site) (old_or_new : (site : CallSite) → IsMore site → IsCall site ⊎ (new ≡ site)) where
  -- one argument, in this state before
  state_more : (i : ℕ) (a b : ArgumentState) → JoinsArgument new.operands (passed_to u new.caller (kept_vars new.graph)) i a b → IsStateBy IsCall u i (Some a) → IsStateBy IsMore u i (Some b)
  state_more i a b joins is = elim (passed_or_not new.operands (passed_to u new.caller (kept_vars new.graph)) i) [
    | inl passed ↦
        let same : Some b ≡ Some a = ap Some (joins.passed passed) in
        let passes = (passed_told u i new).0 passed in
        record {
          open_each = λ o site call. elim (old_or_new site call) [ inl old ↦ is.open_each (sym same ∙ o) site old | inr one ↦ subst (PassesOn u i) one passes ];
          always_some = λ c o. let some = is.always_some c (sym same ∙ o) in (some.0, stays some.0 some.1, some.2);
          always_each = λ c o site call. elim (old_or_new site call) [ inl old ↦ is.always_each c (sym same ∙ o) site old | inr one ↦ inr (subst (PassesOn u i) one passes) ];
          varies = λ closed never c each. is.varies (λ o. closed (same ∙ o)) (λ d o. never d (same ∙ o)) c (λ site call. each site (stays site call));
        }
    | inr counts ↦
        let j = joins.joined counts in
        record {
          open_each = λ o site call. absurd (j.closed (let e : b ≡ Open = cc in e));
          always_some = λ c o. let e : b ≡ Always c = cc in (new, is_new, ((j.gives c).0 e).0);
          always_each = λ c o site call.
              let e : b ≡ Always c = cc in
              let both = (j.gives c).0 e in
              elim (old_or_new site call) [
                | inl old ↦ elim both.1 [ inl opened ↦ inr (is.open_each (ap Some opened) site old) | inr always ↦ is.always_each c (ap Some always) site old ]
                | inr one ↦ inl (subst (λ s. GivesConstant s i c) one both.0)
              ];
          varies = λ closed never c each. elim (each new is_new) [
            | inl gives ↦ varies a refl j never c gives each
            | inr passes ↦ counts ((passed_told u i new).1 passes)
          ];
        }
  ]
    where
      varies : (state : ArgumentState) → a ≡ state → JoinsOperand a (slice_get new.operands i) b → ((c : ℤ) → Some b ≡ Some (Always c) → ⊥) → (c : ℤ) → GivesConstant new i c → EachGives IsMore u i c → ⊥
      varies Open e j never c gives each = never c (ap Some ((j.gives c).1 (gives, inl e)))
      varies (Always d) e j never c gives each =
          let some = is.always_some d (ap Some e) in
          elim (each some.0 (stays some.0 some.1)) [
            | inl other ↦
                let both : Some (Const d) ≡ Some (Const c) = sym some.2 ∙ other in
                let same : d ≡ c = cc in
                never c (ap Some ((j.gives c).1 (gives, inr (e ∙ ap Always same))))
            | inr passes ↦ not_both u i d some.0 some.2 passes
          ]
      varies Varies e j never c gives each = is.varies (λ o. let off : Some Varies ≡ Some Open = ap Some (sym e) ∙ o in cc) (λ d o. let off : Some Varies ≡ Some (Always d) = ap Some (sym e) ∙ o in cc) c (λ site call. each site (stays site call))

  -- there is no state behind the last argument
  past_more : (i : ℕ) → IsStateBy IsCall u i None → IsStateBy IsMore u i None
  past_more i is = record {
    open_each = λ o. cc;
    always_some = λ c o. cc;
    always_each = λ c o. cc;
    varies = λ closed never c each. is.varies closed never c (λ site call. each site (stays site call));
  }

  -- nor before the first call
  past_first : (i : ℕ) → slice_get new.operands i ≡ None → IsStateBy IsMore u i None
  past_first i none = record {
    open_each = λ o. cc;
    always_some = λ c o. cc;
    always_each = λ c o. cc;
    varies = λ closed never c each. elim (each new is_new) [
      | inl gives ↦ (let e : None ≡ Some (Const c) = sym none ∙ gives in cc)
      | inr passes ↦ (let e : None ≡ Some (Var passes.variable) = sym none ∙ passes.operand in cc)
    ];
  }

  -- of no calls
  state_first : ((site : CallSite) → IsCall site → ⊥) → (i : ℕ) → IsStateBy IsCall u i (Some Open)
  state_first none i = record {
    open_each = λ o site call. absurd (none site call);
    always_some = λ c o. cc;
    always_each = λ c o. cc;
    varies = λ closed never c each. closed refl;
  }

  -- one call more
  module _ (a b : NotedCalls) (notes : NotesSite new.operands (passed_to u new.caller (kept_vars new.graph)) a b) (is : IsNotedBy IsCall u a) where
    -- all arguments, in these states before
    states_more : (before : List ArgumentState) → JoinsArguments (length before) new.operands (passed_to u new.caller (kept_vars new.graph)) before b.arguments.items
        → ((i : ℕ) (state : ArgumentState) → slice_get before i ≡ Some state → IsStateBy IsCall u i (Some state)) → ((i : ℕ) → length before ≤ i → IsStateBy IsMore u i None)
        → (i : ℕ) → IsStateBy IsMore u i (slice_get b.arguments.items i)
    states_more before joins inside past i = elim (cases_lt i (length before)) [
      | inl lt ↦
          let old = some_at before i lt in
          let now = some_at b.arguments.items i (omega (arith, lt, joins.long)) in
          subst (IsStateBy IsMore u i) (sym now.1) (state_more i old.0 now.0 (joins.joined i old.0 now.0 lt old.1 now.1) (inside i old.0 old.1))
      | inr ge ↦ subst (IsStateBy IsMore u i) (sym (slice_get_past b.arguments.items i (omega (arith, ge, joins.long)))) (past i ge)
    ]

    -- by whether there was a call
    arguments_more : (called : Bool) → a.called ≡ called → JoinsArguments (length (if called then a.arguments.items else a.arguments.items ++ replicate (length new.operands) Open)) new.operands (passed_to u new.caller (kept_vars new.graph)) (if called then a.arguments.items else a.arguments.items ++ replicate (length new.operands) Open) b.arguments.items
        → (i : ℕ) → IsStateBy IsMore u i (slice_get b.arguments.items i)
    arguments_more true on joins = states_more a.arguments.items joins
        (λ i state at. subst (IsStateBy IsCall u i) at (is.called on i))
        (λ i ge. past_more i (subst (IsStateBy IsCall u i) (slice_get_past a.arguments.items i ge) (is.called on i)))
    arguments_more false off joins =
        let none = is.uncalled off in
        let opened : a.arguments.items ++ replicate (length new.operands) Open ≡ replicate (length new.operands) Open = ap (λ l. l ++ replicate (length new.operands) Open) none.0 in
        states_more (replicate (length new.operands) Open) (subst (λ l. JoinsArguments (length l) new.operands (passed_to u new.caller (kept_vars new.graph)) l b.arguments.items) opened joins)
        (λ i state at. subst (λ h. IsStateBy IsCall u i (Some h)) (all_open (length new.operands) i state at) (state_first none.1 i))
        (λ i ge. past_first i (slice_get_past new.operands i (let long = length-replicate (length new.operands) Open in omega (arith, long, ge))))
      where
        all_open : (n i : ℕ) (state : ArgumentState) → slice_get (replicate n Open) i ≡ Some state → Open ≡ state
        all_open zero i state at = cc
        all_open (suc n) zero state at = cc
        all_open (suc n) (suc i) state at = all_open n i state at

    -- so of all that is given
    pub given_more : IsNotedBy IsMore u b
    given_more = record { uncalled = λ e. absurd (true≢false (sym notes.called ∙ e)); called = λ e. arguments_more a.called refl notes.joins }

-- ---- one node

-- a node calls the unit
record CallsUnit (node : Node) (u : ℕ) : Type 0 where
  into : Option ℕ
  operands : List Operand
  next : ℕ
  is : node ≡ Call into u operands next

-- it does not
abbrev NoCallOf : Node → ℕ → Type 0
NoCallOf node u = (into : Option ℕ) (operands : List Operand) (next : ℕ) → node ≡ Call into u operands next → ⊥

-- by cases
calls_or_not : (node : Node) (u : ℕ) → CallsUnit node u ⊎ NoCallOf node u
calls_or_not (Start to) u = inr (λ into operands next e. cc)
calls_or_not (Skip to) u = inr (λ into operands next e. cc)
calls_or_not (Assign x rhs to) u = inr (λ into operands next e. cc)
calls_or_not (Print a to) u = inr (λ into operands next e. cc)
calls_or_not (Guard test number to) u = inr (λ into operands next e. cc)
calls_or_not (Call o v l to) u = elim (cases_eq v u) [
  | inl same ↦ inl (record { into = o; operands = l; next = to; is = ap (λ k. Call o k l to) same })
  | inr apart ↦ inr (λ into operands next e. apart cc)
]
calls_or_not (Test test taken other) u = inr (λ into operands next e. cc)
calls_or_not (Return a) u = inr (λ into operands next e. cc)

-- a call of this unit with this graph
same_site : (w : ℕ) (graph : GraphShape) (site : CallSite) → graph ≡ site.graph → w ≡ site.caller → record { caller = w; graph = graph; operands = site.operands } ≡ site
same_site w graph site one caller =
    ap (λ (g : GraphShape). record { caller = w; graph = g; operands = site.operands }) one ∙ ap (λ (v : ℕ). record { caller = v; graph = site.graph; operands = site.operands }) caller

module _ (graphs : List GraphShape) (w n : ℕ) (graph : GraphShape) (node : Node) (at : slice_get graphs w ≡ Some graph) (here : slice_get graph.nodes n ≡ Some node) where
  -- calls before the node are before the next
  before_next : (u : ℕ) (site : CallSite) → IsCallBefore graphs w n u site → IsCallBefore graphs w (n + 1) u site
  before_next u site call = record {
    number = call.number;
    into = call.into;
    next = call.next;
    graph_at = call.graph_at;
    here = call.here;
    before = elim call.before [ inl lt ↦ inl lt | inr both ↦ inr (both.0, let lt = both.1 in omega (arith, lt)) ];
  }

  -- its own call
  abbrev own_site : List Operand → CallSite
  own_site operands = record { caller = w; graph = graph; operands = operands }

  -- is before the next too
  own_call : (u : ℕ) (call : CallsUnit node u) → IsCallBefore graphs w (n + 1) u (own_site call.operands)
  own_call u call = record { number = n; into = call.into; next = call.next; graph_at = at; here = here ∙ ap Some call.is; before = inr (refl, omega arith) }

  -- and there is no other
  before_or_own : (u : ℕ) (site : CallSite) → IsCallBefore graphs w (n + 1) u site
      → IsCallBefore graphs w n u site ⊎ ((o : Option ℕ) × (next : ℕ) × (node ≡ Call o u site.operands next) × (own_site site.operands ≡ site))
  before_or_own u site call = elim call.before [
    | inl lt ↦ inl (with_before (inl lt))
    | inr both ↦ elim (cases_lt call.number n) [
      | inl lt ↦ inl (with_before (inr (both.0, lt)))
      | inr ge ↦
          let lt = both.1 in
          let number : call.number ≡ n = omega (arith, lt, ge) in
          let graphs_are : Some graph ≡ Some site.graph = sym at ∙ ap (slice_get graphs) (sym both.0) ∙ call.graph_at in
          let one : graph ≡ site.graph = cc in
          let nodes_are : Some node ≡ Some (Call call.into u site.operands call.next) = sym here ∙ ap (slice_get graph.nodes) (sym number) ∙ ap (λ (g : GraphShape). slice_get g.nodes call.number) one ∙ call.here in
          let node_is : node ≡ Call call.into u site.operands call.next = cc in
          inr (call.into, call.next, node_is, same_site w graph site one (sym both.0))
    ]
  ]
    where
      with_before : (site.caller < w) ⊎ ((site.caller ≡ w) × (call.number < n)) → IsCallBefore graphs w n u site
      with_before before = record { number = call.number; into = call.into; next = call.next; graph_at = call.graph_at; here = call.here; before = before }

  -- one node more
  pub node_noted : (old new : List NotedCalls) → NotesNode node w (kept_vars graph) old new → AreNotedBefore graphs w n old → AreNotedBefore graphs w (n + 1) new
  node_noted old new notes are = record { long = notes.long ∙ are.long; each = λ u b at_b. of u b at_b (calls_or_not node u) }
    where
      of : (u : ℕ) (b : NotedCalls) → slice_get new u ≡ Some b → CallsUnit node u ⊎ NoCallOf node u → IsNotedBy (IsCallBefore graphs w (n + 1) u) u b
      of u b at_b (inl call) =
          let lt = slice_get_within new u b at_b in
          let a = some_at old u (omega (arith, lt, notes.long)) in
          given_more (IsCallBefore graphs w n u) (IsCallBefore graphs w (n + 1) u) u (own_site call.operands) (own_call u call) (before_next u)
          (λ site other. elim (before_or_own u site other) [
            | inl before ↦ inl before
            | inr own ↦
                let both : Call call.into u call.operands call.next ≡ Call own.0 u site.operands own.1 = sym call.is ∙ own.2 in
                let same : call.operands ≡ site.operands = cc in
                inr (ap own_site same ∙ own.3)
          ])
          a.0 b (notes.noted call.into u call.operands call.next a.0 b call.is a.1 at_b) (are.each u a.0 a.1)
      of u b at_b (inr none) =
          given_same (IsCallBefore graphs w n u) (IsCallBefore graphs w (n + 1) u) u b (before_next u)
          (λ site other. elim (before_or_own u site other) [ inl before ↦ before | inr own ↦ absurd (none own.0 site.operands own.1 own.2) ])
          (are.each u b (sym (notes.others u none) ∙ at_b))

-- ---- one graph

-- before the first node of the next graph
pub graph_noted : (graphs : List GraphShape) (w : ℕ) (graph : GraphShape) (noted : List NotedCalls) → slice_get graphs w ≡ Some graph
    → AreNotedBefore graphs w (length graph.nodes) noted → AreNotedBefore graphs (w + 1) 0 noted
graph_noted graphs w graph noted at are = record {
  long = are.long;
  each = λ u calls at_u. given_same (IsCallBefore graphs w (length graph.nodes) u) (IsCallBefore graphs (w + 1) 0 u) u calls (forth u) (back u) (are.each u calls at_u);
}
  where
    forth : (u : ℕ) (site : CallSite) → IsCallBefore graphs w (length graph.nodes) u site → IsCallBefore graphs (w + 1) 0 u site
    forth u site call = record {
      number = call.number;
      into = call.into;
      next = call.next;
      graph_at = call.graph_at;
      here = call.here;
      before = inl (elim call.before [ inl lt ↦ omega (arith, lt) | inr both ↦ let same = both.0 in omega (arith, same) ]);
    }

    back : (u : ℕ) (site : CallSite) → IsCallBefore graphs (w + 1) 0 u site → IsCallBefore graphs w (length graph.nodes) u site
    back u site call = record {
      number = call.number;
      into = call.into;
      next = call.next;
      graph_at = call.graph_at;
      here = call.here;
      before = elim call.before [
        | inl lt ↦ elim (cases_lt site.caller w) [
          | inl low ↦ inl low
          | inr ge ↦
              let same : site.caller ≡ w = omega (arith, lt, ge) in
              let both : Some site.graph ≡ Some graph = sym call.graph_at ∙ ap (slice_get graphs) same ∙ at in
              let one : site.graph ≡ graph = cc in
              inr (same, subst (λ (g : GraphShape). call.number < length g.nodes) one (slice_get_within site.graph.nodes call.number (Call call.into u site.operands call.next) call.here))
        ]
        | inr both ↦ absurd (let lt = both.1 in omega (arith, lt))
      ];
    }

-- ---- the first and the last

-- nothing is given before the first graph
pub none_noted : (graphs : List GraphShape) (noted : List NotedCalls) → length noted ≡ length graphs
    → ((u : ℕ) (calls : NotedCalls) → slice_get noted u ≡ Some calls → (calls.called ≡ false) × (calls.arguments.items ≡ [])) → AreNotedBefore graphs 0 0 noted
none_noted graphs noted long none = record {
  long = long;
  each = λ u calls at. let one = none u calls at in given_none (IsCallBefore graphs 0 0 u) u calls one.0 one.1 (λ site call. elim call.before [ inl lt ↦ omega (arith, lt) | inr both ↦ let lt = both.1 in omega (arith, lt) ]);
}

-- a constant that an argument always is, as the code tells it
constant_is : (o : Option ArgumentState) (c : ℤ) → (option_map constant_in o ≡ Some (Some c)) ↔ (o ≡ Some (Always c))
constant_is None c = (λ e. cc, λ e. cc)
constant_is (Some Open) c = (λ e. cc, λ e. cc)
constant_is (Some (Always d)) c = (λ e. let same : d ≡ c = cc in ap (λ k. Some (Always k)) same, λ e. let same : d ≡ c = cc in ap (λ k. Some (Some k)) same)
constant_is (Some Varies) c = (λ e. cc, λ e. cc)

-- the state of an argument of a unit that is not the first tells whether it is always a constant
state_always : (CallsOf : ℕ → CallSite → Type 0) (u i : ℕ) (c : ℤ) (o : Option ArgumentState) → 1 ≤ u → IsStateBy (CallsOf u) u i o → (o ≡ Some (Always c)) ↔ AlwaysGive CallsOf u i c
state_always CallsOf u i c o later is = (λ e. record { later = later; some = is.always_some c e; each = is.always_each c e }, λ always. back o refl always)
  where
    back : (p : Option ArgumentState) → o ≡ p → AlwaysGive CallsOf u i c → o ≡ Some (Always c)
    back None e always = absurd (is.varies (λ q. let off = sym e ∙ q in cc) (λ d q. let off = sym e ∙ q in cc) c always.each)
    back (Some Open) e always = absurd (not_both u i c always.some.0 always.some.2 (is.open_each e always.some.0 always.some.1))
    back (Some (Always d)) e always =
        let other = is.always_some d e in
        elim (always.each other.0 other.1) [
          | inl gives ↦
              let both : Some (Const d) ≡ Some (Const c) = sym other.2 ∙ gives in
              let same : d ≡ c = cc in
              e ∙ ap (λ k. Some (Always k)) same
          | inr passes ↦ absurd (not_both u i d other.0 other.2 passes)
        ]
    back (Some Varies) e always = absurd (is.varies (λ q. let off = sym e ∙ q in cc) (λ d q. let off = sym e ∙ q in cc) c always.each)

-- so what the calls of such a unit give are its constants
given_constants : (CallsOf : ℕ → CallSite → Type 0) (u : ℕ) (calls : NotedCalls) → 1 ≤ u → IsNotedBy (CallsOf u) u calls → AreConstants CallsOf u (map constant_in calls.arguments.items)
given_constants CallsOf u calls later is i c = by calls.called refl
  where
    told : slice_get (map constant_in calls.arguments.items) i ≡ option_map constant_in (slice_get calls.arguments.items i)
    told = slice_get-map constant_in calls.arguments.items i

    by : (called : Bool) → calls.called ≡ called → (slice_get (map constant_in calls.arguments.items) i ≡ Some (Some c)) ↔ AlwaysGive CallsOf u i c
    by false off =
        let none = is.uncalled off in (
          λ known. absurd (let e : None ≡ Some (Some c) = ap (λ l. slice_get (map constant_in l) i) (sym none.0) ∙ known in cc),
          λ always. absurd (none.1 always.some.0 always.some.1),
        )
    by true on =
        let state = state_always CallsOf u i c (slice_get calls.arguments.items i) later (is.called on i) in
        let constant = constant_is (slice_get calls.arguments.items i) c in
        (λ known. state.0 (constant.0 (sym told ∙ known)), λ always. told ∙ constant.1 (state.1 always))

-- of the first no argument is always a constant
none_constants : (CallsOf : ℕ → CallSite → Type 0) (states : List ArgumentState) → states ≡ [] → AreConstants CallsOf 0 (map constant_in states)
none_constants CallsOf states empty i c = (
  λ known. absurd (let e : None ≡ Some (Some c) = ap (λ l. slice_get (map constant_in l) i) (sym empty) ∙ known in cc),
  λ always. absurd (let later = always.later in omega (arith, later)),
)

-- for each unit, once what is given the first is forgotten
pub all_constants : (graphs : List GraphShape) (noted : List NotedCalls) (none : NotedCalls) → 0 < length graphs → none.arguments.items ≡ []
    → AreNotedBefore graphs (length graphs) 0 noted → AreAllConstants graphs (slice_set noted 0 none)
all_constants graphs noted none some empty are = record {
  long = length-set noted 0 none ∙ are.long;
  each = λ u calls at. of u calls at (cases_eq u 0);
}
  where
    later : (u : ℕ) → (u ≡ 0 → ⊥) → 1 ≤ u
    later zero apart = absurd (apart refl)
    later (suc u) apart = omega arith

    of : (u : ℕ) (calls : NotedCalls) → slice_get (slice_set noted 0 none) u ≡ Some calls → (u ≡ 0) ⊎ (u ≡ 0 → ⊥) → AreConstants (IsCallBefore graphs (length graphs) 0) u (map constant_in calls.arguments.items)
    of u calls at (inl first) =
        let both : Some none ≡ Some calls = sym (set_here noted 0 none (omega (arith, some, are.long))) ∙ ap (slice_get (slice_set noted 0 none)) (sym first) ∙ at in
        let same : none ≡ calls = cc in
        subst (λ v. AreConstants (IsCallBefore graphs (length graphs) 0) v (map constant_in calls.arguments.items)) (sym first)
        (none_constants (IsCallBefore graphs (length graphs) 0) calls.arguments.items (ap (λ (g : NotedCalls). g.arguments.items) (sym same) ∙ empty))
    of u calls at (inr apart) = given_constants (IsCallBefore graphs (length graphs) 0) u calls (later u apart) (are.each u calls (sym (set_elsewhere noted 0 u none apart) ∙ at))
