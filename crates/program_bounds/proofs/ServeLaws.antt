-- One unit that is served: what is known stays surer than all that serves, where nothing is raised it serves the unit, and
-- units that are not marked then are served.
use Rattle.std.proofs.Common.{◌≡◌, ◌≢◌, ℕ, zero, suc, ◌+◌, ◌<◌, Bool, true, false, inl, inr, List, [], ◌∷◌, length, map, slice_get, slice_set, Option, Some, Vec, option_map, refl, sym, ap, ◌∙◌, subst, arith}
use Rattle.std.proofs.lemmas.List.{get_or-set_other, length-append, length-map, length-set}
use Rattle.std.proofs.lemmas.List.FromFn.{length-map-range_with_len}
use Rattle.std.proofs.lemmas.Option.{same_Some, slice_get_within}
use Rattle.std.proofs.lemmas.Bool.{cases_eq}
use Rattle.fix_solve.specs.Pointwise.{Pointwise}
use Rattle.node_list.specs.Lists.{list_at}
use Rattle.mir_base.specs.Frames.{shared_vars}
use Rattle.mir_base.specs.declared.instructions.Operand.{Operand}
use Rattle.mir_base.specs.declared.instructions.Rhs.TheVariants.{Plain}
use Rattle.flow_graph.specs.declared.nodes.Node.{Node}
use Rattle.flow_graph.specs.declared.nodes.Node.TheVariants.{Start, Skip, Assign, Print, Guard, Call, Test, Return}
use Rattle.flow_graph.specs.Graphs.{GraphShape}
use Rattle.flow_graph.specs.ListLaws.{set_elsewhere, set_here, some_at}
use Rattle.flow_graph.specs.Numbering.{is_in}
use Rattle.unit_callers.specs.Calling.{AreUnitCallers}
use Rattle.unit_callers.specs.Stale.{is_stale}
use Rattle.bounds.specs.declared.facts.Fact.{Fact}
use Rattle.bounds.specs.BoundRules.{bound_rules}
use Rattle.bounds.specs.BoundRuleLaws.{bound_laws}
use Rattle.bounds.specs.Facts.{BelowFact}
use Rattle.cond_flow.specs.Handing.{AreHanded, handed, handed_at}
use Rattle.cond_flow.specs.Rewritten.{IsMadeWithin}
use Rattle.cond_flow.specs.Rules.{known_at}
use Rattle.cond_flow.specs.StateLaws.{below_trans}
use Rattle.cond_flow.specs.States.{BelowState, NodeState, Unreached, Knows, is_reached}
use Rattle.program_bounds.specs.BoundStacks.{above_known}
use Rattle.program_bounds.specs.Facts.{AreRows, AreServed, AreSurer, IsServed, ProgramFacts, first_facts, row_at, rules_at}
use Rattle.program_bounds.specs.Sweeps.{CanGive, CanGiveAt, FitTogether, GivesTo, HasGiven, HaveGiven, IsProgress, Serves, StaySized}
use Rattle.program_bounds.specs.Stale.{FreshAreServed, RaisedMarked}
use Rattle.program_bounds.proofs.Fresh.{AroundStays, least_kept, made_kept, served_kept}
use Rattle.program_bounds.proofs.LessKnown.{handed_below, less_around, states_less}

-- as many are known as there are globals and operands
handed_long : (shared : ℕ) (operands : List Operand) (ks : List Fact) → length (handed bound_rules shared operands ks) ≡ shared + length operands
handed_long shared operands ks =
    length-append (map (known_at bound_rules ks) (shared_vars shared)) (map (λ a. bound_rules.of_rhs ks (Plain a)) operands)
    ∙ ap (λ n. n + length (map (λ a. bound_rules.of_rhs ks (Plain a)) operands)) (length-map-range_with_len (known_at bound_rules ks) 0 shared)
    ∙ ap (λ n. shared + n) (length-map operands (λ a. bound_rules.of_rhs ks (Plain a)))

-- what is above a state that is reached is reached
reached_above : (s t : NodeState Fact) → BelowState BelowFact s t → is_reached s ≡ true → is_reached t ≡ true
reached_above (Unreached n) t p on = absurd (cc)
reached_above (Knows xs) (Unreached m) p on = absurd p
reached_above (Knows xs) (Knows ys) p on = refl

-- rows that keep their sizes fit still
rows_fit : (graphs : List GraphShape) (count : GraphShape → ℕ) (old new : List (NodeState Fact)) → AreRows graphs count old → StaySized old new → AreRows graphs count new
rows_fit graphs count old new are stay = record { long = stay.0 ∙ are.long; each = λ u graph at. stay.1 u ∙ are.each u graph at }

-- what is told at a node
told_at : {A : Type 0} (all : List (Option (Vec Fact A))) (n : ℕ) (told : Option (List Fact)) → slice_get (map (option_map (λ list. list.items)) all) n ≡ Some told → (given : Option (Vec Fact A)) × (slice_get all n ≡ Some given) × (option_map (λ list. list.items) given ≡ told)
told_at [] n told e = absurd (cc)
told_at (x ∷ all) zero told e = (x, refl, same_Some _ told e)
told_at (x ∷ all) (suc n) told e = told_at all n told e

module _ {A : Type 0} (graphs : List GraphShape) (fit : FitTogether graphs) (u : ℕ) (graph : GraphShape) (at : slice_get graphs u ≡ Some graph) (old : ProgramFacts) (progress : IsProgress graphs old) (own : List Fact) (is_entered : row_at old.entries u ≡ Knows own) (all : List (Option (Vec Fact A))) (are : AreHanded BelowFact (rules_at old u) graph all) where
  -- what is told of the nodes
  abbrev pub told : List (Option (List Fact))
  told = map (option_map (λ list. list.items)) all

  -- what is told of a node is what it hands over
  told_is : (n : ℕ) (node : Node) (given : Option (List Fact)) → slice_get graph.nodes n ≡ Some node → slice_get told n ≡ Some given → given ≡ handed_at (rules_at old u) graph.shared node (are.states n)
  told_is n node given here e = let t = told_at all n given e in sym t.2 ∙ are.each n node here t.0 t.1

  told_long : length told ≡ length graph.nodes
  told_long = length-map all (option_map (λ list. list.items)) ∙ are.long

  -- there are rows for it
  can_at : (n : ℕ) (node : Node) (s : NodeState Fact) → slice_get graph.nodes n ≡ Some node → CanGiveAt node u (handed_at (rules_at old u) graph.shared node s) old
  can_at n (Start next) (Unreached k) here = tt
  can_at n (Skip next) (Unreached k) here = tt
  can_at n (Assign x rhs next) (Unreached k) here = tt
  can_at n (Print a next) (Unreached k) here = tt
  can_at n (Guard test number next) (Unreached k) here = tt
  can_at n (Call into v operands next) (Unreached k) here = tt
  can_at n (Test test taken other) (Unreached k) here = tt
  can_at n (Return a) (Unreached k) here = tt
  can_at n (Start next) (Knows ks) here = tt
  can_at n (Skip next) (Knows ks) here = tt
  can_at n (Assign x rhs next) (Knows ks) here = tt
  can_at n (Print a next) (Knows ks) here = tt
  can_at n (Guard test number next) (Knows ks) here = tt
  can_at n (Call into v operands next) (Knows ks) here =
      let called = fit.calls u graph at n into v operands next here in
      let size = progress.fit.entries.each v called.0 called.1 in
      let shared : graph.shared ≡ called.0.shared = fit.share u graph at ∙ sym (fit.share v called.0 called.1) in
      (omega (arith, slice_get_within graphs v called.0 called.1, progress.fit.entries.long), handed_long graph.shared operands ks ∙ omega (arith, shared, called.2) ∙ sym size)
  can_at n (Test test taken other) (Knows ks) here = tt
  can_at n (Return a) (Knows ks) here =
      (omega (arith, slice_get_within graphs u graph at, progress.fit.backs.long), handed_long graph.shared (a ∷ []) ks ∙ omega arith ∙ sym (progress.fit.backs.each u graph at))

  pub can_give : CanGive graph u told old
  can_give = record {
    long = told_long;
    each = λ n node given here e. subst (λ g. CanGiveAt node u g old) (sym (told_is n node given here e)) (can_at n node (are.states n) here);
  }

  module _ (new : ProgramFacts) (raised : Bool) (gives : GivesTo graph u told (length graph.nodes) old new raised) where
    -- ---- what serves has what is given

    module _ (others : ProgramFacts) (served : AreServed graphs others) where
      below : AreSurer old others
      below = progress.below others served

      entered_too : (facts : List Fact) × (row_at others.entries u ≡ Knows facts) × Pointwise BelowFact own facts
      entered_too = above_known own (row_at others.entries u) (subst (λ s. BelowState BelowFact s (row_at others.entries u)) is_entered (below.entries u))

      unit : IsServed others graph u
      unit = served.units u graph entered_too.0 at entered_too.1

      states_below : (n : ℕ) → n < length graph.nodes → BelowState BelowFact (are.states n) (unit.states n)
      states_below n lt = are.least.least unit.states (states_less old others graph u (less_around old others graph u below) unit.states unit.least.are) n lt

      has_at : (n : ℕ) (node : Node) (facts : List Fact) (s : NodeState Fact) → are.states n ≡ s → slice_get graph.nodes n ≡ Some node → Some facts ≡ handed_at (rules_at old u) graph.shared node s → HasGiven node u facts others
      has_at n node facts (Unreached k) state here e = absurd (cc)
      has_at n (Start next) facts (Knows ks) state here e = tt
      has_at n (Skip next) facts (Knows ks) state here e = tt
      has_at n (Assign x rhs next) facts (Knows ks) state here e = tt
      has_at n (Print a next) facts (Knows ks) state here e = tt
      has_at n (Guard test number next) facts (Knows ks) state here e = tt
      has_at n (Call into v operands next) facts (Knows ks) state here e =
          let lt = slice_get_within graph.nodes n (Call into v operands next) here in
          let theirs = above_known ks (unit.states n) (subst (λ s. BelowState BelowFact s (unit.states n)) state (states_below n lt)) in
          let more = unit.calls n into v operands next theirs.0 here theirs.1 in
          let is = same_Some facts (handed bound_rules graph.shared operands ks) e in
          below_trans bound_laws.order (Knows facts) (Knows (handed bound_rules graph.shared operands theirs.0)) (row_at others.entries v)
          (subst (λ l. Pointwise BelowFact l (handed bound_rules graph.shared operands theirs.0)) (sym is) (handed_below graph.shared operands ks theirs.0 theirs.2)) more
      has_at n (Test test taken other) facts (Knows ks) state here e = tt
      has_at n (Return a) facts (Knows ks) state here e =
          let lt = slice_get_within graph.nodes n (Return a) here in
          let theirs = above_known ks (unit.states n) (subst (λ s. BelowState BelowFact s (unit.states n)) state (states_below n lt)) in
          let more = unit.returns n a theirs.0 here theirs.1 in
          let is = same_Some facts (handed bound_rules graph.shared (a ∷ []) ks) e in
          below_trans bound_laws.order (Knows facts) (Knows (handed bound_rules graph.shared (a ∷ []) theirs.0)) (row_at others.backs u)
          (subst (λ l. Pointwise BelowFact l (handed bound_rules graph.shared (a ∷ []) theirs.0)) (sym is) (handed_below graph.shared (a ∷ []) ks theirs.0 theirs.2)) more

      have_given : HaveGiven graph u told (length graph.nodes) others
      have_given n node facts lt here e = has_at n node facts (are.states n) refl here (told_is n node (Some facts) here e)

      new_below : AreSurer new others
      new_below = gives.least others below have_given

    new_progress : IsProgress graphs new
    new_progress = record {
      fit = record {
        entries = rows_fit graphs (λ graph. graph.shared + length graph.received) old.entries new.entries progress.fit.entries gives.entries;
        backs = rows_fit graphs (λ graph. suc graph.shared) old.backs new.backs progress.fit.backs gives.backs;
        returns = λ v other at'. reached_above (row_at old.backs v) (row_at new.backs v) (gives.rise.backs v) (progress.fit.returns v other at');
      };
      first = λ other at'. below_trans bound_laws.order (Knows (first_facts other.shared (length other.received))) (row_at old.entries 0) (row_at new.entries 0) (progress.first other at') (gives.rise.entries 0);
      below = new_below;
    }

    -- ---- what the unit is served by

    given_at_node : (n : ℕ) (node : Node) (facts : List Fact) → slice_get graph.nodes n ≡ Some node → handed_at (rules_at old u) graph.shared node (are.states n) ≡ Some facts → HasGiven node u facts new
    given_at_node n node facts here e =
        let lt = slice_get_within graph.nodes n node here in
        let there = some_at told n (omega (arith, lt, told_long)) in
        gives.have n node facts lt here (there.1 ∙ ap Some (told_is n node there.0 here there.1 ∙ e))

    -- where as much is known around the unit as before, they serve it
    serves_new : AroundStays old new graph u → IsServed new graph u
    serves_new stays = record {
      states = are.states;
      least = least_kept old new graph u stays are.states are.least;
      calls = λ n into v operands next facts here state. given_at_node n (Call into v operands next) (handed bound_rules graph.shared operands facts) here (ap (handed_at (rules_at old u) graph.shared (Call into v operands next)) state);
      returns = λ n a facts here state. given_at_node n (Return a) (handed bound_rules graph.shared (a ∷ []) facts) here (ap (handed_at (rules_at old u) graph.shared (Return a)) state);
    }

    nothing_raised : new ≡ old → AroundStays old new graph u
    nothing_raised same = record {
      entry = ap (λ (k : ProgramFacts). row_at k.entries u) same;
      backs = λ n into v operands next here. ap (λ (k : ProgramFacts). row_at k.backs v) same;
    }

    pub unit_serves : Serves graphs u old new raised
    unit_serves = record {
      progress = new_progress;
      room = gives.room;
      changes = gives.changes;
      stays = gives.stays;
      served = λ off other facts at' is. subst (λ g. IsServed new g u) (same_Some graph other (sym at ∙ at')) (serves_new (nothing_raised (gives.stays off)));
    }

    -- ---- units that are not marked are served

    module _ (callers : List (List ℕ)) (calling : AreUnitCallers graphs callers) (stale after : List Bool) (kept : List (Option GraphShape)) (bounded : GraphShape) (fresh : FreshAreServed graphs old stale kept) (is_made : IsMadeWithin BelowFact (rules_at old u) graph bounded)
        (marked : RaisedMarked (list_at callers u) u old new (slice_set stale u false) after) where
      -- as much is known around a unit that is not marked
      around_stays : (v : ℕ) (other : GraphShape) → slice_get graphs v ≡ Some other → is_stale after v ≡ false → AroundStays old new other v
      around_stays v other at_v off = record {
        entry = (marked.keeps v off).1;
        backs = λ n into w operands next here. marked.backs v w off (λ e. subst (λ k. is_in v (list_at callers k) ≡ true) e (calling.calls v other n into w operands next (slice_get_within graphs v other at_v) at_v here));
      }

      -- so it is around the unit itself
      self_stays : (v : ℕ) (other : GraphShape) → slice_get graphs v ≡ Some other → is_stale after v ≡ false → v ≡ u → (graph ≡ other) × AroundStays old new graph u
      self_stays v other at_v off e =
          let same : graph ≡ other = same_Some graph other (sym at ∙ ap (slice_get graphs) (sym e) ∙ at_v) in
          (same, subst (λ g. AroundStays old new g u) (sym same) (subst (AroundStays old new other) e (around_stays v other at_v off)))

      -- another unit that is not marked was not stale
      was_fresh : (v : ℕ) → is_stale after v ≡ false → v ≢ u → is_stale stale v ≡ false
      was_fresh v off ne = sym (get_or-set_other stale u v false true ne) ∙ (marked.keeps v off).0

      fresh_served : (v : ℕ) (other : GraphShape) (facts : List Fact) → slice_get graphs v ≡ Some other → row_at new.entries v ≡ Knows facts → is_stale after v ≡ false → IsServed new other v
      fresh_served v other facts at_v is off = elim (cases_eq v u) [
        | inl e ↦ let self = self_stays v other at_v off e in subst (IsServed new other) (sym e) (subst (λ g. IsServed new g u) self.0 (serves_new self.1))
        | inr ne ↦ served_kept old new other v (around_stays v other at_v off) gives.rise (fresh.served v other facts at_v (sym (marked.keeps v off).1 ∙ is) (was_fresh v off ne))
      ]

      fresh_made : (v : ℕ) (other made : GraphShape) → slice_get graphs v ≡ Some other → is_stale after v ≡ false → slice_get (slice_set kept u (Some bounded)) v ≡ Some (Some made) → IsMadeWithin BelowFact (rules_at new v) other made
      fresh_made v other made at_v off there = elim (cases_eq v u) [
        | inl e ↦
            let self = self_stays v other at_v off e in
            let lt : u < length kept = omega (arith, fresh.made_long, slice_get_within graphs u graph at) in
            let both : Some (Some bounded) ≡ Some (Some made) = sym (set_here kept u (Some bounded) lt) ∙ ap (slice_get (slice_set kept u (Some bounded))) (sym e) ∙ there in
            let is : bounded ≡ made = cc in
            subst (λ k. IsMadeWithin BelowFact (rules_at new k) other made) (sym e) (subst (λ g. IsMadeWithin BelowFact (rules_at new u) g made) self.0 (subst (IsMadeWithin BelowFact (rules_at new u) graph) is (made_kept old new graph u self.1 bounded is_made)))
        | inr ne ↦ made_kept old new other v (around_stays v other at_v off) made (fresh.is_made v other made at_v (was_fresh v off ne) (sym (set_elsewhere kept u v (Some bounded) ne) ∙ there))
      ]

      pub unit_fresh : FreshAreServed graphs new after (slice_set kept u (Some bounded))
      unit_fresh = record {
        long = marked.long ∙ length-set stale u false ∙ fresh.long;
        made_long = length-set kept u (Some bounded) ∙ fresh.made_long;
        served = fresh_served;
        is_made = fresh_made;
      }
