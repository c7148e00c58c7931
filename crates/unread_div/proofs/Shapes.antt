-- The graph without the divisions that nothing reads keeps what the graph has: it does the same, evaluates no more
-- operators, makes no other calls, has its edges, and each other division.
use Rattle.std.proofs.Common.{◌≡◌, ℕ, ◌&&◌, Bool, true, false, List, length, slice_get, ℤ, pos, Option, Some, None, option_map, inl, inr, refl, sym, ap, ◌∙◌, subst, arith, w64, zero-add}
use Rattle.std.proofs.lemmas.Bool.{cases_Bool, true≢false}
use Rattle.std.proofs.lemmas.Int.{ints, int_wrap_fits}
use Rattle.std.proofs.lemmas.Option.{same_Some, slice_get_within}
use Rattle.mir_base.specs.declared.instructions.Operand.{Operand}
use Rattle.mir_base.specs.declared.instructions.Operand.TheVariants.{Var, Const}
use Rattle.mir_base.specs.declared.instructions.Rhs.{Rhs}
use Rattle.mir_base.specs.declared.instructions.Rhs.TheVariants.{Binary}
use Rattle.mir_base.specs.declared.operators.Op.{Op}
use Rattle.mir_base.specs.declared.operators.RelOp.TheVariants.{Eq}
use Rattle.mir_base.specs.NumberLaws.{zero_fits}
use Rattle.mir_base.specs.Expressions.{rhs_traps}
use Rattle.mir_base.specs.Frames.{Frame, Values}
use Rattle.mir_base.specs.Numbers.{is_dividing, wrapped}
use Rattle.mir_base.specs.UnitRuns.{UnitCheaper, UnitSame}
use Rattle.mir_base.specs.Units.{operand_value}
use Rattle.flow_graph.specs.declared.nodes.Node.{Node}
use Rattle.flow_graph.specs.declared.nodes.Node.TheVariants.{Assign}
use Rattle.flow_graph.specs.Calls.{NodesCall}
use Rattle.flow_graph.specs.Edges.{IsSplit}
use Rattle.flow_graph.specs.Graphs.{GraphShape, IsGraph, succs_of}
use Rattle.flow_graph.specs.KeepsLaws.{same_globals}
use Rattle.flow_graph.specs.Machines.{graph_machine, machine_of}
use Rattle.flow_graph.specs.Passes.{GraphKeeps, KeepsSplit, KeepsSuccs}
use Rattle.flow_graph.specs.RunFrames.{IsRunFrame}
use Rattle.graph_edit.specs.ChangeLaws.{changed_not, changed_succs}
use Rattle.graph_edit.specs.InsertionGraphs.{rewritten_calls}
use Rattle.graph_edit.specs.Insertions.{changed, rewritten_nodes}
use Rattle.graph_edit.specs.InsertionSplit.{rewritten_split}
use Rattle.cond_flow.specs.Holding.{HoldsAt, StatesHold}
use Rattle.cond_flow.specs.KnownBefore.{state_of_known}
use Rattle.cond_flow.specs.Rules.{AreHeld, Rules}
use Rattle.bounds.specs.declared.facts.Fact.{Fact}
use Rattle.bounds.specs.declared.facts.Fact.TheVariants.{Fixed}
use Rattle.bounds.specs.BoundRules.{bound_rules}
use Rattle.bounds.specs.Edges.{fact_of}
use Rattle.bounds.specs.Facts.{BelowFact, Bounds}
use Rattle.bounds.specs.NarrowingLaws.{may_holds}
use Rattle.path_laws.specs.Says.{off_says}
use Rattle.dead_code.specs.Liveness.{IsLiveAfter}
use Rattle.dead_code.specs.Pruned.{pruned_from, removed_if}
use Rattle.dead_code.specs.PrunedLaws.{pruned_get, pruned_rewritten}
use Rattle.dead_code.specs.Removal.{removing}
use Rattle.zero_flow.specs.declared.facts.ZeroFact.{ZeroFact}
use Rattle.zero_flow.specs.EdgeLaws.{of_holds}
use Rattle.zero_flow.specs.ZeroFacts.{BelowZeroFact, ZeroFactHolds, allows, is_zero}
use Rattle.zero_flow.specs.ZeroRules.{zero_rules}
use Rattle.zero_flow.specs.Zeros.{zero_of}
use Rattle.unread_div.specs.Unread.{IsDeadDivision, IsNeverZero, IsRuledOut, IsUnread, IsUnreadAt, KeepsReadDivisions, bounds_have_zero, may_be_nought_before}
use Rattle.unread_div.proofs.Agreement.{MayGo, lessened_cheaper, lessened_same}

-- ---- what is never 0

-- a fact that does not allow 0 holds of numbers that are not 0
other_holds : (fact : ZeroFact) (t : Bool) → allows fact true ≡ false → allows fact t ≡ true → t ≡ false
other_holds fact true off on = absurd (true≢false (sym on ∙ off))
other_holds fact false off on = refl

-- what is not 0 by which variables are is not 0 where that holds
zeros_never : (size : ℕ) (known : Option (List ZeroFact)) (b : Operand) (values : Values)
    → may_be_nought_before known b ≡ false
    → HoldsAt ZeroFactHolds zero_rules (state_of_known size known) values → is_zero (operand_value values b) ≡ false
zeros_never size None b values off held = absurd held
zeros_never size (Some known) b values off held =
    other_holds (zero_of known b) (is_zero (operand_value values b)) off (of_holds known values b held)

-- the bounds of an operand hold of its value
bounds_of_held : (facts : List Fact) (b : Operand) (values : Values) → AreHeld Bounds bound_rules facts values
    → Bounds (fact_of facts b) (operand_value values b)
bounds_of_held facts (Var x) values held = held.each x
bounds_of_held facts (Const c) values held = record { low = omega (arith, ints); high = omega (arith, ints) }

-- and those of 0 hold of 0
bounds_of_zero : Bounds (Fixed (pos 0)) (pos 0)
bounds_of_zero =
    let same : wrapped (pos 0) ≡ pos 0 = int_wrap_fits w64 (pos 0) zero_fits in
    record { low = omega (arith, ints, same); high = omega (arith, ints, same) }

-- what is not 0 by the bounds is not 0 where they hold
bounds_never : (size : ℕ) (known : Option (List Fact)) (b : Operand) (values : Values)
    → bounds_have_zero known b ≡ false
    → HoldsAt Bounds bound_rules (state_of_known size known) values → is_zero (operand_value values b) ≡ false
bounds_never size None b values off held = absurd held
bounds_never size (Some facts) b values off held =
    (off_says (is_zero (operand_value values b))).1
    (λ on. true≢false (sym (may_holds Eq (fact_of facts b) (Fixed (pos 0)) (operand_value values b) (pos 0) (bounds_of_held facts b values held) bounds_of_zero on) ∙ off))

-- where the least states hold in runs, what may not be 0 by them is not 0 in a run that comes there
ruled_out : {K : Type 0} (below : K → K → Type 0) (holds : K → ℤ → Type 0) (rules : Rules K)
    (may_be : Option (List K) → Operand → Bool) (graph : GraphShape) → StatesHold below holds rules graph
    → ((size : ℕ) (known : Option (List K)) (b : Operand) (values : Values) → may_be known b ≡ false
    → HoldsAt holds rules (state_of_known size known) values → is_zero (operand_value values b) ≡ false)
    → (n : ℕ) (b : Operand) → IsRuledOut below rules may_be graph n b → (f : Frame) → IsRunFrame (machine_of graph) f
    → f.place ≡ n → is_zero (operand_value f.values b) ≡ false
ruled_out below holds rules may_be graph hold never n b out f of_run there =
    let is = out.is_known in
    never (length graph.vars) out.known b f.values out.never
    (subst (λ s. HoldsAt holds rules s f.values) (ap is.states there ∙ is.here) (hold is.states is.least f of_run))

module _ (graph : GraphShape) (hold : StatesHold BelowZeroFact ZeroFactHolds zero_rules graph)
    (bounds_hold : StatesHold BelowFact Bounds bound_rules graph) where
  -- so it is of both
  never_zero : (n : ℕ) (b : Operand) → IsNeverZero graph n b → (f : Frame) → IsRunFrame (machine_of graph) f
      → f.place ≡ n → is_zero (operand_value f.values b) ≡ false
  never_zero n b (inl out) =
      ruled_out BelowZeroFact ZeroFactHolds zero_rules may_be_nought_before graph hold zeros_never n b out
  never_zero n b (inr out) =
      ruled_out BelowFact Bounds bound_rules bounds_have_zero graph bounds_hold bounds_never n b out

  -- a number that is found not to be 0 is not 0
  is_other : (z : ℤ) → is_zero z ≡ false → ¬ (z ≡ pos 0)
  is_other z off e = true≢false (sym (ap is_zero e) ∙ off)

  -- an unread division is one node
  unread_is : (n x : ℕ) (rhs : Rhs) (next : ℕ) → slice_get graph.nodes n ≡ Some (Assign x rhs next)
      → (d : IsDeadDivision graph n)
      → (d.var ≡ x) × (Binary d.op d.left d.right ≡ rhs)
  unread_is n x rhs next here d =
      let same : Assign d.var (Binary d.op d.left d.right) d.next ≡ Assign x rhs next = same_Some (Assign d.var (Binary d.op d.left d.right) d.next) (Assign x rhs next) (sym d.is ∙ here) in
      (cc, cc)

  module _ (is_graph : IsGraph graph.vars graph.received graph.nodes) (lessened : GraphShape)
      (p : IsUnread graph lessened) where
    abbrev gone : ℕ → Bool
    gone = p.gone

    abbrev after : List Node
    after = pruned_from gone 0 graph.nodes

    -- what is flagged goes
    goes : (n x : ℕ) (rhs : Rhs) (next : ℕ) → gone n ≡ true → slice_get graph.nodes n ≡ Some (Assign x rhs next)
        → IsUnreadAt graph n
    goes n x rhs next on here = (p.gone_are n (slice_get_within graph.nodes n (Assign x rhs next) here)).0 on

    may_go : MayGo graph p.gone
    may_go = record {
      safe = λ f x rhs next of_run on here.
          let u = goes f.place x rhs next on here in
          let d = u.division in
          let safe : is_zero (operand_value f.values d.right) ≡ false = never_zero f.place d.right u.safe f of_run refl in
          sym (ap (rhs_traps f.values) (unread_is f.place x rhs next here d).1) ∙ ap (λ b. is_dividing d.op && b) safe ∙ ap (λ b. b && false) d.divides;
      dead = λ n x rhs next on here.
          let d = (goes n x rhs next on here).division in
          subst (λ y. ¬ (IsLiveAfter graph y n)) (unread_is n x rhs next here d).0 d.dead;
    }

    -- ---- what is kept

    nodes_are : lessened.nodes ≡ after
    nodes_are = ap (λ (g : GraphShape). g.nodes) p.is

    received_is : graph.received ≡ lessened.received
    received_is = sym (ap (λ (g : GraphShape). g.received) p.is)

    shared_is : graph.shared ≡ lessened.shared
    shared_is = sym (ap (λ (g : GraphShape). g.shared) p.is)

    machine_is : graph_machine graph.shared graph.received after ≡ machine_of lessened
    machine_is =
        ap (λ (l : List Node). graph_machine graph.shared graph.received l) (sym nodes_are)
        ∙ ap (λ (l : List ℕ). graph_machine graph.shared l lessened.nodes) received_is
        ∙ ap (λ n. graph_machine n lessened.received lessened.nodes) shared_is

    -- as a rewriting it puts nothing and removes these
    raw_is : rewritten_nodes (removing (λ n. removed_if (p.gone n))) graph.nodes ≡ lessened.nodes
    raw_is = pruned_rewritten gone graph.nodes ∙ sym nodes_are

    pub lessened_keeps : GraphKeeps graph lessened
    lessened_keeps = record {
      name = ap (λ (g : GraphShape). g.name) p.is;
      globals = same_globals graph lessened (sym shared_is) (ap (λ (g : GraphShape). g.vars) p.is);
      same = subst (UnitSame (machine_of graph)) machine_is (lessened_same graph is_graph.can gone may_go);
      cheaper = subst (UnitCheaper (machine_of graph)) machine_is (lessened_cheaper graph is_graph.can gone may_go);
      calls =
          λ called count c. rewritten_calls (removing (λ n. removed_if (p.gone n))) graph.nodes called count (subst (λ l. NodesCall l called count) (sym raw_is) c);
    }

    pub lessened_split : KeepsSplit graph lessened
    lessened_split split =
        subst IsSplit raw_is (rewritten_split (removing (λ n. removed_if (p.gone n))) graph.nodes (λ m slot s edge. (is_graph.can.succs m slot s edge).1) split)

    -- what stands at a place
    node_is : (n : ℕ)
        → slice_get lessened.nodes n ≡ option_map (changed (removed_if (gone n))) (slice_get graph.nodes n)
    node_is n =
        ap (λ (l : List Node). slice_get l n) nodes_are ∙ pruned_get gone graph.nodes 0 n
        ∙ ap (λ m. option_map (changed (removed_if (gone m))) (slice_get graph.nodes n)) (zero-add n)

    pub lessened_succs : KeepsSuccs graph lessened
    lessened_succs n = ap succs_of (node_is n) ∙ at (slice_get graph.nodes n)
      where
        at : (o : Option Node) → succs_of (option_map (changed (removed_if (gone n))) o) ≡ succs_of o
        at None = refl
        at (Some node) = changed_succs (removed_if (gone n)) node

    pub lessened_divides : KeepsReadDivisions graph lessened
    lessened_divides n x op left right of = elim (cases_Bool (gone n)) [
      | inl on ↦
          let u = goes n x (Binary op left right) of.next on of.is in
          let same = unread_is n x (Binary op left right) of.next of.is u.division in
          let same_right : u.division.right ≡ right = right_of u.division.op op u.division.left left u.division.right right same.1 in
          inr (record {
            dead = subst (λ y. ¬ (IsLiveAfter graph y n)) same.0 u.division.dead;
            safe =
                λ f of_run there. is_other (operand_value f.values right) (never_zero n right (subst (IsNeverZero graph n) same_right u.safe) f of_run there);
          })
      | inr off ↦
          inl (record {
            next = of.next;
            is =
                node_is n ∙ ap (λ b. option_map (changed (removed_if b)) (slice_get graph.nodes n)) off ∙ ap (option_map (changed (removed_if false))) of.is ∙ ap Some (changed_not (Assign x (Binary op left right) of.next));
            may_trap = of.may_trap;
          })
    ]
      where
        right_of : (o o' : Op) (a a' b b' : Operand) → Binary o a b ≡ Binary o' a' b' → b ≡ b'
        right_of o o' a a' b b' e = cc
