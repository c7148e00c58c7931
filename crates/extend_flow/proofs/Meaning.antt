-- At each frame of a run the extended nodes do what the nodes of the graph do: an extension gives its source, where it
-- keeps all numbers that the source may be.
use Rattle.std.proofs.Common.{◌≡◌, ℕ, ◌<◌, Bool, true, false, if◌then◌else◌, inl, inr, ℤ, pos, List, length, slice_get, Option, Some, None, option_map, refl, sym, ap, ◌∙◌, subst, arith, int_le}
use Rattle.std.specs.Prelude.{◌≤ℤ◌}
use Rattle.std.proofs.lemmas.Bool.{and_parts}
use Rattle.std.proofs.lemmas.Int.{ints}
use Rattle.std.proofs.lemmas.Option.{slice_get_within}
use Rattle.mir_base.specs.declared.operators.Op.{Op}
use Rattle.mir_base.specs.declared.operators.Op.TheVariants.{Shl}
use Rattle.mir_base.specs.declared.instructions.Operand.TheVariants.{Var, Const}
use Rattle.mir_base.specs.declared.instructions.Rhs.{Rhs}
use Rattle.mir_base.specs.declared.instructions.Rhs.TheVariants.{Plain, Binary}
use Rattle.mir_base.specs.Expressions.{rhs_traps, rhs_value}
use Rattle.mir_base.specs.Frames.{Frame, Values}
use Rattle.mir_base.specs.Numbers.{value_of_op, wrapped}
use Rattle.flow_graph.specs.declared.nodes.Node.{Node}
use Rattle.flow_graph.specs.declared.nodes.Node.TheVariants.{Start, Skip, Assign, Print, Guard, Call, Test, Return}
use Rattle.flow_graph.specs.Graphs.{GraphShape}
use Rattle.flow_graph.specs.Machines.{graph_code, machine_of, node_transition}
use Rattle.flow_graph.specs.RunFrames.{IsRunFrame}
use Rattle.held_assign.specs.CheapRuns.{AsCheap, BecomesAsCheap, RunsAsCheap, as_cheap, assigns_cheap, becomes_itself}
use Rattle.held_assign.specs.HeldValues.{HeldValuesAgree}
use Rattle.bounds.specs.declared.facts.Fact.{Fact}
use Rattle.bounds.specs.BoundRules.{bound_rules}
use Rattle.bounds.specs.Edges.{fact_at}
use Rattle.bounds.specs.Facts.{BelowFact, Bounds, high_of, low_of}
use Rattle.cond_flow.specs.Holding.{HoldsAt, StatesHold}
use Rattle.cond_flow.specs.KnownBefore.{IsKnownBefore, state_of_known}
use Rattle.extend_flow.specs.declared.shifts.Extension.{Extension}
use Rattle.extend_flow.specs.declared.shifts.LeftShift.{LeftShift}
use Rattle.extend_flow.specs.Extended.{AreExtended, IsHeldShift, extended_by, extended_node, extended_rhs, extended_where}
use Rattle.extend_flow.specs.Extensions.{IsDistance, extension_of, keeps_all}
use Rattle.extend_flow.proofs.Undone.{Extends, ShiftsBack, extends, same_source}
use Rattle.extend_flow.proofs.Numbers.{signed_kept, unsigned_kept}

-- ---- values

-- a test for at most
le_is : (a b : ℤ) → int_le a b ≡ true → a ≤ℤ b
le_is a b h = grind (arith, ints)

-- the number lies where the extension keeps it
pub record LiesIn (e : Extension) (z : ℤ) : Type 0 where
  pub low : e.low ≤ℤ z
  pub high : z ≤ℤ e.high

-- so does a number of which a fact holds, where the extension keeps all of them
lies_in : (e : Extension) (fact : Fact) (z : ℤ) → keeps_all e fact ≡ true → Bounds fact z → LiesIn e z
lies_in e fact z keeps holds =
    let parts = and_parts (int_le e.low (low_of fact)) (int_le (high_of fact) e.high) keeps in
    let low = le_is e.low (low_of fact) parts.0 in
    let high = le_is (high_of fact) e.high parts.1 in
    record { low = omega (arith, ints, low, holds.low); high = omega (arith, ints, high, holds.high) }

-- what shifts back gives the source
back_value : (op : Op) (shift : LeftShift) (e : Extension) (z : ℤ) → IsDistance shift.distance → ShiftsBack op shift e → LiesIn e z
    → value_of_op op (value_of_op Shl z (wrapped (pos shift.distance))) (wrapped (pos shift.distance)) ≡ z
back_value op shift e z far (inl back) lies =
    let kept = subst (λ x. LiesIn x z) (sym back.1) lies in
    ap (λ o. value_of_op o (value_of_op Shl z (wrapped (pos shift.distance))) (wrapped (pos shift.distance))) back.0 ∙ signed_kept shift.distance z far kept.low kept.high
back_value op shift e z far (inr back) lies =
    let kept = subst (λ x. LiesIn x z) (sym back.1) lies in
    ap (λ o. value_of_op o (value_of_op Shl z (wrapped (pos shift.distance))) (wrapped (pos shift.distance))) back.0 ∙ unsigned_kept shift.distance z far kept.low kept.high

-- and does not trap
back_traps : (values : Values) (op : Op) (shift : LeftShift) (e : Extension) (t : ℕ) → ShiftsBack op shift e
    → rhs_traps values (Binary op (Var t) (Const (pos shift.distance))) ≡ false
back_traps values op shift e t (inl back) = ap (λ o. rhs_traps values (Binary o (Var t) (Const (pos shift.distance)))) back.0
back_traps values op shift e t (inr back) = ap (λ o. rhs_traps values (Binary o (Var t) (Const (pos shift.distance)))) back.0

-- ---- right sides

module _ (values : Values) (held : ℕ → Option Rhs) (agrees : (v : ℕ) (rhs : Rhs) → held v ≡ Some rhs → values v ≡ rhs_value values rhs) where
  -- an extension that keeps its source becomes a copy of it
  becomes_copy : (rhs : Rhs) (e : Extension) → Extends held rhs e → LiesIn e (values e.source) → BecomesAsCheap values rhs (Plain (Var e.source))
  becomes_copy rhs e is lies =
      let from = same_source is.op is.shift e is.back in
      let distance = Const (pos is.shift.distance) in
      let holds : values is.var ≡ value_of_op Shl (values is.shift.source) (wrapped (pos is.shift.distance)) = agrees is.var (Binary Shl (Var is.shift.source) distance) is.holds in
      let back = back_value is.op is.shift e (values is.shift.source) is.far is.back (subst (λ x. LiesIn e (values x)) from lies) in
      subst (λ r. BecomesAsCheap values r (Plain (Var e.source))) (sym is.is) (record {
        traps = sym (back_traps values is.op is.shift e is.var is.back);
        value = ap values from ∙ sym back ∙ sym (ap (λ z. value_of_op is.op z (wrapped (pos is.shift.distance))) holds);
        counted = omega arith;
      })

  module _ (size : ℕ) (known : Option (List Fact)) where
    -- by what is known
    becomes_by : (facts : Option (List Fact)) (rhs : Rhs) (e : Extension) → Extends held rhs e → HoldsAt Bounds bound_rules (state_of_known size facts) values → BecomesAsCheap values rhs (extended_by facts rhs e)
    becomes_by None rhs e is holds = becomes_itself values rhs
    becomes_by (Some facts) rhs e is holds = by (keeps_all e (fact_at facts e.source)) refl
      where
        by : (b : Bool) → keeps_all e (fact_at facts e.source) ≡ b → BecomesAsCheap values rhs (if b then Plain (Var e.source) else rhs)
        by true keeps = becomes_copy rhs e is (lies_in e (fact_at facts e.source) (values e.source) keeps (holds.each e.source))
        by false keeps = becomes_itself values rhs

    -- any right side
    pub becomes_extended : (rhs : Rhs) → ((e : Extension) → extension_of held rhs ≡ Some e → HoldsAt Bounds bound_rules (state_of_known size known) values)
        → BecomesAsCheap values rhs (extended_rhs held known rhs)
    becomes_extended rhs holds = by (extension_of held rhs) refl
      where
        by : (o : Option Extension) → extension_of held rhs ≡ o → BecomesAsCheap values rhs (extended_where known rhs o)
        by None is = becomes_itself values rhs
        by (Some e) is = becomes_by known rhs e (extends held rhs e is) (holds e is)

-- ---- the extended nodes

module _ (graph : GraphShape) (nodes : List Node) (are : AreExtended graph nodes) (agree : HeldValuesAgree graph) (hold : StatesHold BelowFact Bounds bound_rules graph) where
  -- at a frame of a run what is known before its node holds
  holds_there : (f : Frame) → IsRunFrame (machine_of graph) f → (known : Option (List Fact)) → IsKnownBefore BelowFact bound_rules graph f.place known
      → HoldsAt Bounds bound_rules (state_of_known (length graph.vars) known) f.values
  holds_there f comes known is = subst (λ s. HoldsAt Bounds bound_rules s f.values) is.here (hold is.states is.least f comes)

  -- each node takes a step like that of the old one
  node_like : (f : Frame) → IsRunFrame (machine_of graph) f → (node : Node) → slice_get graph.nodes f.place ≡ Some node
      → AsCheap (node_transition graph.shared graph.received (Some node) f) (node_transition graph.shared graph.received (Some (extended_node (are.held f.place) (are.nodes_are f.place).known node)) f)
  node_like f comes (Start next) here = as_cheap (node_transition graph.shared graph.received (Some (Start next)) f)
  node_like f comes (Skip next) here = as_cheap (node_transition graph.shared graph.received (Some (Skip next)) f)
  node_like f comes (Assign x rhs next) here =
      let lt : f.place < length graph.nodes = slice_get_within graph.nodes f.place (Assign x rhs next) here in
      let at = are.nodes_are f.place in
      assigns_cheap x rhs (extended_rhs (are.held f.place) at.known rhs) next f
      (becomes_extended f.values (are.held f.place)
      (λ v t is. (let holds = subst (IsHeldShift graph f.place v) is (are.is_held f.place v lt) in agree f comes v t holds.1))
      (length graph.vars) at.known rhs (λ e extends. holds_there f comes at.known (at.is_known x rhs next e here extends)))
  node_like f comes (Print a next) here = as_cheap (node_transition graph.shared graph.received (Some (Print a next)) f)
  node_like f comes (Guard test number next) here = as_cheap (node_transition graph.shared graph.received (Some (Guard test number next)) f)
  node_like f comes (Call into unit operands next) here = as_cheap (node_transition graph.shared graph.received (Some (Call into unit operands next)) f)
  node_like f comes (Test test taken other) here = as_cheap (node_transition graph.shared graph.received (Some (Test test taken other)) f)
  node_like f comes (Return a) here = as_cheap (node_transition graph.shared graph.received (Some (Return a)) f)

  place_like : (f : Frame) → IsRunFrame (machine_of graph) f → (o : Option Node) → slice_get graph.nodes f.place ≡ o
      → AsCheap (node_transition graph.shared graph.received o f) (node_transition graph.shared graph.received (option_map (extended_node (are.held f.place) (are.nodes_are f.place).known) o) f)
  place_like f comes None here = as_cheap (node_transition graph.shared graph.received None f)
  place_like f comes (Some node) here = node_like f comes node here

  -- so they do in each run
  pub extended_cheap : RunsAsCheap graph nodes
  extended_cheap f comes fits =
      subst (λ o. AsCheap (graph_code graph.shared graph.received graph.nodes f) (node_transition graph.shared graph.received o f)) (sym (are.nodes_are f.place).is)
      (place_like f comes (slice_get graph.nodes f.place) refl)
