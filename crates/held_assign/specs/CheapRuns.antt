-- Nodes that do, at each frame of a run of a graph, what the graph does and count no more, make a graph that does the same.
-- At such a frame all values are signed 64-bit numbers. Its first part is cited by contracts, the rest
-- by proofs alone, here and above.
use Rattle.std.proofs.Common.{◌≡◌, ℕ, suc, ◌≤◌, Bool, true, false, if◌then◌else◌, List, [], ◌∷◌, slice_get, slice_index_or, ℤ, pos, Option, Some, None, refl, sym, ap, subst, le_refl}
use Rattle.mir_base.specs.declared.instructions.Rhs.{Rhs}
use Rattle.mir_base.specs.declared.operators.Trap.TheVariants.{ZeroDivisor, Raised}
use Rattle.mir_base.specs.ExpressionLaws.{assign_is}
use Rattle.mir_base.specs.Expressions.{rhs_count, rhs_traps, rhs_value}
use Rattle.mir_base.specs.FrameLaws.{FrameFits, ValuesFit, argument_fits, assigned_fits, at_fits, first_fits, resumed_fits, rhs_fits, shared_values_fit, with_first_fits, with_value_fits}
use Rattle.mir_base.specs.Frames.{CallEntry, Frame, Transition, Calls, Continues, Prints, Returns, Traps, Values, all_zero, first_frame, resumed, shared_values, with_first, with_value}
use Rattle.mir_base.specs.Locksteps.{Alike}
use Rattle.mir_base.specs.NumberLaws.{zero_fits}
use Rattle.mir_base.specs.Runs.{AreNumbers}
use Rattle.mir_base.specs.Simulations.{HandsOver}
use Rattle.mir_base.specs.UnitRuns.{IsCallAnswer, IsEntry, UnitCheaper, UnitSame}
use Rattle.mir_base.specs.Units.{assign_transition, assigned, at, test_holds}
use Rattle.flow_graph.specs.declared.nodes.Node.{Node}
use Rattle.flow_graph.specs.declared.nodes.Node.TheVariants.{Start, Skip, Assign, Print, Guard, Call, Test, Return}
use Rattle.flow_graph.specs.Graphs.{GraphShape}
use Rattle.flow_graph.specs.MachineLaws.{graph_hands}
use Rattle.flow_graph.specs.Machines.{graph_code, graph_machine, machine_of, node_transition, received_from}
use Rattle.flow_graph.specs.RunFrames.{IsRunFrame}
use Rattle.flow_graph.specs.RunSteps.{cheaper_in_runs, same_in_runs}

-- ---- values fit

-- a frame that has received numbers in range
received_fits : (received : List ℕ) (i : ℕ) (arguments : List ℤ) (values : Values) → AreNumbers arguments → ValuesFit values → ValuesFit (received_from i received arguments values)
received_fits [] i arguments values numbers fits = fits
received_fits (x ∷ received) i arguments values numbers fits =
    received_fits received (suc i) arguments (with_value x (slice_index_or arguments i (pos 0)) values) numbers (with_value_fits x (slice_index_or arguments i (pos 0)) values (argument_fits arguments i numbers) fits)

-- the frame from which the run goes on fits, where it does
abbrev NextFits : Transition → Type 0
NextFits (Continues n next) = FrameFits next
NextFits (Prints v next) = FrameFits next
NextFits (Calls unit entry into next) = FrameFits next
NextFits (Returns answer) = Unit {0}
NextFits (Traps kind n) = Unit {0}

-- each node leads on from frames that fit to such frames
next_fits : (shared : ℕ) (received : List ℕ) (o : Option Node) (f : Frame) → FrameFits f → NextFits (node_transition shared received o f)
next_fits shared received None f fits = tt
next_fits shared received (Some (Start next)) f fits = record {
  values = received_fits received 0 f.arguments (with_first (shared_values shared f.values) all_zero) fits.arguments
      (with_first_fits (shared_values shared f.values) all_zero (shared_values_fit shared f.values fits.values).numbers (record { fit = λ x. zero_fits }));
  arguments = fits.arguments;
}
next_fits shared received (Some (Skip next)) f fits = at_fits next f fits
next_fits shared received (Some (Assign x rhs next)) f fits = subst NextFits (sym (assign_is x rhs next f)) (by (rhs_traps f.values rhs))
  where
    by : (b : Bool) → NextFits (if b then Traps ZeroDivisor 1 else Continues (rhs_count rhs) (assigned x (rhs_value f.values rhs) next f))
    by true = tt
    by false = assigned_fits x (rhs_value f.values rhs) next f (rhs_fits f.values rhs fits.values) fits
next_fits shared received (Some (Print a next)) f fits = at_fits next f fits
next_fits shared received (Some (Guard test number next)) f fits = by (test_holds f.values test)
  where
    by : (b : Bool) → NextFits (if b then Traps (Raised number) 0 else Continues 0 (at next f))
    by true = tt
    by false = at_fits next f fits
next_fits shared received (Some (Call into unit operands next)) f fits = at_fits next f fits
next_fits shared received (Some (Test test taken other)) f fits = at_fits (if test_holds f.values test then taken else other) f fits
next_fits shared received (Some (Return a)) f fits = tt

-- ---- transitions that show the same, the second counting no more, to equal frames

-- transitions of one kind that show the same and lead to the same frame, of which the second counts no more operators
abbrev pub AsCheap : Transition → Transition → Type 0
AsCheap t t' = Alike (λ f g. g ≡ f) t t'

-- a transition and itself
pub as_cheap : (t : Transition) → AsCheap t t
as_cheap (Continues n f) = (le_refl n, refl)
as_cheap (Prints v f) = (refl, refl)
as_cheap (Calls unit entry into f) = (refl, refl, λ answer is. refl)
as_cheap (Returns answer) = refl
as_cheap (Traps kind n) = refl

-- so is one that equals it
pub same_as_cheap : (t t' : Transition) → t' ≡ t → AsCheap t t'
same_as_cheap t t' same = subst (AsCheap t) (sym same) (as_cheap t)

-- at each frame of a run of the graph these nodes do what the graph does, and count no more
abbrev pub RunsAsCheap : GraphShape → List Node → Type 0
RunsAsCheap graph nodes = (frame : Frame) → IsRunFrame (machine_of graph) frame → ValuesFit frame.values
    → AsCheap (graph_code graph.shared graph.received graph.nodes frame)
    (graph_code graph.shared graph.received nodes frame)

-- the new right side traps where the old one does, gives the same, and counts no more
pub record BecomesAsCheap (values : Values) (rhs new : Rhs) : Type 0 where
  pub traps : rhs_traps values new ≡ rhs_traps values rhs
  pub value : rhs_value values new ≡ rhs_value values rhs
  pub counted : rhs_count new ≤ rhs_count rhs

-- a right side that stays does
pub becomes_itself : (values : Values) (rhs : Rhs) → BecomesAsCheap values rhs rhs
becomes_itself values rhs = record { traps = refl; value = refl; counted = le_refl (rhs_count rhs) }

-- so the assignment of the new one is as cheap as that of the old one
pub assigns_cheap : (x : ℕ) (rhs new : Rhs) (next : ℕ) (f : Frame) → BecomesAsCheap f.values rhs new → AsCheap (assign_transition x rhs next f) (assign_transition x new next f)
assigns_cheap x rhs new next f becomes =
    subst (λ t. AsCheap t (assign_transition x new next f)) (sym (assign_is x rhs next f))
    (subst (λ t. AsCheap (if rhs_traps f.values rhs then Traps ZeroDivisor 1 else Continues (rhs_count rhs) (assigned x (rhs_value f.values rhs) next f)) t) (sym (assign_is x new next f))
    (by (rhs_traps f.values rhs) (rhs_traps f.values new) becomes.traps))
  where
    by : (b b' : Bool) → b' ≡ b → AsCheap (if b then Traps ZeroDivisor 1 else Continues (rhs_count rhs) (assigned x (rhs_value f.values rhs) next f)) (if b' then Traps ZeroDivisor 1 else Continues (rhs_count new) (assigned x (rhs_value f.values new) next f))
    by true true same = refl
    by false false same = (becomes.counted, ap (λ (v : ℤ). assigned x v next f) becomes.value)
    by true false same = cc
    by false true same = cc

module _ (S : Frame → Frame → Type 0) where
  -- where a transition leads to a frame that is related to itself, it is related to what is as cheap
  alike_cheap : (t t' : Transition) → Alike S t t → AsCheap t t' → Alike S t t'
  alike_cheap (Continues n f) (Continues m g) alike cheap = (cheap.0, subst (S f) (sym cheap.1) alike.1)
  alike_cheap (Prints v f) (Prints w g) alike cheap = (cheap.0, subst (S f) (sym cheap.1) alike.1)
  alike_cheap (Calls unit entry into f) (Calls unit' entry' into' g) alike cheap =
      (cheap.0, cheap.1, λ answer is. subst (S (resumed into answer f)) (sym (cheap.2 answer is)) (alike.2 answer is))
  alike_cheap (Returns answer) (Returns answer') alike cheap = cheap
  alike_cheap (Traps kind n) (Traps kind' m) alike cheap = cheap
  alike_cheap _ _ alike cheap = absurd cheap

module _ (graph : GraphShape) where
  -- what the graph does at a frame
  abbrev code : Frame → Transition
  code = graph_code graph.shared graph.received graph.nodes

  -- ---- one frame of a run on both sides

  record Along (f g : Frame) : Type 0 where
    same : g ≡ f
    fits : FrameFits f

  -- one step of the graph beside itself
  step_along : (t : Transition) → HandsOver graph.shared t → NextFits t → Alike Along t t
  step_along (Continues n g) hands fits = (le_refl n, record { same = refl; fits = fits })
  step_along (Prints v g) hands fits = (refl, record { same = refl; fits = fits })
  step_along (Calls unit entry into g) hands fits = (
    refl,
    refl,
    λ answer is. record { same = refl; fits = resumed_fits graph.shared into answer g (subst (λ n. IsCallAnswer n answer) hands is) fits },
  )
  step_along (Returns answer) hands fits = refl
  step_along (Traps kind n) hands fits = refl

  module _ (nodes : List Node) (cheap : RunsAsCheap graph nodes) where
    steps : (f g : Frame) → IsRunFrame (machine_of graph) f → Along f g → Alike Along (code f) (graph_code graph.shared graph.received nodes g)
    steps f g comes on =
        let itself = step_along (code f) (graph_hands graph.shared graph.received graph.nodes f) (next_fits graph.shared graph.received (slice_get graph.nodes f.place) f on.fits) in
        subst (λ h. Alike Along (code f) (graph_code graph.shared graph.received nodes h)) (sym on.same)
        (alike_cheap Along (code f) (graph_code graph.shared graph.received nodes f) itself (cheap f comes on.fits.values))

    starts : (entry : CallEntry) → IsEntry (machine_of graph) entry → Along (first_frame entry) (first_frame entry)
    starts entry is = record { same = refl; fits = first_fits entry is.numbers is.globals.numbers }

    -- they do the same as the graph
    pub same_by_code : UnitSame (machine_of graph) (graph_machine graph.shared graph.received nodes)
    same_by_code = same_in_runs (machine_of graph) (graph_machine graph.shared graph.received nodes) refl refl (graph_hands graph.shared graph.received graph.nodes) Along starts steps

    -- and evaluate no more operators
    pub cheaper_by_code : UnitCheaper (machine_of graph) (graph_machine graph.shared graph.received nodes)
    cheaper_by_code = cheaper_in_runs (machine_of graph) (graph_machine graph.shared graph.received nodes) refl refl (graph_hands graph.shared graph.received graph.nodes) Along starts steps
