-- Laws: the graphs of the units of a program fit together; what is made of the units by the surest facts keeps the
-- program; and a program has one such program. For proofs only.
use Rattle.std.proofs.Common.{◌≡◌, ℕ, zero, suc, ◌<◌, List, [], ◌∷◌, ◌++◌, length, replicate, slice_get, ℤ, pos, Option, Some, refl, sym, ap, ◌∙◌, subst, arith}
use Rattle.std.proofs.lemmas.List.{ext_get_or}
use Rattle.std.proofs.lemmas.Option.{same_Some, slice_get_within}
use Rattle.mir_base.specs.FrameLaws.{argument_fits}
use Rattle.mir_base.specs.Frames.{CallEntry}
use Rattle.mir_base.specs.Runs.{AreNumbers}
use Rattle.mir_base.specs.Shapes.{IsProgram, ProgramShape, UnitShape, body_or_empty, receives_in}
use Rattle.mir_base.specs.UnitRuns.{IsEntry}
use Rattle.flow_graph.specs.declared.nodes.Node.TheVariants.{Call, Return}
use Rattle.flow_graph.specs.Graphs.{GraphShape}
use Rattle.flow_graph.specs.KeepsLaws.{same_globals}
use Rattle.flow_graph.specs.ListLaws.{some_at}
use Rattle.flow_graph.specs.OneLaws.{lowered_is_one}
use Rattle.jump_clean.specs.Cleaned.{IsClean}
use Rattle.jump_clean.specs.CleanLaws.{clean_is_one}
use Rattle.program_pass.specs.FrontLaws.{graphs_are}
use Rattle.program_pass.specs.Fronts.{AreFronts}
use Rattle.program_pass.specs.GraphPrograms.{IsGraphProgram, graph_machines, graph_numbered, graph_or_empty, shared_in}
use Rattle.program_pass.specs.PassOneLaws.{places_same, program_only}
use Rattle.program_pass.specs.PassPrograms.{CleanedLaid, KeepsRuns}
use Rattle.program_pass.specs.PassProgramLaws.{at, between_at, graph_program, graphs, graphs_count, middles, passes_keep}
use Rattle.program_pass.specs.RefitLaws.{called_fits}
use Rattle.bounds.specs.declared.facts.Fact.{Fact}
use Rattle.bounds.specs.BoundRules.{bound_rules}
use Rattle.bounds.specs.BoundRuleLaws.{bound_laws}
use Rattle.bounds.specs.Edges.{anything}
use Rattle.bounds.specs.Facts.{BelowFact, Bounds}
use Rattle.cond_flow.specs.BecomingLaws.{rewritten_is_one}
use Rattle.cond_flow.specs.Handing.{entry_values, values_in}
use Rattle.cond_flow.specs.PassingLaws.{below_at}
use Rattle.cond_flow.specs.Rewritten.{IsMadeWithin, IsRewritten, become_graph}
use Rattle.cond_flow.specs.Rules.{AreHeld, known_at}
use Rattle.cond_flow.specs.StateLaws.{below_antisym}
use Rattle.cond_flow.specs.States.{BelowState, NodeState, Unreached, Knows}
use Rattle.cond_flow.specs.WithinLaws.{order_within}
use Rattle.program_bounds.specs.BoundStacks.{Sides, above_known, bounded_keep}
use Rattle.program_bounds.specs.Facts.{AreLeastFacts, AreServed, ProgramFacts, around, first_facts, row_at, rules_at}
use Rattle.program_bounds.specs.Programs.{BoundedBy, BoundedUnit, BoundedUnits, IsBoundedBetween, IsBoundedProgram}
use Rattle.program_bounds.specs.Sweeps.{FitTogether}

-- ---- the graphs

-- those of the units of a program fit together
pub fit_together : (globals : List (List ℕ)) (units : List UnitShape) (gs : List GraphShape) → IsProgram globals units → AreFronts units gs → FitTogether gs
fit_together globals units gs program are = record {
  some = omega (arith, program.some_unit, are.long);
  share = λ u graph at. shared_is u graph at ∙ sym (first_is gs refl);
  calls = λ u graph at n into v operands next here.
      let unit = unit_at u graph at in
      let made = are.are u unit.0 graph unit.1 at in
      let fits = called_fits units unit.0.body v (length operands) (program.bodies u unit.0 unit.1) (made.1.keeps.calls v (length operands) (record { number = n; node = Call into v operands next; here = here; calls = refl })) in
      let called = some_at gs v (omega (arith, fits.0, are.long)) in
      let callee = unit_at v called.0 called.1 in
      let callee_made = are.are v callee.0 called.0 callee.1 called.1 in
      (called.0, called.1, fits.1 ∙ sym (ap (λ o. receives_of o) (sym callee.1)) ∙ callee_made.1.keeps.same.receives);
}
  where
    receives_of : Option UnitShape → ℕ
    receives_of o = receives_in (body_or_empty o)

    unit_at : (u : ℕ) (graph : GraphShape) → slice_get gs u ≡ Some graph → (unit : UnitShape) × (slice_get units u ≡ Some unit)
    unit_at u graph at = let s = some_at units u (omega (arith, slice_get_within gs u graph at, are.long)) in (s.0, s.1)

    shared_is : (u : ℕ) (graph : GraphShape) → slice_get gs u ≡ Some graph → graph.shared ≡ length globals
    shared_is u graph at =
        let unit = unit_at u graph at in
        let made = are.are u unit.0 graph unit.1 at in
        sym made.1.keeps.same.shared ∙ (program.shares u unit.0 unit.1).count

    first_is : (l : List GraphShape) → l ≡ gs → shared_in l ≡ length globals
    first_is [] is = absurd (let none : 0 ≡ length gs = ap (λ (k : List GraphShape). length k) is in omega (arith, none, program.some_unit, are.long))
    first_is (g ∷ l) is = shared_is 0 g (ap (λ (k : List GraphShape). slice_get k 0) (sym is))

-- ---- one unit

-- what is made of the unit of a number
pub bounded_unit : (known : ProgramFacts) (units : List UnitShape) (gs : List GraphShape) (number : ℕ) (graph bounded : GraphShape) (target : UnitShape) → AreFronts units gs → slice_get gs number ≡ Some graph → IsMadeWithin BelowFact (rules_at known number) graph bounded → CleanedLaid bounded target → BoundedUnit known units number target
bounded_unit known units gs number graph bounded target fronts at made back source at' =
    let front = fronts.are number source graph at' at in
    let is = made.rewritten in
    record {
      lowered = front.0;
      cleaned = graph;
      passed = bounded;
      front = front.1;
      is_passed = is;
      keeps = record {
        name = is.made.name_is;
        globals = same_globals graph bounded is.made.shared_is is.made.vars_are;
        middle = become_graph (rules_at known number) is.states graph;
        between = record { bounded = bounded; rewritten = is; is = refl };
        shared = refl;
        received = refl;
        same = made.same;
        cheaper = made.cheaper;
        middle_calls = made.middle_calls;
        calls = made.calls;
      };
      back = back;
    }

-- ---- where the program begins

-- what is known there holds of inputs, and of globals that are 0
first_holds : (shared receives : ℕ) (inputs : List ℤ) → AreNumbers inputs → AreHeld Bounds bound_rules (first_facts shared receives) (values_in (replicate shared (pos 0) ++ inputs))
first_holds zero receives inputs numbers = record { each = λ i. subst (λ k. Bounds k (values_in inputs i)) (sym (any receives i)) (bound_laws.sound.top _ (argument_fits inputs i numbers)) }
  where
    any : (n i : ℕ) → known_at bound_rules (replicate n anything) i ≡ anything
    any zero i = refl
    any (suc n) zero = refl
    any (suc n) (suc i) = any n i
first_holds (suc shared) receives inputs numbers = record {
  each = λ i. elim i as (λ j. Bounds (known_at bound_rules (first_facts (suc shared) receives) j) (values_in (pos 0 ∷ (replicate shared (pos 0) ++ inputs)) j)) [
    | zero ↦ bound_laws.sound.zero
    | suc j ↦ (first_holds shared receives inputs numbers).each j
  ];
}

-- ---- what is made keeps the program

module _ (known : ProgramFacts) (gs : List GraphShape) (source target : ProgramShape) (program : IsProgram source.globals source.units) (globals : target.globals ≡ source.globals) (all : BoundedUnits known source.units target.units) (fronts : AreFronts source.units gs) (least : AreLeastFacts gs known) where
  abbrev own : List GraphShape
  own = graphs (BoundedBy known) (IsBoundedBetween known) source target program globals all

  abbrev made : List GraphShape
  made = middles (BoundedBy known) (IsBoundedBetween known) source target program globals all

  own_long : length own ≡ length source.units
  own_long = graphs_count (BoundedBy known) (IsBoundedBetween known) source target program globals all

  -- the graphs are those of the facts
  same : own ≡ gs
  same = places_same own gs (own_long ∙ sym fronts.long) (λ u x y at_x at_y.
      let lt : u < length source.units = omega (arith, slice_get_within own u x at_x, own_long) in
      let a = at (BoundedBy known) (IsBoundedBetween known) source target program globals all u lt in
      let front = fronts.are u a.source y a.source_at at_y in
      let lowered = lowered_is_one a.source front.0 a.made.lowered front.1.is_lowered a.made.front.is_lowered in
      let cleaned : y ≡ a.made.cleaned = clean_is_one a.made.lowered y a.made.cleaned a.made.front.within (subst (λ g. IsClean g y) lowered front.1.is_cleaned) a.made.front.is_cleaned in
      let one : x ≡ a.made.cleaned = same_Some x a.made.cleaned (sym at_x ∙ a.graph_at) in
      one ∙ sym cleaned)

  served : AreServed own known
  served = subst (λ l. AreServed l known) (sym same) least.served

  is_program : IsGraphProgram own
  is_program = graph_program (BoundedBy known) (IsBoundedBetween known) source target program globals all

  -- the graph of this number
  numbered : (u : ℕ) → u < length own → slice_get own u ≡ Some (graph_numbered own u)
  numbered u lt = let s = some_at own u lt in s.1 ∙ ap Some (sym (ap (graph_or_empty (shared_in own)) s.1))

  sides : (u : ℕ) → u < length own → Sides known u (graph_numbered own u) (graph_numbered made u)
  sides u lt =
      let between = between_at (BoundedBy known) (IsBoundedBetween known) source target program globals all u lt in
      let graph = graph_numbered own u in
      let order = order_within (around known u) bound_laws.order in
      record {
        states = between.rewritten.states;
        are = between.rewritten.least.are;
        nodes = ap (λ (g : GraphShape). g.nodes) between.is;
        shared = ap (λ (g : GraphShape). g.shared) between.is;
        received = ap (λ (g : GraphShape). g.received) between.is;
        calls = λ facts entered n into v operands next ks here state.
            let unit = served.units u graph facts (numbered u lt) entered in
            let n_in = slice_get_within graph.nodes n (Call into v operands next) here in
            let alike : unit.states n ≡ between.rewritten.states n = below_antisym bound_laws.order (unit.states n) (between.rewritten.states n) (unit.least.least between.rewritten.states between.rewritten.least.are n n_in) (between.rewritten.least.least unit.states unit.least.are n n_in) in
            unit.calls n into v operands next ks here (alike ∙ state);
        returns = λ facts entered n a ks here state.
            let unit = served.units u graph facts (numbered u lt) entered in
            let n_in = slice_get_within graph.nodes n (Return a) here in
            let alike : unit.states n ≡ between.rewritten.states n = below_antisym bound_laws.order (unit.states n) (between.rewritten.states n) (unit.least.least between.rewritten.states between.rewritten.least.are n n_in) (between.rewritten.least.least unit.states unit.least.are n n_in) in
            unit.returns n a ks here (alike ∙ state);
      }

  -- a run begins with what is known of the first unit
  first : (entry : CallEntry) → IsEntry (graph_machines own 0) entry → entry.globals ≡ replicate (graph_machines own 0).shared (pos 0) → (facts : List Fact) × (row_at known.entries 0 ≡ Knows facts) × AreHeld Bounds bound_rules facts (values_in (entry_values entry))
  first entry is zeros =
      let graph = graph_numbered own 0 in
      let above = above_known _ _ (served.first graph (numbered 0 is_program.some)) in
      let begins : AreHeld Bounds bound_rules (first_facts graph.shared (length graph.received)) (values_in (entry_values entry)) = subst (λ l. AreHeld Bounds bound_rules (first_facts graph.shared (length graph.received)) (values_in (l ++ entry.arguments))) (sym zeros) (first_holds graph.shared (length graph.received) entry.arguments is.numbers) in
      (above.0, above.1, record { each = λ i. bound_laws.sound.up _ _ _ (below_at bound_laws.order bound_laws.rising (first_facts graph.shared (length graph.received)) above.0 i above.2) (begins.each i) })

  -- the target is the same, evaluates no more operators and is never deeper
  pub bounded_keeps : KeepsRuns source target
  bounded_keeps = passes_keep (BoundedBy known) (IsBoundedBetween known) source target program globals all (bounded_keep own made is_program known sides first)

-- ---- one program

-- rows of one order are equal
rows_one : (a b : List (NodeState Fact)) → length a ≡ length b → ((u : ℕ) → BelowState BelowFact (row_at a u) (row_at b u)) → ((u : ℕ) → BelowState BelowFact (row_at b u) (row_at a u)) → a ≡ b
rows_one a b long p q = ext_get_or (Unreached 0) a b long (λ i lt. below_antisym bound_laws.order (row_at a i) (row_at b i) (p i) (q i))

-- there are no others
facts_one : (gs : List GraphShape) (known others : ProgramFacts) → AreLeastFacts gs known → AreLeastFacts gs others → known ≡ others
facts_one gs known others p q =
    let there = p.least others q.served in
    let back = q.least known p.served in
    let entries : known.entries ≡ others.entries = rows_one known.entries others.entries (p.served.fit.entries.long ∙ sym q.served.fit.entries.long) there.entries back.entries in
    let backs : known.backs ≡ others.backs = rows_one known.backs others.backs (p.served.fit.backs.long ∙ sym q.served.fit.backs.long) there.backs back.backs in
    ap (λ l. record { entries = l; backs = known.backs }) entries ∙ ap (λ l. record { entries = others.entries; backs = l }) backs

-- a program has one program like this
pub bounded_only : (known : ProgramFacts) (gs : List GraphShape) (source target other : ProgramShape) → target.globals ≡ source.globals → BoundedUnits known source.units target.units → AreFronts source.units gs → AreLeastFacts gs known → IsBoundedProgram source other → target ≡ other
bounded_only known gs source target other globals all fronts least is =
    let graphs_are : gs ≡ is.graphs = places_same gs is.graphs (fronts.long ∙ sym is.are_graphs.long) (λ u x y at_x at_y.
    let unit = some_at source.units u (omega (arith, slice_get_within gs u x at_x, fronts.long)) in
    let front = fronts.are u unit.0 x unit.1 at_x in
    let exact = is.are_graphs.are u unit.0 y unit.1 at_y in
    let lowered = lowered_is_one unit.0 front.0 exact.0 front.1.is_lowered exact.1.0 in
    clean_is_one front.0 x y front.1.within front.1.is_cleaned (subst (λ g. IsClean g y) (sym lowered) exact.1.1)) in
    let facts_are : known ≡ is.known = facts_one gs known is.known least (subst (λ l. AreLeastFacts l is.known) (sym graphs_are) is.least) in
    program_only (BoundedBy known) (IsBoundedBetween known) (BoundedBy is.known)
    (λ u graph a b p q. rewritten_is_one (order_within (around known u) bound_laws.order) graph a b p (subst (λ k. IsRewritten BelowFact (rules_at k u) graph b) (sym facts_are) q))
    source target other globals all is.passed
