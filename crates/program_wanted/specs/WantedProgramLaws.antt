-- Laws: the graphs of the units of a program fit together; what is made of the units by the least demands keeps the
-- program; and a program has one such program. For proofs only.
use Rattle.std.proofs.Common.{◌≡◌, ℕ, suc, ◌<◌, ◌≤◌, List, [], ◌∷◌, length, slice_get, Some, refl, sym, ap, ◌∙◌, subst, arith}
use Rattle.std.proofs.lemmas.Option.{slice_get_within}
use Rattle.mir_base.specs.LockstepLaws.{cheaper_refl}
use Rattle.mir_base.specs.UnitLaws.{same_refl}
use Rattle.mir_base.specs.Shapes.{IsProgram, ProgramShape, UnitShape}
use Rattle.flow_graph.specs.declared.nodes.Node.TheVariants.{Call}
use Rattle.flow_graph.specs.Graphs.{GraphShape, CanMake}
use Rattle.flow_graph.specs.KeepsLaws.{same_globals}
use Rattle.flow_graph.specs.MachineLaws.{graph_hands}
use Rattle.flow_graph.specs.Machines.{machine_of}
use Rattle.flow_graph.specs.ListLaws.{some_at}
use Rattle.flow_graph.specs.OneLaws.{lowered_is_one}
use Rattle.jump_clean.specs.Cleaned.{IsClean}
use Rattle.jump_clean.specs.CleanLaws.{clean_is_one}
use Rattle.program_pass.specs.FrontLaws.{graphs_are}
use Rattle.program_pass.specs.Fronts.{AreFronts, AreGraphsOf}
use Rattle.program_pass.specs.GraphPrograms.{IsGraphProgram, graph_numbered, graph_or_empty, shared_in}
use Rattle.program_pass.specs.PassOneLaws.{places_same, program_only}
use Rattle.program_pass.specs.PassPrograms.{AllPassed, CleanedLaid, KeepsRuns, PassRelation}
use Rattle.program_pass.specs.PassProgramLaws.{MadeOf, at, between_at, graph_program, graphs, graphs_count, middles, middles_of, passes_keep}
use Rattle.program_pass.specs.RefitLaws.{called_fits}
use Rattle.node_list.specs.Lists.{list_at}
use Rattle.wanted_bits.specs.declared.around.Around.{Around}
use Rattle.wanted_bits.specs.Asking.{asked_by, width_at}
use Rattle.wanted_bits.specs.Made.{IsMadeNarrowed}
use Rattle.wanted_bits.specs.Narrowed.{IsNarrowedBy}
use Rattle.wanted_bits.specs.NarrowedLaws.{narrowed_is_one}
use Rattle.program_wanted.specs.Demands.{AreLeastDemands, AreServed, Demands, IsAround, asked_at}
use Rattle.program_wanted.specs.DemandLaws.{demands_one, enough, made_sides}
use Rattle.program_wanted.specs.DemandStacks.{LeastSides, Sides, narrowed_keep}
use Rattle.program_wanted.specs.NarrowedUnits.{AreNarrowedUnits, IsLaidFrom}
use Rattle.program_wanted.specs.Sweeps.{FitTogether}
use Rattle.program_wanted.specs.WantedPrograms.{IsWantedProgram, NarrowedTo, NarrowsTo, WantedUnit, WantedUnits}

-- ---- the graphs

-- the graphs of the units of a program fit together
pub fit_together : (globals : List (List ℕ)) (units : List UnitShape) (gs : List GraphShape) → IsProgram globals units → AreFronts units gs → FitTogether gs
fit_together globals units gs program are = record {
  some = omega (arith, program.some_unit, are.long);
  share = λ u graph at. shared_is u graph at ∙ sym (first_is gs refl);
  calls = λ u graph at n into v operands next here.
      let unit = unit_at u graph at in
      let made = are.are u unit.0 graph unit.1 at in
      let fits = called_fits units unit.0.body v (length operands) (program.bodies u unit.0 unit.1) (made.1.keeps.calls v (length operands) (record { number = n; node = Call into v operands next; here = here; calls = refl })) in
      omega (arith, fits.0, are.long);
}
  where
    unit_at : (u : ℕ) (graph : GraphShape) → slice_get gs u ≡ Some graph → (unit : UnitShape) × (slice_get units u ≡ Some unit)
    unit_at u graph at = let s = some_at units u (omega (arith, slice_get_within gs u graph at, are.long)) in (s.0, s.1)

    shared_is : (u : ℕ) (graph : GraphShape) → slice_get gs u ≡ Some graph → graph.shared ≡ length globals
    shared_is u graph at =
        let unit = unit_at u graph at in
        let made = are.are u unit.0 graph unit.1 at in
        sym made.1.keeps.same.shared ∙ (program.shares u unit.0 unit.1).count

    first_is : (l : List GraphShape) → l ≡ gs → shared_in l ≡ length globals
    first_is [] is = absurd (let none : 0 ≡ length gs = ap (λ (k : List GraphShape). length k) is in omega (arith, none, program.some_unit, are.long))
    first_is (g ∷ l) is = shared_is 0 g (ap (λ (k : List GraphShape). slice_get k 0) (sym is))

-- ---- one unit

-- what is asked for around a unit
pub around_asked : (demands : Demands) (u shared : ℕ) (around : Around) → IsAround demands u around → asked_by shared around ≡ asked_at demands shared u
around_asked demands u shared around is =
    ap (λ (l : List (List ℕ)). record { globals = λ v x. width_at (list_at l v) x; arguments = λ v i. width_at (list_at around.arguments.now v) i; left = width_at around.back.now; result = width_at around.back.now shared }) is.globals
    ∙ ap (λ (l : List (List ℕ)). record { globals = λ v x. width_at (list_at demands.globals v) x; arguments = λ v i. width_at (list_at l v) i; left = width_at around.back.now; result = width_at around.back.now shared }) is.arguments
    ∙ ap (λ (l : List ℕ). record { globals = λ v x. width_at (list_at demands.globals v) x; arguments = λ v i. width_at (list_at demands.arguments v) i; left = width_at l; result = width_at l shared }) is.back

-- what is made of the unit of a number
pub wanted_unit : (demands : Demands) (units : List UnitShape) (gs : List GraphShape) (number : ℕ) (graph narrowed : GraphShape) (target : UnitShape) → AreFronts units gs → slice_get gs number ≡ Some graph → IsMadeNarrowed (asked_at demands graph.shared number) graph narrowed → CleanedLaid narrowed target → WantedUnit demands units number target
wanted_unit demands units gs number graph narrowed target fronts at made back source at' =
    let front = fronts.are number source graph at' at in
    let is = made.narrowed_is in
    record {
      lowered = front.0;
      cleaned = graph;
      passed = narrowed;
      front = front.1;
      is_passed = is;
      keeps = record {
        name = is.name_is;
        globals = same_globals graph narrowed is.shared_is is.vars_are;
        middle = narrowed;
        between = made;
        shared = is.shared_is;
        received = is.received_are;
        same = same_refl (machine_of narrowed);
        cheaper = cheaper_refl (machine_of narrowed) (graph_hands narrowed.shared narrowed.received narrowed.nodes);
        middle_calls = made.calls;
        calls = λ called count c. c;
      };
      back = back;
    }

-- ---- what is made keeps the program

module _ (demands : Demands) (gs : List GraphShape) (source target : ProgramShape) (program : IsProgram source.globals source.units) (globals : target.globals ≡ source.globals) (all : WantedUnits demands source.units target.units) (fronts : AreFronts source.units gs) (least : AreLeastDemands gs demands) where
  abbrev pub own : List GraphShape
  own = graphs (NarrowedTo demands) (NarrowsTo demands) source target program globals all

  abbrev pub made : List GraphShape
  made = middles (NarrowedTo demands) (NarrowsTo demands) source target program globals all

  own_long : length own ≡ length source.units
  own_long = graphs_count (NarrowedTo demands) (NarrowsTo demands) source target program globals all

  -- the graphs are those of the demands
  pub same : own ≡ gs
  same = places_same own gs (own_long ∙ sym fronts.long) (λ u x y at_x at_y.
      let lt : u < length source.units = omega (arith, slice_get_within own u x at_x, own_long) in
      let a = at (NarrowedTo demands) (NarrowsTo demands) source target program globals all u lt in
      let front = fronts.are u a.source y a.source_at at_y in
      let lowered = lowered_is_one a.source front.0 a.made.lowered front.1.is_lowered a.made.front.is_lowered in
      let cleaned : y ≡ a.made.cleaned = clean_is_one a.made.lowered y a.made.cleaned a.made.front.within (subst (λ g. IsClean g y) lowered front.1.is_cleaned) a.made.front.is_cleaned in
      let both : Some x ≡ Some a.made.cleaned = sym at_x ∙ a.graph_at in
      let one : x ≡ a.made.cleaned = cc in
      one ∙ sym cleaned)

  served : AreServed own demands
  served = subst (λ l. AreServed l demands) (sym same) least.served

  pub whole : 64 ≤ width_at (list_at demands.backs 0) (shared_in own)
  whole = enough (list_at demands.backs 0) (shared_in own) 64 (omega arith) served.whole

  pub is_program : IsGraphProgram own
  is_program = graph_program (NarrowedTo demands) (NarrowsTo demands) source target program globals all

  pub least_sides : (u : ℕ) → u < length own → LeastSides demands u (graph_numbered own u) (graph_numbered made u)
  least_sides u lt =
      let between = between_at (NarrowedTo demands) (NarrowsTo demands) source target program globals all u lt in
      let graph = graph_numbered own u in
      let here : slice_get own u ≡ Some graph = (let s = some_at own u lt in s.1 ∙ ap Some (sym (ap (graph_or_empty (shared_in own)) s.1))) in
      made_sides demands u graph (graph_numbered made u) (is_program.are u lt) (is_program.shares u lt) between.found between.narrowed_is.shared_is between.narrowed_is.received_are (served.units u graph here)

  sides : (u : ℕ) → u < length own → Sides demands u (graph_numbered own u) (graph_numbered made u)
  sides u lt = (least_sides u lt).sides

  -- the target is the same, evaluates no more operators and is never deeper
  pub wanted_keeps : KeepsRuns source target
  wanted_keeps = passes_keep (NarrowedTo demands) (NarrowsTo demands) source target program globals all (narrowed_keep own made is_program demands whole sides)

  -- ---- the graphs and what they are narrowed to

  -- as many
  pub made_long : length made ≡ length own
  made_long = middles_long source.units target.units all.long (λ v. v) all.units ∙ sym own_long
    where
      middles_long : (sources targets : List UnitShape) → length targets ≡ length sources → (number : ℕ → ℕ) (each : MadeOf (NarrowedTo demands) (NarrowsTo demands) number sources targets) → length (middles_of (NarrowedTo demands) (NarrowsTo demands) number sources targets each) ≡ length sources
      middles_long [] targets long number each = refl
      middles_long (s ∷ sources) [] long number each = absurd (omega (arith, long))
      middles_long (s ∷ sources) (t ∷ targets) long number each = ap suc (middles_long sources targets (omega (arith, long)) (λ v. number (suc v)) (λ v. each (suc v)))

  -- there is a unit for each graph
  in_source : (u : ℕ) (graph : GraphShape) → slice_get own u ≡ Some graph → u < length source.units
  in_source u graph at = omega (arith, slice_get_within own u graph at, own_long)

  -- each is narrowed
  pub made_narrowed : (u : ℕ) (graph narrowed : GraphShape) → slice_get own u ≡ Some graph → slice_get made u ≡ Some narrowed → IsMadeNarrowed (asked_at demands graph.shared u) graph narrowed
  made_narrowed u graph narrowed at_u at_made =
      let a = at (NarrowedTo demands) (NarrowsTo demands) source target program globals all u (in_source u graph at_u) in
      let both : Some a.made.cleaned ≡ Some graph = sym a.graph_at ∙ at_u in
      let both' : Some a.made.keeps.middle ≡ Some narrowed = sym a.middle_at ∙ at_made in
      let one : a.made.cleaned ≡ graph = cc in
      let one' : a.made.keeps.middle ≡ narrowed = cc in
      subst (λ g. IsMadeNarrowed (asked_at demands g.shared u) g narrowed) one (subst (IsMadeNarrowed (asked_at demands a.made.cleaned.shared u) a.made.cleaned) one' a.made.keeps.between)

  -- and laid out it is the unit
  pub made_laid : (u : ℕ) (narrowed : GraphShape) (unit : UnitShape) → slice_get made u ≡ Some narrowed → slice_get target.units u ≡ Some unit → IsLaidFrom narrowed unit
  made_laid u narrowed unit at_made at_unit =
      let a = at (NarrowedTo demands) (NarrowsTo demands) source target program globals all u (omega (arith, slice_get_within made u narrowed at_made, made_long, own_long)) in
      let both : Some a.made.keeps.middle ≡ Some narrowed = sym a.middle_at ∙ at_made in
      let both' : Some a.target ≡ Some unit = sym a.target_at ∙ at_unit in
      let one : a.made.keeps.middle ≡ narrowed = cc in
      let one' : a.target ≡ unit = cc in
      let same : a.made.passed ≡ narrowed = narrowed_is_one (asked_at demands a.made.cleaned.shared u) a.made.cleaned a.made.front.can a.made.passed a.made.keeps.middle a.made.is_passed a.made.keeps.between.narrowed_is ∙ one in
      let back = a.made.back in
      subst (λ g. IsLaidFrom g unit) same (subst (IsLaidFrom a.made.passed) one' (back.swept, (back.is_swept, back.is_laid)))

  -- the demands are the least that serve them
  pub own_least : AreLeastDemands own demands
  own_least = subst (λ l. AreLeastDemands l demands) (sym same) least

  abbrev pub are_units : AreNarrowedUnits source target own made
  are_units = record {
    are_graphs = subst (AreGraphsOf source.units) (sym same) (graphs_are source.units gs fronts);
    demands = demands;
    least = own_least;
    long = made_long;
    are_narrowed = λ u graph narrowed at_u at_made. (made_narrowed u graph narrowed at_u at_made).narrowed_is;
    are_laid = made_laid;
  }

-- ---- one program

-- the graph that was made, of one of which a graph can be made
abbrev Made : Demands → PassRelation
Made demands u graph passed = CanMake graph.vars graph.received graph.nodes
    × IsNarrowedBy (asked_at demands graph.shared u) graph passed

-- of each unit
all_made : (demands : Demands) (sources targets : List UnitShape) → WantedUnits demands sources targets → AllPassed (Made demands) (NarrowsTo demands) sources targets
all_made demands sources targets all = record {
  long = all.long;
  units = λ u s t at at'.
      let m = all.units u s t at at' in
      record { lowered = m.lowered; cleaned = m.cleaned; passed = m.passed; front = m.front; is_passed = (m.front.can, m.is_passed); keeps = m.keeps; back = m.back };
}

-- a program has one program like this
pub wanted_only : (demands : Demands) (gs : List GraphShape) (source target other : ProgramShape) → target.globals ≡ source.globals → WantedUnits demands source.units target.units → AreFronts source.units gs → AreLeastDemands gs demands → IsWantedProgram source other → target ≡ other
wanted_only demands gs source target other globals all fronts least is =
    let graphs_are : gs ≡ is.graphs = places_same gs is.graphs (fronts.long ∙ sym is.are_graphs.long) (λ u x y at_x at_y.
    let unit = some_at source.units u (omega (arith, slice_get_within gs u x at_x, fronts.long)) in
    let front = fronts.are u unit.0 x unit.1 at_x in
    let exact = is.are_graphs.are u unit.0 y unit.1 at_y in
    let lowered = lowered_is_one unit.0 front.0 exact.0 front.1.is_lowered exact.1.0 in
    clean_is_one front.0 x y front.1.within front.1.is_cleaned (subst (λ g. IsClean g y) (sym lowered) exact.1.1)) in
    let demands_are : demands ≡ is.demands = demands_one gs demands is.demands least (subst (λ l. AreLeastDemands l is.demands) (sym graphs_are) is.least) in
    program_only (Made demands) (NarrowsTo demands) (NarrowedTo is.demands)
    (λ u graph a b p q. narrowed_is_one (asked_at demands graph.shared u) graph p.0 a b p.1 (subst (λ d. IsNarrowedBy (asked_at d graph.shared u) graph b) (sym demands_are) q))
    source target other globals (all_made demands source.units target.units all) is.passed
