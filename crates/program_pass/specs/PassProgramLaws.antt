-- Laws of programs whose units go through a pass: by the graphs of the units, of which each keeps its unit, what the
-- pass keeps of the program of these graphs, and the units that keep the graphs in between. For proofs only.
use Rattle.std.proofs.Common.{◌≡◌, ℕ, zero, suc, ◌<◌, List, [], ◌∷◌, length, slice_get, Some, refl, sym, ap, ◌∙◌, subst, arith}
use Rattle.mir_base.specs.Shapes.{IsProgram, ProgramShape, UnitShape, body_at, body_or_empty, receives_in}
use Rattle.mir_base.specs.UnitLaws.{same_trans, cheaper_trans}
use Rattle.mir_base.specs.UnitRuns.{UnitCheaper, UnitSame, body_machine, machine_at, unit_machine}
use Rattle.flow_graph.specs.Calls.{BodyCalls, NodesCall}
use Rattle.flow_graph.specs.Graphs.{CanMake, GraphShape, SharesVars}
use Rattle.flow_graph.specs.Machines.{machine_of}
use Rattle.mir_sim.specs.FitLaws.{keeps}
use Rattle.mir_sim.specs.LiftLaws.{CallsFit, EachCheaper, EachSame, lifts_keep}
use Rattle.mir_sim.specs.MachineLaws.{keep_trans, programs_cheaper, programs_same, programs_shallower}
use Rattle.mir_sim.specs.Machines.{MachinesKeep}
use Rattle.program_pass.specs.GraphPrograms.{GraphCallsFit, IsGraphProgram, ShareGlobals, graph_numbered, graph_machines, graph_or_empty, shared_in}
use Rattle.program_pass.specs.GraphProgramLaws.{first_shares, graph_calls_fit}
use Rattle.program_pass.specs.HeadLaws.{head_same, heads_same, heads_stay}
use Rattle.program_pass.specs.RefitLaws.{Refits, called_fits, refit_program}
use Rattle.program_pass.specs.PassPrograms.{AllPassed, KeepsRuns, PassRelation, UnitPassed}

module _ (Exact Between : PassRelation) where
  -- ---- the graphs of the units

  -- what was made of each unit, where the units have these numbers
  abbrev pub MadeOf : (ℕ → ℕ) → List UnitShape → List UnitShape → Type 0
  MadeOf number sources targets = (u : ℕ) (source target : UnitShape) → slice_get sources u ≡ Some source → slice_get targets u ≡ Some target → UnitPassed Exact Between source (number u) target

  -- the graphs before the pass
  abbrev pub graphs_of : (number : ℕ → ℕ) (sources targets : List UnitShape) → MadeOf number sources targets → List GraphShape
  graphs_of number [] targets made = []
  graphs_of number (s ∷ sources) [] made = []
  graphs_of number (s ∷ sources) (t ∷ targets) made = (made 0 s t refl refl).cleaned ∷ graphs_of (λ u. number (suc u)) sources targets (λ u. made (suc u))

  -- and those in between
  abbrev pub middles_of : (number : ℕ → ℕ) (sources targets : List UnitShape) → MadeOf number sources targets → List GraphShape
  middles_of number [] targets made = []
  middles_of number (s ∷ sources) [] made = []
  middles_of number (s ∷ sources) (t ∷ targets) made = (made 0 s t refl refl).keeps.middle ∷ middles_of (λ u. number (suc u)) sources targets (λ u. made (suc u))

  -- the units and the graphs of number u, of the source, between and of the target
  pub record At (number : ℕ → ℕ) (sources targets : List UnitShape) (graphs middles : List GraphShape) (u : ℕ) : Type 0 where
    pub source : UnitShape
    pub target : UnitShape
    pub source_at : slice_get sources u ≡ Some source
    pub target_at : slice_get targets u ≡ Some target
    pub made : UnitPassed Exact Between source (number u) target
    pub graph_at : slice_get graphs u ≡ Some made.cleaned
    pub middle_at : slice_get middles u ≡ Some made.keeps.middle

  -- there are such units and graphs of each number
  made_at : (number : ℕ → ℕ) (sources targets : List UnitShape) (made : MadeOf number sources targets)
      → length targets ≡ length sources → (u : ℕ) → u < length sources
      → At number sources targets (graphs_of number sources targets made) (middles_of number sources targets made) u
  made_at number [] targets made long u lt = absurd (omega (arith, lt))
  made_at number (s ∷ sources) [] made long u lt = absurd (omega (arith, long))
  made_at number (s ∷ sources) (t ∷ targets) made long zero lt = record { source = s; target = t; source_at = refl; target_at = refl; made = made 0 s t refl refl; graph_at = refl; middle_at = refl }
  made_at number (s ∷ sources) (t ∷ targets) made long (suc u) lt =
      let a = made_at (λ v. number (suc v)) sources targets (λ v. made (suc v)) (omega (arith, long)) u (omega (arith, lt)) in
      record { source = a.source; target = a.target; source_at = a.source_at; target_at = a.target_at; made = a.made; graph_at = a.graph_at; middle_at = a.middle_at }

  -- there are as many graphs as units
  graphs_long : (number : ℕ → ℕ) (sources targets : List UnitShape) (made : MadeOf number sources targets)
      → length targets ≡ length sources → length (graphs_of number sources targets made) ≡ length sources
  graphs_long number [] targets made long = refl
  graphs_long number (s ∷ sources) [] made long = absurd (omega (arith, long))
  graphs_long number (s ∷ sources) (t ∷ targets) made long = ap suc (graphs_long (λ v. number (suc v)) sources targets (λ v. made (suc v)) (omega (arith, long)))

  middles_long : (number : ℕ → ℕ) (sources targets : List UnitShape) (made : MadeOf number sources targets)
      → length targets ≡ length sources → length (middles_of number sources targets made) ≡ length sources
  middles_long number [] targets made long = refl
  middles_long number (s ∷ sources) [] made long = absurd (omega (arith, long))
  middles_long number (s ∷ sources) (t ∷ targets) made long = ap suc (middles_long (λ v. number (suc v)) sources targets (λ v. made (suc v)) (omega (arith, long)))

  -- ---- one unit

  -- the unit that was made may take the place of the source's
  made_refits : (source target : UnitShape) (number : ℕ) → UnitPassed Exact Between source number target → Refits source target
  made_refits source target number m = record {
    name = m.back.keeps.name ∙ m.keeps.name ∙ m.front.keeps.name;
    shared = sym m.back.keeps.same.shared ∙ sym m.keeps.same.shared ∙ m.keeps.shared ∙ sym m.front.keeps.same.shared;
    globals = m.back.keeps.globals ∙ m.keeps.globals ∙ m.front.keeps.globals;
    receives = sym m.back.keeps.same.receives ∙ sym m.keeps.same.receives ∙ ap (λ (l : List ℕ). length l) m.keeps.received ∙ sym m.front.keeps.same.receives;
    calls = λ called count c. m.front.keeps.calls called count (m.keeps.middle_calls called count (m.keeps.calls called count (m.back.keeps.calls called count c)));
    lowers = m.back.lowers;
  }

  module _ (source target : ProgramShape) (program : IsProgram source.globals source.units) (globals : target.globals ≡ source.globals) (all : AllPassed Exact Between source.units target.units) where
    abbrev pub graphs : List GraphShape
    graphs = graphs_of (λ u. u) source.units target.units all.units

    abbrev pub middles : List GraphShape
    middles = middles_of (λ u. u) source.units target.units all.units

    pub at : (u : ℕ) → u < length source.units → At (λ v. v) source.units target.units graphs middles u
    at = made_at (λ u. u) source.units target.units all.units all.long

    -- the graphs of this number
    pub graph_is : (u : ℕ) (lt : u < length source.units) → graph_numbered graphs u ≡ (at u lt).made.cleaned
    graph_is u lt = ap (graph_or_empty (shared_in graphs)) (at u lt).graph_at

    middle_is : (u : ℕ) (lt : u < length source.units) → graph_numbered middles u ≡ (at u lt).made.keeps.middle
    middle_is u lt = ap (graph_or_empty (shared_in middles)) (at u lt).middle_at

    pub graphs_count : length graphs ≡ length source.units
    graphs_count = graphs_long (λ u. u) source.units target.units all.units all.long

    middles_count : length middles ≡ length source.units
    middles_count = middles_long (λ u. u) source.units target.units all.units all.long

    -- the target is a program
    pub passed_program : IsProgram target.globals target.units
    passed_program = subst (λ gs. IsProgram gs target.units) (sym globals) (refit_program source.units target.units all.long (λ u s t e f. made_refits s t u (all.units u s t e f)) source.globals program)

    -- ---- calls

    -- the graph of each number receives what the unit does
    graph_receives : (u : ℕ) → u < length source.units → length (graph_numbered graphs u).received ≡ receives_in (body_at source.units u)
    graph_receives u lt =
        let a = at u lt in
        ap (λ (g : GraphShape). length g.received) (graph_is u lt) ∙ sym a.made.front.keeps.same.receives ∙ sym (ap (λ o. receives_in (body_or_empty o)) a.source_at)

    middles_receives : (u : ℕ) → u < length source.units → length (graph_numbered middles u).received ≡ length (graph_numbered graphs u).received
    middles_receives u lt =
        let a = at u lt in
        ap (λ (g : GraphShape). length g.received) (middle_is u lt) ∙ ap (λ (l : List ℕ). length l) a.made.keeps.received ∙ sym (ap (λ (g : GraphShape). length g.received) (graph_is u lt))

    -- a call of the unit of a number
    unit_calls : (u : ℕ) (lt : u < length source.units) (called count : ℕ)
        → BodyCalls (at u lt).source.body called count
        → (called < length source.units) × (count ≡ length (graph_numbered graphs called).received)
    unit_calls u lt called count c =
        let a = at u lt in
        let fits = called_fits source.units a.source.body called count (program.bodies u a.source a.source_at) c in
        (fits.0, fits.1 ∙ sym (graph_receives called fits.0))

    graph_fits : (u : ℕ) → u < length graphs → GraphCallsFit graphs (graph_numbered graphs u)
    graph_fits u lt called count c =
        let lt' : u < length source.units = omega (arith, lt, graphs_count) in
        let a = at u lt' in
        let fits = unit_calls u lt' called count (a.made.front.keeps.calls called count (subst (λ (g : GraphShape). NodesCall g.nodes called count) (graph_is u lt') c)) in
        (omega (arith, fits.0, graphs_count), fits.1)

    middles_fits : (u : ℕ) → u < length middles → GraphCallsFit middles (graph_numbered middles u)
    middles_fits u lt called count c =
        let lt' : u < length source.units = omega (arith, lt, middles_count) in
        let a = at u lt' in
        let fits = unit_calls u lt' called count (a.made.front.keeps.calls called count (a.made.keeps.middle_calls called count (subst (λ (g : GraphShape). NodesCall g.nodes called count) (middle_is u lt') c))) in
        (omega (arith, fits.0, middles_count), fits.1 ∙ sym (middles_receives called fits.0))

    -- ---- globals

    -- each graph, and each in between, has the globals of the program
    graph_shared : (u : ℕ) → u < length source.units → (graph_numbered graphs u).shared ≡ length source.globals
    graph_shared u lt =
        let a = at u lt in
        ap (λ (g : GraphShape). g.shared) (graph_is u lt) ∙ sym a.made.front.keeps.same.shared ∙ (program.shares u a.source a.source_at).count

    middle_shared : (u : ℕ) → u < length source.units → (graph_numbered middles u).shared ≡ length source.globals
    middle_shared u lt =
        let a = at u lt in
        ap (λ (g : GraphShape). g.shared) (middle_is u lt) ∙ a.made.keeps.shared ∙ ap (λ (g : GraphShape). g.shared) (sym (graph_is u lt)) ∙ graph_shared u lt

    graphs_share : ShareGlobals graphs
    graphs_share u lt = graph_shared u (omega (arith, lt, graphs_count)) ∙ sym (sym (first_shares graphs) ∙ graph_shared 0 program.some_unit)

    middles_share : ShareGlobals middles
    middles_share u lt = middle_shared u (omega (arith, lt, middles_count)) ∙ sym (sym (first_shares middles) ∙ middle_shared 0 program.some_unit)

    -- ---- from the source to its graphs

    pub graph_program : IsGraphProgram graphs
    graph_program = record {
      some = omega (arith, program.some_unit, graphs_count);
      are = λ u lt. let a = at u (omega (arith, lt, graphs_count)) in subst (λ (g : GraphShape). CanMake g.vars g.received g.nodes) (sym (graph_is u (omega (arith, lt, graphs_count)))) a.made.front.can;
      shares = λ u lt. let a = at u (omega (arith, lt, graphs_count)) in subst (λ (g : GraphShape). SharesVars g.shared g.vars g.received) (sym (graph_is u (omega (arith, lt, graphs_count)))) a.made.front.shares;
      globals = graphs_share;
      calls = graph_fits;
    }

    source_machine : (u : ℕ) (lt : u < length source.units) → unit_machine (at u lt).source ≡ machine_at source u
    source_machine u lt =
        let a = at u lt in
        ap (λ n. body_machine n a.source.body) (program.shares u a.source a.source_at).count ∙ ap (λ o. body_machine (length source.globals) (body_or_empty o)) (sym a.source_at)

    target_machine : (u : ℕ) (lt : u < length source.units) → unit_machine (at u lt).target ≡ machine_at target u
    target_machine u lt =
        let a = at u lt in
        ap (λ n. body_machine n a.target.body) (passed_program.shares u a.target a.target_at).count ∙ ap (λ o. body_machine (length target.globals) (body_or_empty o)) (sym a.target_at)

    to_graphs_same : EachSame (length source.units) (machine_at source) (graph_machines graphs)
    to_graphs_same u lt =
        let a = at u lt in
        subst (λ m. UnitSame m (graph_machines graphs u)) (source_machine u lt) (subst (λ g. UnitSame (unit_machine a.source) (machine_of g)) (sym (graph_is u lt)) a.made.front.keeps.same)

    to_graphs_cheaper : EachCheaper (length source.units) (machine_at source) (graph_machines graphs)
    to_graphs_cheaper u lt =
        let a = at u lt in
        subst (λ m. UnitCheaper m (graph_machines graphs u)) (source_machine u lt) (subst (λ g. UnitCheaper (unit_machine a.source) (machine_of g)) (sym (graph_is u lt)) a.made.front.keeps.cheaper)

    -- ---- and from the graphs in between to the target

    from_middles_same : EachSame (length source.units) (graph_machines middles) (machine_at target)
    from_middles_same u lt =
        let a = at u lt in
        let both = same_trans (machine_of a.made.keeps.middle) (machine_of a.made.passed) (unit_machine a.target) a.made.keeps.same a.made.back.keeps.same in
        subst (UnitSame (graph_machines middles u)) (target_machine u lt) (subst (λ g. UnitSame (machine_of g) (unit_machine a.target)) (sym (middle_is u lt)) both)

    from_middles_cheaper : EachCheaper (length source.units) (graph_machines middles) (machine_at target)
    from_middles_cheaper u lt =
        let a = at u lt in
        let both = cheaper_trans (machine_of a.made.keeps.middle) (machine_of a.made.passed) (unit_machine a.target) a.made.keeps.same a.made.keeps.cheaper a.made.back.keeps.cheaper in
        subst (UnitCheaper (graph_machines middles u)) (target_machine u lt) (subst (λ g. UnitCheaper (machine_of g) (unit_machine a.target)) (sym (middle_is u lt)) both)

    -- ---- all

    -- each graph in between is one of its graph
    pub between_at : (u : ℕ) → u < length graphs → Between u (graph_numbered graphs u) (graph_numbered middles u)
    between_at u lt =
        let a = at u (omega (arith, lt, graphs_count)) in
        subst (λ g. Between u g (graph_numbered middles u)) (sym (graph_is u (omega (arith, lt, graphs_count)))) (subst (Between u a.made.cleaned) (sym (middle_is u (omega (arith, lt, graphs_count)))) a.made.keeps.between)

    graphs_calls : CallsFit (length source.units) (graph_machines graphs)
    graphs_calls = subst (λ n. CallsFit n (graph_machines graphs)) graphs_count (graph_calls_fit graphs graphs_share graph_fits)

    middle_calls_fit : CallsFit (length source.units) (graph_machines middles)
    middle_calls_fit = subst (λ n. CallsFit n (graph_machines middles)) middles_count (graph_calls_fit middles middles_share middles_fits)

    target_calls : CallsFit (length source.units) (machine_at target)
    target_calls = subst (λ n. CallsFit n (machine_at target)) all.long (keeps target passed_program)

    all_keep : MachinesKeep (graph_machines graphs) (graph_machines middles) → MachinesKeep (machine_at source) (machine_at target)
    all_keep middle =
        let front = lifts_keep (length source.units) (machine_at source) (graph_machines graphs) program.some_unit (keeps source program) graphs_calls to_graphs_same to_graphs_cheaper in
        let back = lifts_keep (length source.units) (graph_machines middles) (machine_at target) program.some_unit middle_calls_fit target_calls from_middles_same from_middles_cheaper in
        keep_trans (machine_at source) (graph_machines graphs) (machine_at target) front (keep_trans (graph_machines graphs) (graph_machines middles) (machine_at target) middle back)

    -- where the graphs in between keep the graphs, the target is the same, evaluates no more operators and is never
    -- deeper, and has the heads of the source
    pub passes_keep : MachinesKeep (graph_machines graphs) (graph_machines middles) → KeepsRuns source target
    passes_keep middle = record {
      same = programs_same source target (all_keep middle);
      cheaper = programs_cheaper source target (all_keep middle);
      shallower = programs_shallower source target (all_keep middle);
      heads = heads_stay source target globals (heads_same source.units target.units all.long (λ u s t e f.
          let refits = made_refits s t u (all.units u s t e f) in head_same s t refits.name refits.receives));
    }
