-- What is made of each unit is what its arguments always are, and of all units the one program, which keeps its runs.
use Rattle.std.proofs.Common.{◌≡◌, inl, ℕ, ◌<◌, List, length, slice_get, ℤ, Option, Some, refl, sym, ap, ◌∙◌, subst, arith}
use Rattle.std.proofs.lemmas.Option.{slice_get_within}
use Rattle.mir_base.specs.Shapes.{IsProgram, ProgramShape, UnitShape}
use Rattle.mir_base.specs.UnitRuns.{UnitCheaper, UnitSame}
use Rattle.flow_graph.specs.declared.nodes.Node.{Node}
use Rattle.flow_graph.specs.declared.nodes.Node.TheVariants.{Call}
use Rattle.flow_graph.specs.Calls.{CallsAmong, NodesCall}
use Rattle.flow_graph.specs.Graphs.{CanMake, GraphShape}
use Rattle.flow_graph.specs.KeepsLaws.{same_globals}
use Rattle.flow_graph.specs.ListLaws.{some_at}
use Rattle.flow_graph.specs.Machines.{graph_machine, machine_of}
use Rattle.flow_graph.specs.OneLaws.{lowered_is_one, made_is_one}
use Rattle.flow_graph.specs.Retained.{IsMade}
use Rattle.jump_clean.specs.Cleaned.{IsClean}
use Rattle.jump_clean.specs.CleanLaws.{clean_is_one}
use Rattle.program_pass.specs.Fronts.{AreFronts}
use Rattle.program_pass.specs.PassPrograms.{AllPassed, CleanedLaid, KeepsRuns, PassKeeps}
use Rattle.program_pass.specs.PassProgramLaws.{at, between_at, graph_is, graph_program, graphs, graphs_count, middles, passes_keep}
use Rattle.program_pass.specs.RefitLaws.{called_fits}
use Rattle.constant_args.specs.ConstantArguments.{AreConstants, ArgumentsAssigned, CallSite, IsCallOf, Knowing, put_behind_start, constant_puts}
use Rattle.constant_args.specs.Gathered.{CallsExist, IsCallBefore, KnowingUnit, KnowsMade}
use Rattle.constant_args.proofs.ArgumentStacks.{CallsIn, knowing_keep}
use Rattle.constant_args.proofs.BehindStart.{behind_start_calls, behind_start_can}
use Rattle.constant_args.proofs.Constants.{puts_below, puts_same}

-- ---- one graph

module _ (graph : GraphShape) (constants : List (Option ℤ)) (nodes : List Node) (can : CanMake graph.vars graph.received graph.nodes) (are : nodes ≡ put_behind_start graph.nodes (constant_puts graph.received constants)) where
  -- the nodes make a graph
  pub knows_can : CanMake graph.vars graph.received nodes
  knows_can = subst (CanMake graph.vars graph.received) (sym are) (behind_start_can graph.vars graph.received graph.nodes can (constant_puts graph.received constants) (puts_below (length graph.vars) graph.received constants can.received_below))

  -- and make no calls but those of the graph
  pub knows_made : (known : GraphShape) → IsMade graph.name graph.shared graph.vars graph.received nodes known → UnitSame (graph_machine graph.shared graph.received nodes) (machine_of known)
      → UnitCheaper (graph_machine graph.shared graph.received nodes) (machine_of known) → CallsAmong (NodesCall known.nodes) (NodesCall nodes) → KnowsMade graph constants known
  knows_made known made same cheaper among = record {
    nodes = nodes;
    nodes_are = are;
    made = made;
    same = same;
    cheaper = cheaper;
    behind_start_calls = λ called count c. behind_start_calls graph.vars graph.received graph.nodes can (constant_puts graph.received constants) (puts_below (length graph.vars) graph.received constants can.received_below) called count (subst (λ l. NodesCall l called count) are c);
    known_calls = among;
  }

-- what is kept of it
pub knows_keeps : (units : List UnitShape) (u : ℕ) (graph : GraphShape) (constants : List (Option ℤ)) (known : GraphShape) → AreConstants (IsCallOf units) u constants → KnowsMade graph constants known → PassKeeps (ArgumentsAssigned units u) graph known
knows_keeps units u graph constants known are m = record {
  name = m.made.name_is;
  globals = same_globals graph known m.made.shared_is m.made.vars_are;
  middle = record { name = graph.name; shared = graph.shared; vars = graph.vars; received = graph.received; nodes = m.nodes };
  between = record { constants = constants; are = are; nodes = m.nodes_are; shared = refl; received = refl };
  shared = refl;
  received = refl;
  same = m.same;
  cheaper = m.cheaper;
  middle_calls = m.behind_start_calls;
  calls = m.known_calls;
}

-- a graph has one that knows its arguments
pub knowing_one : (units : List UnitShape) (u : ℕ) (graph a b : GraphShape) → Knowing units u graph a → Knowing units u graph b → a ≡ b
knowing_one units u graph a b p q =
    let puts : constant_puts graph.received p.constants ≡ constant_puts graph.received q.constants = puts_same graph.received p.constants q.constants (λ i c. (λ known. (q.are i c).1 ((p.are i c).0 known), λ known. (p.are i c).1 ((q.are i c).0 known))) in
    made_is_one graph.name graph.shared graph.vars graph.received (put_behind_start graph.nodes (constant_puts graph.received p.constants)) a b p.made
    (subst (λ l. IsMade graph.name graph.shared graph.vars graph.received (put_behind_start graph.nodes l) b) (sym puts) q.made)

-- ---- the calls of the units

-- the same calls give the same constants
constants_move : (CallsOf Others : ℕ → CallSite → Type 0) (u : ℕ) (constants : List (Option ℤ)) → ((site : CallSite) → CallsOf u site → Others u site)
    → ((site : CallSite) → Others u site → CallsOf u site) → AreConstants CallsOf u constants → AreConstants Others u constants
constants_move CallsOf Others u constants forth back are i c = (
  λ known. let always = (are i c).0 known in record { later = always.later; some = (always.some.0, forth always.some.0 always.some.1, always.some.2); each = λ site call. always.each site (back site call) },
  λ always. (are i c).1 (record { later = always.later; some = (always.some.0, back always.some.0 always.some.1, always.some.2); each = λ site call. always.each site (forth site call) }),
)

module _ (units : List UnitShape) (gs : List GraphShape) (fronts : AreFronts units gs) where
  -- a call of the graphs
  call_forth : (u : ℕ) (site : CallSite) → IsCallBefore gs (length gs) 0 u site → IsCallOf units u site
  call_forth u site call =
      let lt = slice_get_within gs site.caller site.graph call.graph_at in
      let unit = some_at units site.caller (omega (arith, lt, fronts.long)) in
      let front = fronts.are site.caller unit.0 site.graph unit.1 call.graph_at in
      record {
        unit = unit.0;
        lowered = front.0;
        number = call.number;
        into = call.into;
        next = call.next;
        unit_at = unit.1;
        is_lowered = front.1.is_lowered;
        is_cleaned = front.1.is_cleaned;
        here = call.here;
      }

  -- and of the units
  call_back : (u : ℕ) (site : CallSite) → IsCallOf units u site → IsCallBefore gs (length gs) 0 u site
  call_back u site call =
      let low = slice_get_within units site.caller call.unit call.unit_at in
      let lt : site.caller < length gs = omega (arith, low, fronts.long) in
      let graph = some_at gs site.caller lt in
      let front = fronts.are site.caller call.unit graph.0 call.unit_at graph.1 in
      let lowered = lowered_is_one call.unit front.0 call.lowered front.1.is_lowered call.is_lowered in
      let cleaned : graph.0 ≡ site.graph = clean_is_one front.0 graph.0 site.graph front.1.within front.1.is_cleaned (subst (λ g. IsClean g site.graph) (sym lowered) call.is_cleaned) in
      record {
        number = call.number;
        into = call.into;
        next = call.next;
        graph_at = graph.1 ∙ ap Some cleaned;
        here = call.here;
        before = inl lt;
      }

  -- the constants of a unit
  pub unit_constants : (u : ℕ) (constants : List (Option ℤ)) → AreConstants (IsCallBefore gs (length gs) 0) u constants → AreConstants (IsCallOf units) u constants
  unit_constants u constants are = constants_move (IsCallBefore gs (length gs) 0) (IsCallOf units) u constants (call_forth u) (call_back u) are

  -- what is made of the unit of a number
  pub knowing_unit : (number : ℕ) (graph known : GraphShape) (constants : List (Option ℤ)) (target : UnitShape) → slice_get gs number ≡ Some graph
      → AreConstants (IsCallBefore gs (length gs) 0) number constants → KnowsMade graph constants known → CleanedLaid known target → KnowingUnit units number target
  knowing_unit number graph known constants target at_graph are made back source at_source =
      let front = fronts.are number source graph at_source at_graph in
      let constants_are = unit_constants number constants are in
      record {
        lowered = front.0;
        cleaned = graph;
        passed = known;
        front = front.1;
        is_passed = record { constants = constants; are = constants_are; made = subst (λ l. IsMade graph.name graph.shared graph.vars graph.received l known) made.nodes_are made.made };
        keeps = knows_keeps units number graph constants known constants_are made;
        back = back;
      }

  -- the calls are of units that there are
  pub calls_exist : (globals : List (List ℕ)) → IsProgram globals units → CallsExist gs
  calls_exist globals program = record {
    some = omega (arith, program.some_unit, fronts.long);
    calls = λ w graph n node at_graph here into v operands next is.
        let lt = slice_get_within gs w graph at_graph in
        let unit = some_at units w (omega (arith, lt, fronts.long)) in
        let front = fronts.are w unit.0 graph unit.1 at_graph in
        let fits = called_fits units unit.0.body v (length operands) (program.bodies w unit.0 unit.1) (front.1.keeps.calls v (length operands) (record { number = n; node = Call into v operands next; here = here ∙ ap Some is; calls = refl })) in
        omega (arith, fits.0, fronts.long);
  }

-- ---- the program

module _ (source target : ProgramShape) (program : IsProgram source.globals source.units) (globals : target.globals ≡ source.globals) (all : AllPassed (Knowing source.units) (ArgumentsAssigned source.units) source.units target.units) where
  abbrev own : List GraphShape
  own = graphs (Knowing source.units) (ArgumentsAssigned source.units) source target program globals all

  -- a call of the graphs is one of the units
  own_call : (u : ℕ) (site : CallSite) → CallsIn own u site → IsCallOf source.units u site
  own_call u site call =
      let there = call.there in
      let lt : site.caller < length source.units = omega (arith, there, graphs_count (Knowing source.units) (ArgumentsAssigned source.units) source target program globals all) in
      let a = at (Knowing source.units) (ArgumentsAssigned source.units) source target program globals all site.caller lt in
      let cleaned : site.graph ≡ a.made.cleaned = call.graph_is ∙ graph_is (Knowing source.units) (ArgumentsAssigned source.units) source target program globals all site.caller lt in
      record {
        unit = a.source;
        lowered = a.made.lowered;
        number = call.number;
        into = call.into;
        next = call.next;
        unit_at = a.source_at;
        is_lowered = a.made.front.is_lowered;
        is_cleaned = subst (IsClean a.made.lowered) (sym cleaned) a.made.front.is_cleaned;
        here = call.here;
      }

  -- the target is the same, evaluates no more operators and is never deeper
  pub knowing_keeps : KeepsRuns source target
  knowing_keeps = passes_keep (Knowing source.units) (ArgumentsAssigned source.units) source target program globals all
      (knowing_keep own (middles (Knowing source.units) (ArgumentsAssigned source.units) source target program globals all) (graph_program (Knowing source.units) (ArgumentsAssigned source.units) source target program globals all) (λ u lt.
      let b = between_at (Knowing source.units) (ArgumentsAssigned source.units) source target program globals all u lt in
      record {
        constants = b.constants;
        nodes = b.nodes;
        shared = b.shared;
        received = b.received;
        given = λ i c known. let always = (b.are i c).0 known in record { later = always.later; each = λ site call. always.each site (own_call u site call) };
      }))
