use Rattle.std.proofs.Common.{◌≡◌, ◌∙◌, ◌<◌, ◌||◌, ℕ, List, [], false, length, slice_get, slice_set, Some, sym, ap, subst, arith}
use Rattle.std.proofs.lemmas.List.{get_or_default}
use Rattle.std.proofs.lemmas.Option.{slice_get-get_or}
use Rattle.node_list.specs.Lists.{list_at}
use Rattle.flow_graph.specs.Graphs.{CanMake, SharesVars}
use Rattle.wanted_bits.specs.BitsOrder.{joined_bits}
use Rattle.unit_callers.specs.Stale.{CallersMarked}
use Rattle.program_wanted.specs.Sweeps.{CallsFitRows, RaisesTo}
use Rattle.program_wanted.specs.Tables.{demands_of}
use Rattle.program_wanted.proofs.Rooms.{row_tells}
use Rattle.program_wanted.proofs.UnitServes.{arguments_long, calls_fit, globals_long, unit_fresh, unit_serves}
use Rattle.program_wanted.proofs.serving.serve.Goals as goal

pub ask_unit-requires-clause-prepared : goal.ask_unit-requires-clause-prepared
ask_unit-requires-clause-prepared c =
    let graphs = c.args.graphs.now.items in
    let all = c.args.prepared.now.items in
    let u = c.args.unit in
    let graph = c.index-graph.result.now in
    let ready = c.index-ready.result.now in
    c.requires.units.prepared.are u graph ready (slice_get-get_or graphs u graph c.requires.there ∙ ap Some (sym c.index-graph.ensures))
    (slice_get-get_or all u ready (omega (arith, c.requires.there, c.requires.units.prepared.long)) ∙ ap Some (sym c.index-ready.ensures))

pub ask_unit-requires-clause-there : goal.ask_unit-requires-clause-there
ask_unit-requires-clause-there c = omega (arith, c.requires.there, c.requires.progress.fit.backs.long)

pub ask_unit-requires-clause-long : goal.ask_unit-requires-clause-long
ask_unit-requires-clause-long c =
    let graphs = c.args.graphs.now.items in
    let u = c.args.unit in
    let graph = c.index-graph.result.now in
    c.requires.asks graph (slice_get-get_or graphs u graph c.requires.there ∙ ap Some (sym c.index-graph.ensures))

pub raise_all-entered-requires : goal.raise_all-entered-requires
raise_all-entered-requires c =
    let graphs = c.args.graphs.now.items in
    let u = c.args.unit in
    let old = demands_of c.args.tables.now in
    let graph = c.index-graph.result.now in
    let at : slice_get graphs u ≡ Some graph = slice_get-get_or graphs u graph c.requires.there ∙ ap Some (sym c.index-graph.ensures) in
    let can = subst (λ l. CanMake graph.vars graph.received l) c.nodes-nodes.ensures.value c.nodes-nodes.ensures.graph.can in
    let shares = subst (λ n. SharesVars n graph.vars graph.received) c.shared-shared.ensures.value c.shared-shared.ensures.shares in
    let value : c.index_mut-2.result.now ≡ list_at old.globals u = c.index_mut-2.ensures.value ∙ get_or_default old.globals u _ [] (omega (arith, c.requires.there, c.requires.progress.fit.globals.long)) in
    ap (λ (l : List ℕ). length l) c.in_ok-ask_unit.ensures.globals
    ∙ globals_long graphs c.requires.units.fit u graph at can shares old c.requires.progress c.ask_unit.new.asks.calls.items c.in_ok-ask_unit.ensures.are
    ∙ sym (ap (λ (l : List ℕ). length l) value)

pub raise_all-given-requires : goal.raise_all-given-requires
raise_all-given-requires c =
    let graphs = c.args.graphs.now.items in
    let u = c.args.unit in
    let old = demands_of c.args.tables.now in
    let graph = c.index-graph.result.now in
    let at : slice_get graphs u ≡ Some graph = slice_get-get_or graphs u graph c.requires.there ∙ ap Some (sym c.index-graph.ensures) in
    let can = subst (λ l. CanMake graph.vars graph.received l) c.nodes-nodes.ensures.value c.nodes-nodes.ensures.graph.can in
    let shares = subst (λ n. SharesVars n graph.vars graph.received) c.shared-shared.ensures.value c.shared-shared.ensures.shares in
    let value : c.index_mut-3.result.now ≡ list_at old.arguments u = c.index_mut-3.ensures.value ∙ get_or_default old.arguments u _ [] (omega (arith, c.requires.there, c.requires.progress.fit.arguments.long)) in
    ap (λ (l : List ℕ). length l) c.in_ok-ask_unit.ensures.arguments
    ∙ arguments_long graphs c.requires.units.fit u graph at can shares old c.requires.progress c.ask_unit.new.asks.calls.items c.in_ok-ask_unit.ensures.are
    ∙ sym (ap (λ (l : List ℕ). length l) value)

pub raise_backs-back-requires : goal.raise_backs-back-requires
raise_backs-back-requires c =
    let graphs = c.args.graphs.now.items in
    let u = c.args.unit in
    let old = demands_of c.args.tables.now in
    let graph = c.index-graph.result.now in
    let at : slice_get graphs u ≡ Some graph = slice_get-get_or graphs u graph c.requires.there ∙ ap Some (sym c.index-graph.ensures) in
    let can = subst (λ l. CanMake graph.vars graph.received l) c.nodes-nodes.ensures.value c.nodes-nodes.ensures.graph.can in
    let shares = subst (λ n. SharesVars n graph.vars graph.received) c.shared-shared.ensures.value c.shared-shared.ensures.shares in
    subst (λ l. CallsFitRows graph l old.backs) (sym c.as_slice.ensures.value)
    (calls_fit graphs c.requires.units.fit u graph at can shares old c.requires.progress c.ask_unit.new.asks.calls.items c.in_ok-ask_unit.ensures.are)

pub returns-clause-serves : goal.returns-clause-serves
returns-clause-serves c =
    let graphs = c.args.graphs.now.items in
    let u = c.args.unit in
    let old = demands_of c.args.tables.now in
    let graph = c.index-graph.result.now in
    let calls = c.ask_unit.new.asks.calls.items in
    let at : slice_get graphs u ≡ Some graph = slice_get-get_or graphs u graph c.requires.there ∙ ap Some (sym c.index-graph.ensures) in
    let can = subst (λ l. CanMake graph.vars graph.received l) c.nodes-nodes.ensures.value c.nodes-nodes.ensures.graph.can in
    let shares = subst (λ n. SharesVars n graph.vars graph.received) c.shared-shared.ensures.value c.shared-shared.ensures.shares in
    let lt : u < length old.globals = omega (arith, c.requires.there, c.requires.progress.fit.globals.long) in
    let lt' : u < length old.arguments = omega (arith, c.requires.there, c.requires.progress.fit.arguments.long) in
    let value : c.index_mut-2.result.now ≡ list_at old.globals u = c.index_mut-2.ensures.value ∙ get_or_default old.globals u _ [] lt in
    let value' : c.index_mut-3.result.now ≡ list_at old.arguments u = c.index_mut-3.ensures.value ∙ get_or_default old.arguments u _ [] lt' in
    let row = c.raise_all-entered.new.self in
    let row' = c.raise_all-given.new.self in
    unit_serves graphs c.requires.units.fit u graph at can shares old c.requires.progress calls c.in_ok-ask_unit.ensures.are
    (slice_set old.globals u row) (slice_set old.arguments u row') c.raise_backs-back.new.backs.items c.raise_all-entered.result c.raise_all-given.result c.raise_backs-back.result
    (ap (slice_set old.globals u) (c.raise_all-entered.ensures.raised ∙ ap (λ (l : List ℕ). joined_bits l c.ask_unit.new.asks.globals) value ∙ ap (joined_bits (list_at old.globals u)) c.in_ok-ask_unit.ensures.globals))
    (row_tells old.globals u c.index_mut-2.result.now row c.raise_all-entered.result lt value c.raise_all-entered.ensures.unchanged)
    (ap (slice_set old.arguments u) (c.raise_all-given.ensures.raised ∙ ap (λ (l : List ℕ). joined_bits l c.ask_unit.new.asks.arguments) value' ∙ ap (joined_bits (list_at old.arguments u)) c.in_ok-ask_unit.ensures.arguments))
    (row_tells old.arguments u c.index_mut-3.result.now row' c.raise_all-given.result lt' value' c.raise_all-given.ensures.unchanged)
    (subst (λ l. RaisesTo graph l (length graph.nodes) old.backs c.raise_backs-back.new.backs.items c.raise_backs-back.result) c.as_slice.ensures.value c.raise_backs-back.ensures.raises)

pub returns-clause-fresh : goal.returns-clause-fresh
returns-clause-fresh c =
    let graphs = c.args.graphs.now.items in
    let u = c.args.unit in
    let old = demands_of c.args.tables.now in
    let graph = c.index-graph.result.now in
    let calls = c.ask_unit.new.asks.calls.items in
    let callers = c.args.callers.now.items in
    let stale = c.args.stale.now.items in
    let at : slice_get graphs u ≡ Some graph = slice_get-get_or graphs u graph c.requires.there ∙ ap Some (sym c.index-graph.ensures) in
    let can = subst (λ l. CanMake graph.vars graph.received l) c.nodes-nodes.ensures.value c.nodes-nodes.ensures.graph.can in
    let shares = subst (λ n. SharesVars n graph.vars graph.received) c.shared-shared.ensures.value c.shared-shared.ensures.shares in
    let lt : u < length old.globals = omega (arith, c.requires.there, c.requires.progress.fit.globals.long) in
    let lt' : u < length old.arguments = omega (arith, c.requires.there, c.requires.progress.fit.arguments.long) in
    let value : c.index_mut-2.result.now ≡ list_at old.globals u = c.index_mut-2.ensures.value ∙ get_or_default old.globals u _ [] lt in
    let value' : c.index_mut-3.result.now ≡ list_at old.arguments u = c.index_mut-3.ensures.value ∙ get_or_default old.arguments u _ [] lt' in
    let row = c.raise_all-entered.new.self in
    let row' = c.raise_all-given.new.self in
    let entered = c.raise_all-entered.result in
    let given = c.raise_all-given.result in
    let units_are : c.units.result.now ≡ list_at callers u = c.units.ensures ∙ c.index.ensures ∙ get_or_default callers u _ [] (omega (arith, c.requires.there, c.requires.units.callers.long)) in
    unit_fresh graphs c.requires.units.fit u graph at can shares old c.requires.progress calls c.in_ok-ask_unit.ensures.are
    (slice_set old.globals u row) (slice_set old.arguments u row') c.raise_backs-back.new.backs.items entered given c.raise_backs-back.result
    (ap (slice_set old.globals u) (c.raise_all-entered.ensures.raised ∙ ap (λ (l : List ℕ). joined_bits l c.ask_unit.new.asks.globals) value ∙ ap (joined_bits (list_at old.globals u)) c.in_ok-ask_unit.ensures.globals))
    (row_tells old.globals u c.index_mut-2.result.now row entered lt value c.raise_all-entered.ensures.unchanged)
    (ap (slice_set old.arguments u) (c.raise_all-given.ensures.raised ∙ ap (λ (l : List ℕ). joined_bits l c.ask_unit.new.asks.arguments) value' ∙ ap (joined_bits (list_at old.arguments u)) c.in_ok-ask_unit.ensures.arguments))
    (row_tells old.arguments u c.index_mut-3.result.now row' given lt' value' c.raise_all-given.ensures.unchanged)
    (subst (λ l. RaisesTo graph l (length graph.nodes) old.backs c.raise_backs-back.new.backs.items c.raise_backs-back.result) c.as_slice.ensures.value c.raise_backs-back.ensures.raises)
    callers c.requires.units.callers stale c.mark_if.new.stale.items c.raise_backs-back.new.stale.items c.requires.fresh
    (subst (λ l. CallersMarked (entered || given) l (slice_set stale u false) c.mark_if.new.stale.items) units_are c.mark_if.ensures)
    c.raise_backs-back.ensures.marked

pub returns-clause-asks : goal.returns-clause-asks
returns-clause-asks c other there =
    let graphs = c.args.graphs.now.items in
    let u = c.args.unit in
    let graph = c.index-graph.result.now in
    let at : slice_get graphs u ≡ Some graph = slice_get-get_or graphs u graph c.requires.there ∙ ap Some (sym c.index-graph.ensures) in
    let both : Some graph ≡ Some other = sym at ∙ there in
    let same : graph ≡ other = cc in
    c.in_ok-ask_unit.ensures.are.long ∙ ap (λ g. length g.nodes) same
