use Rattle.std.proofs.Common.{◌≡◌, ◌∙◌, ℕ, List, [], length, slice_get, slice_set, Some, sym, ap, subst, arith}
use Rattle.std.proofs.lemmas.List.{get_or_default}
use Rattle.std.proofs.lemmas.Option.{slice_get-get_or}
use Rattle.node_list.specs.Lists.{list_at}
use Rattle.flow_graph.specs.Graphs.{CanMake, SharesVars}
use Rattle.wanted_bits.specs.BitsOrder.{joined_bits}
use Rattle.program_wanted.specs.Hastening.{KeptOf}
use Rattle.program_wanted.specs.Sweeps.{CallsFitRows, RaisesTo}
use Rattle.program_wanted.specs.Tables.{demands_of}
use Rattle.program_wanted.proofs.UnitHastens.{kept_arguments_long, kept_fit, kept_globals_long, kept_stays, unit_hastens}
use Rattle.program_wanted.proofs.hastening.hasten_unit.Goals as goal
use Rattle.program_wanted.proofs.hastening.hasten_unit.Goals.{After-keep_unit, In_ok-entered}

pub keep_unit-requires-clause-prepared : goal.keep_unit-requires-clause-prepared
keep_unit-requires-clause-prepared c =
    let graphs = c.args.graphs.now.items in
    let all = c.args.prepared.now.items in
    let u = c.args.unit in
    c.requires.units.prepared.are u c.index-graph.result.now c.index.result.now (slice_get-get_or graphs u c.index-graph.result.now c.requires.there ∙ ap Some (sym c.index-graph.ensures))
    (slice_get-get_or all u c.index.result.now (omega (arith, c.requires.there, c.requires.units.prepared.long)) ∙ ap Some (sym c.index.ensures))

pub keep_unit-requires-clause-there : goal.keep_unit-requires-clause-there
keep_unit-requires-clause-there c = omega (arith, c.requires.there, c.requires.progress.fit.backs.long)

pub keep_unit-requires-clause-fits : goal.keep_unit-requires-clause-fits
keep_unit-requires-clause-fits c =
    let graphs = c.args.graphs.now.items in
    let all = c.args.prepared.now.items in
    let u = c.args.unit in
    let of : KeptOf graphs u c.index-graph.result.now c.index.result.now c.args.kept.now =
    c.requires.kept c.index-graph.result.now c.index.result.now (slice_get-get_or graphs u c.index-graph.result.now c.requires.there ∙ ap Some (sym c.index-graph.ensures))
    (slice_get-get_or all u c.index.result.now (omega (arith, c.requires.there, c.requires.units.prepared.long)) ∙ ap Some (sym c.index.ensures)) in
    of.fits

-- what the graph of the unit is
module _ (c : In_ok-entered) where
  at : slice_get c.args.graphs.now.items c.args.unit ≡ Some c.index-graph.result.now
  at = slice_get-get_or c.args.graphs.now.items c.args.unit c.index-graph.result.now c.requires.there ∙ ap Some (sym c.index-graph.ensures)

  at_ready : slice_get c.args.prepared.now.items c.args.unit ≡ Some c.index.result.now
  at_ready = slice_get-get_or c.args.prepared.now.items c.args.unit c.index.result.now (omega (arith, c.requires.there, c.requires.units.prepared.long)) ∙ ap Some (sym c.index.ensures)

  can : CanMake c.index-graph.result.now.vars c.index-graph.result.now.received c.index-graph.result.now.nodes
  can = subst (λ l. CanMake c.index-graph.result.now.vars c.index-graph.result.now.received l) c.nodes-nodes.ensures.value c.nodes-nodes.ensures.graph.can

  shares : SharesVars c.index-graph.result.now.shared c.index-graph.result.now.vars c.index-graph.result.now.received
  shares = subst (λ n. SharesVars n c.index-graph.result.now.vars c.index-graph.result.now.received) c.shared-shared.ensures.value c.shared-shared.ensures.shares

  -- what is kept of it then
  of : KeptOf c.args.graphs.now.items c.args.unit c.index-graph.result.now c.index.result.now c.keep_unit.new.kept
  of = kept_stays c.args.graphs.now.items c.args.unit c.index-graph.result.now c.index.result.now c.args.kept.now c.keep_unit.new.kept (demands_of c.args.tables.now) c.requires.progress
      (c.requires.units.prepared.are c.args.unit c.index-graph.result.now c.index.result.now at at_ready) c.in_ok-entered.ensures.fits c.in_ok-entered.ensures.below (c.requires.kept c.index-graph.result.now c.index.result.now at at_ready)

  globals_row : length c.in_ok-entered.entered.globals ≡ length (list_at c.args.tables.now.globals.items c.args.unit)
  globals_row = ap (λ (l : List ℕ). length l) c.in_ok-entered.ensures.entered.globals
      ∙ kept_globals_long c.args.graphs.now.items c.requires.units.fit c.args.unit c.index-graph.result.now at can shares (demands_of c.args.tables.now) c.requires.progress c.index.result.now c.keep_unit.new.kept of

  arguments_row : length c.in_ok-entered.entered.arguments ≡ length (list_at c.args.tables.now.arguments.items c.args.unit)
  arguments_row = ap (λ (l : List ℕ). length l) c.in_ok-entered.ensures.entered.arguments
      ∙ kept_arguments_long c.args.graphs.now.items c.requires.units.fit c.args.unit c.index-graph.result.now at can shares (demands_of c.args.tables.now) c.requires.progress c.index.result.now c.keep_unit.new.kept of

  calls_row : CallsFitRows c.index-graph.result.now c.keep_unit.new.kept.asks.items c.args.tables.now.backs.items
  calls_row = kept_fit c.args.graphs.now.items c.requires.units.fit c.args.unit c.index-graph.result.now at can shares (demands_of c.args.tables.now) c.requires.progress c.index.result.now c.keep_unit.new.kept of

pub raise_all-of_globals-requires : goal.raise_all-of_globals-requires
raise_all-of_globals-requires c =
    let known = (goal.at.raise_all-of_globals-requires c).In_ok-entered in
    let value : c.index_mut.result.now ≡ list_at c.args.tables.now.globals.items c.args.unit = c.index_mut.ensures.value ∙ get_or_default c.args.tables.now.globals.items c.args.unit _ [] (omega (arith, c.requires.there, c.requires.progress.fit.globals.long)) in
    globals_row known ∙ sym (ap (λ (l : List ℕ). length l) value)

pub raise_all-given-requires : goal.raise_all-given-requires
raise_all-given-requires c =
    let known = (goal.at.raise_all-given-requires c).In_ok-entered in
    let value : c.index_mut-2.result.now ≡ list_at c.args.tables.now.arguments.items c.args.unit = c.index_mut-2.ensures.value ∙ get_or_default c.args.tables.now.arguments.items c.args.unit _ [] (omega (arith, c.requires.there, c.requires.progress.fit.arguments.long)) in
    arguments_row known ∙ sym (ap (λ (l : List ℕ). length l) value)

pub raise_backs-back-requires : goal.raise_backs-back-requires
raise_backs-back-requires c =
    let known = (goal.at.raise_backs-back-requires c).In_ok-entered in
    subst (λ l. CallsFitRows c.index-graph.result.now l c.args.tables.now.backs.items) (sym c.asks.ensures) (calls_row known)

pub returns-clause-progress : goal.returns-clause-progress
returns-clause-progress c =
    let known = (goal.at.returns-clause-progress c).In_ok-entered in
    let old = demands_of c.args.tables.now in
    let u = c.args.unit in
    let graph = c.index-graph.result.now in
    let value : c.index_mut.result.now ≡ list_at old.globals u = c.index_mut.ensures.value ∙ get_or_default old.globals u _ [] (omega (arith, c.requires.there, c.requires.progress.fit.globals.long)) in
    let value' : c.index_mut-2.result.now ≡ list_at old.arguments u = c.index_mut-2.ensures.value ∙ get_or_default old.arguments u _ [] (omega (arith, c.requires.there, c.requires.progress.fit.arguments.long)) in
    let row = c.raise_all-of_globals.new.self in
    let row' = c.raise_all-given.new.self in
    unit_hastens c.args.graphs.now.items c.requires.units.fit u graph (at known) (can known) (shares known) old c.requires.progress c.index.result.now c.keep_unit.new.kept (of known)
    (slice_set old.globals u row) (slice_set old.arguments u row') c.raise_backs-back.new.backs.items c.raise_backs-back.result
    (ap (slice_set old.globals u) (c.raise_all-of_globals.ensures.raised ∙ ap (λ (l : List ℕ). joined_bits l c.in_ok-entered.entered.globals) value ∙ ap (joined_bits (list_at old.globals u)) c.in_ok-entered.ensures.entered.globals))
    (ap (slice_set old.arguments u) (c.raise_all-given.ensures.raised ∙ ap (λ (l : List ℕ). joined_bits l c.in_ok-entered.entered.arguments) value' ∙ ap (joined_bits (list_at old.arguments u)) c.in_ok-entered.ensures.entered.arguments))
    (subst (λ l. RaisesTo graph l (length graph.nodes) old.backs c.raise_backs-back.new.backs.items c.raise_backs-back.result) c.asks.ensures c.raise_backs-back.ensures.raises)

pub returns-clause-kept : goal.returns-clause-kept
returns-clause-kept c graph ready here here' =
    let known = (goal.at.returns-clause-kept c).In_ok-entered in
    let graphs = c.args.graphs.now.items in
    let both : Some c.index-graph.result.now ≡ Some graph = sym (at known) ∙ here in
    let both' : Some c.index.result.now ≡ Some ready = sym (at_ready known) ∙ here' in
    let same : c.index-graph.result.now ≡ graph = cc in
    let same' : c.index.result.now ≡ ready = cc in
    subst (λ r. KeptOf graphs c.args.unit graph r c.keep_unit.new.kept) same' (subst (λ g. KeptOf graphs c.args.unit g c.index.result.now c.keep_unit.new.kept) same (of known))
