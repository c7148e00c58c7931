use Rattle.std.proofs.Common.{◌≡◌, ◌∙◌, ◌<◌, Some, true, false, length, slice_get, ap, sym, arith}
use Rattle.std.proofs.lemmas.List.{get_or_default}
use Rattle.std.proofs.lemmas.Option.{slice_get-get_or}
use Rattle.flow_graph.specs.ListLaws.{some_at}
use Rattle.unit_callers.specs.Stale.{is_stale}
use Rattle.program_bounds.specs.Tables.{facts_of}
use Rattle.program_bounds.specs.ProgramLaws.{bounded_unit}
use Rattle.program_bounds.proofs.programs.bounded_unit.Goals as goal

pub returns-in_ok-target-in-Some : goal.returns-in_ok-target-in-Some
returns-in_ok-target-in-Some c =
    let known = facts_of c.args.tables.now in
    let graphs = c.args.graphs.now.items in
    let u = c.args.number in
    let stale = c.args.tables.now.stale.items in
    let made = c.args.tables.now.made.items in
    let lt : u < length graphs = omega (arith, c.requires.number, c.requires.fronts.long) in
    let graph = some_at graphs u lt in
    let off : is_stale stale u ≡ false = sym (c.index.ensures ∙ get_or_default stale u c.index.result.now true (omega (arith, lt, c.requires.fresh.long))) ∙ c.if-index.false in
    let there : slice_get made u ≡ Some (Some c.in-Some.bounded) = slice_get-get_or made u c.index-2.result.now (omega (arith, lt, c.requires.fresh.made_long)) ∙ ap Some (sym c.index-2.ensures ∙ c.in-Some.is) in
    bounded_unit known c.args.program.now.units graphs u graph.0 c.in-Some.bounded c.in_ok-target-in-Some.target c.requires.fronts graph.1
    (c.requires.fresh.is_made u graph.0 c.in-Some.bounded graph.1 off there) c.in_ok-target-in-Some.ensures
