use Rattle.std.proofs.Common.{◌≡◌, ◌<◌, ◌∙◌, Some, length, map, slice_get, ap, sym, subst, arith}
use Rattle.std.proofs.lemmas.Option.{slice_get-get_or}
use Rattle.constant_args.specs.Gathered.{KnowsMade, constant_in}
use Rattle.constant_args.proofs.Made.{knowing_unit}
use Rattle.constant_args.proofs.programs.knowing_unit.Goals as goal

pub returns : goal.returns
returns c =
    let graphs = c.args.graphs.now.items in
    let noted = c.args.noted.now.items in
    let graph = c.index-graph.result.now in
    let calls = c.index.result.now in
    let low : c.args.number < length graphs = omega (arith, c.requires.number, c.requires.fronts.long) in
    let at : slice_get graphs c.args.number ≡ Some graph = slice_get-get_or graphs c.args.number graph low ∙ ap Some (sym c.index-graph.ensures) in
    let calls_at : slice_get noted c.args.number ≡ Some calls = slice_get-get_or noted c.args.number calls (omega (arith, low, c.requires.constants.long)) ∙ ap Some (sym c.index.ensures) in
    knowing_unit c.args.program.now.units graphs c.requires.fronts c.args.number graph c.in_ok-known.known (map constant_in calls.arguments.items) c.in_ok-target.target at
    (c.requires.constants.each c.args.number calls calls_at)
    (subst (λ l. KnowsMade graph (map constant_in l) c.in_ok-known.known) c.as_slice.ensures.value c.in_ok-known.ensures)
    c.in_ok-target.ensures
