use Rattle.std.proofs.Common.{◌≡◌, ◌∙◌, Some, slice_get, ap, sym, subst, arith}
use Rattle.std.proofs.lemmas.Option.{slice_get-get_or}
use Rattle.program_wanted.specs.Tables.{demands_of}
use Rattle.program_wanted.specs.WantedProgramLaws.{around_asked, wanted_unit}
use Rattle.wanted_bits.specs.Made.{IsMadeNarrowed}
use Rattle.program_wanted.proofs.programs.narrowed_unit.Goals as goal

pub returns : goal.returns
returns c =
    let demands = demands_of c.args.tables.now in
    let graph = c.index-graph.result.now in
    let at : slice_get c.args.graphs.now.items c.args.number ≡ Some graph = slice_get-get_or c.args.graphs.now.items c.args.number graph (omega (arith, c.requires.number, c.requires.fronts.long)) ∙ ap Some (sym c.index-graph.ensures) in
    wanted_unit demands c.args.program.now.units c.args.graphs.now.items c.args.number graph c.in_ok-narrowed.narrowed c.in_ok-target.target c.requires.fronts at
    (subst (λ a. IsMadeNarrowed a graph c.in_ok-narrowed.narrowed) (around_asked demands c.args.number graph.shared c.around-around.result c.around-around.ensures) c.in_ok-narrowed.ensures)
    c.in_ok-target.ensures
