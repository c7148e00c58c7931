use Rattle.std.proofs.Common.{◌≡◌, ◌∙◌, Some, slice_get, ap, sym, subst, arith}
use Rattle.std.proofs.lemmas.Option.{slice_get-get_or}
use Rattle.bounds.specs.Facts.{BelowFact}
use Rattle.cond_flow.specs.Rewritten.{IsMadeWithin}
use Rattle.program_bounds.specs.Tables.{facts_of}
use Rattle.program_bounds.specs.ProgramLaws.{bounded_unit}
use Rattle.program_bounds.proofs.programs.made_unit.Goals as goal

pub returns : goal.returns
returns c =
    let known = facts_of c.args.tables.now in
    let graph = c.index-graph.result.now in
    let at : slice_get c.args.graphs.now.items c.args.number ≡ Some graph = slice_get-get_or c.args.graphs.now.items c.args.number graph (omega (arith, c.requires.number, c.requires.fronts.long)) ∙ ap Some (sym c.index-graph.ensures) in
    bounded_unit known c.args.program.now.units c.args.graphs.now.items c.args.number graph c.in_ok-bounded.bounded c.in_ok-target.target c.requires.fronts at
    (subst (λ r. IsMadeWithin BelowFact r graph c.in_ok-bounded.bounded) c.around-outside.ensures c.in_ok-bounded.ensures.made)
    c.in_ok-target.ensures
