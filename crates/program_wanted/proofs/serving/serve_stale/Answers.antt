use Rattle.std.proofs.Common.{◌≡◌, ◌∙◌, ◌<◌, length, true, false, sym, arith}
use Rattle.std.proofs.lemmas.List.{get_or_default}
use Rattle.unit_callers.specs.Stale.{is_stale}
use Rattle.program_wanted.specs.Tables.{demands_of}
use Rattle.program_wanted.proofs.UnitServes.{served_already}
use Rattle.program_wanted.proofs.serving.serve_stale.Goals as goal

pub returns-else-index-clause-serves : goal.returns-else-index-clause-serves
returns-else-index-clause-serves c =
    let stale = c.args.stale.now.items in
    let lt : c.args.unit < length stale = omega (arith, c.requires.there, c.requires.serving.fresh.long) in
    let off : is_stale stale c.args.unit ≡ false = sym (c.index.ensures ∙ get_or_default stale c.args.unit c.index.result.now true lt) ∙ c.if-index.false in
    served_already c.args.graphs.now.items c.args.unit (demands_of c.args.tables.now) stale c.requires.serving.progress c.requires.serving.fresh off
