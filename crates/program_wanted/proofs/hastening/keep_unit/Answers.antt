use Rattle.std.proofs.Common.{subst}
use Rattle.wanted_bits.specs.KeptRows.{StayBelow}
use Rattle.program_wanted.specs.Tables.{demands_of}
use Rattle.program_wanted.specs.WantedProgramLaws.{around_asked}
use Rattle.program_wanted.proofs.hastening.keep_unit.Goals as goal

pub returns-clause-below : goal.returns-clause-below
returns-clause-below c =
    let graph = c.args.graph.now in
    subst (λ a. StayBelow a graph c.args.prepared.now c.args.kept.now c.ask_kept.new.kept)
    (around_asked (demands_of c.args.tables.now) c.args.unit graph.shared c.around-around.result c.around-around.ensures) c.in_ok-ask_kept.ensures.below
