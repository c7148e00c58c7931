use Rattle.std.proofs.Common.{sym, ◌∙◌}
use Rattle.mir_valid.proofs.RefusedLaws.{refused_of, refused_no_memory}
use Rattle.mir_valid.proofs.laws.refused_is_not_valid.Goals as goal

pub returns-clause-valid : goal.returns-clause-valid
returns-clause-valid c = λ raw fault refused valid. let e = sym (refused_of raw.globals raw.units valid) ∙ refused in absurd (cc)

pub returns-clause-memory : goal.returns-clause-memory
returns-clause-memory c = λ raw. refused_no_memory raw.globals raw.units
