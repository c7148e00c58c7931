-- Lists of new assignments in code, as lists of insertions. Cited by contracts.
use Rattle.std.specs.Prelude.{List, map}
use Rattle.graph_edit.specs.Insertions.{Insertion}
use Rattle.program_pass.specs.declared.standing.Put.{Put}

-- the insertions
abbrev pub insertions : List Put → List Insertion
insertions puts = map (λ put. record { var = put.var; rhs = put.rhs }) puts
