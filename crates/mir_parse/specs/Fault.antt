-- Running out of memory among the refusals. Cited by contracts.
use Rattle.mir_parse.specs.declared.faults.ParseFault.{ParseFault}
use Rattle.mir_parse.specs.declared.faults.ParseFault.TheVariants.{Memory}

-- the refusal is running out of memory
abbrev pub IsParseMemory : ParseFault → Type 0
IsParseMemory (Memory refused) = Unit {0}
IsParseMemory fault = ⊥
