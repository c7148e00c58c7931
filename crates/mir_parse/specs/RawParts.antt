-- Raw programs in parts: their global lines alone, and one more unit. Cited by contracts.
use Rattle.std.specs.Prelude.{List, [], ◌∷◌, ◌++◌}
use Rattle.mir_parse.specs.declared.raw.RawGlobal.{RawGlobal}
use Rattle.mir_parse.specs.declared.raw.Raw.{Raw}
use Rattle.mir_parse.specs.RawUnit.{RawUnitShape}

-- global lines with no unit behind them
abbrev pub globals_alone : List RawGlobal → Raw
globals_alone globals = record { globals = globals; units = [] }

-- the raw program with one more unit at its end
abbrev pub raw_with_unit : Raw → RawUnitShape → Raw
raw_with_unit raw unit = record { globals = raw.globals; units = raw.units ++ unit ∷ [] }
