-- Two programs, compared unit by unit. Cited by contracts.
use Rattle.std.specs.Prelude.{◌≡◌, ℕ, ◌<◌, length}
use Rattle.mir_base.specs.Shapes.{ProgramShape}
use Rattle.mir_base.specs.UnitRuns.{machine_at, UnitFollows, UnitSame, UnitCheaper}

-- equally many units, and those of each number do the same, receive equally many arguments and have equally many
-- globals, which are those of the program
pub record AllUnitsSame (first second : ProgramShape) : Type 0 where
  pub units : length first.units ≡ length second.units
  pub same : (u : ℕ) → u < length first.units → UnitSame (machine_at first u) (machine_at second u)

-- the second's unit of each number evaluates no more operators than the first's
pub record AllUnitsCheaper (first second : ProgramShape) : Type 0 where
  pub cheaper : (u : ℕ) → u < length first.units
      → UnitCheaper (machine_at first u) (machine_at second u)

-- the second's unit of each number does whatever the first's does
pub record AllUnitsFollow (first second : ProgramShape) : Type 0 where
  pub follows : (u : ℕ) → u < length first.units
      → UnitFollows (machine_at first u) (machine_at second u)
