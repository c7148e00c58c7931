-- From units to programs: a program of units is one of machines.
use Rattle.std.proofs.Common.{◌≡◌, ◌<◌, length, sym, arith}
use Rattle.mir_base.specs.Runs.{Cheaper, Follows}
use Rattle.mir_base.specs.Shapes.{IsProgram, ProgramShape}
use Rattle.mir_base.specs.UnitRuns.{machine_at}
use Rattle.mir_sim.specs.LiftLaws.{lifts_cheaper, lifts_follow, lifts_shallower}
use Rattle.mir_sim.specs.Machines.{Shallower}
use Rattle.mir_sim.specs.Pairs.{AllUnitsCheaper, AllUnitsFollow, AllUnitsSame}
use Rattle.mir_sim.specs.FitLaws.{keeps}

-- the second program does whatever the first does
pub follows : (first second : ProgramShape) → IsProgram first.globals first.units → length first.globals ≡ length second.globals → AllUnitsFollow first second → Follows first second
follows first second is alike units = record {
  follows = λ inputs long numbers n. (lifts_follow (length first.units) (machine_at first) (machine_at second) is.some_unit alike (keeps first is) units.follows).follows inputs (record { long = long; numbers = numbers }) n;
}

-- programs whose units are the same have equally many globals, since there is a unit
pub as_many_globals : (first second : ProgramShape) → IsProgram first.globals first.units → AllUnitsSame first second → length first.globals ≡ length second.globals
as_many_globals first second is units = (units.same 0 is.some_unit).shared

-- units that are the same follow each other
pub forth : (first second : ProgramShape) → AllUnitsSame first second → AllUnitsFollow first second
forth first second units = record { follows = λ u h. (units.same u h).forth }

-- where units do the same, those of the first do whatever those of the second do
pub back : (first second : ProgramShape) → AllUnitsSame first second → AllUnitsFollow second first
back first second units = record { follows = λ u h. let h' : u < length first.units = omega (arith, units.units) in (units.same u h').back }

-- the second program evaluates no more operators
pub lifts_cheap : (first second : ProgramShape) → IsProgram first.globals first.units → AllUnitsSame first second → AllUnitsCheaper first second → Cheaper first second
lifts_cheap first second is units cheap = record {
  cheaper = λ inputs long numbers n m v w ends ends'. (lifts_cheaper (length first.units) (machine_at first) (machine_at second) is.some_unit (units.same 0 is.some_unit).shared (keeps first is) (λ u h. (units.same u h).forth) cheap.cheaper).cheaper inputs (record { long = long; numbers = numbers }) n m v w ends ends';
}

-- the second program is never deeper
pub lifts_shallow : (first second : ProgramShape) → IsProgram first.globals first.units → IsProgram second.globals second.units → AllUnitsSame first second → Shallower first second
lifts_shallow first second is is' units = record {
  shallower = λ inputs long numbers n. (lifts_shallower (length second.units) (machine_at first) (machine_at second) is'.some_unit (sym (units.same 0 is.some_unit).receives) (sym (units.same 0 is.some_unit).shared) (keeps second is') (back first second units).follows).shallower inputs (record { long = long; numbers = numbers }) n;
}
