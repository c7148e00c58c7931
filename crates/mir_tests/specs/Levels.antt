-- A flow of the tests: levels down a line of nodes, or along a chain of joins. Cited by contracts of the tests.
use Rattle.std.specs.Prelude.{ℕ, ◌<◌, Bool, true, false, if◌then◌else◌}
use Rattle.fix_solve.specs.Net.{Net, NetLaws}
use Rattle.mir_tests.specs.Ladder.{Under, ladder, ladder_laws, level, level_size}
use Rattle.mir_tests.specs.Slope.{slope, slope_laws}

-- the flow down a line of nodes, or the one along a chain of joins
abbrev pub levels : Bool → ℕ → Net ℕ
levels is_line length = if is_line then slope length else ladder length

-- both of these flows keep the laws of `fix_solve`
pub levels_laws : (is_line : Bool) (length : ℕ) → length < 256 → NetLaws Under level_size level (levels is_line length)
levels_laws true length few = slope_laws length few
levels_laws false length few = ladder_laws length few
