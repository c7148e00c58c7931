-- What is asked for around a unit, as lists have it. Cited by contracts.
use Rattle.std.specs.Prelude.{ℕ, min, List, slice_index_or}
use Rattle.node_list.specs.Lists.{list_at}
use Rattle.wanted_bits.specs.declared.around.Around.{Around}
use Rattle.wanted_bits.specs.Wanted.{Asked}

-- the number at a place of these, at most 64, and 64 where there is none
abbrev pub width_at : List ℕ → ℕ → ℕ
width_at widths place = min 64 (slice_index_or widths place 64)

-- how many bits are wanted of the global x where a unit is entered
abbrev pub global_at : Around → ℕ → ℕ → ℕ
global_at around unit x = width_at (list_at around.globals.now unit) x

-- how many of its argument i
abbrev pub argument_at : Around → ℕ → ℕ → ℕ
argument_at around unit i = width_at (list_at around.arguments.now unit) i

-- what is asked for around a unit with so many globals
abbrev pub asked_by : ℕ → Around → Asked
asked_by shared around = record {
  globals = global_at around;
  arguments = argument_at around;
  left = width_at around.back.now;
  result = width_at around.back.now shared;
}
