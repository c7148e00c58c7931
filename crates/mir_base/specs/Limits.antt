-- The limits of the language and of the command. Cited by contracts.
use Rattle.std.specs.Prelude.{ℕ}

-- the most bytes of a text
abbrev pub most_bytes : ℕ
most_bytes = 1048576

-- the most bytes of a name
abbrev pub most_name_bytes : ℕ
most_name_bytes = 64

-- the most globals of a program
abbrev pub most_globals : ℕ
most_globals = 64

-- the most units of a program
abbrev pub most_units : ℕ
most_units = 256

-- the most instructions of a unit
abbrev pub most_insts : ℕ
most_insts = 16384

-- the most receives of a unit
abbrev pub most_receives : ℕ
most_receives = 16

-- the most steps that a run may be asked for
abbrev pub most_steps : ℕ
most_steps = 1000000

-- the most frames that a run may have at a time
abbrev pub most_frames : ℕ
most_frames = 10000
