-- What reading all and writing all do to the bytes of a source or a sink, where these can be observed. Cited by
-- contracts.
use Rattle.std.specs.Prelude.{◌≡◌, ℕ, ◌<◌, ◌≤◌, Option, None, Some, List, length, take}
use Rattle.std.specs.Io.KnownBytes.{Appends, Consumes}

-- the first bytes were taken, at most so many
abbrev pub TakesAtMost : Option (List ℕ) → Option (List ℕ) → ℕ → Type 0
TakesAtMost old new most = (bytes : List ℕ) × Consumes old new bytes × (length bytes ≤ most)

-- the first bytes were taken, exactly so many
abbrev pub TakesExactly : Option (List ℕ) → Option (List ℕ) → ℕ → Type 0
TakesExactly old new count = (bytes : List ℕ) × Consumes old new bytes × (length bytes ≡ count)

-- the bytes can be observed, and there are at most so many
abbrev pub FitsWithin : Option (List ℕ) → ℕ → Type 0
FitsWithin None limit = ⊥
FitsWithin (Some bytes) limit = length bytes ≤ limit

-- a proper prefix of the piece was appended
abbrev pub AppendsPart : Option (List ℕ) → Option (List ℕ) → List ℕ → Type 0
AppendsPart old new piece = (n : ℕ) × (n < length piece) × Appends old new (take n piece)
