-- What the rows of a path call tell, by its statement. Cited by contracts.
use Rattle.std.specs.Prelude.{◌≡◌, ℕ, ◌<◌, Bool, true, false, List}
use Rattle.bit_rows.specs.Bits.{AreAlike, EachBitFlipped, row_of}
use Rattle.flow_graph.specs.Graphs.{GraphShape}
use Rattle.path_laws.specs.declared.calls.Statement.{Statement}
use Rattle.path_laws.specs.declared.calls.Statement.TheVariants.{Before, After, Ahead}
use Rattle.path_laws.specs.Paths.{AreBornAfter, AreBornAhead, AreBornBefore}

-- the rows tell at which nodes the statement holds for each bit, where these rows say at which nodes bits are born
-- and stopped
abbrev pub AreTold : Statement → GraphShape → List (List Bool) → List (List Bool) → List (List Bool)
    → Type 0
AreTold Before = AreBornBefore
AreTold After = AreBornAfter
AreTold Ahead = AreBornAhead

-- whether the problem by which a statement is decided goes against the edges
abbrev pub goes_against : Statement → Bool
goes_against Before = false
goes_against After = true
goes_against Ahead = true

-- whether the statement is one of every path
abbrev pub is_on_every : Statement → Bool
is_on_every Before = true
is_on_every After = true
is_on_every Ahead = false

-- the answers of its problem are flipped into its own: before a node each bit is the opposite but at Start, where it
-- stays; after a node each is; ahead none is
abbrev pub AreFlippedFor : Statement → List (List Bool) → List (List Bool) → Type 0
AreFlippedFor Before old new = AreAlike old new × ((n : ℕ) → n < 1 → row_of new n ≡ row_of old n)
    × EachBitFlipped 1 old new
AreFlippedFor After old new = AreAlike old new × EachBitFlipped 0 old new
AreFlippedFor Ahead old new = new ≡ old
