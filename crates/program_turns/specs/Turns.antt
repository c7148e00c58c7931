-- The passes of a turn, in two halves, and the turns that are made of a program. Cited by contracts, `IsTurn` and
-- `ChangesBy` by those of private functions.
use Rattle.std.specs.Prelude.{◌≡◌, ◌≢◌, ◌⊎◌, ℕ, zero, suc, List, [], ◌∷◌}
use Rattle.mir_base.specs.Shapes.{ProgramShape}
use Rattle.program_pass.specs.PassPrograms.{Rewrites}
use Rattle.pass_chain.specs.declared.passes.Pass.{Pass}
use Rattle.pass_chain.specs.declared.passes.Pass.TheVariants.{Tails, Join, Arguments, Optimise, Terms, Extensions, Unread, Demanded, Known, Called}
use Rattle.pass_chain.specs.Passes.{IsChained}

-- the passes of a turn, from the first to the last
abbrev pub turn : List Pass
turn =
    Tails ∷ Join ∷ Arguments ∷ Optimise
    ∷ Terms ∷ Demanded ∷ Known ∷ Extensions ∷ Unread ∷ Called ∷ []

-- at most so many turns, one after the other, until a turn changes nothing
abbrev pub TurnsMake : ℕ → ProgramShape → ProgramShape → Type 0
TurnsMake zero source target = target ≡ source
TurnsMake (suc more) source target = (next : ProgramShape) × (IsChained turn source next
    × (((next ≡ source) × (target ≡ source)) ⊎ ((next ≢ source) × TurnsMake more next target)))

-- sixteen turns, or fewer where one changes nothing
abbrev pub IsThorough : ProgramShape → ProgramShape → Type 0
IsThorough = TurnsMake 16

-- ---- halves of a turn

-- the first passes of a turn, by which a turn changes most
abbrev pub first_half : List Pass
first_half = Tails ∷ Join ∷ Arguments ∷ Optimise ∷ []

-- the passes after them
abbrev pub second_half : List Pass
second_half = Terms ∷ Demanded ∷ Known ∷ Extensions ∷ Unread ∷ Called ∷ []

-- a turn of the source made these two programs: the first by its first half, the second by all of it
pub record IsTurn (source half whole : ProgramShape) : Type 0 where
  pub first : Rewrites (IsChained first_half) source half
  pub second : Rewrites (IsChained second_half) half whole

-- and it changed the source
pub record ChangesBy (source half whole : ProgramShape) : Type 0 where
  pub turned : IsTurn source half whole
  pub changed : whole ≢ source
