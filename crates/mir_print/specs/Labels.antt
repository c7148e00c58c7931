-- The tables by which labels are printed. Cited by the contracts of private functions.
use Rattle.std.specs.Prelude.{ℕ, ◌≡◌, ◌+◌, ◌<◌, ◌≤◌, Bool, true, false, List, length, slice_index, slice_index_or, slice_set}
use Rattle.mir_base.specs.declared.instructions.Inst.{Inst}
use Rattle.mir_base.specs.declared.instructions.Inst.TheVariants.{Receive, Assign, Goto, If, TrapIf, Call, Print, Return}
use Rattle.mir_base.specs.Text.{is_target, targets_below}

-- for each place, for that of `end` and for the one behind it, how many of the places below it are jumped to
pub record AreLabelCounts (body : List Inst) (counts : List ℕ) : Type 0 where
  pub many : length counts ≡ length body + 2
  pub each : (place : ℕ) → place ≤ length body + 1
      → slice_index counts place ≡ targets_below body place

-- a jump of the instruction goes to one of this many places
abbrev pub JumpsBelow : ℕ → Inst → Type 0
JumpsBelow many (Receive x) = Unit {0}
JumpsBelow many (Assign x rhs) = Unit {0}
JumpsBelow many (Goto target) = target < many
JumpsBelow many (If test target) = target < many
JumpsBelow many (TrapIf test number) = Unit {0}
JumpsBelow many (Call into unit operands) = Unit {0}
JumpsBelow many (Print a) = Unit {0}
JumpsBelow many (Return a) = Unit {0}

-- the marks after the place that the instruction jumps to is marked
abbrev pub target_marked : List Bool → Inst → List Bool
target_marked marks (Receive x) = marks
target_marked marks (Assign x rhs) = marks
target_marked marks (Goto target) = slice_set marks target true
target_marked marks (If test target) = slice_set marks target true
target_marked marks (TrapIf test number) = marks
target_marked marks (Call into unit operands) = marks
target_marked marks (Print a) = marks
target_marked marks (Return a) = marks

-- a jump of the instruction goes to a place of the body that is known to be jumped to
abbrev pub JumpsTo : List Inst → Inst → Type 0
JumpsTo body (Goto target) = (target ≤ length body) × (is_target body target ≡ true)
JumpsTo body (If test target) = (target ≤ length body) × (is_target body target ≡ true)
JumpsTo body (Receive x) = Unit {0}
JumpsTo body (Assign x rhs) = Unit {0}
JumpsTo body (TrapIf test number) = Unit {0}
JumpsTo body (Call into unit operands) = Unit {0}
JumpsTo body (Print a) = Unit {0}
JumpsTo body (Return a) = Unit {0}

-- for each place, and for that of `end`, whether it is jumped to
pub record AreMarks (body : List Inst) (marks : List Bool) : Type 0 where
  pub many : length marks ≡ length body + 1
  pub each : (place : ℕ) → place ≤ length body
      → slice_index_or marks place false ≡ is_target body place
