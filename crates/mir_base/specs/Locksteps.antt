-- The rule for a rewriting that keeps each step: two machines go in lockstep. For proofs only, of
-- the crates above too.
use Rattle.std.specs.Prelude.{◌≡◌, ◌≤◌, length}
use Rattle.mir_base.specs.Frames.{CallEntry, Answer, Frame, first_frame, resumed, Transition, Continues, Prints, Calls, Returns, Traps}
use Rattle.mir_base.specs.UnitRuns.{Machine, IsEntry, IsCallAnswer}
use Rattle.mir_base.specs.Simulations.{HandsOver}

-- two transitions that show the same, the second evaluating no more operators, to frames that are related by S
abbrev pub Alike : (Frame → Frame → Type 0) → Transition → Transition → Type 0
Alike S (Continues n f) (Continues m g) = (m ≤ n) × S f g
Alike S (Prints v f) (Prints w g) = (v ≡ w) × S f g
Alike S (Calls unit entry into f) (Calls unit' entry' into' g) = (unit ≡ unit') × (entry ≡ entry')
    × ((answer : Answer) → IsCallAnswer (length entry.globals) answer
    → S (resumed into answer f) (resumed into' answer g))
Alike S (Returns answer) (Returns answer') = answer ≡ answer'
Alike S (Traps kind n) (Traps kind' m) = kind ≡ kind'
Alike S _ _ = ⊥

-- The rule: S holds at the start, the calls of the first hand over its globals, and each two steps from related frames
-- are alike. It shows that the two do the same (`lockstep_same`), and that the second evaluates no more operators
-- (`lockstep_cheaper`)
pub record Lockstep (first second : Machine) (S : Frame → Frame → Type 0) : Type 0 where
  pub receives : first.receives ≡ second.receives
  pub shared : first.shared ≡ second.shared
  pub hands : (f : Frame) → HandsOver first.shared (first.code f)
  pub starts : (entry : CallEntry) → IsEntry first entry → S (first_frame entry) (first_frame entry)
  pub steps : (f g : Frame) → S f g → Alike S (first.code f) (second.code g)
