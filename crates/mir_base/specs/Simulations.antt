-- The rule by which a rewriting is shown to keep what a unit or a graph does: one relation between the frames of the
-- two sides, which holds at the start, and which the second side keeps up at each transition of the first. `Silently`
-- is cited by a contract; the rest is for proofs only, of the crates above too.
use Rattle.std.specs.Prelude.{◌≡◌, ℕ, zero, suc, ◌+◌, ◌≤◌, ◌<◌, ◌⊎◌, length, ℤ, Option}
use Rattle.mir_base.specs.declared.operators.Trap.{Trap}
use Rattle.mir_base.specs.Frames.{CallEntry, Answer, Frame, first_frame, resumed, Transition, Continues, Prints, Calls, Returns, Traps, Code}
use Rattle.mir_base.specs.UnitRuns.{Machine, IsEntry, IsCallAnswer}

-- so many steps lead from the one frame to the other, show nothing, and count so many evaluations
abbrev pub Silently : Code → ℕ → Frame → Frame → ℕ → Type 0
Silently code zero from to counted = (from ≡ to) × (counted ≡ 0)
Silently code (suc steps) from to counted =
    (next : Frame) × (first : ℕ) × (rest : ℕ) × (code from ≡ Continues first next)
    × Silently code steps next to rest × (counted ≡ first + rest)

-- A relation of a frame of the first side and a frame of the second, at a measure and at what each side has counted so
-- far: `R measure counted counted' frame frame'`
abbrev pub Relation : Type 1
Relation = ℕ → ℕ → ℕ → Frame → Frame → Type 0

-- Where the first side goes on with no event, the second takes some silent steps to a related frame. It takes at least
-- one, or the measure falls, so that it cannot take none for ever
pub record AfterContinuing (R : Relation) (second : Code) (z x y : ℕ) (g : Frame) (n : ℕ)
    (next : Frame) : Type 0 where
  pub steps : ℕ
  pub cost : ℕ
  pub there : Frame
  pub silent : Silently second steps g there cost
  pub measure : ℕ
  pub related : R measure (x + n) (y + cost) next there
  pub moves : (1 ≤ steps) ⊎ (measure < z)

-- Where the first side prints, the second prints the same after some silent steps
pub record AfterPrinting (R : Relation) (second : Code) (x y : ℕ) (g : Frame) (value : ℤ)
    (next : Frame) : Type 0 where
  pub steps : ℕ
  pub cost : ℕ
  pub there : Frame
  pub silent : Silently second steps g there cost
  pub second_next : Frame
  pub is : second there ≡ Prints value second_next
  pub measure : ℕ
  pub related : R measure x (y + cost) next second_next

-- Where the first side calls, the second makes the same call after some silent steps, and the two are related again
-- with each answer that hands back as many globals as were handed over, at a measure that may depend on it
pub record AfterCalling (R : Relation) (second : Code) (x y : ℕ) (g : Frame) (unit : ℕ)
    (entry : CallEntry) (into : Option ℕ) (next : Frame) : Type 0 where
  pub steps : ℕ
  pub cost : ℕ
  pub there : Frame
  pub silent : Silently second steps g there cost
  pub second_into : Option ℕ
  pub second_next : Frame
  pub is : second there ≡ Calls unit entry second_into second_next
  pub related : (answer : Answer) → IsCallAnswer (length entry.globals) answer
      → (measure : ℕ)
      × R measure x (y + cost) (resumed into answer next) (resumed second_into answer second_next)

-- Where the first side returns, the second returns the same after some silent steps, and under P it has evaluated no
-- more operators
pub record AfterReturning (P : Type 0) (second : Code) (x y : ℕ) (g : Frame)
    (answer : Answer) : Type 0 where
  pub steps : ℕ
  pub cost : ℕ
  pub there : Frame
  pub silent : Silently second steps g there cost
  pub is : second there ≡ Returns answer
  pub cheaper : P → y + cost ≤ x

-- Where the first side traps, the second raises the same trap after some silent steps
pub record AfterTrapping (second : Code) (g : Frame) (kind : Trap) : Type 0 where
  pub steps : ℕ
  pub cost : ℕ
  pub there : Frame
  pub silent : Silently second steps g there cost
  pub counted : ℕ
  pub is : second there ≡ Traps kind counted

-- the second side, at frame g, responds to a transition of the first, where the two were related at the measure z and
-- had counted x and y
abbrev pub Responds : Type 0 → Relation → Code → ℕ → ℕ → ℕ → Frame → Transition → Type 0
Responds P R second z x y g (Continues n next) = AfterContinuing R second z x y g n next
Responds P R second z x y g (Prints value next) = AfterPrinting R second x y g value next
Responds P R second z x y g (Calls unit entry into next) =
    AfterCalling R second x y g unit entry into next
Responds P R second z x y g (Returns answer) = AfterReturning P second x y g answer
Responds P R second z x y g (Traps kind n) = AfterTrapping second g kind

-- a call hands over the values of so many globals
abbrev pub HandsOver : ℕ → Transition → Type 0
HandsOver shared (Continues n next) = Unit {0}
HandsOver shared (Prints value next) = Unit {0}
HandsOver shared (Calls unit entry into next) = length entry.globals ≡ shared
HandsOver shared (Returns answer) = Unit {0}
HandsOver shared (Traps kind n) = Unit {0}

-- The rule: R holds at the start, with nothing counted, the calls of the first hand over its globals, and the second
-- machine responds to each transition of the first. It shows that the two do the same (`simulated_same`), for any P,
-- and that the second evaluates no more operators where P holds (`simulated_cheaper`). A rewriting that is always
-- cheaper takes `Unit {0}` for P
pub record Simulates (first second : Machine) (P : Type 0) (R : Relation) : Type 0 where
  pub receives : first.receives ≡ second.receives
  pub shared : first.shared ≡ second.shared
  pub hands : (f : Frame) → HandsOver first.shared (first.code f)
  pub starts : (entry : CallEntry) → IsEntry first entry
      → (measure : ℕ) × R measure 0 0 (first_frame entry) (first_frame entry)
  pub responds : (z x y : ℕ) (f g : Frame) → R z x y f g
      → Responds P R second.code z x y g (first.code f)
