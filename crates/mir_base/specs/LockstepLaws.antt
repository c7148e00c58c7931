-- The laws of the lockstep rule: machines in lockstep do the same, and the second evaluates no more operators.
-- For proofs only.
use Rattle.std.proofs.Common.{◌≡◌, ℕ, ◌≤◌, refl, subst, le_refl}
use Rattle.mir_base.specs.Frames.{Frame, Transition, Continues, Prints, Calls, Returns, Traps}
use Rattle.mir_base.specs.UnitRuns.{Machine, UnitSame, UnitCheaper}
use Rattle.mir_base.specs.Simulations.{HandsOver, Simulates}
use Rattle.mir_base.specs.SimulationLaws.{simulated_same, simulated_cheaper}
use Rattle.mir_base.specs.Locksteps.{Alike, Lockstep}
use Rattle.mir_base.specs.ResponseLaws.{alike_responds}

-- the relation of the simulation that a lockstep is
record Stepping (S : Frame → Frame → Type 0) (z x y : ℕ) (f g : Frame) : Type 0 where
  related : S f g
  counted : y ≤ x

-- one step of the second for each step of the first is a simulation
lockstep_simulates : (first second : Machine) (S : Frame → Frame → Type 0) → Lockstep first second S → Simulates first second (Unit {0}) (Stepping S)
lockstep_simulates first second S l = record {
  receives = l.receives;
  shared = l.shared;
  hands = l.hands;
  starts = λ entry is. (0, record { related = l.starts entry is; counted = le_refl 0 });
  responds = λ z x y f g r. alike_responds (Unit {0}) (Stepping S) S second.code (λ x' y' f' g' le s. (0, record { related = s; counted = le })) z x y g (first.code f) (second.code g) r.counted refl (l.steps f g r.related);
}

-- machines in lockstep do the same
pub lockstep_same : (first second : Machine) (S : Frame → Frame → Type 0) → Lockstep first second S → UnitSame first second
lockstep_same first second S l = simulated_same first second (Unit {0}) (Stepping S) (lockstep_simulates first second S l)

-- of machines in lockstep the second evaluates no more operators
pub lockstep_cheaper : (first second : Machine) (S : Frame → Frame → Type 0) → Lockstep first second S → UnitCheaper first second
lockstep_cheaper first second S l = simulated_cheaper first second (Unit {0}) (Stepping S) (lockstep_simulates first second S l) tt

-- ---- a machine goes in lockstep with itself

-- a transition compared with itself
alike_itself : (t : Transition) → Alike (λ f g. f ≡ g) t t
alike_itself (Continues n f) = (le_refl n, refl)
alike_itself (Prints v f) = (refl, refl)
alike_itself (Calls u entry into f) = (refl, refl, λ answer is. refl)
alike_itself (Returns answer) = refl
alike_itself (Traps kind n) = refl

-- a machine compared with itself, all frames being equal
with_itself : (a : Machine) → ((f : Frame) → HandsOver a.shared (a.code f)) → Lockstep a a (λ f g. f ≡ g)
with_itself a hands = record {
  receives = refl;
  shared = refl;
  hands = hands;
  starts = λ entry is. refl;
  steps = λ f g same. subst (λ h. Alike (λ f' g'. f' ≡ g') (a.code f) (a.code h)) same (alike_itself (a.code f));
}

-- all runs of a machine that return count the same
pub cheaper_refl : (a : Machine) → ((f : Frame) → HandsOver a.shared (a.code f)) → UnitCheaper a a
cheaper_refl a hands = lockstep_cheaper a a (λ f g. f ≡ g) (with_itself a hands)
