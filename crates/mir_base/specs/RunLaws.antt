-- Runs of a program, step by step. For proofs only.
use Rattle.std.proofs.Common.{◌≡◌, ℕ, zero, suc, ◌+◌, zero-add, suc-add}
use Rattle.mir_base.specs.Frames.{Code}
use Rattle.mir_base.specs.Runs.{State, step, steps}

-- k steps and then m more
pub steps_add : (codes : ℕ → Code) (k m : ℕ) (s : State) → steps codes (k + m) s ≡ steps codes m (steps codes k s)
steps_add codes zero m s = rw (zero-add m)
steps_add codes (suc k) m s = rw (suc-add k m) (steps_add codes k m (step codes s))
