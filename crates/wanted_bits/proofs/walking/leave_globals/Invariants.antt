use Rattle.std.proofs.Common.{◌≡◌, ◌-◌}
use Rattle.std.specs.List.{range_with_len}
use Rattle.mir_base.specs.Frames.{shared_vars}
use Rattle.wanted_bits.specs.Asking.{width_at}
use Rattle.wanted_bits.specs.Walking.{all_raised}
use Rattle.wanted_bits.proofs.walking.leave_globals.Given as goal

abbrev pub invariant-loop-x : goal.invariant-loop-x
invariant-loop-x l = all_raised (width_at l.around.back.now) (range_with_len l.x (l.shared - l.x)) l.bits ≡ all_raised (width_at l.around.back.now) (shared_vars l.shared) l.initial.bits
