use Rattle.std.proofs.Common.{◌≡◌, ◌-◌}
use Rattle.std.specs.List.{range_with_len}
use Rattle.mir_base.specs.Frames.{shared_vars}
use Rattle.wanted_bits.specs.Asking.{global_at}
use Rattle.wanted_bits.specs.Walking.{all_set}
use Rattle.wanted_bits.proofs.walking.enter_globals.Given as goal

abbrev pub invariant-loop-x : goal.invariant-loop-x
invariant-loop-x l = all_set (global_at l.around l.unit) (range_with_len l.x (l.shared - l.x)) l.bits ≡ all_set (global_at l.around l.unit) (shared_vars l.shared) l.initial.bits
