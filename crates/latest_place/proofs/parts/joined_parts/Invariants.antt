use Rattle.std.proofs.Common.{◌-◌, ◌≤◌, length, take}
use Rattle.latest_place.specs.Parts.{IsLazyAmong}
use Rattle.latest_place.proofs.parts.joined_parts.Given as goal

abbrev pub invariant-loop-done : goal.invariant-loop-done
invariant-loop-done g l = record {
  within : l.done ≤ length l.numbers;
  placed : IsLazyAmong (g.R.DownRule.is_down l.rule) l.graph l.table (take l.done l.numbers) l.placement;
}

abbrev pub decreases-loop-done : goal.decreases-loop-done
decreases-loop-done g l = length l.numbers - l.done
