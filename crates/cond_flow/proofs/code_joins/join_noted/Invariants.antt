use Rattle.std.proofs.Common.{◌≡◌, ◌-◌, ◌≤◌, length}
use Rattle.cond_flow.specs.FactLists.{decoded_each}
use Rattle.cond_flow.specs.Joining.{JoinedBetween}
use Rattle.cond_flow.specs.Raising.{KeepsRaised}
use Rattle.cond_flow.proofs.code_joins.join_noted.Given as goal

abbrev pub invariant-loop-start : goal.invariant-loop-start
invariant-loop-start g l = record {
  within : l.start ≤ length l.initial.kinds;
  long : length l.kinds ≡ length l.initial.kinds;
  numbers_long : length l.numbers ≡ length l.initial.numbers;
  joined : JoinedBetween g.K.Knowledge.rules.joined g.K.Knowledge.rules.top (decoded_each g.K.Coded.decoded l.initial.kinds l.initial.numbers) (decoded_each g.K.Coded.decoded l.other_kinds l.other_numbers) (decoded_each g.K.Coded.decoded l.kinds l.numbers) l.changed 0 l.start;
  keeps : KeepsRaised g.K.Knowledge.rules l.initial.news (decoded_each g.K.Coded.decoded l.initial.kinds l.initial.numbers) l.news (decoded_each g.K.Coded.decoded l.kinds l.numbers);
}

abbrev pub decreases-loop-start : goal.decreases-loop-start
decreases-loop-start g l = length l.initial.kinds - l.start
