use Rattle.std.proofs.Common.{◌≡◌, length}
use Rattle.cond_flow.specs.FactLists.{decoded_each}
use Rattle.cond_flow.specs.Raising.{KeepsRaised}
use Rattle.cond_flow.specs.Joining.{JoinedBetween}
use Rattle.cond_flow.proofs.code_joins.join_each.Given as goal

abbrev pub invariant-loop-i : goal.invariant-loop-i
invariant-loop-i g l = record {
  long : length l.kinds ≡ length l.initial.kinds;
  numbers_long : length l.numbers ≡ length l.initial.numbers;
  joined : JoinedBetween g.K.Knowledge.rules.joined g.K.Knowledge.rules.top (decoded_each g.K.Coded.decoded l.initial.kinds l.initial.numbers) (decoded_each g.K.Coded.decoded l.other_kinds l.other_numbers) (decoded_each g.K.Coded.decoded l.kinds l.numbers) l.changed l.start l.i;
  keeps : KeepsRaised g.K.Knowledge.rules l.initial.news (decoded_each g.K.Coded.decoded l.initial.kinds l.initial.numbers) l.news (decoded_each g.K.Coded.decoded l.kinds l.numbers);
}
