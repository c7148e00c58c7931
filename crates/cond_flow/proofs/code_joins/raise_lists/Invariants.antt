use Rattle.std.proofs.Common.{◌≡◌, ◌↔◌, false, length}
use Rattle.cond_flow.specs.FactLists.{decoded_each}
use Rattle.cond_flow.specs.Raising.{IsRaisedTo, KeepsRaised}
use Rattle.cond_flow.proofs.code_joins.raise_lists.Given as goal

abbrev pub invariant-loop-i : goal.invariant-loop-i
invariant-loop-i g l = record {
  long : length l.kinds ≡ length l.initial.kinds;
  numbers_long : length l.numbers ≡ length l.initial.numbers;
  raised : IsRaisedTo g.K.Knowledge.below g.K.Knowledge.rules l.raised l.i (decoded_each g.K.Coded.decoded l.other_kinds l.other_numbers) (decoded_each g.K.Coded.decoded l.initial.kinds l.initial.numbers) (decoded_each g.K.Coded.decoded l.kinds l.numbers);
  tells : (l.changed ≡ false) ↔ (decoded_each g.K.Coded.decoded l.kinds l.numbers ≡ decoded_each g.K.Coded.decoded l.initial.kinds l.initial.numbers);
  keeps : KeepsRaised g.K.Knowledge.rules l.initial.news (decoded_each g.K.Coded.decoded l.initial.kinds l.initial.numbers) l.news (decoded_each g.K.Coded.decoded l.kinds l.numbers);
}
