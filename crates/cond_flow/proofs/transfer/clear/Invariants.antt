use Rattle.std.proofs.Common.{◌≡◌, ◌-◌, length}
use Rattle.std.specs.List.{range_with_len}
use Rattle.cond_flow.specs.Passing.{all_set}
use Rattle.cond_flow.proofs.transfer.clear.Given as goal

abbrev pub invariant-loop-x : goal.invariant-loop-x
invariant-loop-x g l =
    all_set (λ i. g.K.Knowledge.rules.zero) l.x (range_with_len l.x (length l.fn.known - l.x)) l.known
    ≡ all_set (λ i. g.K.Knowledge.rules.zero) l.shared (range_with_len l.shared (length l.fn.known - l.shared)) l.fn.known
