use Rattle.std.proofs.Common.{◌≡◌, ◌-◌}
use Rattle.std.specs.List.{range_with_len}
use Rattle.mir_base.specs.Frames.{shared_vars}
use Rattle.cond_flow.specs.Outsides.{outside_of}
use Rattle.cond_flow.specs.Passing.{all_set}
use Rattle.cond_flow.specs.Rules.{known_at}
use Rattle.cond_flow.proofs.transfer.enter_globals.Given as goal

abbrev pub invariant-loop-x : goal.invariant-loop-x
invariant-loop-x g l =
    all_set (known_at g.K.Knowledge.rules (outside_of l.outside).entry) l.x (range_with_len l.x (l.shared - l.x)) l.known
    ≡ all_set (known_at g.K.Knowledge.rules (outside_of l.outside).entry) 0 (shared_vars l.shared) l.fn.known
