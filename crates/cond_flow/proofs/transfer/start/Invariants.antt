use Rattle.std.proofs.Common.{◌≡◌, ◌+◌, drop}
use Rattle.cond_flow.specs.Outsides.{rules_in}
use Rattle.cond_flow.specs.Passing.{all_set, start_known}
use Rattle.cond_flow.specs.Rules.{known_at}
use Rattle.cond_flow.proofs.transfer.start.Given as goal

abbrev pub invariant-loop-i : goal.invariant-loop-i
invariant-loop-i g l =
    all_set (λ i. known_at g.K.Knowledge.rules l.outside.entry.now (l.shared + i)) l.i (drop l.i l.received) l.known
    ≡ start_known (rules_in l.outside g.K.Knowledge.rules) l.shared l.received l.fn.known
