use Rattle.program_wanted.specs.Stale.{RaisedMarked}
use Rattle.program_wanted.specs.Sweeps.{RaisesTo}
use Rattle.program_wanted.proofs.raising.raise_backs.Given as goal

abbrev pub invariant-loop-n : goal.invariant-loop-n
invariant-loop-n l = record {
  raises : RaisesTo l.graph l.asks l.n l.initial.backs.items l.backs.items l.raised;
  marked : RaisedMarked l.initial.backs.items l.backs.items l.initial.stale.items l.stale.items;
}
