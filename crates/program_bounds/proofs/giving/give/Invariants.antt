use Rattle.std.proofs.Common.{◌≡◌, map}
use Rattle.std.specs.Option.{option_map}
use Rattle.program_bounds.specs.Stale.{RaisedMarked}
use Rattle.program_bounds.specs.Sweeps.{GivesTo}
use Rattle.program_bounds.specs.Tables.{facts_of}
use Rattle.program_bounds.proofs.giving.give.Given as goal

abbrev pub invariant-loop-n : goal.invariant-loop-n
invariant-loop-n l = record {
  gives : GivesTo l.graph l.unit (map (option_map (λ list. list.items)) l.all) l.n (facts_of l.initial.tables) (facts_of l.tables) l.raised;
  marked : RaisedMarked l.callers l.unit (facts_of l.initial.tables) (facts_of l.tables) l.initial.tables.stale.items l.tables.stale.items;
  kept : l.tables.made.items ≡ l.initial.tables.made.items;
}
