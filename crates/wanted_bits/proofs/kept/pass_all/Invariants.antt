use Rattle.std.proofs.Common.{◌≡◌, length}
use Rattle.wanted_bits.specs.Asking.{asked_by}
use Rattle.wanted_bits.specs.KeptRows.{PassedRows}
use Rattle.wanted_bits.proofs.kept.pass_all.Given as goal

abbrev pub invariant-loop-round : goal.invariant-loop-round
invariant-loop-round l = record {
  passed : PassedRows (asked_by l.graph.shared l.around) l.graph l.prepared l.initial.rows.items l.rows.items;
  room : length l.room.items ≡ length l.graph.vars;
}
