use Rattle.std.proofs.Common.{◌≡◌, length}
use Rattle.wanted_bits.specs.Asking.{asked_by}
use Rattle.wanted_bits.specs.KeptRows.{PassedRows}
use Rattle.wanted_bits.proofs.kept.pass_risen.Given as goal

abbrev pub invariant-loop-count : goal.invariant-loop-count
invariant-loop-count l = record {
  passed : PassedRows (asked_by l.graph.shared l.around) l.graph l.prepared l.initial.rows.items l.rows.items;
  room : length l.room.items ≡ length l.graph.vars;
}

abbrev pub invariant-loop-time : goal.invariant-loop-time
invariant-loop-time l = record {
  passed : PassedRows (asked_by l.graph.shared l.around) l.graph l.prepared l.initial.rows.items l.rows.items;
  room : length l.room.items ≡ length l.graph.vars;
}
