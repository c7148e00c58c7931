use Rattle.std.proofs.Common.{◌≡◌, length}
use Rattle.wanted_bits.specs.Asking.{asked_by}
use Rattle.wanted_bits.specs.KeptRows.{PassedAsks}
use Rattle.wanted_bits.proofs.kept.ask_rows.Given as goal

abbrev pub invariant-loop-i : goal.invariant-loop-i
invariant-loop-i l = record {
  passed : PassedAsks (asked_by l.graph.shared l.around) l.graph l.prepared l.rows l.initial.asks.items l.asks.items;
  room : length l.room.items ≡ length l.graph.vars;
  long : length l.asks.items ≡ length l.graph.nodes;
}
