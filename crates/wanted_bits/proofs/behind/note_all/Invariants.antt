use Rattle.std.proofs.Common.{◌≡◌, length}
use Rattle.fix_solve.specs.Net.{value_at}
use Rattle.wanted_bits.specs.Asking.{asked_by}
use Rattle.wanted_bits.specs.Found.{noted_past}
use Rattle.wanted_bits.specs.BitsOrder.{HasFew}
use Rattle.wanted_bits.specs.Walking.{back_in}
use Rattle.wanted_bits.specs.WantedFlows.{net_over}
use Rattle.wanted_bits.proofs.Noting.{NotesBelow}
use Rattle.wanted_bits.proofs.behind.note_all.Given as goal

abbrev pub invariant-loop-block : goal.invariant-loop-block
invariant-loop-block l = record {
  long : length l.behind.items ≡ length l.graph.nodes;
  room : length l.room.items ≡ length l.graph.vars;
  few : HasFew l.behind.items;
  noted : NotesBelow (λ n. noted_past) 0 l.graph (asked_by l.graph.shared l.around) (back_in l.backs) l.crossed.blocks.lists (value_at (net_over l.graph (asked_by l.graph.shared l.around) l.crossed (back_in l.backs)) l.work) l.block l.behind.items;
}
