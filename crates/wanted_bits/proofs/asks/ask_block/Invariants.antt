use Rattle.std.proofs.Common.{◌≡◌, ◌-◌, drop, length, None}
use Rattle.wanted_bits.specs.Asking.{asked_by}
use Rattle.wanted_bits.specs.Asks.{ask_past}
use Rattle.wanted_bits.specs.BitsOrder.{HasFew}
use Rattle.wanted_bits.specs.Found.{NotesFrom}
use Rattle.wanted_bits.specs.Walking.{back_in, before_list}
use Rattle.wanted_bits.proofs.asks.ask_block.Given as goal

abbrev pub invariant-loop-count : goal.invariant-loop-count
invariant-loop-count l = record {
  bits : l.bits ≡ before_list l.graph (asked_by l.graph.shared l.around) (back_in l.backs) (drop (length l.list - l.count) l.list) l.initial.bits;
  few : HasFew l.bits;
  noted : NotesFrom (λ n. ask_past l.graph.shared) None l.graph (asked_by l.graph.shared l.around) (back_in l.backs) l.list l.initial.bits (length l.list - l.count) l.initial.asks l.asks;
}
