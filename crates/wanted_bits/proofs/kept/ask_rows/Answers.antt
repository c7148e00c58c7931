use Rattle.wanted_bits.proofs.kept.ask_rows.Goals as goal

pub loop-i-init : goal.loop-i-init
loop-i-init c = record { passed = λ shifts have wanted are under before. before; room = c.requires.room; long = c.requires.long }

pub loop-i-preserved : goal.loop-i-preserved
loop-i-preserved c = record {
  passed = λ shifts have wanted are under before. c.in_ok-ask_row.ensures.asks shifts have wanted are under (c.loop-i.invariant.passed shifts have wanted are under before);
  room = c.in_ok-ask_row.ensures.room;
  long = c.in_ok-ask_row.ensures.long;
}
