use Rattle.std.proofs.Common.{◌≡◌, ℕ, ◌<◌, ◌≤◌}
use Rattle.bit_rows.specs.Bits.{AreAlike, not_bits, row_of}
use Rattle.bit_rows.proofs.rows.Rows.flip_rows.Given as goal

abbrev pub invariant-loop-row : goal.invariant-loop-row
invariant-loop-row l = record {
  alike : AreAlike l.initial.self l.self;
  from_on : l.from ≤ l.row;
  before : (n : ℕ) → n < l.from → row_of l.self n ≡ row_of l.initial.self n;
  after : (n : ℕ) → l.from ≤ n → n < l.row → row_of l.self n ≡ not_bits (row_of l.initial.self n);
  rest : (n : ℕ) → l.row ≤ n → row_of l.self n ≡ row_of l.initial.self n;
}
