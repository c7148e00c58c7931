use Rattle.std.proofs.Common.{refl}
use Rattle.pass_table.proofs.patterns.lines_of.Goals as goal

-- each of the lines is made of the rows that it stands for
pub returns : goal.returns
returns c = rw (c.in_ok-blocked.ensures, c.in_ok-delayed.ensures, c.in_ok-inserted.ensures) refl
