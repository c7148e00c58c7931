use Rattle.std.proofs.Common.{sym}
use Rattle.bit_rows.proofs.Flat.{rows_are}
use Rattle.bit_rows.proofs.rows.Rows.len.Goals as goal

pub returns : goal.returns
returns c = sym (rows_are c.self.inside.rows c.self.inside.bits c.self.inside.stride c.self.inside.words.items c.args.self.now c.self.invariant c.self.view_is)
