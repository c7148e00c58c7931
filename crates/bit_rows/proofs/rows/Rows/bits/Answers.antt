use Rattle.bit_rows.proofs.Flat.{long_rows}
use Rattle.bit_rows.proofs.rows.Rows.bits.Goals as goal

pub returns : goal.returns
returns c = long_rows c.self.inside.rows c.self.inside.bits c.self.inside.stride c.self.inside.words.items c.args.self.now c.self.invariant c.self.view_is
