use Rattle.std.proofs.Common.{sym}
use Rattle.bit_rows.proofs.Ops.{row_len}
use Rattle.bit_rows.proofs.view.RowView.len.Goals as goal

pub returns : goal.returns
returns c = sym (row_len c.self.inside.bits c.self.inside.words.now c.args.self.now c.self.view_is)
