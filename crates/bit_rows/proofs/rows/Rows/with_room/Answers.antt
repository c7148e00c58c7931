use Rattle.bit_rows.proofs.Grown.{no_rows}
use Rattle.bit_rows.proofs.rows.Rows.with_room.Goals as goal

pub returns : goal.returns
returns c = no_rows c.args.bits c.div_ceil-stride.result c.in_ok-with_capacity.field-0.items
