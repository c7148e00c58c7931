use Rattle.std.proofs.Common.{◌++◌, codes}
use Rattle.table_text.specs.Rows.{bits_line}
use Rattle.table_text.specs.TurnLaws.{two_pieces}
use Rattle.division_table.proofs.expressions.put_delays.Goals as goal

-- the four rows stand one behind the other
pub returns : goal.returns
returns c =
    let delays = c.args.columns.now.delays in
    let n = c.args.number in
    let start = c.args.text.now in
    let earliest = bits_line delays.earliest n (codes "earliest") in
    let delayed = bits_line delays.delayed n (codes "delayed") in
    let latest = bits_line delays.latest n (codes "latest") in
    let isolated = bits_line delays.isolated n (codes "isolated") in
    let two = two_pieces start c.put_bits.new.text c.put_bits-2.new.text earliest delayed c.in_ok-put_bits.ensures c.in_ok-put_bits-2.ensures in
    let three = two_pieces start c.put_bits-2.new.text c.put_bits-3.new.text (earliest ++ delayed) latest two c.in_ok-put_bits-3.ensures in
    two_pieces start c.put_bits-3.new.text c.put_bits-4.new.text (earliest ++ delayed ++ latest) isolated three c.in_ok-put_bits-4.ensures
