use Rattle.std.proofs.Common.{◌++◌, codes}
use Rattle.table_text.specs.Rows.{bits_line}
use Rattle.table_text.specs.TurnLaws.{two_pieces}
use Rattle.pass_table.proofs.motion.put_safe.Goals as goal

-- the five rows stand one behind the other
pub returns : goal.returns
returns c =
    let safe = c.args.lines.now.safe in
    let n = c.args.number in
    let start = c.args.text.now in
    let used = bits_line safe.uses n (codes "used") in
    let killed = bits_line safe.kills n (codes "killed") in
    let up = bits_line safe.available n (codes "available") in
    let down = bits_line safe.anticipatable n (codes "anticipatable") in
    let early = bits_line safe.earliest n (codes "earliest") in
    let two = two_pieces start c.put_bits.new.text c.put_bits-2.new.text used killed c.in_ok-put_bits.ensures c.in_ok-put_bits-2.ensures in
    let three = two_pieces start c.put_bits-2.new.text c.put_bits-3.new.text (used ++ killed) up two c.in_ok-put_bits-3.ensures in
    let four = two_pieces start c.put_bits-3.new.text c.put_bits-4.new.text (used ++ killed ++ up) down three c.in_ok-put_bits-4.ensures in
    two_pieces start c.put_bits-4.new.text c.put_bits-5.new.text (used ++ killed ++ up ++ down) early four c.in_ok-put_bits-5.ensures
