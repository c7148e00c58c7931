use Rattle.std.proofs.Common.{◌≡◌, set, sym, ◌∙◌}
use Rattle.bit_rows.specs.Bits.{minus_bits, or_bits, row_of}
use Rattle.path_laws.proofs.Growing.{joined_minus, joined_or, seeds_at_end, seeds_inside, seeds_some}
use Rattle.path_laws.proofs.passing.join_seeds.Goals as goal

pub returns-then-not-problem : goal.returns-then-not-problem
returns-then-not-problem c =
    let p = c.args.problem.now in
    let born_rows = c.requires.problem.flow.born_rows in
    let is : c.or_from.new.self ≡ set c.args.rows.now c.args.row (or_bits (row_of c.args.rows.now c.args.row) (row_of c.args.problem.now.born.now c.args.node)) = rw c.row-births.ensures at c.or_from.ensures in
    seeds_some p.every p.against p.graph.now.nodes p.bits p.born.now p.stop.now born_rows c.requires.problem.flow.stop_rows c.args.node c.requires.node c.args.rows.now c.or_from.new.self c.args.row c.if-not-problem.true
    (joined_or p.bits c.args.rows.now c.or_from.new.self c.args.row (row_of p.born.now c.args.node) c.requires.row (c.requires.long ∙ sym (born_rows.each c.args.node c.requires.node)) is)

pub returns-then-is_end : goal.returns-then-is_end
returns-then-is_end c =
    let p = c.args.problem.now in
    seeds_at_end p.every p.against p.graph.now.nodes p.bits p.born.now p.stop.now c.requires.problem.flow.born_rows c.requires.problem.flow.stop_rows c.args.node c.requires.node c.args.rows.now c.or_opposite.new.rows c.args.row c.if-not-problem.false
    (sym c.is_end.ensures ∙ c.if-is_end.true) c.requires.long (rw c.row-births.ensures at c.or_opposite.ensures)

pub returns-else-is_end : goal.returns-else-is_end
returns-else-is_end c =
    let p = c.args.problem.now in
    let born_rows = c.requires.problem.flow.born_rows in
    let stop_rows = c.requires.problem.flow.stop_rows in
    let is : c.or_minus_from.new.self ≡ set c.args.rows.now c.args.row (or_bits (row_of c.args.rows.now c.args.row) (minus_bits (row_of c.args.problem.now.stop.now c.args.node) (row_of c.args.problem.now.born.now c.args.node)))
    = rw (c.row.ensures, c.row-births.ensures) at c.or_minus_from.ensures in
    seeds_inside p.every p.against p.graph.now.nodes p.bits p.born.now p.stop.now born_rows stop_rows c.args.node c.requires.node c.args.rows.now c.or_minus_from.new.self c.args.row c.if-not-problem.false
    (sym c.is_end.ensures ∙ c.if-is_end.false)
    (joined_minus p.bits c.args.rows.now c.or_minus_from.new.self c.args.row (row_of p.stop.now c.args.node) (row_of p.born.now c.args.node) c.requires.row
    (c.requires.long ∙ sym (stop_rows.each c.args.node c.requires.node)) (c.requires.long ∙ sym (born_rows.each c.args.node c.requires.node)) is)
