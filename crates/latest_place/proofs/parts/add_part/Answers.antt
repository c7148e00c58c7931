use Rattle.std.proofs.Common.{◌<◌, ◌∙◌, sym, subst, arith}
use Rattle.latest_place.proofs.Joined.{lazy_among_more}
use Rattle.latest_place.proofs.parts.add_part.Goals as goal

pub add_bits-requires-clause-rows : goal.add_bits-requires-clause-rows
add_bits-requires-clause-rows g c = c.requires.inserts.len ∙ sym c.in_ok-part.ensures.insert_rows.len

pub add_bits-requires-clause-below : goal.add_bits-requires-clause-below
add_bits-requires-clause-below g c = λ n low k i at.
    subst (λ m. i < m) (sym (c.requires.inserts.each n (let len = c.in_ok-part.ensures.insert_rows.len in omega (arith, low, len)))) (c.requires.below k i at)

pub add_bits-requires-2-clause-rows : goal.add_bits-requires-2-clause-rows
add_bits-requires-2-clause-rows g c = c.requires.replaces.len ∙ sym c.in_ok-part.ensures.replace_rows.len

pub add_bits-requires-2-clause-below : goal.add_bits-requires-2-clause-below
add_bits-requires-2-clause-below g c = λ n low k i at.
    subst (λ m. i < m) (sym (c.requires.replaces.each n (let len = c.in_ok-part.ensures.replace_rows.len in omega (arith, low, len)))) (c.requires.below k i at)

pub returns : goal.returns
returns g c = λ others differ was.
    lazy_among_more (g.R.DownRule.is_down c.args.rule.now) c.args.graph.now c.args.table.now c.in_ok-exprs.exprs others c.args.numbers.now differ c.in_ok-exprs.ensures
    c.args.placement.now (record { insert = c.add_bits.new.rows; replace = c.add_bits-2.new.rows }) c.in_ok-part.part was c.in_ok-part.ensures c.add_bits.ensures c.add_bits-2.ensures
