use Rattle.std.proofs.Common.{◌≡◌, ◌+◌, ◌<◌, ◌∙◌, ◌&&◌, not, Bool, ap, sym, arith, length, slice_index_or}
use Rattle.bit_rows.specs.BitLaws.{minus_bit}
use Rattle.bit_rows.specs.Bits.{minus_bits, row_bit}
use Rattle.live_range.proofs.Differences.{not_second, has_first, differing_counted}
use Rattle.live_range.specs.Counts.{only_if}
use Rattle.live_range.proofs.counting.count_differences.Goals as goal

pub add_where-requires-clause-room : goal.add_where-requires-clause-room
add_where-requires-clause-room c = λ b b_in on.
    let row = c.args.row.now in
    let before = c.args.before.now in
    let is : c.view-2.result ≡ minus_bits row before = c.view-2.ensures ∙ c.minus_from.ensures.minus ∙ ap (λ r. minus_bits r c.view.result) c.copy_from.ensures.copy ∙ ap (λ r. minus_bits row r) c.view.ensures in
    let bit : row_bit c.view-2.result b ≡ (row_bit row b && not (row_bit before b)) = ap (λ r. row_bit r b) is ∙ minus_bit row before b (sym c.requires.before) in
    c.requires.room b b_in (not_second (row_bit row b) (row_bit before b) (sym bit ∙ on))

pub take_where-requires-clause-enough : goal.take_where-requires-clause-enough
take_where-requires-clause-enough c = λ b b_in on.
    let row = c.args.row.now in
    let before = c.args.before.now in
    let bit : row_bit c.view-3.result b ≡ (row_bit before b && not (row_bit row b)) = ap (λ r. row_bit r b) (c.view-3.ensures ∙ c.minus_from-2.ensures.minus) ∙ minus_bit before row b c.requires.before in
    let low : b < length c.args.counts.now = omega (arith, b_in, c.add_where.ensures.len) in
    let taken = c.requires.taken b low (has_first (row_bit before b) (row_bit row b) (sym bit ∙ on)) in
    omega (arith, taken, c.add_where.ensures.each b low)

pub returns-clause-each : goal.returns-clause-each
returns-clause-each c = λ b b_in.
    let row = c.args.row.now in
    let before = c.args.before.now in
    let left = c.args.left in
    let old = slice_index_or c.args.counts.now b 0 in
    let more = slice_index_or c.add_where.new.counts b 0 in
    let new = slice_index_or c.take_where.new.counts b 0 in
    let is : c.view-2.result ≡ minus_bits row before = c.view-2.ensures ∙ c.minus_from.ensures.minus ∙ ap (λ r. minus_bits r c.view.result) c.copy_from.ensures.copy ∙ ap (λ r. minus_bits row r) c.view.ensures in
    let bit : row_bit c.view-2.result b ≡ (row_bit row b && not (row_bit before b)) = ap (λ r. row_bit r b) is ∙ minus_bit row before b (sym c.requires.before) in
    let gone : row_bit c.view-3.result b ≡ (row_bit before b && not (row_bit row b)) = ap (λ r. row_bit r b) (c.view-3.ensures ∙ c.minus_from-2.ensures.minus) ∙ minus_bit before row b c.requires.before in
    let add : more ≡ old + only_if (row_bit row b && not (row_bit before b)) left = c.add_where.ensures.each b b_in ∙ ap (λ (x : Bool). old + only_if x left) bit in
    let take : new + only_if (row_bit before b && not (row_bit row b)) left ≡ more = sym (ap (λ (x : Bool). new + only_if x left) gone) ∙ c.take_where.ensures.each b (omega (arith, b_in, c.add_where.ensures.len)) in
    differing_counted (row_bit before b) (row_bit row b) old more new left add take
