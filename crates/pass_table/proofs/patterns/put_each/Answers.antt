use Rattle.std.proofs.Common.{◌<◌, ◌++◌, ◌∙◌, List, ℕ, Some, add-one, ap, append_assoc, arith, length, slice_get, sym}
use Rattle.pass_table.specs.Patterns.{found_of, pattern_lines, patterns_below}
use Rattle.pass_table.proofs.BitLaws.{have_bit}
use Rattle.pass_table.proofs.patterns.put_each.Goals as goal

pub put_pattern-requires : goal.put_pattern-requires
put_pattern-requires c =
    let found = found_of c.args.lines.now in
    let nodes = length c.args.graph.now.nodes in
    let n = c.loop-number.number in
    let low : n < length found.table = omega (arith, c.loop-number-test.true, c.len-number-end.ensures) in
    record {
      blocked = have_bit nodes (length found.table) found.blocked n c.requires.blocked.shape low;
      delayed = have_bit nodes (length found.table) found.delayed n c.requires.delayed.shape low;
      inserted = have_bit nodes (length found.table) found.inserted n c.requires.inserted.shape low;
    }

-- the lines that are put are those of the next pattern
pub loop-number-preserved : goal.loop-number-preserved
loop-number-preserved c =
    let n = c.loop-number.number in
    let found = found_of c.args.lines.now in
    let vars = c.args.graph.now.vars in
    let front = patterns_below vars found n in
    let lines = pattern_lines vars found n (slice_get found.table n) in
    let put = c.in_ok-put_pattern.ensures ∙ ap (λ (l : List (List ℕ)). c.loop-number.text.items ++ pattern_lines l found n (Some c.get.result.now)) c.vars.ensures
    ∙ ap (λ o. c.loop-number.text.items ++ pattern_lines vars found n o) (sym c.get.ensures) in
    put ∙ ap (λ (l : List ℕ). l ++ lines) c.loop-number.invariant ∙ append_assoc c.args.text.now.items front lines
    ∙ ap (λ (k : ℕ). c.args.text.now.items ++ patterns_below vars found k) (sym (add-one n))
