use Rattle.std.proofs.Common.{◌≡◌, ◌∙◌, ◌++◌, ℕ, List, [], flat_map, ap, sym}
use Rattle.std.specs.List.{range_with_len}
use Rattle.std.proofs.lemmas.List.{flat_map_more, get_or_default}
use Rattle.node_list.specs.Lists.{list_at}
use Rattle.wanted_bits.proofs.Asking.{range_push}
use Rattle.wanted_table.specs.WantedLines.{wanted_line}
use Rattle.wanted_table.proofs.numbers.put_each.Goals as goal

pub loop-node-preserved : goal.loop-node-preserved
loop-node-preserved c =
    let n = c.loop-node.node in
    let rows = c.args.rows.now in
    let one : ℕ → List ℕ = λ m. wanted_line c.args.vars m (list_at rows m) in
    let row : c.index-rows-node.result ≡ list_at rows n = c.index-rows-node.is ∙ get_or_default rows n _ [] c.loop-node-test.true in
    c.in_ok-put_line.ensures
    ∙ ap (λ (l : List ℕ). c.loop-node.text.items ++ wanted_line c.args.vars n l) row
    ∙ ap (λ (l : List ℕ). l ++ one n) c.loop-node.invariant
    ∙ flat_map_more one c.args.text.now.items (range_with_len 0 n) n
    ∙ sym (ap (λ l. c.args.text.now.items ++ flat_map one l) (range_push n))
