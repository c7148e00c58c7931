use Rattle.std.proofs.Common.{◌∙◌, ◌++◌, ℕ, List, decimal, flat_map, ap, sym}
use Rattle.std.specs.List.{range_with_len}
use Rattle.std.proofs.lemmas.List.{flat_map_more}
use Rattle.table_text.specs.Lines.{field}
use Rattle.wanted_bits.proofs.Asking.{range_push}
use Rattle.wanted_bits.specs.Walking.{bits_at}
use Rattle.wanted_table.proofs.numbers.put_row.Goals as goal

pub loop-x-preserved : goal.loop-x-preserved
loop-x-preserved c =
    let x = c.loop-x.x in
    let one : ℕ → List ℕ = λ y. field (decimal (bits_at c.args.row.now y)) in
    c.in_ok-put_count.ensures
    ∙ ap (λ (k : ℕ). c.loop-x.text.items ++ field (decimal k)) c.bits_at.ensures
    ∙ ap (λ (l : List ℕ). l ++ one x) c.loop-x.invariant
    ∙ flat_map_more one c.args.text.now.items (range_with_len 0 x) x
    ∙ sym (ap (λ l. c.args.text.now.items ++ flat_map one l) (range_push x))
