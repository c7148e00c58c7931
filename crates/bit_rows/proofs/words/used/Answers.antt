use Rattle.std.proofs.Common.{◌≡◌, ◌-◌, ◌*◌, ◌^◌, min, ap, arith, ◌∙◌}
use Rattle.std.proofs.lemmas.Nat.Bits.{ones_shr}
use Rattle.bit_rows.proofs.words.used.Goals as goal

pub returns : goal.returns
returns c =
    let left : c.min-left.result ≡ min (c.args.bits - 64 * c.args.word) 64 = c.min-left.ensures in
    ones_shr 64 (64 - c.min-left.result) (omega arith) ∙ ap (λ k. 2 ^ k - 1) (omega arith)
