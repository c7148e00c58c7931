use Rattle.std.proofs.Common.{◌≡◌, ℕ, ◌+◌, ◌-◌, ◌*◌, ◌/◌, ◌%◌, ◌^◌, ◌<◌, min, eqb, ap, arith, bit_and, ◌∙◌}
use Rattle.std.proofs.lemmas.Nat.{shr-shr}
use Rattle.std.proofs.lemmas.Nat.Bits.{bit_at-lt, bit_at_and, bit_at_ones}
use Rattle.std.specs.Int.{bit_at}
use Rattle.table_text.proofs.columns.word_part.Goals as goal

-- the bits of the mask are all set, so those of the word are kept
kept : (word i : ℕ) → i < 16 → bit_at (bit_and word (2 ^ 16 - 1)) i ≡ bit_at word i
kept word i low =
    let small : bit_at word i < 2 = bit_at-lt word i in
    let and : bit_at (bit_and word (2 ^ 16 - 1)) i ≡ min (bit_at word i) (bit_at (2 ^ 16 - 1) i) = bit_at_and word (2 ^ 16 - 1) i in
    let ones : bit_at (2 ^ 16 - 1) i ≡ 1 = bit_at_ones 16 i low in
    and ∙ ap (min (bit_at word i)) ones ∙ (let e : min (bit_at word i) 1 ≡ bit_at word i = omega (arith, small) in e)

-- and a shifted word has them lower
moved : (word by i : ℕ) → bit_at (word / 2 ^ by) i ≡ bit_at word (by + i)
moved word by i = ap (λ (x : ℕ). x % 2) (shr-shr word by i)

pub returns : goal.returns
returns c = λ i low. ap (λ (x : ℕ). eqb x 1) (kept (c.args.word / 2 ^ (16 * c.args.part)) i low ∙ moved c.args.word (16 * c.args.part) i)
