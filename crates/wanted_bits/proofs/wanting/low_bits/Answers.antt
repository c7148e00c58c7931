use Rattle.std.proofs.Common.{◌≡◌, ◌∙◌, ◌%◌, ◌^◌, ap, sym, w64, of_z, to_z-of_z}
use Rattle.std.proofs.lemmas.Int.{int_wrap_fits}
use Rattle.std.proofs.lemmas.Nat.{one_shl}
use Rattle.mir_base.specs.Numbers.{unsigned}
use Rattle.mir_base.specs.WordLaws.{bits_are}
use Rattle.wanted_bits.specs.Agreement.{low_bits}
use Rattle.wanted_bits.specs.AgreementLaws.{low_of_low}
use Rattle.wanted_bits.proofs.wanting.low_bits.Goals as goal

pub returns-then-k-lt64 : goal.returns-then-k-lt64
returns-then-k-lt64 c =
    let k = c.args.k in
    let z = c.args.c in
    let fits = c.ranges.c in
    let bits : c.cast_unsigned-bits.result ≡ unsigned z = c.cast_unsigned-bits.ensures ∙ ap (of_z w64) (to_z-of_z fits) ∙ bits_are z fits in
    ap (λ m. c.cast_unsigned-bits.result % m) (one_shl k 64 c.if-k-lt64.true) ∙ ap (λ b. b % 2 ^ k) bits ∙ low_of_low k 64 z c.requires ∙ sym (ap (low_bits k) (int_wrap_fits w64 z fits))
