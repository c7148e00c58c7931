use Rattle.std.proofs.Common.{◌<◌, false, [], arith}
use Rattle.std.proofs.lemmas.List.{ext_get_or}
use Rattle.bit_rows.specs.Words.{bits_of}
use Rattle.bit_rows.proofs.Views.{length_bits_of}
use Rattle.bit_rows.proofs.row.Row.empty.Goals as goal

pub returns : goal.returns
returns c =
    let words = c.new.result.items in
    ext_get_or false (bits_of 0 words) [] (length_bits_of 0 words) (λ k h. absurd (let none : k < 0 = rw length_bits_of at h in omega arith))
