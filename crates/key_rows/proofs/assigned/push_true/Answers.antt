use Rattle.std.proofs.Common.{rules, ◌≡◌, ◌∷◌, ◌++◌, [], List, Bool, false, replicate, set, ap, ◌∙◌}
use Rattle.bit_rows.specs.Bits.{not_bits, row_of}
use Rattle.key_rows.specs.KeyRowLaws.{last_flipped}
use Rattle.key_rows.proofs.assigned.push_true.Goals as goal

pub returns : goal.returns
returns c =
    let put : c.push_false.new.self ≡ c.args.rows.now ++ replicate c.args.bits false ∷ [] = search rules in record {
      ok =
          c.flip.ensures
          ∙ ap (λ (rows : List (List Bool)). set rows c.len-last.result (not_bits (row_of rows c.len-last.result))) put
          ∙ last_flipped c.args.rows.now c.args.bits c.len-last.result c.len-last.ensures;
      err = tt;
    }
