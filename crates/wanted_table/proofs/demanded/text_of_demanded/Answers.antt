use Rattle.std.proofs.Common.{◌++◌, ◌∙◌, List, ℕ, ap, codes}
use Rattle.wanted_table.proofs.demanded.text_of_demanded.Goals as goal
use Rattle.program_wanted.specs.Tables.{demands_of}

-- the tables of the units stand behind the first line
pub returns : goal.returns
returns c =
    let put = c.in_ok-put_units.ensures in
    let begun = c.in_ok-extend_from_slice.ensures.items ∙ ap (λ (l : List ℕ). l ++ codes "tables 1 demanded\n") c.new-text.ensures.items in
    record {
      demands = demands_of c.in_ok-tables.tables;
      least = c.in_ok-tables.ensures;
      units = put.0;
      are = put.1;
      text_is = put.2 ∙ ap (λ (l : List ℕ). l ++ put.0) begun;
    }
