use Rattle.std.proofs.Common.{◌++◌, ◌∙◌, List, ℕ, ap, codes}
use Rattle.unit_join.specs.JoinProgramLaws.{leaves_of}
use Rattle.call_table.proofs.joins.text_with.Goals as goal

-- the lines of the leaves and the tables of the units stand behind the first line
pub returns : goal.returns
returns c =
    let bodies = c.in_ok-put_in_turn.ensures in
    let put = c.in_ok-put_in_turn-2.ensures in
    let begun = c.in_ok-extend_from_slice.ensures.items ∙ ap (λ (l : List ℕ). l ++ codes "tables 1 join\n") c.new-text.ensures.items in
    record {
      leaves = c.args.leaves.now.units;
      bodies = bodies.0;
      units = put.0;
      are_leaves = leaves_of c.args.program.now.units c.args.leaves.now.units c.requires;
      tests = bodies.1;
      are = put.1;
      text_is = put.2 ∙ ap (λ (l : List ℕ). l ++ put.0) (bodies.2 ∙ ap (λ (l : List ℕ). l ++ bodies.0) begun);
    }
