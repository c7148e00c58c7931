-- Units that are marked as stale where rows are raised.
use Rattle.std.proofs.Common.{ℕ, ◌<◌, ◌≡◌, Bool, true, List, [], length, slice_set, refl, sym, ◌∙◌, subst}
use Rattle.std.proofs.lemmas.List.{get_or-set_other, length-set}
use Rattle.node_list.specs.Lists.{list_at}
use Rattle.unit_callers.specs.StaleLaws.{set_others}
use Rattle.program_wanted.specs.Stale.{RaisedMarked}
use Rattle.program_wanted.proofs.Rooms.{set_itself}

-- rows that are raised twice
pub raised_both : (rows mid new : List (List ℕ)) (old now after : List Bool) → RaisedMarked rows mid old now → RaisedMarked mid new now after → RaisedMarked rows new old after
raised_both rows mid new old now after first second = record {
  long = second.long ∙ first.long;
  keeps = λ w off.
      let late = second.keeps w off in
      let early = first.keeps w late.0 in
      (early.0, late.1 ∙ early.1);
}

-- rows that stay
pub raised_left : (rows : List (List ℕ)) (marks : List Bool) → RaisedMarked rows rows marks marks
raised_left rows marks = record { long = refl; keeps = λ w off. (off, refl) }

-- a row that is put, whose unit is marked
pub row_marked : (rows : List (List ℕ)) (v : ℕ) (row : List ℕ) (marks : List Bool) → RaisedMarked rows (slice_set rows v row) marks (slice_set marks v true)
row_marked rows v row marks = record {
  long = length-set marks v true;
  keeps = λ w off. let before = set_others marks v w off in (before.0, get_or-set_other rows v w row [] before.1);
}

-- a row that is put as it was
pub row_left : (rows : List (List ℕ)) (v : ℕ) (row : List ℕ) (marks : List Bool) → v < length rows → row ≡ list_at rows v → RaisedMarked rows (slice_set rows v row) marks marks
row_left rows v row marks lt is = subst (λ l. RaisedMarked rows l marks marks) (sym (set_itself rows v row lt is)) (raised_left rows marks)
