use Rattle.division_table.proofs.rows.division_rows.Goals as goal

pub split_splits-requires : goal.split_splits-requires
split_splits-requires c = c.requires.splits

pub returns : goal.returns
returns c = record { sure_are = c.in_ok-sure.ensures; bounds_are = c.in_ok-bounds.ensures }
