use Rattle.pass_table.proofs.motion.motion_rows.Goals as goal

pub split_splits-requires : goal.split_splits-requires
split_splits-requires c = c.requires.splits

pub returns : goal.returns
returns c = record { places_are = c.in_ok-places.ensures; bounds_are = c.in_ok-bounds.ensures }
