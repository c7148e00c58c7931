use Rattle.mir_table.proofs.further.text_of.Goals as goal

-- the trail is the linked one
pub text_of_divisions-requires : goal.text_of_divisions-requires
text_of_divisions-requires c = c.requires.improves.linked
