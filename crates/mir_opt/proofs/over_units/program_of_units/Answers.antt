use Rattle.mir_opt.proofs.Fits.{kept_program}
use Rattle.mir_opt.proofs.over_units.program_of_units.Goals as goal

pub with_units-requires : goal.with_units-requires
with_units-requires c = kept_program c.args.source.now.globals c.args.source.now.units c.args.targets.items c.fits_together.ensures c.requires
