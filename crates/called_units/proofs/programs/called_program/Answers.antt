use Rattle.called_units.specs.CalledFits.{called_is_one}
use Rattle.called_units.proofs.Answered.{fits_as, is_as, keeps_as}
use Rattle.called_units.proofs.programs.called_program.Goals as goal

pub with_units-requires : goal.with_units-requires
with_units-requires c = fits_as c.args.program.now c.in_ok-marks.marks.items c.as_slice.result.now c.in_ok-marks.ensures c.as_slice.ensures.value c.in_ok-units.units.items c.in_ok-units.ensures c.fits_together.ensures

pub returns-clause-called : goal.returns-clause-called
returns-clause-called c = is_as c.args.program.now c.in_ok-marks.marks.items c.as_slice.result.now c.in_ok-marks.ensures c.as_slice.ensures.value c.in_ok-units.units.items c.in_ok-units.ensures c.in_ok-target.target c.in_ok-target.ensures

pub returns-clause-only : goal.returns-clause-only
returns-clause-only c = λ other is.
    called_is_one c.args.program.now c.in_ok-target.target other (is_as c.args.program.now c.in_ok-marks.marks.items c.as_slice.result.now c.in_ok-marks.ensures c.as_slice.ensures.value c.in_ok-units.units.items c.in_ok-units.ensures c.in_ok-target.target c.in_ok-target.ensures) is

pub returns-clause-keeps : goal.returns-clause-keeps
returns-clause-keeps c =
    keeps_as c.args.program.now c.in_ok-target.target c.fits_together.ensures (is_as c.args.program.now c.in_ok-marks.marks.items c.as_slice.result.now c.in_ok-marks.ensures c.as_slice.ensures.value c.in_ok-units.units.items c.in_ok-units.ensures c.in_ok-target.target c.in_ok-target.ensures)
