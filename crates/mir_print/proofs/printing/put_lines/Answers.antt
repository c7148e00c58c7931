use Rattle.std.proofs.Common.{refl}
use Rattle.std.proofs.lemmas.Option.{slice_get_read}
use Rattle.mir_print.proofs.Jumps.{jumps_to_is}
use Rattle.mir_print.proofs.printing.put_lines.Goals as goal

pub put_inst-requires : goal.put_inst-requires
put_inst-requires c =
    jumps_to_is c.args.scope.now.units.now c.args.scope.now.body.now c.requires c.loop-place.place c.inst-item.result
    (slice_get_read c.args.scope.now.body.now _ c.loop-place.place c.inst-item.result refl c.loop-place-test.true c.inst-item.is)
