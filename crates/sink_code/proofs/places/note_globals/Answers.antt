use Rattle.std.proofs.Common.{◌∙◌, ◌∷◌, [], List, slice_set, ap, sym}
use Rattle.mir_base.specs.Frames.{shared_vars}
use Rattle.sink_code.specs.declared.places.BlockPlace.{BlockPlace}
use Rattle.sink_code.specs.BlockPlaces.{noted}
use Rattle.graph_edit.specs.VarLaws.{shared_more}
use Rattle.sink_code.proofs.Noted.{noted_append}
use Rattle.sink_code.proofs.places.note_globals.Goals as goal

pub loop-x-preserved : goal.loop-x-preserved
loop-x-preserved c =
    let x = c.loop-x.x in
    ap (λ (l : List BlockPlace). slice_set l x c.args.place) c.loop-x.invariant
    ∙ sym (noted_append c.args.place (shared_vars x) (x ∷ []) c.args.places.now)
    ∙ ap (λ xs. noted c.args.place xs c.args.places.now) (sym (shared_more x))
