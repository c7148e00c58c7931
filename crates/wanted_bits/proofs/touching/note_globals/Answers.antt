use Rattle.std.proofs.Common.{◌∷◌, [], sym, subst}
use Rattle.mir_base.specs.Frames.{shared_vars}
use Rattle.wanted_bits.specs.NewsShapes.{AreNoted}
use Rattle.wanted_bits.proofs.Asking.{range_push}
use Rattle.wanted_bits.proofs.Noted.{noted_append, noted_none}
use Rattle.wanted_bits.proofs.touching.note_globals.Goals as goal

pub loop-x-init : goal.loop-x-init
loop-x-init c = noted_none c.args.noted.now

pub loop-x-preserved : goal.loop-x-preserved
loop-x-preserved c =
    let x = c.loop-x.x in
    subst (λ xs. AreNoted xs c.args.noted.now c.note.new.self) (sym (range_push x)) (noted_append (shared_vars x) (x ∷ []) c.args.noted.now c.loop-x.noted c.note.new.self c.loop-x.invariant c.note.ensures)
