use Rattle.std.proofs.lemmas.Bool.Decides.{Decides-eqb}
use Rattle.std.proofs.lemmas.Slice.Eq.{slice_eq-Decides}
use Rattle.bit_rows.proofs.Ops.{rows_alike, words_alike}
use Rattle.bit_rows.proofs.view.RowView.is_same.Goals as goal

pub returns : goal.returns
returns c =
    let words = slice_eq-Decides Decides-eqb _ _ _ c.eq.ensures in (
      λ on. rows_alike c.self.inside.bits c.self.inside.words.now c.args.self.now c.self.invariant c.self.view_is
          c.other.inside.bits c.other.inside.words.now c.args.other.now c.other.invariant c.other.view_is c.requires (words.0 on),
      λ e. words.1 (words_alike c.self.inside.bits c.self.inside.words.now c.args.self.now c.self.invariant c.self.view_is
          c.other.inside.bits c.other.inside.words.now c.args.other.now c.other.invariant c.other.view_is c.requires e),
    )
