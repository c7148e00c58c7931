use Rattle.std.proofs.Common.{refl, sym, subst}
use Rattle.mir_top.specs.Texts.{IsWritten}
use Rattle.mir_top.proofs.making.text_of.Goals as goal

pub returns : goal.returns
returns c =
    let program = c.args.program.now in
    let back = c.text_is_read_back.ensures in
    subst (IsWritten program) (sym c.in_ok-text.ensures) (record {
      is = refl;
      spells = back.spelled;
      read_back = λ limits short. record { short = short; parsed = (back.read_back limits).is };
      only = λ limits other is. (back.read_back limits).only other is;
    })
