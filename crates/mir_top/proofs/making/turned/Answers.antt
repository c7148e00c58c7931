use Rattle.mir_top.proofs.making.turned.Goals as goal

pub returns : goal.returns
returns c =
    let is = c.in_ok-target.ensures in record {
      target = c.in_ok-target.target;
      gives = is;
      written = c.in_ok-made.ensures.output;
      outcome_is = c.in_ok-made.ensures.outcome;
    }
