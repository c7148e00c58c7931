use Rattle.std.proofs.Common.{◌∙◌, List, subst}
use Rattle.pass_chain.specs.declared.passes.Pass.{Pass}
use Rattle.mir_top.specs.Outputs.{ChainsThrough}
use Rattle.mir_top.proofs.making.chained.Goals as goal

pub returns : goal.returns
returns c =
    let is = c.in_ok-target.ensures in
    let target = c.in_ok-target.target in
    record {
      target = target;
      gives = subst (λ (l : List Pass). ChainsThrough l c.args.program.now target) (c.deref.ensures.value ∙ c.in_ok-passes.ensures) (record { exact = is.chained; only = is.only; keeps = is.keeps });
      written = c.in_ok-made.ensures.output;
      outcome_is = c.in_ok-made.ensures.outcome;
    }
