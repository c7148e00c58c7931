use Rattle.std.proofs.Common.{drop}
use Rattle.pass_chain.specs.ChainLaws.{HasCome}
use Rattle.pass_chain.specs.Passes.{IsChained}
use Rattle.pass_chain.proofs.chains.chained.Given as goal

abbrev pub invariant-loop-pass : goal.invariant-loop-pass
invariant-loop-pass l = HasCome (IsChained l.passes l.program) l.program l.last (IsChained (drop l.pass-index l.passes) l.last)
