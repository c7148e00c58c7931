use Rattle.bounds.specs.NarrowingLaws.{narrowed_holds, narrowed_mono, may_holds, denied_is}
use Rattle.bounds.specs.NonemptyLaws.{narrowed_possible}
use Rattle.bounds.proofs.laws.narrowing_holds.Goals as goal

pub returns-clause-holds : goal.returns-clause-holds
returns-clause-holds c = narrowed_holds

pub returns-clause-rises : goal.returns-clause-rises
returns-clause-rises c = narrowed_mono

pub returns-clause-may : goal.returns-clause-may
returns-clause-may c = may_holds

pub returns-clause-denied : goal.returns-clause-denied
returns-clause-denied c = denied_is

pub returns-clause-possible : goal.returns-clause-possible
returns-clause-possible c = narrowed_possible
