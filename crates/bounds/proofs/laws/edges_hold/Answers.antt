use Rattle.bounds.specs.EdgeLaws.{rhs_holds, along_holds, rhs_mono, along_mono, may_go_mono}
use Rattle.bounds.proofs.laws.edges_hold.Goals as goal

pub returns-clause-right_side : goal.returns-clause-right_side
returns-clause-right_side c = rhs_holds

pub returns-clause-test : goal.returns-clause-test
returns-clause-test c = along_holds

pub returns-clause-right_side_rises : goal.returns-clause-right_side_rises
returns-clause-right_side_rises c = rhs_mono

pub returns-clause-test_rises : goal.returns-clause-test_rises
returns-clause-test_rises c = along_mono

pub returns-clause-way_rises : goal.returns-clause-way_rises
returns-clause-way_rises c = may_go_mono
