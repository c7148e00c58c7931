use Rattle.std.proofs.Common.{None, Some}
use Rattle.mir_top.specs.Streams.{never_failed}
use Rattle.mir_top.proofs.faultless.faultless_top.Goals as goal

pub returns-clause-no_read_fault : goal.returns-clause-no_read_fault
returns-clause-no_read_fault g c = λ is. never_failed (Some c.args.source.now) (Some c.top.new.source) (c.top.ensures.read_fault is).1

pub returns-clause-no_write_fault : goal.returns-clause-no_write_fault
returns-clause-no_write_fault g c = λ is. never_failed None None (c.top.ensures.write_fault is).0.cut.written.0
