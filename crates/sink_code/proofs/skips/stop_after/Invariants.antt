use Rattle.std.proofs.Common.{◌<◌, length}
use Rattle.sink_code.specs.Skips.{LeadsBy}
use Rattle.sink_code.proofs.skips.stop_after.Given as goal

abbrev pub invariant-loop : goal.invariant-loop
invariant-loop l = record {
  led : LeadsBy l.nodes l.counter l.first l.at;
  at_in : l.at < length l.nodes;
}
