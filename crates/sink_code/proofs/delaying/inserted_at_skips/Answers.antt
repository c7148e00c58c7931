use Rattle.sink_code.specs.DelayLaws.{passed_at_skip}
use Rattle.sink_code.proofs.delaying.inserted_at_skips.Goals as goal

pub returns : goal.returns
returns c = λ graph is_graph split n x t put free. passed_at_skip graph is_graph split n x t put free
