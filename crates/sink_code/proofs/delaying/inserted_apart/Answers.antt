use Rattle.sink_code.specs.DelayLaws.{delayed_apart, one_delayed}
use Rattle.sink_code.proofs.delaying.inserted_apart.Goals as goal

pub returns : goal.returns
returns c = λ graph is_graph n lt. record {
  one = λ x t u put put'. one_delayed graph is_graph n x t u lt put.0 put'.0;
  apart = λ x y t u put put' differ. delayed_apart graph is_graph n x y t u lt put.0 put'.0 differ;
}
