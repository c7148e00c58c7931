use Rattle.std.proofs.Common.{List, ℕ, length, ap, ◌∙◌}
use Rattle.sink_code.specs.Written.{numbers_below}
use Rattle.sink_code.proofs.Linked.{entered_length, numbers_length}
use Rattle.sink_code.proofs.writing.written_nodes.Goals as goal

pub push_old-requires-clause-to : goal.push_old-requires-clause-to
push_old-requires-clause-to c =
    let olds = length c.args.nodes.now in
    ap (λ (l : List ℕ). length l) (c.as_slice.ensures.value ∙ c.in_ok-to.ensures)
    ∙ entered_length (numbers_below olds) olds c.args.puts.now
    ∙ numbers_length olds
