use Rattle.std.proofs.Common.{◌≡◌, ◌++◌, flat_map, take}
use Rattle.table_text.specs.Lines.{name_field}
use Rattle.table_text.proofs.graphs.put_received.Given as goal

abbrev pub invariant-loop-number : goal.invariant-loop-number
invariant-loop-number l =
    l.text.items ≡ l.fn.text.items ++ flat_map (name_field l.vars) (take l.number-index l.received)
