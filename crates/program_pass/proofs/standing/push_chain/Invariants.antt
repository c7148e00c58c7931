use Rattle.std.proofs.Common.{◌≡◌, ◌++◌, drop, length}
use Rattle.graph_edit.specs.Insertions.{chain}
use Rattle.program_pass.specs.Puts.{insertions}
use Rattle.program_pass.proofs.standing.push_chain.Given as goal

abbrev pub invariant-loop-i : goal.invariant-loop-i
invariant-loop-i l = l.nodes.items ++ chain l.end (length l.nodes.items) (insertions (drop l.i l.puts)) ≡ l.fn.nodes.items ++ chain l.end (length l.fn.nodes.items) (insertions l.puts)
