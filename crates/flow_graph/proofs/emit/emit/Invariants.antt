use Rattle.std.proofs.Common.{◌≡◌, ◌+◌, ◌≤◌, ◌++◌, length, map, take, reverse, slice_index_or, vec_len}
use Rattle.std.specs.Vec.{vec_capacity}
use Rattle.mir_base.specs.declared.instructions.Inst.TheVariants.{Receive}
use Rattle.flow_graph.specs.Layouts.{emitted}
use Rattle.flow_graph.proofs.emit.emit.Given as goal

abbrev pub invariant-loop-x : goal.invariant-loop-x
invariant-loop-x l = record {
  few : vec_len l.body ≤ l.x-index;
  room : vec_capacity l.body ≡ length l.received + length l.items;
  are : l.body.items ≡ map Receive (take l.x-index l.received);
}

abbrev pub invariant-loop-item : goal.invariant-loop-item
invariant-loop-item l = record {
  few : vec_len l.body ≤ length l.received + l.item-index;
  room : vec_capacity l.body ≡ length l.received + length l.items;
  are : l.body.items ≡ map Receive l.received ++ emitted l.nodes (λ n. slice_index_or l.places n 0) (reverse (take l.item-index l.items));
}
