use Rattle.flow_graph.specs.Graphs.{IsGraph}
use Rattle.held_assign.specs.Rows.{held_at}
use Rattle.wanted_bits.specs.ByRows.{shift_at}
use Rattle.wanted_bits.proofs.Found.{are_shifts, shifts_found, shifts_told}
use Rattle.wanted_bits.proofs.backs.backs.Goals as goal

pub returns : goal.returns
returns c =
    let graph = c.args.graph.now in
    let held = c.in_ok-held.held in
    let is : IsGraph graph.vars graph.received graph.nodes = rw (← c.nodes-nodes.ensures.value) c.nodes-nodes.ensures.graph in
    let tells = c.in_ok-held.ensures.tells in
    record {
      long = c.in_ok-backs.ensures.long;
      shifts = shift_at held;
      shifts_are = λ n t shift lt. (shifts_found graph (held_at held) tells n t shift lt, shifts_told graph (held_at held) tells n t shift lt);
      shifts_hold = are_shifts graph (held_at held) tells is;
      have = c.in_ok-backs.ensures.backs;
    }
