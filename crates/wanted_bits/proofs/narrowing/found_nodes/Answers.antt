use Rattle.std.proofs.Common.{subst}
use Rattle.wanted_bits.specs.Asking.{asked_by}
use Rattle.wanted_bits.specs.Found.{AreBehind, AreListed}
use Rattle.wanted_bits.proofs.Noting.{nodes_become}
use Rattle.wanted_bits.proofs.narrowing.found_nodes.Goals as goal

pub returns : goal.returns
returns c =
    let graph = c.args.graph.now in
    let asked = asked_by graph.shared c.args.around.now in
    let listed_backs = c.in_ok-prepared.prepared.backs.items in
    let backs = c.in_ok-prepared.ensures.backs in
    let found : AreBehind graph asked listed_backs c.in_ok-behind.behind.items = c.in_ok-behind.ensures in
    let listed : AreListed graph asked listed_backs c.in_ok-behind.behind.items c.in_ok-nodes.nodes.items =
    subst (λ l. AreListed graph asked listed_backs l c.in_ok-nodes.nodes.items) c.as_slice.ensures.value
    (subst (λ l. AreListed graph asked l c.as_slice.result.now c.in_ok-nodes.nodes.items) c.as_slice-backs.ensures.value c.in_ok-nodes.ensures) in
    let numbers = found.are backs.shifts backs.have in
    record {
      shifts = backs.shifts;
      wanted = numbers.0;
      shifts_are = backs.shifts_are;
      shifts_hold = backs.shifts_hold;
      least = numbers.1;
      nodes_are = nodes_become graph asked backs.shifts listed_backs backs.have numbers.0 c.in_ok-behind.behind.items numbers.2 c.in_ok-nodes.nodes.items listed;
    }
