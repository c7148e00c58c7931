use Rattle.std.proofs.Common.{subst, arith}
use Rattle.flow_graph.specs.Graphs.{CanMake}
use Rattle.wanted_bits.specs.Asking.{asked_by}
use Rattle.wanted_bits.specs.Before.{AreBefore}
use Rattle.wanted_bits.specs.ChainLaws.{wanted_carried}
use Rattle.wanted_bits.proofs.before.wanted_before_in.Goals as goal

pub returns-clause-wanted : goal.returns-clause-wanted
returns-clause-wanted c =
    let graph = c.args.graph.now in
    let asked = asked_by graph.shared c.args.around.now in
    let backs = c.in_ok-prepared.ensures.backs in
    let by : AreBefore asked graph c.in_ok-prepared.prepared.backs.items c.in_ok-rows.rows.items = c.in_ok-rows.ensures in
    let numbers = by backs.shifts backs.have in
    record { shifts = backs.shifts; tell = backs.shifts_are; wanted = numbers.0; least = numbers.1; are = numbers.2 }

pub returns-clause-carried : goal.returns-clause-carried
returns-clause-carried c =
    let graph = c.args.graph.now in
    let asked = asked_by graph.shared c.args.around.now in
    let backs = c.in_ok-prepared.ensures.backs in
    let by : AreBefore asked graph c.in_ok-prepared.prepared.backs.items c.in_ok-rows.rows.items = c.in_ok-rows.ensures in
    let numbers = by backs.shifts backs.have in
    let can = subst (λ l. CanMake graph.vars graph.received l) c.nodes-nodes.ensures.value c.nodes-nodes.ensures.graph.can in
    record {
      shifts = backs.shifts;
      tell = backs.shifts_are;
      carried = λ n x k n_in x_in.
          let law = wanted_carried asked graph backs.shifts can numbers.0 numbers.1 n x k n_in x_in in
          let same = numbers.2.numbers n x n_in x_in in (
            λ le. law.0 (omega (arith, le, same)),
            λ chain. omega (arith, law.1 chain, same),
          );
    }
