use Rattle.std.proofs.Common.{sym, subst}
use Rattle.flow_graph.specs.Graphs.{IsGraph}
use Rattle.wanted_bits.specs.Asking.{asked_by}
use Rattle.wanted_bits.specs.KeptRows.{RowsBelow}
use Rattle.wanted_bits.specs.NarrowedLaws.{same_option, wanted_on}
use Rattle.wanted_bits.proofs.kept.ask_kept.Goals as goal

pub returns-clause-below : goal.returns-clause-below
returns-clause-below c shifts tell wanted are below =
    let graph = c.args.graph.now in
    let asked = asked_by graph.shared c.args.around.now in
    let prepared = c.args.prepared.now in
    let backs = c.requires.prepared.backs in
    let is : IsGraph graph.vars graph.received graph.nodes = rw (← c.nodes-nodes.ensures.value) c.nodes-nodes.ensures.graph in
    let on = wanted_on asked graph is.can shifts backs.shifts wanted (λ n t lt. same_option (shifts n t) (backs.shifts n t) (λ s e. (backs.shifts_are n t s lt).1 ((tell n t s lt).0 e)) (λ s e. (tell n t s lt).1 ((backs.shifts_are n t s lt).0 e))) are in
    let rows = c.pass_all.ensures.passed.below backs.shifts backs.have wanted on below.rows in
    record {
      rows = rows;
      asks = c.in_ok-ask_rows.ensures.asks backs.shifts backs.have wanted on (subst (RowsBelow graph prepared.crossed.blocks.lists wanted) (sym c.as_slice-rows.ensures.value) rows) below.asks;
    }
