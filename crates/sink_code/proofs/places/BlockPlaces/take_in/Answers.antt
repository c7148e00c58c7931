use Rattle.std.proofs.Common.{◌≡◌, ◌++◌, ◌∙◌, length, ap, sym}
use Rattle.std.proofs.lemmas.List.{with_items_is}
use Rattle.flow_graph.specs.Graphs.{node_reads}
use Rattle.sink_code.specs.declared.places.BlockPlace.{BlockPlace}
use Rattle.graph_edit.specs.Accesses.{assigned_vars}
use Rattle.sink_code.specs.BlockPlaces.{noted}
use Rattle.sink_code.proofs.Noted.{noted_append, noted_length, takes_none}
use Rattle.sink_code.proofs.places.BlockPlaces.take_in.Goals as goal

pub returns : goal.returns
returns c =
    let place : BlockPlace = record { block = c.args.block; index = c.args.index } in
    let reads = node_reads c.args.graph.now c.args.node.now in
    let assigned = assigned_vars c.args.graph.now c.args.node.now in
    let access = c.args.self.now.access in
    let assign = c.args.self.now.assign in
    let access_is : c.note_assigned.new.places ≡ noted place (reads ++ assigned) access.items
    = c.note_assigned.ensures
    ∙ ap (noted place assigned) (c.note_read.ensures ∙ ap (noted place reads) c.as_mut_slice-access.ensures.value)
    ∙ sym (noted_append place reads assigned access.items) in
    let assign_is : c.note_assigned-2.new.places ≡ noted place assigned assign.items
    = c.note_assigned-2.ensures ∙ ap (noted place assigned) c.as_mut_slice.ensures.value in
    let access_long : length c.note_assigned.new.places ≡ access.len = ap length access_is ∙ noted_length place (reads ++ assigned) access.items ∙ sym access.ok.0 in
    let assign_long : length c.note_assigned-2.new.places ≡ assign.len = ap length assign_is ∙ noted_length place assigned assign.items ∙ sym assign.ok.0 in
    record {
      access = with_items_is access c.note_assigned.new.places access_long ∙ access_is;
      assign = with_items_is assign c.note_assigned-2.new.places assign_long ∙ assign_is;
    }

pub returns-then-touches_none : goal.returns-then-touches_none
returns-then-touches_none c = takes_none c.args.graph.now c.args.node.now (record { block = c.args.block; index = c.args.index }) c.args.self.now (sym c.touches_none.ensures ∙ c.if-touches_none.true)
