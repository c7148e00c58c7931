use Rattle.std.proofs.Common.{◌≡◌, ◌≤◌, Bool, List, [], length, set, sym, ap, ◌∙◌}
use Rattle.std.proofs.lemmas.List.{get_or_default, take_all}
use Rattle.std.proofs.lemmas.Option.{slice_get-get_or}
use Rattle.bit_rows.specs.Bits.{or_bits, row_of}
use Rattle.flow_graph.specs.FlowEdges.{edge_at}
use Rattle.path_laws.proofs.Arriving.{brought_more, brought_none}
use Rattle.path_laws.proofs.Growing.{joined_or}
use Rattle.path_laws.proofs.heads.joined_over.Goals as goal
use Rattle.path_laws.proofs.heads.joined_over.Goals.{After-row}

pub loop-edge-init : goal.loop-edge-init
loop-edge-init c = brought_none c.args.count c.args.bits c.args.out.now c.in_ok-rows.rows c.in_ok-rows.ensures

pub value-requires : goal.value-requires
value-requires c =
    let edges = c.args.edges.now in
    let index = c.loop-edge.edge-index in
    rw c.requires.out.len (c.requires.edges index (edge_at edges index) (slice_get-get_or edges index _ c.loop-edge-test.true)).0

pub or_from-requires-clause-row : goal.or_from-requires-clause-row
or_from-requires-clause-row c =
    let edges = c.args.edges.now in
    let index = c.loop-edge.edge-index in
    rw c.loop-edge.invariant.shape.len (c.requires.edges index (edge_at edges index) (slice_get-get_or edges index _ c.loop-edge-test.true)).1

-- the row of what comes out of the source of the edge
from_is : (c : After-row) → c.row.result ≡ row_of c.args.out.now (edge_at c.args.edges.now c.loop-edge.edge-index).source
from_is c =
    let edges = c.args.edges.now in
    let index = c.loop-edge.edge-index in
    let out : List (List Bool) = c.args.out.now in
    c.row.ensures ∙ c.value.ensures
    ∙ get_or_default out (edge_at edges index).source c.value.result.now [] (rw c.requires.out.len (c.requires.edges index (edge_at edges index) (slice_get-get_or edges index _ c.loop-edge-test.true)).0)

pub or_from-requires-clause-equally_long : goal.or_from-requires-clause-equally_long
or_from-requires-clause-equally_long c =
    let edges = c.args.edges.now in
    let index = c.loop-edge.edge-index in
    let inside = c.requires.edges index (edge_at edges index) (slice_get-get_or edges index _ c.loop-edge-test.true) in
    c.loop-edge.invariant.shape.each (edge_at edges index).target inside.1 ∙ sym (ap length (from_is (goal.at.or_from-requires-clause-equally_long c).After-row) ∙ c.requires.out.each (edge_at edges index).source inside.0)

pub loop-edge-preserved : goal.loop-edge-preserved
loop-edge-preserved c =
    let edges = c.args.edges.now in
    let index = c.loop-edge.edge-index in
    let inside = c.requires.edges index (edge_at edges index) (slice_get-get_or edges index _ c.loop-edge-test.true) in
    let out : List (List Bool) = c.args.out.now in
    let rows : List (List Bool) = c.loop-edge.rows in
    let inv = c.loop-edge.invariant in
    let target = (edge_at edges index).target in
    let more = row_of out (edge_at edges index).source in
    let alike : length (row_of rows target) ≡ length more = inv.shape.each target inside.1 ∙ sym (c.requires.out.each (edge_at edges index).source inside.0) in
    let is : c.or_from.new.self ≡ set rows target (or_bits (row_of rows target) more) = c.or_from.ensures ∙ ap (λ (r : List Bool). set rows target (or_bits (row_of rows target) r)) (from_is (goal.at.loop-edge-preserved c).After-row) in
    brought_more c.args.count c.args.bits edges out index rows c.or_from.new.self c.loop-edge-test.true inv (joined_or c.args.bits rows c.or_from.new.self target more (rw inv.shape.len inside.1) alike is)

pub returns : goal.returns
returns c =
    let edges = c.args.edges.now in
    let index = c.loop-edge.edge-index in
    let late : length edges ≤ index = c.loop-edge-test.false in
    rw (← take_all index edges late) c.loop-edge.invariant
