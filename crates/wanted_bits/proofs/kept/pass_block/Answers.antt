use Rattle.std.proofs.Common.{◌≡◌, ◌∙◌, ◌<◌, [], length, sym, ap, subst, arith}
use Rattle.std.proofs.lemmas.List.{get_or_default}
use Rattle.node_list.specs.Lists.{list_at}
use Rattle.flow_graph.specs.FlowEdges.{edge_at}
use Rattle.flow_graph.specs.Graphs.{IsGraph}
use Rattle.wanted_bits.specs.Asking.{asked_by}
use Rattle.wanted_bits.specs.BitsOrder.{HasFew}
use Rattle.wanted_bits.specs.KeptRows.{behind_rows}
use Rattle.wanted_bits.specs.Walking.{back_in, before_list}
use Rattle.wanted_bits.specs.WalkLaws.{FewerEach, asks_few}
use Rattle.wanted_bits.proofs.KeptBelow.{out_edges, passed_same, step_below}
use Rattle.wanted_bits.proofs.kept.pass_block.Goals as goal

pub spread-requires-clause-edges : goal.spread-requires-clause-edges
spread-requires-clause-edges c = out_edges c.args.graph.now c.args.prepared.now c.args.block (length c.args.rows.now.items) c.requires.prepared.crossed.between c.requires.there c.requires.rows.long

pub returns-clause-passed : goal.returns-clause-passed
returns-clause-passed c =
    let graph = c.args.graph.now in
    let asked = asked_by graph.shared c.args.around.now in
    let prepared = c.args.prepared.now in
    let back = back_in prepared.backs.items in
    let lists = prepared.crossed.blocks.lists in
    let rows = c.args.rows.now.items in
    let block = c.args.block in
    let is : IsGraph graph.vars graph.received graph.nodes = rw (← c.nodes-nodes.ensures.value) c.nodes-nodes.ensures.graph in
    let lt : block < length rows = omega (arith, c.requires.there, c.requires.rows.long) in
    let row_is : c.index.result.now ≡ list_at rows block = c.index.ensures ∙ get_or_default rows block _ [] lt in
    let room_is : c.as_slice.result.now ≡ before_list graph asked back (list_at lists block) (list_at rows block) =
    c.as_slice.ensures.value ∙ c.walk_row.ensures.before ∙ ap (before_list graph asked back (list_at lists block)) row_is in
    let few : HasFew (before_list graph asked back (list_at lists block) (list_at rows block)) =
    subst HasFew (c.walk_row.ensures.before ∙ ap (before_list graph asked back (list_at lists block)) row_is) c.walk_row.ensures.few in
    record {
      rows = record {
        long = c.spread.ensures.long ∙ c.requires.rows.long;
        each = λ b b_in. c.spread.ensures.each b b_in ∙ ap length c.as_slice.ensures.value ∙ c.walk_row.ensures.room;
      };
      below = λ shifts have wanted are under. c.spread.ensures.under (behind_rows graph lists wanted)
          (λ e e_in from. subst (λ l. FewerEach l (behind_rows graph lists wanted (edge_at prepared.crossed.between.edges.items e).target)) (sym room_is)
          (step_below graph asked (asks_few graph.shared c.args.around.now) shifts back have is.can lists c.requires.prepared.crossed.blocks.are prepared.crossed.between.edges.items prepared.crossed.between.firsts.items c.requires.prepared.crossed.between
          wanted are rows c.requires.rows under block e lt few e_in from)) under;
    }

pub returns-then-not-take : goal.returns-then-not-take
returns-then-not-take c = record { passed = passed_same (asked_by c.args.graph.now.shared c.args.around.now) c.args.graph.now c.args.prepared.now c.args.rows.now.items c.requires.rows; room = c.requires.room }
