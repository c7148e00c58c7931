use Rattle.std.proofs.Common.{◌≡◌, ◌∙◌, ◌<◌, ◌≤◌, length, sym, ap, subst, arith}
use Rattle.std.proofs.lemmas.List.{length-replicate}
use Rattle.div_move.specs.SlotFlow.{AreDownRowsTo, down_row}
use Rattle.div_move.proofs.DownRows.{down_more, down_none, read_value}
use Rattle.div_move.proofs.Pairs.{first_long}
use Rattle.div_move.proofs.solving.down_rows.Goals as goal

pub loop-node-init : goal.loop-node-init
loop-node-init g c = record {
  rows = down_none c.args.flow.now c.args.work.now c.in_ok-rows.rows c.in_ok-rows.ensures;
  first = ap length c.in_ok-room.ensures.first ∙ length-replicate c.args.flow.now.bits _;
  second = ap length c.in_ok-room.ensures.second ∙ length-replicate c.args.flow.now.bits _;
}

pub bring-requires-clause-first : goal.bring-requires-clause-first
bring-requires-clause-first g c = first_long c.known.result.now.first c.known.result.now.second c.value.result.now c.args.flow.now.bits c.known.ensures.long c.known.ensures.value (read_value c.args.flow.now c.args.work.now c.requires.solved c.loop-node.node (omega (arith, c.loop-node-test.true, c.len-nodes.ensures)) c.value.result.now c.value.ensures).1

pub bring-requires-clause-second : goal.bring-requires-clause-second
bring-requires-clause-second g c = c.known.ensures.long ∙ first_long c.known.result.now.first c.known.result.now.second c.value.result.now c.args.flow.now.bits c.known.ensures.long c.known.ensures.value (read_value c.args.flow.now c.args.work.now c.requires.solved c.loop-node.node (omega (arith, c.loop-node-test.true, c.len-nodes.ensures)) c.value.result.now c.value.ensures).1

pub bring-requires-clause-room : goal.bring-requires-clause-room
bring-requires-clause-room g c = c.loop-node.invariant.first

pub bring-requires-clause-other_room : goal.bring-requires-clause-other_room
bring-requires-clause-other_room g c = c.loop-node.invariant.second

pub push-requires : goal.push-requires
push-requires g c = record { each = λ n lt. c.loop-node.invariant.rows.shape.each n (subst (λ k. n < k) c.loop-node.invariant.rows.shape.len lt) ∙ sym (ap length c.view.ensures ∙ c.bring.ensures.long) }

pub loop-node-preserved : goal.loop-node-preserved
loop-node-preserved g c =
    let f = c.args.flow.now in
    let k = c.loop-node.node in
    record {
      rows = down_more f c.args.work.now k c.loop-node.rows c.view.result c.push.new.self c.loop-node.invariant.rows (ap length c.view.ensures ∙ c.bring.ensures.long)
          (c.view.ensures ∙ c.bring.ensures.down ∙ ap (down_row f k) (c.known.ensures.value ∙ (read_value c.args.flow.now c.args.work.now c.requires.solved c.loop-node.node (omega (arith, c.loop-node-test.true, c.len-nodes.ensures)) c.value.result.now c.value.ensures).0)) c.in_ok-push.ensures.ok;
      first = c.bring.ensures.long;
      second = c.bring.ensures.other_long;
    }

pub returns : goal.returns
returns g c =
    let late : c.len-nodes.result ≤ c.loop-node.node = c.loop-node-test.false in
    let most : c.loop-node.node ≤ c.len-nodes.result = c.loop-node.auto.node-end in
    let all : c.loop-node.node ≡ length c.args.flow.now.graph.now.nodes = omega (arith, late, most, c.len-nodes.ensures) in
    subst (λ k. AreDownRowsTo c.args.flow.now c.args.work.now k c.loop-node.rows) all c.loop-node.invariant.rows
