use Rattle.std.proofs.Common.{◌≡◌, ◌∙◌, ◌<◌, ◌||◌, List, Bool, ap, sym, length, get_or, take, false, arith}
use Rattle.bit_rows.specs.Bits.{row_of}
use Rattle.motion_rewrite.specs.Temporaries.{has_insertion}
use Rattle.motion_rewrite.proofs.Counted.{has_insertion_more}
use Rattle.motion_rewrite.proofs.temporaries.inserted_somewhere.Goals as goal
use Rattle.bit_rows.specs.BitLaws.{or_bit}

pub loop-node-preserved : goal.loop-node-preserved
loop-node-preserved c =
    let n_in : c.loop-node.node < length c.args.insert.now = omega (arith, c.loop-node-test.true, c.len-node-end.ensures) in
    let row_long : length (row_of c.args.insert.now c.loop-node.node) ≡ c.args.exprs = c.requires.each c.loop-node.node n_in in
    let same : length c.loop-node.inserted ≡ length c.row.result = c.loop-node.invariant.long ∙ sym row_long ∙ ap length (sym c.row.ensures) in
    record {
      long = c.or_from-changed.ensures.len ∙ c.loop-node.invariant.long;
      bits = λ i. ap (λ (r : List Bool). get_or r i false) c.or_from-changed.ensures.or ∙ or_bit c.loop-node.inserted c.row.result i same
          ∙ ap (λ b. b || get_or c.row.result i false) (c.loop-node.invariant.bits i)
          ∙ ap (λ (r : List Bool). has_insertion (take c.loop-node.node c.args.insert.now) i || get_or r i false) c.row.ensures
          ∙ sym (has_insertion_more c.args.insert.now c.loop-node.node i n_in);
    }
