use Rattle.std.proofs.Common.{◌≡◌, ◌-◌, ◌++◌, [], ◌∷◌, length, sym, ap, arith, ◌∙◌, true, false}
use Rattle.flow_graph.proofs.Blocking.{kept_more, kept_on, length_cut}
use Rattle.flow_graph.proofs.blocks.add.Goals as goal

pub returns-then-not-begins-clause-after : goal.returns-then-not-begins-clause-after
returns-then-not-begins-clause-after c =
    let inner : c.begins.result ≡ false = c.if-not-begins.true in
    kept_on c.args.graph.now.nodes c.args.head c.args.order.now.items c.args.starts.now.items c.args.block_of.now c.requires.before (sym c.begins.ensures ∙ inner)

pub follow-requires-clause-block : goal.follow-requires-clause-block
follow-requires-clause-block c =
    let long = length_cut (length c.args.order.now.items) c.args.order.now.items c.args.starts.now.items c.requires.before.starts_are in
    omega (arith, long, c.len-block.ensures, c.requires.before.made.few, c.requires.there)

pub returns-clause-after : goal.returns-clause-after
returns-clause-after c =
    let first : c.begins.result ≡ true = c.if-not-begins.false in
    let long = length_cut (length c.args.order.now.items) c.args.order.now.items c.args.starts.now.items c.requires.before.starts_are in
    let f = c.follow.ensures.block in
    let read : c.len.result ≡ c.follow.new.order.len = c.len.ensures in
    let kept = c.follow.new.order.ok.0 in
    let all : c.len.result ≡ length c.follow.new.order.items = omega arith in
    kept_more c.args.graph.now.nodes c.args.head f.0 (c.len-block.result - 1) c.args.order.now.items c.follow.new.order.items c.args.starts.now.items c.push_reserved.new.self.items c.args.block_of.now c.follow.new.block_of c.requires.before
    (omega (arith, long, c.len-block.ensures)) c.requires.there (sym c.begins.ensures ∙ first) f.1 f.2 (c.push_reserved.ensures.items ∙ ap (λ n. c.args.starts.now.items ++ n ∷ []) all)

pub push_reserved-requires : goal.push_reserved-requires
push_reserved-requires c =
    let long = length_cut (length c.args.order.now.items) c.args.order.now.items c.args.starts.now.items c.requires.before.starts_are in
    let kept = c.args.starts.now.ok.0 in
    omega (arith, long, kept, c.requires.before.made.few, c.requires.there, c.requires.starts)
