use Rattle.std.proofs.Common.{◌≡◌, ◌<◌, ◌≤◌, ◌+◌, ◌-◌, suc, length, slice_get, Some, inl, inr, ap, sym, arith, ◌∙◌}
use Rattle.std.proofs.lemmas.Bool.{cases_eq}
use Rattle.std.proofs.lemmas.Option.{slice_get_within}
use Rattle.path_laws.specs.Paths.{has_bit}
use Rattle.path_laws.specs.Problem.{is_barred, is_seed, orders}
use Rattle.path_laws.proofs.Coming.{handed_complete, handed_sound}
use Rattle.path_laws.proofs.Growing.{growing_more, joined_on, joined_stays}
use Rattle.path_laws.specs.Places.{long_is, node_in}
use Rattle.path_laws.proofs.filling.fill.Goals as goal
use Rattle.path_laws.proofs.filling.fill.Goals.{After-node_at-node}

before : (c : After-node_at-node) → (slice_get (orders c.args.problem.now c.args.block) (c.loop-place.place - 1) ≡ Some c.node_at-before.result) × (c.node_at-before.result < length c.args.problem.now.graph.now.nodes)
before c = node_in c.args.problem.now c.args.block (c.loop-place.place - 1) c.node_at-before.result c.nodes-nodes.result.now c.requires.problem c.nodes-nodes.ensures c.node_at-before.ensures

item : (c : After-node_at-node) → (slice_get (orders c.args.problem.now c.args.block) c.loop-place.place ≡ Some c.node_at-node.result) × (c.node_at-node.result < length c.args.problem.now.graph.now.nodes)
item c = node_in c.args.problem.now c.args.block c.loop-place.place c.node_at-node.result c.nodes-nodes.result.now c.requires.problem c.nodes-nodes.ensures c.node_at-node.ensures

pub hand_on-requires-clause-before : goal.hand_on-requires-clause-before
hand_on-requires-clause-before c = (before (goal.at.hand_on-requires-clause-before c).After-node_at-node).1

pub hand_on-requires-clause-node : goal.hand_on-requires-clause-node
hand_on-requires-clause-node c = (item (goal.at.hand_on-requires-clause-node c).After-node_at-node).1

pub loop-place-preserved : goal.loop-place-preserved
loop-place-preserved c =
    let known = (goal.at.loop-place-preserved c).After-node_at-node in
    let was = before known in
    let at = item known in
    let p = c.args.problem.now in
    let nodes = p.graph.now.nodes in
    let lists = p.blocks.now.lists in
    let n = c.node_at-node.result in
    let m = c.node_at-before.result in
    let inv = c.loop-place.invariant in
    let made = c.hand_on.ensures in
    let place = c.loop-place.place in
    let late : 1 ≤ c.loop-place.place = inv.late in
    let next : c.loop-place.place ≡ suc (c.loop-place.place - 1) = omega arith in
    let at_next : slice_get (orders c.args.problem.now c.args.block) (suc (c.loop-place.place - 1)) ≡ Some c.node_at-node.result = ap (slice_get (orders c.args.problem.now c.args.block)) (sym next) ∙ at.0 in
    record {
      late = omega arith;
      rows = growing_more p.against nodes p.bits (is_seed p) (is_barred p) c.loop-place.rows c.hand_on.new.rows n _ inv.rows made
          (λ b l on. handed_sound p.against nodes lists c.requires.problem.blocks_are.are p.bits (is_seed p) (is_barred p) b c.args.block (place - 1) n m c.requires.block at_next was.0
          (has_bit c.loop-place.rows b m) (inv.rows.sound m b was.1 l) on);
      firsts = λ k j h first b l has. joined_stays p.bits c.loop-place.rows c.hand_on.new.rows n _ made b l j (inv.firsts k j h first b l has);
      blocks = λ k i j h there b l has. joined_stays p.bits c.loop-place.rows c.hand_on.new.rows n _ made b l j (inv.blocks k i j h there b l has);
      here = λ i j early there b l has. elim (cases_eq i c.loop-place.place) [
        | inl last ↦
            let both : Some j ≡ Some n = sym there ∙ ap (slice_get (orders p c.args.block)) last ∙ at.0 in
            let same : j ≡ n = cc in
            rw same (handed_complete p.against nodes lists c.requires.problem.blocks_are.are p.bits (is_seed p) (is_barred p) b c.args.block (place - 1) n m c.requires.block at_next was.0
            (has_bit c.loop-place.rows b m) (has_bit c.hand_on.new.rows b n) (inv.here (place - 1) m (omega arith) was.0 b l)
            (λ seeded. joined_stays p.bits c.loop-place.rows c.hand_on.new.rows n _ made b l n (inv.rows.initial n b at.1 l seeded)) (joined_on p.bits c.loop-place.rows c.hand_on.new.rows n _ made b l) (rw same at has))
        | inr d ↦ joined_stays p.bits c.loop-place.rows c.hand_on.new.rows n _ made b l j (inv.here i j (let early' : i < c.loop-place.place + 1 = early in omega (arith, d)) there b l has)
      ];
    }

pub returns-clause-blocks : goal.returns-clause-blocks
returns-clause-blocks c = λ k i n low there b l has.
    let p = c.args.problem.now in
    let inv = c.loop-place.invariant in
    let end : length c.nodes-nodes.result.now ≤ c.loop-place.place = c.loop-place-test.false in
    elim (cases_eq k c.args.block) [
      | inl same ↦
          let there' = rw same at there in
          let long : length (orders c.args.problem.now c.args.block) ≡ length c.nodes-nodes.result.now = long_is p.against p.blocks.now.lists c.args.block c.nodes-nodes.result.now c.nodes-nodes.ensures in
          inv.here i n (omega (arith, slice_get_within (orders c.args.problem.now c.args.block) i n there')) there' b l has
      | inr d ↦ inv.blocks k i n (let low' : k < c.args.block + 1 = low in omega (arith, d)) there b l has
    ]
