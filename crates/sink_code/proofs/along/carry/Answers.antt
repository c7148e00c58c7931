use Rattle.std.proofs.Common.{◌≡◌, ◌-◌, ◌+◌, ◌<◌, ◌∙◌, ℕ, suc, List, Some, ap, get_or, length, slice_get, subst, sym, arith}
use Rattle.std.proofs.lemmas.Option.{same_Some, slice_get-get_or}
use Rattle.flow_graph.specs.declared.nodes.Node.{Node}
use Rattle.flow_graph.specs.BlockLaws.{begin_of, chain_inner, chain_some, chain_within, edge_within}
use Rattle.flow_graph.specs.Blocks.{IsChain, IsGlued}
use Rattle.flow_graph.specs.Graphs.{IsGraph}
use Rattle.flow_graph.specs.Paths.{Begins}
use Rattle.sink_code.proofs.Carrying.{AreAlong, along_all, along_first, along_more}
use Rattle.sink_code.proofs.along.carry.Goals as goal
use Rattle.sink_code.proofs.along.carry.Goals.{After-nodes-list, After-nodes-nodes}

is_graph : (c : After-nodes-nodes) → IsGraph c.args.over.now.graph.now.vars c.args.over.now.graph.now.received c.args.over.now.graph.now.nodes
is_graph c = subst (λ (l : List Node). IsGraph c.args.over.now.graph.now.vars c.args.over.now.graph.now.received l) c.nodes-nodes.ensures.value c.nodes-nodes.ensures.graph

chain : (c : After-nodes-list) → IsChain c.args.over.now.graph.now.nodes c.nodes-list.result.now
chain c = (c.requires.over.blocks.are.blocks c.args.block c.nodes-list.result.now c.nodes-list.ensures).chain

-- the node at an index of the block
at : (c : After-nodes-list) (i : ℕ) → i < length c.nodes-list.result.now → slice_get c.nodes-list.result.now i ≡ Some (get_or c.nodes-list.result.now i 0)
at c i lt = slice_get-get_or c.nodes-list.result.now i 0 lt

-- is one of the graph
within : (c : After-nodes-list) (i : ℕ) → i < length c.nodes-list.result.now → get_or c.nodes-list.result.now i 0 < length c.args.over.now.graph.now.nodes
within c i lt =
    let nodes = c.args.over.now.graph.now.nodes in
    chain_within nodes c.nodes-list.result.now i (get_or c.nodes-list.result.now i 0) (λ m k edge. edge_within nodes m k edge) (chain c) (at c i lt)

some : (c : After-nodes-list) → 0 < length c.nodes-list.result.now
some c = chain_some c.args.over.now.graph.now.nodes c.nodes-list.result.now (chain c)

-- the block begins with its first
begins : (c : After-nodes-list) → Begins (get_or c.nodes-list.result.now 0 0) c.nodes-list.result.now
begins c =
    let first = begin_of c.args.over.now.graph.now.nodes c.nodes-list.result.now (chain c) in
    let same : first.0 ≡ get_or c.nodes-list.result.now 0 0 = same_Some first.0 (get_or c.nodes-list.result.now 0 0) (sym first.2 ∙ at c 0 (some c)) in
    subst (λ h. Begins h c.nodes-list.result.now) same first.1

pub bounds-list-0 : goal.bounds-list-0
bounds-list-0 c = some (goal.at.bounds-list-0 c).After-nodes-list

pub or_into-requires-clause-row : goal.or_into-requires-clause-row
or_into-requires-clause-row c = let known = (goal.at.or_into-requires-clause-row c).After-nodes-list in rw c.requires.rows.shape.len (within known 0 (some known))

pub or_into-requires-clause-equally_long : goal.or_into-requires-clause-equally_long
or_into-requires-clause-equally_long c =
    let known = (goal.at.or_into-requires-clause-equally_long c).After-nodes-list in
    c.requires.rows.shape.each (get_or c.nodes-list.result.now 0 0) (within known 0 (some known)) ∙ sym (c.requires.into.shape.each c.args.block c.requires.block)

pub loop-place-init : goal.loop-place-init
loop-place-init c =
    let known = (goal.at.loop-place-init c).After-nodes-list in
    along_first c.args.over.now (is_graph (goal.at.loop-place-init c).After-nodes-nodes) c.requires.over.blocks.are c.args.block c.nodes-list.result.now c.nodes-list.ensures (get_or c.nodes-list.result.now 0 0) c.args.into.now c.args.rows.now c.or_into.new.self
    (at known 0 (some known)) (begins known) (within known 0 (some known)) c.requires.into c.requires.block c.requires.rows c.or_into.ensures

pub hand_on-requires-clause-before : goal.hand_on-requires-clause-before
hand_on-requires-clause-before c = within (goal.at.hand_on-requires-clause-before c).After-nodes-list (c.loop-place.place - 1) (omega (arith, c.loop-place-test.true))

pub hand_on-requires-clause-node : goal.hand_on-requires-clause-node
hand_on-requires-clause-node c = within (goal.at.hand_on-requires-clause-node c).After-nodes-list c.loop-place.place c.loop-place-test.true

pub hand_on-requires-clause-rows : goal.hand_on-requires-clause-rows
hand_on-requires-clause-rows c = c.loop-place.invariant.shape

pub loop-place-preserved : goal.loop-place-preserved
loop-place-preserved c =
    let known = (goal.at.loop-place-preserved c).After-nodes-list in
    let nodes = c.args.over.now.graph.now.nodes in
    let list = c.nodes-list.result.now in
    let place = c.loop-place.place in
    let before = place - 1 in
    let next : suc (c.loop-place.place - 1) ≡ c.loop-place.place = omega (arith, c.loop-place.auto.place) in
    let m = get_or list before 0 in
    let n = get_or list place 0 in
    let n_at : slice_get c.nodes-list.result.now (suc (c.loop-place.place - 1)) ≡ Some (get_or c.nodes-list.result.now c.loop-place.place 0) = ap (slice_get list) next ∙ at known place c.loop-place-test.true in
    let m_at = at known before (omega (arith, c.loop-place-test.true)) in
    let inner = chain_inner nodes list before n (chain known) n_at in
    let same : inner.0 ≡ get_or c.nodes-list.result.now (c.loop-place.place - 1) 0 = same_Some inner.0 (get_or c.nodes-list.result.now (c.loop-place.place - 1) 0) (sym inner.1 ∙ m_at) in
    let glued : IsGlued c.args.over.now.graph.now.nodes (get_or c.nodes-list.result.now (c.loop-place.place - 1) 0) (get_or c.nodes-list.result.now c.loop-place.place 0) = subst (λ j. IsGlued nodes j n) same inner.2 in
    let so_far : AreAlong c.args.over.now c.args.block c.nodes-list.result.now (suc (c.loop-place.place - 1)) c.loop-place.rows = subst (λ i. AreAlong c.args.over.now c.args.block c.nodes-list.result.now i c.loop-place.rows) (sym next) c.loop-place.invariant in
    let done = along_more c.args.over.now (is_graph (goal.at.loop-place-preserved c).After-nodes-nodes) c.requires.over.blocks.are c.args.block list c.nodes-list.ensures before m n c.loop-place.rows c.hand_on.new.rows m_at n_at glued (within known place c.loop-place-test.true) so_far c.hand_on.ensures in
    let last : suc (suc (c.loop-place.place - 1)) ≡ c.loop-place.place + 1 = omega (arith, next) in
    subst (λ i. AreAlong c.args.over.now c.args.block c.nodes-list.result.now i c.hand_on.new.rows) last done

pub returns : goal.returns
returns c = along_all c.args.over.now (is_graph (goal.at.returns c).After-nodes-nodes) c.requires.over.blocks.are c.args.block c.nodes-list.result.now c.nodes-list.ensures c.loop-place.place c.loop-place.rows c.loop-place-test.false c.loop-place.invariant
