use Rattle.std.proofs.Common.{◌≡◌, ◌∙◌, ◌++◌, [], drop, length, sym, ap, subst, take}
use Rattle.std.proofs.lemmas.Option.{get_or_from_slice_get}
use Rattle.node_list.specs.Lists.{list_at}
use Rattle.wanted_bits.specs.Asking.{asked_by}
use Rattle.wanted_bits.specs.BitsOrder.{HasFew}
use Rattle.wanted_bits.specs.Walking.{back_in, before_list}
use Rattle.wanted_bits.specs.WalkLaws.{asks_few, list_few, list_long}
use Rattle.wanted_bits.proofs.Noting.{block_nodes}
use Rattle.wanted_bits.proofs.Raising.{written_back}
use Rattle.wanted_bits.proofs.kept.walk_row.Goals as goal
use Rattle.wanted_bits.proofs.kept.walk_row.Goals.{After-walk_back}

pub walk_back-requires-clause-nodes : goal.walk_back-requires-clause-nodes
walk_back-requires-clause-nodes c = block_nodes c.args.graph.now c.nodes-list.result.now (c.requires.prepared.crossed.blocks.are.blocks _ c.nodes-list.result.now c.nodes-list.ensures)

-- the numbers that were there
bits_are : (c : After-walk_back) → c.as_mut_slice.result.now ≡ c.args.row.now
bits_are c = c.as_mut_slice.ensures.value ∙ c.copy_from_slice.ensures.items ∙ c.bits.ensures.numbers

-- and those that were left
walked : (c : After-walk_back) → c.walk_back.new.bits ≡ before_list c.args.graph.now (asked_by c.args.graph.now.shared c.args.around.now) (back_in c.args.prepared.now.backs.items) (list_at c.args.prepared.now.crossed.blocks.lists c.args.block) c.args.row.now
walked c =
    let graph = c.args.graph.now in
    let asked = asked_by graph.shared c.args.around.now in
    let list : c.nodes-list.result.now ≡ list_at c.args.prepared.now.crossed.blocks.lists c.args.block = sym (get_or_from_slice_get c.args.prepared.now.crossed.blocks.lists c.args.block c.nodes-list.result.now [] c.nodes-list.ensures) in
    c.walk_back.ensures ∙ ap (before_list graph asked (back_in c.as_slice-backs.result.now) c.nodes-list.result.now) (bits_are c)
    ∙ ap (λ l. before_list graph asked (back_in l) c.nodes-list.result.now c.args.row.now) c.as_slice-backs.ensures.value
    ∙ ap (λ l. before_list graph asked (back_in c.args.prepared.now.backs.items) l c.args.row.now) list

-- stand in the room
written : (c : After-walk_back) → take c.copy_from_slice.new.self.len (c.walk_back.new.bits ++ drop (length c.walk_back.new.bits) c.copy_from_slice.new.self.items) ≡ c.walk_back.new.bits
written c =
    let graph = c.args.graph.now in
    let asked = asked_by graph.shared c.args.around.now in
    let back = back_in c.args.prepared.now.backs.items in
    let list = list_at c.args.prepared.now.crossed.blocks.lists c.args.block in
    written_back c.copy_from_slice.new.self.len c.walk_back.new.bits c.copy_from_slice.new.self.items
    (ap length (walked c) ∙ list_long graph asked back list c.args.row.now ∙ ap length (sym (c.copy_from_slice.ensures.items ∙ c.bits.ensures.numbers))) (sym c.copy_from_slice.new.self.ok.0)

pub returns-clause-before : goal.returns-clause-before
returns-clause-before c = let known = (goal.at.returns-clause-before c).After-walk_back in written known ∙ walked known

pub returns-clause-few : goal.returns-clause-few
returns-clause-few c =
    let known = (goal.at.returns-clause-few c).After-walk_back in
    let graph = c.args.graph.now in
    subst HasFew (sym (written known ∙ walked known)) (list_few graph (asked_by graph.shared c.args.around.now) (back_in c.args.prepared.now.backs.items) (list_at c.args.prepared.now.crossed.blocks.lists c.args.block) c.args.row.now (asks_few graph.shared c.args.around.now) (subst HasFew c.bits.ensures.numbers c.bits.ensures.few))

pub returns-clause-room : goal.returns-clause-room
returns-clause-room c =
    let known = (goal.at.returns-clause-room c).After-walk_back in
    let graph = c.args.graph.now in
    ap length (written known ∙ walked known) ∙ list_long graph (asked_by graph.shared c.args.around.now) (back_in c.args.prepared.now.backs.items) (list_at c.args.prepared.now.crossed.blocks.lists c.args.block) c.args.row.now ∙ c.requires.row
