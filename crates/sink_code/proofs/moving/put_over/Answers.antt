use Rattle.std.proofs.Common.{◌≡◌, ◌<◌, ◌↔◌, ◌∙◌, ℕ, true, List, Some, ap, length, slice_get, subst, sym}
use Rattle.std.proofs.lemmas.Option.{slice_get_within}
use Rattle.std.proofs.lemmas.Result.{on_ok_weaker}
use Rattle.mir_base.specs.Shapes.{AllDiffer}
use Rattle.flow_graph.specs.declared.nodes.Node.{Node}
use Rattle.flow_graph.specs.Graphs.{IsGraph}
use Rattle.path_laws.specs.Paths.{has_bit}
use Rattle.sink_code.specs.declared.inside.Leaving.{Leaving}
use Rattle.sink_code.specs.declared.patterns.Pattern.{Pattern}
use Rattle.sink_code.specs.BlockRows.{AreBlockRows, leaves_own}
use Rattle.sink_code.proofs.AllPuts.{all_puts_found}
use Rattle.sink_code.proofs.Listed.{listed_rows}
use Rattle.sink_code.proofs.moving.put_over.Goals as goal
use Rattle.sink_code.proofs.moving.put_over.Goals.{After-nodes-nodes, In_ok-leaves}

is_graph : (c : After-nodes-nodes) → IsGraph c.args.over.now.graph.now.vars c.args.over.now.graph.now.received c.args.over.now.graph.now.nodes
is_graph c = subst (λ (l : List Node). IsGraph c.args.over.now.graph.now.vars c.args.over.now.graph.now.received l) c.nodes-nodes.ensures.value c.nodes-nodes.ensures.graph

pub leaving_rows-requires-clause-within : goal.leaving_rows-requires-clause-within
leaving_rows-requires-clause-within c = λ i left e.
    let inside = c.requires.inside in
    let found = inside.0 in
    let leaves = inside.1.sunk.leaving i left (ap (λ l. slice_get l i) inside.4 ∙ e) in
    let number = slice_get_within found.table left.number leaves.p leaves.numbered in (
      slice_get_within c.args.over.now.blocks.now.lists left.block leaves.list leaves.is_block,
      subst (λ (l : List Pattern). left.number < length l) inside.3 number,
    )

-- the rows say which patterns leave a block in which they occur
leaves_are : (c : In_ok-leaves) → IsGraph c.args.over.now.graph.now.vars c.args.over.now.graph.now.received c.args.over.now.graph.now.nodes → AreBlockRows c.args.over.now.blocks.now.lists c.args.over.now.table.now (leaves_own c.args.over.now.graph.now) c.in_ok-leaves.leaves
leaves_are c is_graph =
    let inside = c.requires.inside in
    let found = inside.0 in
    let rows = c.in_ok-leaves.leaves in
    let listed = c.in_ok-leaves.ensures.rows in
    record {
      shape = listed.shape;
      are = λ b k list p lt is_block numbered.
          listed_rows c.args.over.now.graph.now is_graph c.args.over.now.blocks.now.lists c.requires.over.blocks.are found inside.1 (subst AllDiffer (sym inside.3) c.in_ok-leaves.ensures.differ) rows
          (subst (λ (l : List Leaving). (b k : ℕ) → (has_bit c.in_ok-leaves.leaves k b ≡ true) ↔ ((i : ℕ) × (slice_get l i ≡ Some (record { block = b; number = k })))) (sym inside.4) listed.are)
          b k list p is_block (ap (λ (l : List Pattern). slice_get l k) inside.3 ∙ numbered);
    }

pub coming_rows-requires-clause-leaves : goal.coming_rows-requires-clause-leaves
coming_rows-requires-clause-leaves c =
    let known = goal.at.coming_rows-requires-clause-leaves c in
    leaves_are known.In_ok-leaves (is_graph known.After-nodes-nodes)

pub returns : goal.returns
returns c =
    let known = goal.at.returns c in
    let over = c.args.over.now in
    let inside = c.requires.inside in
    on_ok_weaker c.at_ends.result
    (λ ends. all_puts_found over.graph.now (is_graph known.After-nodes-nodes) c.requires.split over.blocks.now.lists c.requires.over.blocks.are inside.0 inside.1 over.table.now inside.3 c.args.puts.now.items inside.2
    c.in_ok-coming.coming.into c.in_ok-leaves.leaves c.from_heads.new.leaves c.from_heads.new.puts.items c.at_ends.new.puts.items c.in_ok-coming.ensures.into (leaves_are known.In_ok-leaves (is_graph known.After-nodes-nodes)) c.in_ok-from_heads.ensures ends)
    c.at_ends.ensures
