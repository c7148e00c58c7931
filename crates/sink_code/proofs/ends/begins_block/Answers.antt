use Rattle.std.proofs.Common.{◌≡◌, Some, get_or, slice_get, sym, ◌∙◌, subst}
use Rattle.std.proofs.lemmas.Bool.{eq-eqb, eqb-true}
use Rattle.std.proofs.lemmas.Option.{get_or_from_slice_get, same_Some}
use Rattle.flow_graph.specs.BlockLaws.{begin_of, chain_first}
use Rattle.flow_graph.specs.Blocks.{IsFirst}
use Rattle.sink_code.proofs.ends.begins_block.Goals as goal

pub returns : goal.returns
returns c =
    let nodes = c.args.over.now.graph.now.nodes in
    let list = c.nodes-list.result.now in
    let block = c.requires.over.blocks.are.blocks c.block_of.result list c.nodes-list.ensures in
    let begin = begin_of nodes list block.chain in
    let first_is : get_or c.nodes-list.result.now 0 0 ≡ begin.0 = get_or_from_slice_get list 0 begin.0 0 begin.2 in
    let stands = c.block_of.ensures in
    let same : stands.list ≡ list = same_Some stands.list list (sym stands.listed ∙ c.nodes-list.ensures) in
    let at : slice_get list stands.place ≡ Some c.args.node = subst (λ l. slice_get l stands.place ≡ Some c.args.node) same stands.is in (
      λ is. subst (IsFirst nodes) (sym first_is ∙ eqb-true _ _ is) (block.first begin.0 begin.1),
      λ first. eq-eqb _ _ (first_is ∙ sym (chain_first nodes list stands.place begin.0 c.args.node block.chain begin.1 at first)),
    )
