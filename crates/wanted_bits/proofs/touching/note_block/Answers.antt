use Rattle.std.proofs.Common.{◌∙◌, [], get_or, take, ap, sym, subst}
use Rattle.std.proofs.lemmas.List.{flat_map_more}
use Rattle.std.proofs.lemmas.Option.{slice_get-get_or}
use Rattle.flow_graph.specs.ListLaws.{take_one}
use Rattle.wanted_bits.specs.NewsShapes.{AreNoted}
use Rattle.wanted_bits.specs.Touching.{touched_at, touched_in, touched_past, touched_vars}
use Rattle.wanted_bits.specs.Walking.{back_in}
use Rattle.wanted_bits.proofs.Noted.{noted_append, noted_none}
use Rattle.wanted_bits.proofs.touching.note_block.Goals as goal

pub loop-i-init : goal.loop-i-init
loop-i-init c = noted_none c.args.noted.now

pub loop-i-preserved : goal.loop-i-preserved
loop-i-preserved c =
    let graph = c.args.graph.now in
    let back = back_in c.args.backs.now in
    let list = c.args.list.now in
    let i = c.loop-i.i in
    let n = get_or list i 0 in
    let at = slice_get-get_or list i 0 c.loop-i-test.true in
    let flat = flat_map_more (touched_at graph back) [] (take i list) n ∙ ap (touched_in graph back) (sym (take_one list i n at)) in
    let here = ap (λ shared. touched_vars shared (back n) c.node.result.now) c.shared.ensures.value ∙ ap (touched_past graph.shared (back n)) (sym c.node.ensures) in
    let noted = subst (λ xs. AreNoted xs c.loop-i.noted c.note_node.new.noted) here c.note_node.ensures in
    subst (λ xs. AreNoted xs c.args.noted.now c.note_node.new.noted) flat (noted_append (touched_in graph back (take i list)) (touched_at graph back n) c.args.noted.now c.loop-i.noted c.note_node.new.noted c.loop-i.invariant noted)
