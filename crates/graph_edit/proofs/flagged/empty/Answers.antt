use Rattle.std.proofs.Common.{◌≡◌, length, set, slice_get, Some, ap, refl, sym, ◌∙◌}
use Rattle.std.proofs.lemmas.Option.{slice_get_read}
use Rattle.graph_edit.specs.Insertions.{Removed, changed}
use Rattle.graph_edit.proofs.Flags.{removed_here}
use Rattle.graph_edit.proofs.flagged.empty.Goals as goal

pub returns : goal.returns
returns c =
    let nodes = c.args.nodes.now in
    let n = c.args.n in
    let node = c.index-nodes-n.result in
    let at : slice_get nodes n ≡ Some node = slice_get_read nodes (length nodes) n node refl c.requires c.index-nodes-n.is in
    ap (set (set nodes n c.replace-old.new.dest) n) (c.changed.ensures ∙ ap (changed Removed) (c.replace-old.ensures.value ∙ sym c.index-nodes-n.is))
    ∙ removed_here nodes n node c.replace-old.new.dest at
