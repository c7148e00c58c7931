use Rattle.std.proofs.Common.{◌≡◌, slice_get, sym, ap, ◌∙◌}
use Rattle.key_rows.specs.KeyRows.{key_in}
use Rattle.sink_code.specs.PatternTables.{pattern_of}
use Rattle.sink_code.proofs.PatternBits.{occurs_at_node}
use Rattle.sink_code.proofs.along.number_at.Goals as goal

pub returns : goal.returns
returns c =
    let at = slice_get c.args.over.now.graph.now.nodes c.args.node in
    let key : key_in pattern_of (slice_get c.args.over.now.graph.now.nodes c.args.node) ≡ c.pattern_at.result = ap (key_in pattern_of) c.node.ensures ∙ sym c.pattern_at.ensures in
    record {
      within = c.find_some.ensures.within;
      tells = λ k p numbered.
          let finds = c.find_some.ensures.finds k p numbered in
          let occurs = occurs_at_node p (slice_get c.args.over.now.graph.now.nodes c.args.node) in
          (λ is. occurs.1 (key ∙ finds.1 is), λ on. finds.0 (sym key ∙ occurs.0 on));
    }
