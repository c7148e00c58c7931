use Rattle.std.proofs.Common.{◌≡◌, ◌∙◌, ◌+◌, ◌<◌, ℕ, List, length, slice_set, Some, sym, ap, arith}
use Rattle.std.proofs.lemmas.List.{get_or_read, length-map}
use Rattle.std.proofs.lemmas.Option.{same_Some, slice_get-get_or}
use Rattle.flow_graph.specs.Graphs.{GraphShape}
use Rattle.bounds.specs.Facts.{joined_fact}
use Rattle.cond_flow.specs.States.{NodeState, Unreached, Knows, joined}
use Rattle.bounds.specs.declared.facts.Fact.{Fact}
use Rattle.program_bounds.specs.Facts.{first_facts, row_at}
use Rattle.program_bounds.proofs.starting.first_entries.Goals as goal

pub returns : goal.returns
returns c =
    let graphs = c.args.graphs.now.items in
    let entries = c.in_ok-entries.entries.items in
    let lt : 0 < length entries = omega (arith, c.requires, ap (λ (l : List (NodeState Fact)). length l) c.in_ok-entries.ensures, length-map {B = NodeState Fact} graphs (λ (g : GraphShape). Unreached (g.shared + length g.received))) in (
      entries,
      c.in_ok-entries.ensures,
      λ graph at.
          let one : c.index.result.now ≡ graph = same_Some c.index.result.now graph (sym (slice_get-get_or graphs 0 c.index.result.now c.requires ∙ ap Some (sym c.index.ensures)) ∙ at) in
          let two : c.index-2.result.now ≡ graph = same_Some c.index-2.result.now graph (sym (slice_get-get_or graphs 0 c.index-2.result.now c.requires ∙ ap Some (sym c.index-2.ensures)) ∙ at) in
          let shared : c.shared.result ≡ graph.shared = c.shared.ensures.value ∙ ap (λ (g : GraphShape). g.shared) one in
          let received : length c.received.result.now ≡ length graph.received = ap (λ (l : List ℕ). length l) (c.received.ensures ∙ ap (λ (g : GraphShape). g.received) two) in
          let facts : c.in_ok-facts.facts ≡ first_facts graph.shared (length graph.received) = c.in_ok-facts.ensures ∙ ap (λ n. first_facts n (length c.received.result.now)) shared ∙ ap (first_facts graph.shared) received in
          ap (slice_set entries 0) (c.raise.ensures.joined ∙ ap (λ s. joined joined_fact s (Knows c.in_ok-facts.facts)) (get_or_read entries 0 c.index_mut.result.now lt c.index_mut.ensures.value (Unreached 0)) ∙ ap (λ l. joined joined_fact (row_at entries 0) (Knows l)) facts),
    )
