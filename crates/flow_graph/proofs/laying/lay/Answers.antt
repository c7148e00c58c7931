use Rattle.std.proofs.Common.{◌<◌, ◌∙◌, [], ap, sym, subst, map, reverse, flat_map, length, slice_index_or}
use Rattle.mir_base.specs.Shapes.{AllBelow, inst_vars}
use Rattle.flow_graph.specs.Numbering.{first_index, renamed, seen_in}
use Rattle.flow_graph.specs.Layouts.{plain_body}
use Rattle.flow_graph.specs.Placing.{Seen}
use Rattle.flow_graph.proofs.Mapping.{mapped_back}
use Rattle.flow_graph.specs.LayoutLaws.{body_low, first_low, seen_low, laid_by}
use Rattle.flow_graph.proofs.laying.lay.Goals as goal

pub plan-requires-clause-first : goal.plan-requires-clause-first
plan-requires-clause-first c = subst (λ n. n < length c.args.nodes.now) (sym c.start_succ.ensures) (first_low c.args.vars.now c.args.received.now c.args.nodes.now c.requires.graph)

pub of-requires-clause-below : goal.of-requires-clause-below
of-requires-clause-below c =
    let e = c.as_slice-4.ensures.value ∙ c.in_ok-body.ensures ∙ ap (λ l. plain_body c.args.received.now c.args.nodes.now (reverse l)) c.as_slice-2.ensures.value in
    body_low c.args.vars.now c.args.received.now c.args.nodes.now c.requires.graph (reverse c.in_ok-items.items.items) c.as_slice-4.result.now e

pub rename-requires : goal.rename-requires
rename-requires c =
    let e = c.deref_mut.ensures.value ∙ c.in_ok-body.ensures ∙ ap (λ l. plain_body c.args.received.now c.args.nodes.now (reverse l)) c.as_slice-2.ensures.value in
    subst (λ n. AllBelow n (flat_map inst_vars c.deref_mut.result.now)) (sym (ap (λ (s : Seen). s.vars) c.in_ok-seen.ensures)) (body_low c.args.vars.now c.args.received.now c.args.nodes.now c.requires.graph (reverse c.in_ok-items.items.items) c.deref_mut.result.now e)

pub names-requires : goal.names-requires
names-requires c =
    let e = c.in_ok-body.ensures ∙ ap (λ l. plain_body c.args.received.now c.args.nodes.now (reverse l)) c.as_slice-2.ensures.value in
    let e' = c.seen-2.ensures ∙ ap (λ (s : Seen). s.seen) c.in_ok-seen.ensures ∙ ap (seen_in c.args.shared) c.as_slice-4.ensures.value in
    seen_low c.args.shared c.args.vars.now c.args.received.now c.args.nodes.now c.requires.graph c.requires.shares.count (reverse c.in_ok-items.items.items) c.in_ok-body.body.items c.seen-2.result.now e e'

pub returns : goal.returns
returns c =
    let e = c.in_ok-body.ensures ∙ ap (λ l. plain_body c.args.received.now c.args.nodes.now (reverse l)) c.as_slice-2.ensures.value in
    let seen = ap (λ (s : Seen). s.seen) c.in_ok-seen.ensures ∙ ap (seen_in c.args.shared) c.as_slice-4.ensures.value in
    let now = renamed (first_index c.in_ok-seen.seen.seen) in
    let body = mapped_back now c.rename.new.body c.in_ok-body.body.items c.in_ok-body.body.len c.in_ok-body.body.ok.0 (c.in_ok-rename.ensures ∙ ap (map now) c.deref_mut.ensures.value) in
    let names = c.in_ok-names.ensures ∙ ap (map (λ x. slice_index_or c.args.vars.now x [])) c.seen-2.ensures in
    laid_by c.args.shared c.args.vars.now c.args.received.now c.args.nodes.now (reverse c.in_ok-items.items.items) c.start_succ.result c.in_ok-body.body.items _ c.in_ok-seen.seen.seen c.in_ok-names.names.items c.start_succ.ensures c.in_ok-items.ensures.plan c.in_ok-items.ensures.complete e seen body names
