use Rattle.std.proofs.Common.{◌∙◌, ◌<◌, length, map, Some, refl, sym, ap, arith}
use Rattle.std.specs.Option.{option_map}
use Rattle.std.proofs.lemmas.List.{length-map}
use Rattle.std.proofs.lemmas.Option.{slice_get-get_or, slice_get-map}
use Rattle.program_bounds.specs.Tables.{facts_of}
use Rattle.program_bounds.proofs.Marked.{marked_both, marked_none}
use Rattle.program_bounds.proofs.Raises.{can_more, gives_more, gives_none, node_raises}
use Rattle.program_bounds.proofs.giving.give.Goals as goal

pub loop-n-init : goal.loop-n-init
loop-n-init c = record {
  gives = gives_none c.args.graph.now c.args.unit (map (option_map (λ list. list.items)) c.args.all.now) (facts_of c.args.tables.now);
  marked = marked_none c.args.callers.now c.args.unit (facts_of c.args.tables.now) c.args.tables.now.stale.items;
  kept = refl;
}

pub give_at-requires : goal.give_at-requires
give_at-requires c =
    let all = c.args.all.now in
    let n = c.loop-n.n in
    let lt : n < length all = omega (arith, c.loop-n-test.true, c.loop-n.auto.n-end, c.len-n-end.ensures, c.requires.long, length-map all (option_map (λ list. list.items))) in
    let at = slice_get-map (option_map (λ list. list.items)) all n ∙ ap (option_map (option_map (λ list. list.items))) (slice_get-get_or all n c.index-all-n.result lt ∙ ap Some (sym c.index-all-n.is)) in
    can_more c.node.result.now c.args.unit (option_map (λ list. list.items) c.index-all-n.result) (facts_of c.args.tables.now) (facts_of c.loop-n.tables) c.loop-n.invariant.gives.entries c.loop-n.invariant.gives.backs
    (c.requires.each n c.node.result.now (option_map (λ list. list.items) c.index-all-n.result) c.node.ensures at)

pub loop-n-preserved : goal.loop-n-preserved
loop-n-preserved c =
    let all = c.args.all.now in
    let n = c.loop-n.n in
    let lt : n < length all = omega (arith, c.loop-n-test.true, c.loop-n.auto.n-end, c.len-n-end.ensures, c.requires.long, length-map all (option_map (λ list. list.items))) in
    let at = slice_get-map (option_map (λ list. list.items)) all n ∙ ap (option_map (option_map (λ list. list.items))) (slice_get-get_or all n c.index-all-n.result lt ∙ ap Some (sym c.index-all-n.is)) in
    let told = option_map (λ list. list.items) c.index-all-n.result in
    let can = can_more c.node.result.now c.args.unit told (facts_of c.args.tables.now) (facts_of c.loop-n.tables) c.loop-n.invariant.gives.entries c.loop-n.invariant.gives.backs (c.requires.each n c.node.result.now told c.node.ensures at) in
    record {
      gives = gives_more c.args.graph.now c.args.unit (map (option_map (λ list. list.items)) all) n c.node.result.now told (facts_of c.args.tables.now) (facts_of c.loop-n.tables) (facts_of c.give_at.new.tables) c.loop-n.raised c.in_ok-raised.field-0
          (omega (arith, c.loop-n-test.true, c.len-n-end.ensures)) c.loop-n.invariant.gives c.node.ensures at
          (node_raises c.node.result.now c.args.unit told (facts_of c.loop-n.tables) (facts_of c.give_at.new.tables) c.in_ok-raised.field-0 can c.in_ok-raised.ensures.gives);
      marked = marked_both c.args.callers.now c.args.unit (facts_of c.args.tables.now) (facts_of c.loop-n.tables) (facts_of c.give_at.new.tables) c.args.tables.now.stale.items c.loop-n.tables.stale.items c.give_at.new.tables.stale.items c.loop-n.invariant.marked c.in_ok-raised.ensures.marked;
      kept = c.in_ok-raised.ensures.kept ∙ c.loop-n.invariant.kept;
    }
