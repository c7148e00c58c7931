use Rattle.std.proofs.Common.{rules, sym, subst}
use Rattle.std.proofs.lemmas.List.Sorted.{answers_always, IsNonDecreasingBy-from_sort_by_key}
use Rattle.std.specs.List.Sorted.{IsStableByKey}
use Rattle.std.specs.Ordering.{nat_cmp}
use Rattle.sink_code.specs.declared.patterns.Pattern.{Pattern}
use Rattle.sink_code.specs.PatternTables.{AreOrdered}
use Rattle.mir_base.specs.Shapes.{AllDiffer}
use Rattle.sink_code.proofs.Found.{moved_differ}
use Rattle.sink_code.proofs.patterns.in_order.Goals as goal

pub of-requires : goal.of-requires
of-requires c = moved_differ c.in_ok-patterns.patterns.items c.sort_by_key.new.self.items c.sort_by_key.ensures.permutation (subst AllDiffer (sym c.in_ok-patterns.ensures.all) c.in_ok-patterns.ensures.differ)

pub returns-clause-ordered : goal.returns-clause-ordered
returns-clause-ordered c = subst AreOrdered (sym c.in_ok-table.ensures) (record {
  differ = moved_differ c.in_ok-patterns.patterns.items c.sort_by_key.new.self.items c.sort_by_key.ensures.permutation (subst AllDiffer (sym c.in_ok-patterns.ensures.all) c.in_ok-patterns.ensures.differ);
  in_order = IsNonDecreasingBy-from_sort_by_key (λ p. p.var) c.sort_by_key.new.self.items c.in_ok-sort_by_key.ensures.sorted (λ a r f' called. search rules);
})

pub returns-clause-stable : goal.returns-clause-stable
returns-clause-stable c =
    let kept = c.sort_by_key.ensures.stable (λ p. p.var) (answers_always _ _ _ (λ f a r g h. search rules)) in
    subst (IsStableByKey (λ (p : Pattern). p.var) nat_cmp c.args.found.now) (sym c.in_ok-table.ensures)
    (subst (λ l. IsStableByKey (λ (p : Pattern). p.var) nat_cmp l c.sort_by_key.new.self.items) c.in_ok-patterns.ensures.all kept)
