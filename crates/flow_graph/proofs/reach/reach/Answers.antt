use Rattle.std.proofs.Common.{◌≡◌, ◌+◌, ◌∙◌, ◌++◌, ◌∷◌, [], ap, sym, subst, refl, arith, length, length-append, None, Option}
use Rattle.std.specs.Option.{option_to_list}
use Rattle.std.specs.Prelude.{IfNone, ℕ}
use Rattle.std.proofs.lemmas.Option.{slice_get_within}
use Rattle.flow_graph.specs.ReachWalks.{Walking}
use Rattle.flow_graph.proofs.ReachWalks.{walk_begins, walk_marks, popped}
use Rattle.flow_graph.proofs.reach.reach.Goals as goal
use Rattle.flow_graph.proofs.reach.reach.Goals.{In-Some}

pub loop-next-init : goal.loop-next-init
loop-next-init c = record {
  walking = walk_begins c.args.nodes.now c.in_ok-marks.marks.items _ _ c.requires.some c.in_ok-marks.ensures refl (ap (λ l. l ++ 0 ∷ []) c.new-stack.ensures.items);
  empty = tt;
}

-- the node at hand is the last of those to be visited
walking : (c : In-Some) → Walking c.args.nodes.now c.loop-next.marks.items (c.loop-next.stack.items ++ c.in-Some.node ∷ []) None
walking c = subst (λ (o : Option ℕ). Walking c.args.nodes.now c.loop-next.marks.items (c.loop-next.stack.items ++ option_to_list o) None) c.in-Some.is c.loop-next.invariant.walking

pub visit-requires-clause-there : goal.visit-requires-clause-there
visit-requires-clause-there c =
    let p = popped c.args.nodes.now c.requires.within c.loop-next.marks.items c.loop-next.stack.items c.in-Some.node (walking (goal.at.visit-requires-clause-there c).In-Some) in
    omega (arith, slice_get_within c.loop-next.marks.items c.in-Some.node _ p.0, c.loop-next.invariant.walking.long)

pub visit-requires-clause-walking : goal.visit-requires-clause-walking
visit-requires-clause-walking c =
    (popped c.args.nodes.now c.requires.within c.loop-next.marks.items c.loop-next.stack.items c.in-Some.node (walking (goal.at.visit-requires-clause-walking c).In-Some)).1

pub visit-requires-clause-marked : goal.visit-requires-clause-marked
visit-requires-clause-marked c =
    (popped c.args.nodes.now c.requires.within c.loop-next.marks.items c.loop-next.stack.items c.in-Some.node (walking (goal.at.visit-requires-clause-marked c).In-Some)).0

pub loop-next-preserved : goal.loop-next-preserved
loop-next-preserved c = record {
  walking = subst (λ l. Walking c.args.nodes.now c.visit.new.marks.items l None) (sym c.go_on-next.ensures.same) c.in_ok-found.ensures.walking;
  empty = c.go_on-next.ensures.empty;
}

pub loop-next-smaller : goal.loop-next-smaller
loop-next-smaller c =
    let now = ap length c.go_on-next.ensures.same in
    let was : length (c.loop-next.stack.items ++ option_to_list c.loop-next.next) ≡ length c.loop-next.stack.items + 1 = ap (λ (o : Option ℕ). length (c.loop-next.stack.items ++ option_to_list o)) c.in-Some.is ∙ length-append c.loop-next.stack.items (c.in-Some.node ∷ []) in
    omega (arith, now, was, c.in_ok-found.ensures.lighter)

pub returns : goal.returns
returns c =
    let empty : c.loop-next.stack.items ≡ [] = subst (λ (o : Option ℕ). IfNone o (c.loop-next.stack.items ≡ [])) c.in_default.is c.loop-next.invariant.empty in
    let none : c.loop-next.stack.items ++ option_to_list c.loop-next.next ≡ [] = ap (λ (o : Option ℕ). c.loop-next.stack.items ++ option_to_list o) c.in_default.is ∙ ap (λ l. l ++ []) empty in
    walk_marks c.args.nodes.now c.requires.within c.loop-next.marks.items c.requires.some (subst (λ s. Walking c.args.nodes.now c.loop-next.marks.items s None) none c.loop-next.invariant.walking)
