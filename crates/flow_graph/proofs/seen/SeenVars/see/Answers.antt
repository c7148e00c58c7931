use Rattle.std.proofs.Common.{◌≡◌, ◌<◌, ◌∙◌, ◌++◌, ◌∷◌, [], ap, sym, subst, arith, length, cond, slice_get, slice_set, Some, None, true}
use Rattle.std.proofs.lemmas.Grind.{common_steps}
use Rattle.std.proofs.lemmas.Option.{gets}
use Rattle.flow_graph.specs.Numbering.{is_in}
use Rattle.flow_graph.specs.Placing.{ArePositions, Seen}
use Rattle.flow_graph.proofs.SeenLists.{positions_more, unseen_entry, seen_entry}
use Rattle.flow_graph.proofs.seen.SeenVars.see.Goals as goal

pub invariant_of-self-then-is_none : goal.invariant_of-self-then-is_none
invariant_of-self-then-is_none c =
    let seen = c.self.inside.seen.items in
    let places = c.self.inside.places.items in
    let x = c.args.x in
    let lt : x < length places = omega (arith, ap (λ (v : Seen). v.vars) c.self.view_is, c.requires) in
    let none : slice_get places x ≡ Some None = grind (arith, common_steps, gets) in
    let place : c.len-place.result ≡ length seen = grind (arith, common_steps) in
    let more = positions_more seen places x c.self.invariant lt (unseen_entry seen places x c.self.invariant lt none) in
    subst (λ l. ArePositions l (slice_set places x (Some c.len-place.result))) (sym c.in_ok-push.ensures.items) (subst (λ n. ArePositions (seen ++ x ∷ []) (slice_set places x (Some n))) (sym place) more)

pub returns-in_ok-push-clause-seen : goal.returns-in_ok-push-clause-seen
returns-in_ok-push-clause-seen c =
    let seen = c.self.inside.seen.items in
    let places = c.self.inside.places.items in
    let x = c.args.x in
    let old = ap (λ (v : Seen). v.seen) c.self.view_is in
    let lt : x < length places = omega (arith, ap (λ (v : Seen). v.vars) c.self.view_is, c.requires) in
    let none : slice_get places x ≡ Some None = grind (arith, common_steps, gets) in
    let new = unseen_entry seen places x c.self.invariant lt none in
    c.in_ok-push.ensures.items ∙ ap (λ b. cond b seen (seen ++ x ∷ [])) (sym new) ∙ ap (λ l. cond (is_in x l) l (l ++ x ∷ [])) old

pub returns-else-is_none-clause-seen : goal.returns-else-is_none-clause-seen
returns-else-is_none-clause-seen c =
    let seen = c.self.inside.seen.items in
    let places = c.self.inside.places.items in
    let now = c.args.self.now.seen in
    let x = c.args.x in
    let lt : x < length places = omega (arith, ap (λ (v : Seen). v.vars) c.self.view_is, c.requires) in
    let here : slice_get places x ≡ Some c.index.result.now = grind (arith, common_steps, gets) in
    let old : is_in x seen ≡ true = seen_entry seen places x c.index.result.now c.self.invariant lt here (grind (arith, common_steps)) in
    sym (ap (λ b. cond b now (now ++ x ∷ [])) (ap (λ (v : Seen). is_in x v.seen) (sym c.self.view_is) ∙ old))
