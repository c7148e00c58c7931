use Rattle.std.proofs.Common.{◌≡◌, ◌<◌, ◌∙◌, ap, sym, arith, length, slice_get, Some, None}
use Rattle.std.proofs.lemmas.Grind.{common_steps}
use Rattle.std.proofs.lemmas.Option.{gets}
use Rattle.flow_graph.specs.Numbering.{first_index}
use Rattle.flow_graph.specs.Placing.{Seen}
use Rattle.flow_graph.proofs.SeenLists.{position_none, unseen_entry}
use Rattle.flow_graph.proofs.seen.SeenVars.first_index.Goals as goal

pub returns-in-None : goal.returns-in-None
returns-in-None c =
    let seen = c.self.inside.seen.items in
    let places = c.self.inside.places.items in
    let x = c.args.x in
    let lt : x < length places = omega (arith, ap (λ (v : Seen). v.vars) c.self.view_is, c.requires) in
    let none : slice_get places x ≡ Some None = grind (arith, common_steps, gets) in
    let count : c.len.result ≡ length seen = grind (arith, common_steps) in
    count ∙ sym (position_none seen x (unseen_entry seen places x c.self.invariant lt none)) ∙ ap (λ (v : Seen). first_index v.seen x) c.self.view_is
