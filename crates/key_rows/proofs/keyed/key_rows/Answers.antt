use Rattle.std.proofs.Common.{◌≡◌, ◌∙◌, ◌<◌, ◌≤◌, ◌+◌, ℕ, List, Bool, Option, None, Some, IfSome, subst, ap, sym, length, replicate, false}
use Rattle.std.proofs.lemmas.Option.{slice_get-get_or}
use Rattle.key_rows.specs.KeyRowLaws.{AreKeyed, keyed_all, keyed_more, keyed_none, with_found}
use Rattle.key_rows.proofs.keyed.key_rows.Goals as goal
use Rattle.key_rows.proofs.keyed.key_rows.Goals.{After-find_some, in-Some, in_default}

pub loop-n-init : goal.loop-n-init
loop-n-init g c = keyed_none (g.O.KeyOf.key_of c.args.of.now) c.args.table.now c.args.nodes.now c.in_ok-rows.rows (c.in_ok-rows.ensures ∙ ap (λ (bits : ℕ). replicate (length c.args.nodes.now) (replicate bits false)) c.len.ensures.len)

below : (bound : ℕ) (found : Option ℕ) → IfSome found (λ k. k < bound) → (k : ℕ) → found ≡ Some k → k < bound
below bound found h k is = subst (λ o. IfSome o (λ k. k < bound)) is h

more : (g : _) (c : After-find_some g) (found : Option ℕ) (new : List (List Bool)) → c.find_some.result ≡ found → new ≡ with_found c.loop-n.rows c.loop-n.n found → AreKeyed (g.O.KeyOf.key_of c.args.of.now) c.args.table.now c.args.nodes.now (c.loop-n.n + 1) new
more g c found new is put =
    let node = c.index-nodes-n.result in
    let key_of = g.O.KeyOf.key_of c.args.of.now in
    let at = slice_get-get_or c.args.nodes.now c.loop-n.n node c.loop-n-test.true ∙ ap Some (sym c.index-nodes-n.is) in
    keyed_more key_of c.args.table.now c.args.nodes.now c.loop-n.n node c.find_some.result c.loop-n.rows new at
    (below (length c.args.table.now) c.find_some.result c.find_some.ensures.within)
    (λ i k here. let finds = c.find_some.ensures.finds i k here in (λ has. finds.0 (c.key_of.ensures ∙ has), λ one. sym c.key_of.ensures ∙ finds.1 one))
    (put ∙ ap (λ o. with_found c.loop-n.rows c.loop-n.n o) (sym is)) c.loop-n.invariant

pub loop-n-preserved : goal.loop-n-preserved
loop-n-preserved g c =
    let known = (goal.at.loop-n-preserved g c).After-find_some in
    elim c.match-find_some.branch [
      | in-Some w ↦ more g known (Some w.in-Some.number) c.match-find_some.rows w.in-Some.is (w.rows-is ∙ w.set.ensures)
      | in_default w ↦ more g known None c.match-find_some.rows w.in_default.is w.rows-is
    ]

pub returns : goal.returns
returns g c =
    let late : length c.args.nodes.now ≤ c.loop-n.n = c.loop-n-test.false in
    keyed_all (g.O.KeyOf.key_of c.args.of.now) c.args.table.now c.args.nodes.now c.loop-n.n c.loop-n.rows late c.loop-n.invariant
