use Rattle.std.proofs.Common.{◌≡◌, ◌∙◌, ℕ, false, Some, None, slice_index_or, IsTrue, ap, sym}
use Rattle.std.proofs.lemmas.Bool.{eqb-true, eq-eqb}
use Rattle.tail_loop.proofs.Found.{end_within, returns_told}
use Rattle.tail_loop.proofs.calls.returns_next.Goals as goal

pub returned_at-requires : goal.returned_at-requires
returned_at-requires c = end_within c.args.nodes.now c.requires.within c.args.n _ c.requires.node (c.requires.ends.are c.args.n c.requires.node)

pub returns-in-None : goal.returns-in-None
returns-in-None c =
    let end = slice_index_or c.args.ends.now c.args.n 0 in
    let is_end = c.requires.ends.are c.args.n c.requires.node in
    let lt = end_within c.args.nodes.now c.requires.within c.args.n end c.requires.node is_end in
    let told = returns_told c.args.nodes.now c.args.n end c.args.x None lt is_end (sym c.in-None.is ∙ c.returned_at.ensures) in
    (λ no_. absurd (no_true no_), λ next. absurd (no_some (told.1 next)))
  where
    no_true : IsTrue false → ⊥
    no_true e = cc

    no_some : {x : ℕ} → None ≡ Some x → ⊥
    no_some e = cc

pub returns-in-Some : goal.returns-in-Some
returns-in-Some c =
    let end = slice_index_or c.args.ends.now c.args.n 0 in
    let is_end = c.requires.ends.are c.args.n c.requires.node in
    let lt = end_within c.args.nodes.now c.requires.within c.args.n end c.requires.node is_end in
    let told = returns_told c.args.nodes.now c.args.n end c.args.x (Some c.in-Some.y) lt is_end (sym c.in-Some.is ∙ c.returned_at.ensures) in
    (λ same. told.0 (ap Some (eqb-true c.in-Some.y c.args.x same)), λ next. eq-eqb c.in-Some.y c.args.x (one (told.1 next)))
  where
    one : {x y : ℕ} → Some y ≡ Some x → y ≡ x
    one e = cc
