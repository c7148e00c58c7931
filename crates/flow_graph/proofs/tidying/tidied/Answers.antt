use Rattle.std.proofs.Common.{◌≡◌, ◌∙◌, ℕ, List, [], ap, sym, subst, arith, map, flat_map, length, slice_index_or}
use Rattle.mir_base.specs.Shapes.{AllBelow, IsTidy, inst_vars}
use Rattle.flow_graph.specs.Numbering.{first_index, renamed, renumbered, seen_in}
use Rattle.flow_graph.specs.Placing.{Seen}
use Rattle.flow_graph.proofs.Mapping.{mapped_back}
use Rattle.flow_graph.specs.RenamingLaws.{renumbered_tidy, seen_below}
use Rattle.flow_graph.proofs.tidying.tidied.Goals as goal

pub names-requires : goal.names-requires
names-requires c =
    let vars = length c.args.vars.now in
    subst (AllBelow vars) (sym (c.seen-2.ensures ∙ ap (λ (s : Seen). s.seen) c.in_ok-seen.ensures)) (seen_below vars [] (flat_map inst_vars c.args.body.now) tt c.requires.below)

vars_are : (c : goal.After-of-3) → c.of-2.result ≡ map (λ x. slice_index_or c.args.vars.now x []) (seen_in 0 c.args.body.now)
vars_are c = c.of-2.ensures ∙ c.in_ok-names.ensures ∙ ap (map (λ x. slice_index_or c.args.vars.now x [])) (c.seen-2.ensures ∙ ap (λ (s : Seen). s.seen) c.in_ok-seen.ensures)

body_is : (c : goal.After-of-3) → c.of-3.result ≡ renumbered 0 c.args.body.now
body_is c = c.of-3.ensures ∙ mapped_back (renamed (first_index c.in_ok-seen.seen.seen)) c.rename.new.body c.in_ok-insts.insts.items c.in_ok-insts.insts.len c.in_ok-insts.insts.ok.0 (c.in_ok-rename.ensures ∙ ap (map (renamed (first_index c.in_ok-seen.seen.seen))) c.deref_mut.ensures.value) ∙ ap (map (renamed (first_index c.in_ok-seen.seen.seen))) c.in_ok-insts.ensures ∙ ap (λ (s : List ℕ). map (renamed (first_index s)) c.args.body.now) (ap (λ (s : Seen). s.seen) c.in_ok-seen.ensures)

pub invariant_of-result : goal.invariant_of-result
invariant_of-result c =
    subst (λ (names : List (List ℕ)). IsTidy 0 names c.of-3.result) (sym (vars_are c))
    (subst (IsTidy 0 (map (λ x. slice_index_or c.args.vars.now x []) (seen_in 0 c.args.body.now))) (sym (body_is c)) (renumbered_tidy 0 c.args.vars.now c.args.body.now (omega arith) c.requires.differ c.requires.below))

pub returns : goal.returns
returns c =
    let seen = ap (λ (s : Seen). s.seen) c.in_ok-seen.ensures in
    let vars : c.of-2.result ≡ map (λ x. slice_index_or c.args.vars.now x []) (seen_in 0 c.args.body.now) = c.of-2.ensures ∙ c.in_ok-names.ensures ∙ ap (map (λ x. slice_index_or c.args.vars.now x [])) (c.seen-2.ensures ∙ seen) in
    let body : c.of-3.result ≡ renumbered 0 c.args.body.now = c.of-3.ensures ∙ mapped_back (renamed (first_index c.in_ok-seen.seen.seen)) c.rename.new.body c.in_ok-insts.insts.items c.in_ok-insts.insts.len c.in_ok-insts.insts.ok.0 (c.in_ok-rename.ensures ∙ ap (map (renamed (first_index c.in_ok-seen.seen.seen))) c.deref_mut.ensures.value) ∙ ap (map (renamed (first_index c.in_ok-seen.seen.seen))) c.in_ok-insts.ensures ∙ ap (λ (s : List ℕ). map (renamed (first_index s)) c.args.body.now) seen in
    λ i. record { name = c.args.name; shared = 0; vars = vars i; body = body i }
