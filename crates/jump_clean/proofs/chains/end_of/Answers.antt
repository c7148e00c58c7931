use Rattle.std.proofs.Common.{◌≡◌, ℕ, ◌++◌, [], ◌∷◌, ◌∙◌, ap, sym, subst, refl, arith, inl, inr, length, Some, slice_get, slice_set}
use Rattle.std.proofs.lemmas.Option.{slice_get_read}
use Rattle.mir_base.specs.Shapes.{AllBelow}
use Rattle.jump_clean.specs.declared.chains.ChainPlace.TheVariants.{InChain, Nothing}
use Rattle.jump_clean.specs.Chains.{IsEnd}
use Rattle.jump_clean.specs.Following.{IsFollowed, EndsAt, onward_of}
use Rattle.jump_clean.proofs.Follow.{one_further, search_ends, start_end, search_noted, note_below, known_less}
use Rattle.jump_clean.proofs.chains.end_of.Goals as goal
use Rattle.jump_clean.proofs.chains.end_of.Goals.{After-onward}
use Rattle.flow_graph.specs.Numbering.{IsIn}

node_here : (c : After-onward) → slice_get c.args.nodes.now c.loop-next.n ≡ Some c.index-nodes-n.result
node_here c = slice_get_read c.args.nodes.now (length c.args.nodes.now) c.loop-next.n c.index-nodes-n.result refl c.loop-next.invariant.place_is c.index-nodes-n.is

found_here : (c : After-onward) → slice_get c.loop-next.found.items c.loop-next.n ≡ Some c.index.result.now
found_here c = slice_get_read c.loop-next.found.items (length c.loop-next.found.items) c.loop-next.n c.index.result.now refl (omega (arith, c.loop-next.invariant.long, c.loop-next.invariant.place_is)) c.index.ensures

-- one Skip further
further : (c : After-onward) (next : ℕ) → onward_of c.index-nodes-n.result c.index.result.now ≡ Some next → (slice_get c.loop-next.found.items c.loop-next.n ≡ Some Nothing) × IsFollowed c.args.nodes.now (slice_set c.loop-next.found.items c.loop-next.n InChain) (c.loop-next.chain.items ++ c.loop-next.n ∷ []) c.args.start next
further c next is = one_further c.args.nodes.now c.loop-next.found.items c.loop-next.chain.items c.args.start c.loop-next.n next c.index-nodes-n.result c.index.result.now c.requires.within c.loop-next.invariant (node_here c) (found_here c) is

pub loop-next-smaller : goal.loop-next-smaller
loop-next-smaller c =
    let s = further (goal.at.loop-next-smaller c).After-onward c.in-Some.next (sym c.onward.ensures ∙ c.in-Some.is) in
    omega (arith, known_less c.loop-next.found.items c.loop-next.n s.0)

pub loop-next-preserved : goal.loop-next-preserved
loop-next-preserved c =
    let s = further (goal.at.loop-next-preserved c).After-onward c.in-Some.next (sym c.onward.ensures ∙ c.in-Some.is) in
    subst (λ l. IsFollowed c.args.nodes.now (slice_set c.loop-next.found.items c.loop-next.n InChain) l c.args.start c.in-Some.next) (sym c.in_ok-push.ensures.items) s.1

pub end_at-end-requires : goal.end_at-end-requires
end_at-end-requires c = λ in_chain.
    let inv = c.loop-next.invariant in
    let n = c.loop-next.n in
    let found = c.loop-next.found.items in
    let at_found : slice_get found n ≡ Some c.index-2.result.now = slice_get_read found (length found) n c.index-2.result.now refl (omega (arith, inv.long, inv.place_is)) c.index-2.ensures in
    subst (IsIn n) (sym c.as_slice.ensures.value) (inv.in_chain n (at_found ∙ ap Some in_chain))

pub note-requires : goal.note-requires
note-requires c = subst (AllBelow (length c.loop-next.found.items)) (sym c.as_slice-2.ensures.value) (note_below c.args.nodes.now c.loop-next.found.items c.loop-next.chain.items c.args.start c.loop-next.n c.loop-next.invariant)

end_is : (c : goal.After-note) → IsEnd c.args.nodes.now c.loop-next.n c.end_at-end.result
end_is c =
    let nodes = c.args.nodes.now in
    let inv = c.loop-next.invariant in
    let n = c.loop-next.n in
    let found = c.loop-next.found.items in
    let at_node = slice_get_read nodes (length nodes) n c.index-nodes-n.result refl inv.place_is c.index-nodes-n.is in
    let at_found : slice_get found n ≡ Some c.index.result.now = slice_get_read found (length found) n c.index.result.now refl (omega (arith, inv.long, inv.place_is)) c.index.ensures in
    let again : slice_get found n ≡ Some c.index-2.result.now = slice_get_read found (length found) n c.index-2.result.now refl (omega (arith, inv.long, inv.place_is)) c.index-2.ensures in
    let both : Some c.index.result.now ≡ Some c.index-2.result.now = sym at_found ∙ again in
    let same : c.index-2.result.now ≡ c.index.result.now = cc in
    let at_end : EndsAt c.index.result.now c.loop-next.chain.items n c.end_at-end.result =
    subst (λ l. EndsAt c.index.result.now l n c.end_at-end.result) c.as_slice.ensures.value (subst (λ f. EndsAt f c.as_slice.result.now n c.end_at-end.result) same c.end_at-end.ensures) in
    search_ends nodes found c.loop-next.chain.items c.args.start n c.end_at-end.result c.index-nodes-n.result c.index.result.now inv at_node at_found (sym c.onward.ensures ∙ c.in_default.is) at_end

pub returns-clause-end : goal.returns-clause-end
returns-clause-end c = start_end c.args.nodes.now c.loop-next.chain.items c.args.start c.loop-next.n c.end_at-end.result c.loop-next.invariant.is_chain (end_is c)

pub returns-clause-found : goal.returns-clause-found
returns-clause-found c =
    let chain : c.as_slice-2.result.now ≡ c.loop-next.chain.items = c.as_slice-2.ensures.value in
    search_noted c.args.nodes.now c.loop-next.found.items c.note.new.found.items c.loop-next.chain.items c.args.start c.loop-next.n c.end_at-end.result c.loop-next.invariant (end_is c) c.note.ensures.long
    (λ m h. c.note.ensures.noted m (subst (IsIn m) (sym chain) h))
    (λ m. elim (c.note.ensures.others m) [ inl old ↦ inl old | inr new ↦ inr (new.0, subst (IsIn m) chain new.1) ])
