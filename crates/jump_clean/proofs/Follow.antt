-- The search for ends of chains, step by step.
use Rattle.std.proofs.Common.{◌≡◌, ℕ, zero, suc, ◌+◌, ◌<◌, ◌≤◌, List, [], ◌∷◌, ◌++◌, length, take, drop, min, slice_get, slice_set, slice_index_or, Some, None, ◌⊎◌, inl, inr, refl, sym, ap, ◌∙◌, subst, arith}
use Rattle.std.proofs.lemmas.List.{length-set, drop_all}
use Rattle.flow_graph.specs.ListLaws.{set_here, set_elsewhere, drop_at, around_at}
use Rattle.std.proofs.lemmas.Bool.{cases_lt, cases_eq}
use Rattle.std.proofs.lemmas.Option.{same_Some, slice_get_within, slice_get-get_or}
use Rattle.mir_base.specs.Shapes.{AllBelow}
use Rattle.flow_graph.specs.declared.nodes.Node.{Node}
use Rattle.flow_graph.specs.declared.nodes.Node.TheVariants.{Start, Skip, Assign, Print, Guard, Call, Test, Return}
use Rattle.flow_graph.specs.Graphs.{AllWithin}
use Rattle.jump_clean.specs.declared.chains.ChainPlace.{ChainPlace}
use Rattle.jump_clean.specs.declared.chains.ChainPlace.TheVariants.{Nothing, InChain, End}
use Rattle.jump_clean.specs.Chains.{IsEnd}
use Rattle.jump_clean.specs.ChainLaws.{IsSkipChain, in_push, in_last, chain_leads, led_to, leads_on, chain_push, chain_rest, circle_ends, ends_at_other, end_from}
use Rattle.jump_clean.specs.ReductionLaws.{skips_within}
use Rattle.jump_clean.specs.Following.{AreFound, IsFollowed, IsLeastFrom, EndsAt, onward_of, unknown}
use Rattle.flow_graph.specs.Numbering.{IsIn}

-- ---- lists of numbers

-- what is left is the number at hand, or comes later
pub in_rest : (xs : List ℕ) (i n : ℕ) → i < length xs → IsIn n (drop i xs) → (slice_index_or xs i 0 ≡ n) ⊎ IsIn n (drop (i + 1) xs)
in_rest xs i n lt h = subst (IsIn n) (drop_at xs i (slice_index_or xs i 0) (slice_get-get_or xs i 0 lt)) h

-- past the end nothing is left
pub nothing_left : (xs : List ℕ) (i n : ℕ) → length xs ≤ i → IsIn n (drop i xs) → ⊥
nothing_left xs i n le h = subst (IsIn n) (drop_all i xs le) h

-- so a place at which something is left is one of the list
pub some_left : (xs : List ℕ) (i n : ℕ) → IsIn n (drop i xs) → i < length xs
some_left xs i n h = elim (cases_lt i (length xs)) [ inl lt ↦ lt | inr ge ↦ absurd (nothing_left xs i n ge h) ]

-- the number at a place is in the list
pub in_place : (xs : List ℕ) (i : ℕ) → i < length xs → IsIn (slice_index_or xs i 0) xs
in_place [] i lt = absurd (omega (arith, lt))
in_place (x ∷ xs) zero lt = inl refl
in_place (x ∷ xs) (suc i) lt = inr (in_place xs i (omega (arith, lt)))

-- the number at hand is below the bound, and so are the later ones
pub rest_below : (n : ℕ) (xs : List ℕ) (i : ℕ) → i < length xs → AllBelow n (drop i xs) → (slice_index_or xs i 0 < n) × AllBelow n (drop (i + 1) xs)
rest_below n xs i lt h = let r = subst (AllBelow n) (drop_at xs i (slice_index_or xs i 0) (slice_get-get_or xs i 0 lt)) h in (r.0, r.1)

-- ---- the chain that is followed

-- the nodes of a chain of Skips are nodes of the graph
chain_below : (nodes : List Node) (chain : List ℕ) (n m : ℕ) → IsSkipChain nodes chain n m → AllBelow (length nodes) chain
chain_below nodes [] n m w = tt
chain_below nodes (k ∷ chain) n m w = (slice_get_within nodes k _ w.2, chain_below nodes chain w.1 m w.3)

-- each Skip of the chain is a node
pub note_below : (nodes : List Node) (found : List ChainPlace) (chain : List ℕ) (start n : ℕ) → IsFollowed nodes found chain start n → AllBelow (length found) chain
note_below nodes found chain start n f = subst (λ k. AllBelow k chain) (sym f.long) (chain_below nodes chain start n f.is_chain)

-- where a chain is followed on to a next node, the node at hand is a Skip to it of which nothing was found yet
onward_is : (node : Node) (found : ChainPlace) (next : ℕ) → onward_of node found ≡ Some next → (node ≡ Skip next) × (found ≡ Nothing)
onward_is (Skip s) Nothing next e = let same : s ≡ next = cc in (ap Skip same, refl)
onward_is (Skip s) InChain next e = cc
onward_is (Skip s) (End x) next e = cc
onward_is (Start s) found next e = cc
onward_is (Assign x rhs s) found next e = cc
onward_is (Print a s) found next e = cc
onward_is (Guard x g s) found next e = cc
onward_is (Call into unit operands s) found next e = cc
onward_is (Test test taken other) found next e = cc
onward_is (Return a) found next e = cc

-- a Skip always leads onward
not_onward : (node : Node) (next : ℕ) → onward_of node Nothing ≡ None → node ≡ Skip next → ⊥
not_onward node next none is = let both : Some next ≡ None = subst (λ n. onward_of n Nothing ≡ None) is none in cc

-- one more Skip of the chain: of one node less nothing is known
pub known_less : (found : List ChainPlace) (n : ℕ) → slice_get found n ≡ Some Nothing → suc (unknown (slice_set found n InChain)) ≡ unknown found
known_less [] n e = cc
known_less (Nothing ∷ found) zero e = refl
known_less (InChain ∷ found) zero e = cc
known_less (End x ∷ found) zero e = cc
known_less (Nothing ∷ found) (suc n) e = ap suc (known_less found n e)
known_less (InChain ∷ found) (suc n) e = known_less found n e
known_less (End x ∷ found) (suc n) e = known_less found n e

-- one Skip further
pub one_further : (nodes : List Node) (found : List ChainPlace) (chain : List ℕ) (start n next : ℕ) (node : Node) (here : ChainPlace) → AllWithin nodes → IsFollowed nodes found chain start n → slice_get nodes n ≡ Some node → slice_get found n ≡ Some here → onward_of node here ≡ Some next → (slice_get found n ≡ Some Nothing) × IsFollowed nodes (slice_set found n InChain) (chain ++ n ∷ []) start next
one_further nodes found chain start n next node here within f at_node at_found onward =
    let is = onward_is node here next onward in
    let skip : slice_get nodes n ≡ Some (Skip next) = at_node ∙ ap Some is.0 in
    let lt : n < length found = slice_get_within found n here at_found in (
      at_found ∙ ap Some is.1,
      record {
        long = length-set found n InChain ∙ f.long;
        right = λ m e at_m. elim (cases_eq m n) [
          | inl same ↦ let both : Some InChain ≡ Some (End e) = sym (ap (slice_get (slice_set found n InChain)) same ∙ set_here found n InChain lt) ∙ at_m in cc
          | inr other ↦ f.right m e (sym (set_elsewhere found n m InChain other) ∙ at_m)
        ];
        in_chain = λ m at_m. elim (cases_eq m n) [
          | inl same ↦ subst (λ k. IsIn k (chain ++ n ∷ [])) (sym same) (in_last n chain)
          | inr other ↦ in_push m n chain (f.in_chain m (sym (set_elsewhere found n m InChain other) ∙ at_m))
        ];
        is_chain = chain_push nodes chain start n next f.is_chain skip;
        place_is = skips_within nodes within n next skip;
      },
    )

-- where the search ends, the end of the chain is found
pub search_ends : (nodes : List Node) (found : List ChainPlace) (chain : List ℕ) (start n end : ℕ) (node : Node) (here : ChainPlace) → IsFollowed nodes found chain start n → slice_get nodes n ≡ Some node → slice_get found n ≡ Some here → onward_of node here ≡ None → EndsAt here chain n end → IsEnd nodes n end
search_ends nodes found chain start n end node Nothing f at_node at_found none at_end = subst (IsEnd nodes n) (sym at_end) (record { leads = chain_leads nodes [] n n refl; ends = ends_at_other nodes n (λ next is. not_onward node next none (same_Some node (Skip next) (sym at_node ∙ is))) })
search_ends nodes found chain start n end node InChain f at_node at_found none at_end =
    let r = chain_rest nodes at_end.front at_end.remainder n start n (subst (λ l. IsSkipChain nodes l start n) at_end.are f.is_chain) in
    record { leads = led_to nodes (n ∷ at_end.remainder) n n end r.1 at_end.is_one; ends = circle_ends nodes at_end.remainder n end r.1 at_end.is_one at_end.least_is }
search_ends nodes found chain start n end node (End e) f at_node at_found none at_end = subst (IsEnd nodes n) (sym at_end) (f.right n e at_found)

-- the end of the chain is that of the node from which it was followed
pub start_end : (nodes : List Node) (chain : List ℕ) (start n end : ℕ) → IsSkipChain nodes chain start n → IsEnd nodes n end → IsEnd nodes start end
start_end nodes chain start n end w is = end_from nodes start n end (chain_leads nodes chain start n w) is

-- the end is noted for each Skip of the chain
pub search_noted : (nodes : List Node) (found found' : List ChainPlace) (chain : List ℕ) (start n end : ℕ) → IsFollowed nodes found chain start n → IsEnd nodes n end → length found' ≡ length found → ((m : ℕ) → IsIn m chain → slice_get found' m ≡ Some (End end)) → ((m : ℕ) → (slice_get found' m ≡ slice_get found m) ⊎ ((slice_get found' m ≡ Some (End end)) × IsIn m chain)) → AreFound nodes found'
search_noted nodes found found' chain start n end f is long noted others = record {
  long = long ∙ f.long;
  right = λ m e at_m. elim (others m) [
    | inl old ↦ f.right m e (sym old ∙ at_m)
    | inr new ↦
        let both : Some (End end) ≡ Some (End e) = sym new.0 ∙ at_m in
        let same : end ≡ e = cc in
        subst (IsEnd nodes m) same (end_from nodes m n end (leads_on nodes chain start n m f.is_chain new.1) is)
  ];
  none_in_chain = λ m at_m. elim (others m) [
    | inl old ↦ let both : Some (End end) ≡ Some InChain = sym (noted m (f.in_chain m (sym old ∙ at_m))) ∙ at_m in cc
    | inr new ↦ let both : Some (End end) ≡ Some InChain = sym new.0 ∙ at_m in cc
  ];
}

-- ---- loops over numbers

-- the least of the numbers up to one more
pub least_step : (first least least' : ℕ) (others : List ℕ) (i : ℕ) → i < length others → least' ≡ min least (slice_index_or others i 0) → IsIn least (first ∷ others) → ((n : ℕ) → IsIn n (first ∷ others) → (least ≤ n) ⊎ IsIn n (drop i others)) → IsIn least' (first ∷ others) × ((n : ℕ) → IsIn n (first ∷ others) → (least' ≤ n) ⊎ IsIn n (drop (i + 1) others))
least_step first least least' others i lt is one all =
    let x = slice_index_or others i 0 in (
      elim (cases_lt least x) [
        | inl low ↦ let same : least ≡ least' = omega (arith, is, low) in subst (λ k. IsIn k (first ∷ others)) same one
        | inr high ↦ let same : x ≡ least' = omega (arith, is, high) in inr (subst (λ k. IsIn k others) same (in_place others i lt))
      ],
      λ n h. elim (all n h) [
        | inl le ↦ inl (omega (arith, is, le))
        | inr rest ↦ elim (in_rest others i n lt rest) [ inl same ↦ inl (omega (arith, is, same)) | inr later ↦ inr later ]
      ],
    )

-- where the number is found
pub found_place : (chain : List ℕ) (place n : ℕ) → IsIn n (drop place chain) → slice_index_or chain place 0 ≡ n → slice_get chain place ≡ Some n
found_place chain place n h e = slice_get-get_or chain place 0 (some_left chain place n h) ∙ ap Some e

-- the numbers from there on are those of the circle
pub least_from : (chain rest : List ℕ) (first place least : ℕ) → slice_get chain place ≡ Some first → rest ≡ drop (place + 1) chain → IsIn least (first ∷ rest) → ((n : ℕ) → IsIn n (first ∷ rest) → least ≤ n) → IsLeastFrom chain first least
least_from chain rest first place least at_place is one all =
    record { front = take place chain; remainder = rest; are = around_at chain place first at_place ∙ ap (λ l. take place chain ++ first ∷ l) (sym is); is_one = one; least_is = all }

-- one more end is noted
pub note_step : (chain : List ℕ) (end i : ℕ) (found first : List ChainPlace) → i < length chain → length found ≡ length first → AllBelow (length found) (drop i chain) → ((n : ℕ) → IsIn n chain → (slice_get found n ≡ Some (End end)) ⊎ IsIn n (drop i chain)) → ((n : ℕ) → (slice_get found n ≡ slice_get first n) ⊎ ((slice_get found n ≡ Some (End end)) × IsIn n chain)) →
    (length (slice_set found (slice_index_or chain i 0) (End end)) ≡ length first)
    × AllBelow (length (slice_set found (slice_index_or chain i 0) (End end))) (drop (i + 1) chain)
    × ((n : ℕ) → IsIn n chain → (slice_get (slice_set found (slice_index_or chain i 0) (End end)) n ≡ Some (End end)) ⊎ IsIn n (drop (i + 1) chain))
    × ((n : ℕ) → (slice_get (slice_set found (slice_index_or chain i 0) (End end)) n ≡ slice_get first n) ⊎ ((slice_get (slice_set found (slice_index_or chain i 0) (End end)) n ≡ Some (End end)) × IsIn n chain))
note_step chain end i found first lt long below noted others =
    let x = slice_index_or chain i 0 in
    let b = rest_below (length found) chain i lt below in
    let here : (n : ℕ) → n ≡ x → slice_get (slice_set found x (End end)) n ≡ Some (End end) = λ n same. ap (slice_get (slice_set found x (End end))) same ∙ set_here found x (End end) b.0 in (
      length-set found x (End end) ∙ long,
      subst (λ k. AllBelow k (drop (i + 1) chain)) (sym (length-set found x (End end))) b.1,
      λ n h. elim (cases_eq n x) [
        | inl same ↦ inl (here n same)
        | inr other ↦ elim (noted n h) [
          | inl old ↦ inl (set_elsewhere found x n (End end) other ∙ old)
          | inr rest ↦ elim (in_rest chain i n lt rest) [ inl same ↦ absurd (other (sym same)) | inr later ↦ inr later ]
        ]
      ],
      λ n. elim (cases_eq n x) [
        | inl same ↦ inr (here n same, subst (λ k. IsIn k chain) (sym same) (in_place chain i lt))
        | inr other ↦ elim (others n) [
          | inl old ↦ inl (set_elsewhere found x n (End end) other ∙ old)
          | inr new ↦ inr (set_elsewhere found x n (End end) other ∙ new.0, new.1)
        ]
      ],
    )
