-- The links keep leading along lists, as a node is put in (`puts`) or taken out (`cuts`). Each changes the links of two
-- numbers; first what that leaves true of all links, then which lists they lead along, then the two calls.
use Rattle.std.proofs.Common.{◌≡◌, ◌≢◌, ℕ, suc, ◌+◌, ◌<◌, ◌≤◌, List, [], ◌∷◌, ◌++◌, length, map, refl, sym, ap, inl, inr, arith, ◌∙◌}
use Rattle.std.proofs.lemmas.Bool.{cases_eq, cases_lt, ne_eqb}
use Rattle.std.proofs.lemmas.List.{ext_get_or, get_or-map, length-map}
use Rattle.std.proofs.lemmas.List.FromFn.{length-map-range_with_len, get_or-map-range_with_len}
use Rattle.node_list.specs.Lists.{list_at, times_in, times, inserted_before, without}
use Rattle.node_list.specs.Rings.{Along, linked_from, lists_along, AreRings}
use Rattle.node_list.proofs.Counts.{times_in_le, times_map, times_map_without, times_in_without_other, without_append, without_none, length_le}
use Rattle.node_list.proofs.Along.{linked_along, along_moves, along_put, along_cut}
use Rattle.node_list.specs.ListedLaws.{times_in_append}

-- ---- links that change at two numbers

-- they stay in range
two_in : (f f' : ℕ → ℕ) (total a b : ℕ) → f' a < total → f' b < total → ((k : ℕ) → k ≢ a → k ≢ b → f' k ≡ f k) → ((k : ℕ) → k < total → f k < total)
    → (k : ℕ) → k < total → f' k < total
two_in f f' total a b at_a at_b same within k h = elim (cases_eq k a) as (λ _. f' k < total) [
  | inl e ↦ rw e at_a
  | inr d ↦ elim (cases_eq k b) as (λ _. f' k < total) [
    | inl e ↦ rw e at_b
    | inr d' ↦ rw (same k d d') (within k h)
  ]
]

-- they still lead forth and back
two_back : (f f' g g' : ℕ → ℕ) (total a b : ℕ) → f' (g' a) ≡ a → f' (g' b) ≡ b → ((k : ℕ) → k ≢ a → k ≢ b → g' k ≡ g k)
    → ((k : ℕ) → k < total → k ≢ a → k ≢ b → f' (g k) ≡ f (g k)) → ((k : ℕ) → k < total → f (g k) ≡ k) → (k : ℕ) → k < total → f' (g' k) ≡ k
two_back f f' g g' total a b at_a at_b same onward back k h = elim (cases_eq k a) as (λ _. f' (g' k) ≡ k) [
  | inl e ↦ rw e at_a
  | inr d ↦ elim (cases_eq k b) as (λ _. f' (g' k) ≡ k) [
    | inl e ↦ rw e at_b
    | inr d' ↦ rw (same k d d') (onward k h d d' ∙ back k h)
  ]
]

-- a list of one element has no other
times_in_single : (n x : ℕ) → x ≢ n → times_in n (x ∷ []) ≡ 0
times_in_single n x d = rw (ne_eqb x n d) refl

-- ---- lists that the links lead along

-- the list in which a node stands
pub find_list : (lists : List (List ℕ)) (n : ℕ) → 0 < times lists n → (list : ℕ) × (list < length lists) × (0 < times_in n (list_at lists list))
find_list [] n h = absurd (omega arith)
find_list (xs ∷ lists) n h = elim (cases_lt 0 (times_in n xs)) as (λ _. (list : ℕ) × (list < length (xs ∷ lists)) × (0 < times_in n (list_at (xs ∷ lists) list))) [
  | inl here ↦ (0, omega arith, here)
  | inr none ↦
      let there : (list : ℕ) × (list < length lists) × (0 < times_in n (list_at lists list)) = find_list lists n (omega arith) in
      (suc there.0, (let l : there.0 < length lists = there.1 in omega arith), there.2)
]

module _ (nodes : ℕ) (lists : List (List ℕ)) (next prev : ℕ → ℕ) (linked : AreRings nodes lists next prev) where
  list_within : (list n : ℕ) → 0 < times_in n (list_at lists list) → n < nodes
  list_within list n h = let le : times_in n (list_at lists list) ≤ times lists n = times_in_le lists list n in linked.within n (omega arith)

  list_once : (list n : ℕ) → times_in n (list_at lists list) ≤ 1
  list_once list n = let le : times_in n (list_at lists list) ≤ times lists n = times_in_le lists list n in let one : times lists n ≤ 1 = linked.once n in omega arith

  -- a list is what the links from its number lead along
  pub linked_whole : (list : ℕ) → list < length lists → linked_from next nodes nodes (next (nodes + list)) ≡ list_at lists list
  linked_whole list h =
      linked_along next prev nodes nodes (nodes + list) (list_at lists list) (nodes + list) (linked.rings list h) (omega arith) (list_within list)
      (length_le nodes (list_at lists list) (list_within list) (list_once list))

  -- all lists are what the links lead along
  pub lists_are : lists_along nodes (length lists) next ≡ lists
  lists_are =
      let f : ℕ → List ℕ = λ list. linked_from next nodes nodes (next (nodes + list)) in
      let len : length (lists_along nodes (length lists) next) ≡ length lists = length-map-range_with_len f 0 (length lists) in
      ext_get_or [] (lists_along nodes (length lists) next) lists len
      (λ i h. let h' : i < length lists = omega arith in get_or-map-range_with_len f 0 (length lists) i i [] h' (omega arith) ∙ linked_whole i h')

  -- a node in a list is not linked to itself
  pub moves : (n : ℕ) → 0 < times lists n → next n ≢ n
  moves n h self =
      let place : (list : ℕ) × (list < length lists) × (0 < times_in n (list_at lists list)) = find_list lists n h in
      let low : n < nodes = linked.within n h in
      let two : 2 ≤ times_in n (list_at lists place.0) =
      along_moves next prev (nodes + place.0) (list_at lists place.0) (nodes + place.0) n (linked.rings place.0 place.1) self (λ s. let s' : n ≡ nodes + place.0 = s in absurd (omega arith)) place.2 in
      let one : times_in n (list_at lists place.0) ≤ 1 = list_once place.0 n in
      absurd (omega arith)

  -- ---- a node's links change, and with them one more link forward and one more back

  -- the links then lead along other lists, in which each other node stands as often as before
  module _ (next' prev' : ℕ → ℕ) (node before after : ℕ) (node_in : node < nodes)
      (next_same : (k : ℕ) → k ≢ node → k ≢ before → next' k ≡ next k) (prev_same : (k : ℕ) → k ≢ node → k ≢ after → prev' k ≡ prev k)
      (lists' : List (List ℕ)) (len : length lists' ≡ length lists) (few : times lists' node ≤ 1) (others : (n : ℕ) → n ≢ node → times lists' n ≡ times lists n) where
    pub relinked : next' node < nodes + length lists → next' before < nodes + length lists → prev' node < nodes + length lists → prev' after < nodes + length lists
        → next' (prev' node) ≡ node → next' (prev' after) ≡ after → ((k : ℕ) → k < nodes + length lists → k ≢ node → k ≢ after → next' (prev k) ≡ next (prev k))
        → prev' (next' node) ≡ node → prev' (next' before) ≡ before → ((k : ℕ) → k < nodes + length lists → k ≢ node → k ≢ before → prev' (next k) ≡ prev (next k))
        → ((list : ℕ) → list < length lists → Along next' prev' (nodes + list) (list_at lists' list ++ (nodes + list) ∷ []))
        → (times lists' node ≡ 0 → next' node ≡ node) → ((n : ℕ) → n < nodes → n ≢ node → times lists n ≡ 0 → next n ≡ n → next' n ≡ n) → AreRings nodes lists' next' prev'
    relinked node_on before_on node_back after_back node_forth after_forth onward node_home before_home homeward along alone stays = record {
      next_in = λ k h. rw len (two_in next next' (nodes + length lists) node before node_on before_on next_same linked.next_in k (rw len at h));
      prev_in = λ k h. rw len (two_in prev prev' (nodes + length lists) node after node_back after_back prev_same linked.prev_in k (rw len at h));
      back = λ k h. two_back next next' prev prev' (nodes + length lists) node after node_forth after_forth prev_same onward linked.back k (rw len at h);
      forth = λ k h. two_back prev prev' next next' (nodes + length lists) node before node_home before_home next_same homeward linked.forth k (rw len at h);
      rings = λ list h. along list (rw len at h);
      within = λ n h. elim (cases_eq n node) as (λ _. n < nodes) [
        | inl e ↦ rw e node_in
        | inr d ↦ let same : times lists' n ≡ times lists n = others n d in linked.within n (omega arith)
      ];
      once = λ n. elim (cases_eq n node) as (λ _. times lists' n ≤ 1) [
        | inl e ↦ rw e few
        | inr d ↦ rw (others n d) (linked.once n)
      ];
      loose = λ n h none. elim (cases_eq n node) as (λ _. next' n ≡ n) [
        | inl e ↦ let none' : times lists' node ≡ 0 = ap (times lists') (sym e) ∙ none in rw e (alone none')
        | inr d ↦ let none' : times lists n ≡ 0 = sym (others n d) ∙ none in stays n h d none' (linked.loose n h none')
      ];
    }

  -- ---- a new node is linked in before a place, and stands then in the lists before it
  module _ (next' prev' : ℕ → ℕ) (place new : ℕ) (place_in : place < nodes + length lists) (new_in : new < nodes) (fresh : times lists new ≡ 0) (apart : place ≢ new) (firm : place < nodes → 0 < times lists place)
      (at_new : next' new ≡ place) (at_before : next' (prev place) ≡ new) (next_same : (k : ℕ) → k ≢ new → k ≢ prev place → next' k ≡ next k)
      (from_new : prev' new ≡ prev place) (from_place : prev' place ≡ new) (prev_same : (k : ℕ) → k ≢ new → k ≢ place → prev' k ≡ prev k)
      (lists' : List (List ℕ)) (len : length lists' ≡ length lists)
      (put : (list : ℕ) → list < length lists → inserted_before place new (list_at lists list ++ (nodes + list) ∷ []) ≡ list_at lists' list ++ (nodes + list) ∷ [])
      (here : times lists' new ≡ 1) (others : (n : ℕ) → n ≢ new → times lists' n ≡ times lists n) where
    self : next new ≡ new
    self = linked.loose new new_in fresh

    before_apart : prev place ≢ new
    before_apart e = apart (sym (linked.back place place_in) ∙ ap next e ∙ self)

    self_back : prev new ≡ new
    self_back = ap prev (sym self) ∙ linked.forth new (omega arith)

    forward : next (prev place) ≡ place
    forward = linked.back place place_in

    put_rings : (list : ℕ) → list < length lists → Along next' prev' (nodes + list) (list_at lists' list ++ (nodes + list) ∷ [])
    put_rings list h =
        let stop_apart : nodes + list ≢ new = λ s. let s' : nodes + list ≡ new = s in absurd (omega arith) in
        let none : times_in new (list_at lists list) ≤ times lists new = times_in_le lists list new in
        let all : times_in new (list_at lists list ++ (nodes + list) ∷ []) ≡ times_in new (list_at lists list) + times_in new ((nodes + list) ∷ []) = times_in_append new (list_at lists list) ((nodes + list) ∷ []) in
        let last : times_in new ((nodes + list) ∷ []) ≡ 0 = times_in_single new (nodes + list) stop_apart in
        let ring : Along next' prev' (nodes + list) (inserted_before place new (list_at lists list ++ (nodes + list) ∷ [])) =
        along_put next prev next' prev' place (prev place) new forward refl at_new at_before next_same from_new from_place prev_same (nodes + list) _ stop_apart (omega arith) (linked.rings list h) in
        rw (put list h) at ring

    pub puts : AreRings nodes lists' next' prev'
    puts =
        relinked next' prev' new (prev place) place new_in next_same prev_same lists' len (rw here (omega arith)) others
        (rw at_new place_in) (rw at_before (omega arith)) (rw from_new (linked.prev_in place place_in)) (rw from_place (omega arith))
        (rw from_new at_before) (rw from_place at_new)
        (λ k h d d'. next_same (prev k) (λ s. d (sym (linked.back k h) ∙ ap next s ∙ self)) (λ s. d' (sym (linked.back k h) ∙ ap next s ∙ forward)))
        (rw at_new from_place) (rw at_before from_new)
        (λ k h d d'. prev_same (next k) (λ s. d (sym (linked.forth k h) ∙ ap prev s ∙ self_back)) (λ s. d' (sym (linked.forth k h) ∙ ap prev s)))
        put_rings (λ none. absurd (omega (arith, here, none))) (λ n h d none stays. next_same n d (loose_apart n h none stays) ∙ stays)
      where
        loose_apart : (n : ℕ) → n < nodes → times lists n ≡ 0 → next n ≡ n → n ≢ prev place
        loose_apart n h none stays s =
            let is : n ≡ place = sym stays ∙ ap next s ∙ forward in
            let there : 0 < times lists place = firm (rw is at h) in
            let none' : times lists place ≡ 0 = rw is at none in
            omega arith

  -- ---- a node is linked out
  module _ (next' prev' : ℕ → ℕ) (node : ℕ) (listed : 0 < times lists node)
      (at_node : next' node ≡ node) (at_before : next' (prev node) ≡ next node) (next_same : (k : ℕ) → k ≢ node → k ≢ prev node → next' k ≡ next k)
      (from_node : prev' node ≡ node) (from_after : prev' (next node) ≡ prev node) (prev_same : (k : ℕ) → k ≢ node → k ≢ next node → prev' k ≡ prev k) where
    node_in : node < nodes
    node_in = linked.within node listed

    in_all : node < nodes + length lists
    in_all = omega (arith, node_in)

    onto : next (prev node) ≡ node
    onto = linked.back node in_all

    off : prev (next node) ≡ node
    off = linked.forth node in_all

    cut_rings : (list : ℕ) → list < length lists → Along next' prev' (nodes + list) (list_at (map (without node) lists) list ++ (nodes + list) ∷ [])
    cut_rings list h =
        let stop_apart : nodes + list ≢ node = λ s. let s' : nodes + list ≡ node = s in absurd (omega (arith, node_in)) in
        let ring : Along next' prev' (nodes + list) (without node (list_at lists list ++ (nodes + list) ∷ [])) =
        along_cut next prev next' prev' node (prev node) (next node) onto refl refl off (moves node listed) at_before next_same from_after prev_same (nodes + list) _ stop_apart (linked.rings list h) in
        rw (get_or-map (without node) lists list [] [] h)
        (rw (without_append node (list_at lists list) ((nodes + list) ∷ []), without_none node ((nodes + list) ∷ []) (times_in_single node (nodes + list) stop_apart)) at ring)

    pub cuts : AreRings nodes (map (without node) lists) next' prev'
    cuts =
        relinked next' prev' node (prev node) (next node) node_in next_same prev_same (map (without node) lists) (length-map lists (without node))
        (rw (times_map_without node lists) (omega arith)) (λ n d. times_map (without node) n (λ xs. times_in_without_other n node xs d) lists)
        (rw at_node in_all) (rw at_before (linked.next_in node in_all)) (rw from_node in_all) (rw from_after (linked.prev_in node in_all))
        (rw from_node at_node) (rw from_after at_before)
        (λ k h d d'. next_same (prev k) (λ s. d' (sym (linked.back k h) ∙ ap next s)) (λ s. d (sym (linked.back k h) ∙ ap next s ∙ onto)))
        (rw at_node from_node) (rw at_before from_after)
        (λ k h d d'. prev_same (next k) (λ s. d' (sym (linked.forth k h) ∙ ap prev s)) (λ s. d (sym (linked.forth k h) ∙ ap prev s ∙ off)))
        cut_rings (λ _. at_node) (λ n h d none stays. next_same n d (λ s. d (sym stays ∙ ap next s ∙ onto)) ∙ stays)
