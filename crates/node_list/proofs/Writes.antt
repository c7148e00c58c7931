-- The calls' writes to the slices of links, in this order: what two writes to one slice leave; that slices whose links
-- lead along lists hold these; what each call's writes are as changes of the links, which `Keeps` says keep the rings
-- (`put_end`, `put_middle`, `cut_at`); the same of the vectors that hold the slices, for the proofs of the calls
-- (`after_end`, `after_middle`, `after_cut`); and what is read of a link: its range, whether its node is listed, and
-- whether a list is empty.
use Rattle.std.proofs.Common.{◌≡◌, ◌≢◌, ℕ, ◌+◌, ◌^◌, ◌<◌, ◌≤◌, not, eqb, List, replicate, [], ◌∷◌, ◌++◌, length, map, take, drop, set, get_or, refl, sym, ap, inl, inr, arith, ◌∙◌, eq-eqb}
use Rattle.std.proofs.lemmas.Bool.{cases_eq, cases_lt, ne_eqb}
use Rattle.std.proofs.lemmas.List.{get_or-map, get_or-set_same, get_or-set_other, length-map, length-set, drop_all, take_all, append-nil, append_assoc, get_or-replicate, length-replicate}
use Rattle.std.proofs.lemmas.List.FromFn.{length-map-range_with_len}
use Rattle.node_list.specs.Lists.{Lists, list_at, times_in, times, is_listed, inserted_before, without}
use Rattle.node_list.specs.ListedLaws.{times_none}
use Rattle.node_list.specs.Rings.{linked_lists, linked_from, lists_along, AreRings, HoldLinks}
use Rattle.node_list.proofs.Counts.{times_in_le, times_map, times_map_put_before, times_in_put_before_other, times_end_new, times_end_other, put_before_append, put_before_none, listed_yes, listed_no, without_first}
use Rattle.node_list.proofs.Along.{first_link}
use Rattle.node_list.proofs.Keeps.{lists_are, moves, puts, cuts}

-- ---- two writes to one slice

module _ (xs : List ℕ) (a x b y : ℕ) where
  -- the second is there, and the first unless it was to the same place; else nothing has changed
  pub second_write : b < length xs → get_or (set (set xs a x) b y) b 0 ≡ y
  second_write h = get_or-set_same (set xs a x) b y 0 (rw length-set h)

  pub first_write : a ≢ b → a < length xs → get_or (set (set xs a x) b y) a 0 ≡ x
  first_write d h = get_or-set_other (set xs a x) b a y 0 d ∙ get_or-set_same xs a x 0 h

  pub no_write : (k : ℕ) → k ≢ a → k ≢ b → get_or (set (set xs a x) b y) k 0 ≡ get_or xs k 0
  no_write k p q = get_or-set_other (set xs a x) b k y 0 q ∙ get_or-set_other xs a k x 0 p

  pub length_writes : length (set (set xs a x) b y) ≡ length xs
  length_writes = length-set (set xs a x) b y ∙ length-set xs a x

-- ---- slices whose links lead along lists

-- the lists that a slice of links leads along
abbrev pub lists_of : ℕ → ℕ → List ℕ → List (List ℕ)
lists_of nodes count next = lists_along nodes count (λ k. get_or next k 0)

-- a vector's items after a write to all of them
pub all_written : (len : ℕ) (xs ws : List ℕ) → len ≡ length xs → length ws ≡ length xs → take len (ws ++ drop (length ws) xs) ≡ ws
all_written len xs ws e same = rw (drop_all (length ws) xs (omega arith), append-nil ws) (take_all len ws (omega arith))

-- slices that lead along lists hold these
module _ (nodes count : ℕ) (next prev : List ℕ) (lists : List (List ℕ)) (next_len : length next ≡ nodes + count) (prev_len : length prev ≡ nodes + count) (len : length lists ≡ count)
    (linked : AreRings nodes lists (λ k. get_or next k 0) (λ k. get_or prev k 0)) where
  -- the links lead along these lists
  pub along_is : lists_of nodes count next ≡ lists
  along_is = rw (← len) (lists_are nodes lists (λ k. get_or next k 0) (λ k. get_or prev k 0) linked)

  -- so the slices hold them
  pub holds : HoldLinks nodes count next prev
  holds = record {
    next_len = next_len;
    prev_len = prev_len;
    linked = rw along_is linked;
  }

-- a list's number is in range, and so is that of its ring
pub record RingIn (nodes count : ℕ) (next : List ℕ) (list : ℕ) : Type 0 where
  pub low : list < count
  pub number : nodes + list < length next

-- an index of a vector is a number of 64 bits
pub index_fits : (index len cap size : ℕ) → index < size → len ≡ size → len ≤ cap → cap < 2 ^ 63 → index < 2 ^ 64
index_fits index len cap size within len_is fits small = omega arith

-- ---- each call's writes, as changes of the links

module _ (nodes count : ℕ) (next prev : List ℕ) (held : HoldLinks nodes count next prev) where
  pub all_len : length (lists_of nodes count next) ≡ count
  all_len = length-map-range_with_len (λ list. linked_from (λ k. get_or next k 0) nodes nodes (get_or next (nodes + list) 0)) 0 count

  pub ring_in : (shown : Lists) (list : ℕ) → linked_lists nodes count next ≡ shown → list < length shown.lists → RingIn nodes count next list
  ring_in shown list view h =
      let low : list < count = rw (← all_len, ap (λ (l : Lists). l.lists) view) h in
      record { low = low; number = rw held.next_len (omega arith) }

  in_all : (k : ℕ) → k < nodes + count → k < nodes + length (lists_of nodes count next)
  in_all k h = rw all_len h

  -- a list's own number is no node
  past : (other list : ℕ) → times_in (nodes + list) (list_at (lists_of nodes count next) other) ≡ 0
  past other list = elim (cases_lt 0 (times_in (nodes + list) (list_at (lists_of nodes count next) other))) as (λ _. times_in (nodes + list) (list_at (lists_of nodes count next) other) ≡ 0) [
    | inl there ↦
        let le : times_in (nodes + list) (list_at (lists_of nodes count next) other) ≤ times (lists_of nodes count next) (nodes + list) = times_in_le (lists_of nodes count next) other (nodes + list) in
        let low : nodes + list < nodes = held.linked.within (nodes + list) (omega arith) in
        absurd (omega arith)
    | inr none ↦ omega arith
  ]

  -- a new node is put before a place
  module _ (place new : ℕ) (place_in : place < nodes + count) (new_in : new < nodes) (fresh : times (lists_of nodes count next) new ≡ 0) (apart : place ≢ new)
      (firm : place < nodes → 0 < times (lists_of nodes count next) place) where
    before_in : get_or prev place 0 < nodes + count
    before_in = rw all_len at (held.linked.prev_in place (in_all place place_in))

    before_apart : get_or prev place 0 ≢ new
    before_apart e =
        let back : get_or next (get_or prev place 0) 0 ≡ place = held.linked.back place (in_all place place_in) in
        let stays : get_or next new 0 ≡ new = held.linked.loose new new_in fresh in
        apart (sym back ∙ ap (λ k. get_or next k 0) e ∙ stays)

    pub put_at : (lists' : List (List ℕ)) (len : length lists' ≡ length (lists_of nodes count next))
        (put : (list : ℕ) → list < length (lists_of nodes count next) → inserted_before place new (list_at (lists_of nodes count next) list ++ (nodes + list) ∷ []) ≡ list_at lists' list ++ (nodes + list) ∷ [])
        (here : times lists' new ≡ 1) (others : (n : ℕ) → n ≢ new → times lists' n ≡ times (lists_of nodes count next) n)
        → AreRings nodes lists' (λ k. get_or (set (set next (get_or prev place 0) new) new place) k 0) (λ k. get_or (set (set prev new (get_or prev place 0)) place new) k 0)
    put_at lists' len put here others =
        let new_next : new < length next = rw held.next_len (omega arith) in
        let new_prev : new < length prev = rw held.prev_len (omega arith) in
        puts nodes (lists_of nodes count next) (λ k. get_or next k 0) (λ k. get_or prev k 0) held.linked
        (λ k. get_or (set (set next (get_or prev place 0) new) new place) k 0) (λ k. get_or (set (set prev new (get_or prev place 0)) place new) k 0)
        place new (in_all place place_in) new_in fresh apart firm
        (second_write next (get_or prev place 0) new new place new_next)
        (first_write next (get_or prev place 0) new new place before_apart (rw held.next_len before_in))
        (λ k p q. no_write next (get_or prev place 0) new new place k q p)
        (first_write prev new (get_or prev place 0) place new (λ e. apart (sym e)) new_prev)
        (second_write prev new (get_or prev place 0) place new (rw held.prev_len place_in))
        (λ k p q. no_write prev new (get_or prev place 0) place new k p q)
        lists' len put here others

  -- `push_back` writes before the list's own number, which is the end of the list
  pub put_end : (list new : ℕ) → list < count → new < nodes → times (lists_of nodes count next) new ≡ 0
      → AreRings nodes (set (lists_of nodes count next) list (list_at (lists_of nodes count next) list ++ new ∷ []))
      (λ k. get_or (set (set next (get_or prev (nodes + list) 0) new) new (nodes + list)) k 0) (λ k. get_or (set (set prev new (get_or prev (nodes + list) 0)) (nodes + list) new) k 0)
  put_end list new h new_in fresh =
      let all = lists_of nodes count next in
      let h' : list < length (lists_of nodes count next) = rw all_len h in
      let apart : nodes + list ≢ new = λ e. let e' : nodes + list ≡ new = e in absurd (omega arith) in
      put_at (nodes + list) new (omega arith) new_in fresh apart (λ low. absurd (omega arith))
      (set all list (list_at all list ++ new ∷ [])) (length-set all list (list_at all list ++ new ∷ []))
      (λ other o. put_end_at other list new o apart)
      (let more : times (set all list (list_at all list ++ new ∷ [])) new ≡ times all new + 1 = times_end_new all list new h' in let none : times all new ≡ 0 = fresh in omega arith)
      (λ n d. times_end_other all list new n h' d)
    where
      put_end_at : (other list new : ℕ) → other < length (lists_of nodes count next) → nodes + list ≢ new
          → inserted_before (nodes + list) new (list_at (lists_of nodes count next) other ++ (nodes + other) ∷ []) ≡ list_at (set (lists_of nodes count next) list (list_at (lists_of nodes count next) list ++ new ∷ [])) other ++ (nodes + other) ∷ []
      put_end_at other list new o apart =
          let all = lists_of nodes count next in
          let absent : times_in (nodes + list) (list_at all other) ≡ 0 = past other list in
          elim (cases_eq other list) as (λ _. inserted_before (nodes + list) new (list_at all other ++ (nodes + other) ∷ []) ≡ list_at (set all list (list_at all list ++ new ∷ [])) other ++ (nodes + other) ∷ []) [
            | inl e ↦
                rw (put_before_append (nodes + list) new (list_at all other) ((nodes + other) ∷ []), put_before_none (nodes + list) new (list_at all other) absent)
                (rw (e, eq-eqb (nodes + list) (nodes + list) refl, get_or-set_same all list (list_at all list ++ new ∷ []) [] (rw e at o)) (sym (append_assoc (list_at all list) (new ∷ []) ((nodes + list) ∷ []))))
            | inr d ↦
                rw (put_before_append (nodes + list) new (list_at all other) ((nodes + other) ∷ []), put_before_none (nodes + list) new (list_at all other) absent)
                (rw (ne_eqb (nodes + other) (nodes + list) (λ e. d (let e' : nodes + other ≡ nodes + list = e in omega arith)), get_or-set_other all list other (list_at all list ++ new ∷ []) [] d) refl)
          ]

  -- `insert_before` writes before a node that is listed
  pub put_middle : (place new : ℕ) → 0 < times (lists_of nodes count next) place → new < nodes → times (lists_of nodes count next) new ≡ 0
      → AreRings nodes (map (inserted_before place new) (lists_of nodes count next))
      (λ k. get_or (set (set next (get_or prev place 0) new) new place) k 0) (λ k. get_or (set (set prev new (get_or prev place 0)) place new) k 0)
  put_middle place new listed new_in fresh =
      let all = lists_of nodes count next in
      let low : place < nodes = held.linked.within place listed in
      let apart : place ≢ new = λ e. let fresh' : times (lists_of nodes count next) place ≡ 0 = ap (times (lists_of nodes count next)) e ∙ fresh in absurd (omega arith) in
      put_at place new (omega arith) new_in fresh apart (λ _. listed)
      (map (inserted_before place new) all) (length-map all (inserted_before place new))
      (λ list h.
      let d : nodes + list ≢ place = λ e. let e' : nodes + list ≡ place = e in absurd (omega arith) in
      rw (put_before_append place new (list_at all list) ((nodes + list) ∷ []), ne_eqb (nodes + list) place d, get_or-map (inserted_before place new) all list [] [] h) refl)
      (let total : times (map (inserted_before place new) all) new ≡ times all new + times all place = times_map_put_before place new all apart in
      let none : times all new ≡ 0 = fresh in
      let some : 0 < times all place = listed in
      let one : times all place ≤ 1 = held.linked.once place in
      omega arith)
      (λ n d. times_map (inserted_before place new) n (λ xs. times_in_put_before_other n place new xs d) all)

  -- `unlink` and `pop_front` tie the two neighbours of a node
  pub cut_at : (node : ℕ) → 0 < times (lists_of nodes count next) node
      → AreRings nodes (map (without node) (lists_of nodes count next))
      (λ k. get_or (set (set next (get_or prev node 0) (get_or next node 0)) node node) k 0) (λ k. get_or (set (set prev (get_or next node 0) (get_or prev node 0)) node node) k 0)
  cut_at node listed =
      let all = lists_of nodes count next in
      let low : node < nodes = held.linked.within node listed in
      let node_in : node < nodes + count = omega arith in
      let after_apart : get_or next node 0 ≢ node = moves nodes all (λ k. get_or next k 0) (λ k. get_or prev k 0) held.linked node listed in
      let back : get_or next (get_or prev node 0) 0 ≡ node = held.linked.back node (in_all node node_in) in
      let before_apart : get_or prev node 0 ≢ node = λ e. after_apart (sym (ap (λ k. get_or next k 0) e) ∙ back) in
      let before_in : get_or prev node 0 < nodes + count = rw all_len at (held.linked.prev_in node (in_all node node_in)) in
      let after_in : get_or next node 0 < nodes + count = rw all_len at (held.linked.next_in node (in_all node node_in)) in
      cuts nodes all (λ k. get_or next k 0) (λ k. get_or prev k 0) held.linked
      (λ k. get_or (set (set next (get_or prev node 0) (get_or next node 0)) node node) k 0) (λ k. get_or (set (set prev (get_or next node 0) (get_or prev node 0)) node node) k 0)
      node listed
      (second_write next (get_or prev node 0) (get_or next node 0) node node (rw held.next_len node_in))
      (first_write next (get_or prev node 0) (get_or next node 0) node node before_apart (rw held.next_len before_in))
      (λ k p q. no_write next (get_or prev node 0) (get_or next node 0) node node k q p)
      (second_write prev (get_or next node 0) (get_or prev node 0) node node (rw held.prev_len node_in))
      (first_write prev (get_or next node 0) (get_or prev node 0) node node after_apart (rw held.prev_len after_in))
      (λ k p q. no_write prev (get_or next node 0) (get_or prev node 0) node node k q p)

-- ---- the vectors that hold the slices

-- vectors of links after a write to all their items
pub record Refilled (nodes count : ℕ) (lists : List (List ℕ)) (next prev : List ℕ) : Type 0 where
  pub held : HoldLinks nodes count next prev
  pub lists_are : lists_along nodes count (λ k. get_or next k 0) ≡ lists

-- it is enough that the slices written lead along the lists
refilled : (nodes count : ℕ) (lists : List (List ℕ)) (next prev next' prev' next'' prev'' : List ℕ) → HoldLinks nodes count next prev
    → next' ≡ next'' → prev' ≡ prev'' → length next'' ≡ length next → length prev'' ≡ length prev → length lists ≡ length (lists_of nodes count next)
    → AreRings nodes lists (λ k. get_or next'' k 0) (λ k. get_or prev'' k 0) → Refilled nodes count lists next' prev'
refilled nodes count lists next prev next' prev' next'' prev'' was next_is prev_is next_len prev_len len linked =
    let len' : length lists ≡ count = len ∙ all_len nodes count next prev was in
    rw (next_is, prev_is) (record {
      held = holds nodes count next'' prev'' lists (next_len ∙ was.next_len) (prev_len ∙ was.prev_len) len' linked;
      lists_are = along_is nodes count next'' prev'' lists (next_len ∙ was.next_len) (prev_len ∙ was.prev_len) len' linked;
    })

module _ (nodes count : ℕ) (next prev next' prev' : List ℕ) (nlen plen : ℕ) (held : HoldLinks nodes count next prev) (next_is : nlen ≡ length next) (prev_is : plen ≡ length prev) where
  -- two writes to each slice, after which the links lead along these lists
  written : (a x b y c u d v : ℕ) (lists : List (List ℕ)) → next' ≡ set (set next a x) b y → prev' ≡ set (set prev c u) d v → length lists ≡ length (lists_of nodes count next)
      → AreRings nodes lists (λ k. get_or (set (set next a x) b y) k 0) (λ k. get_or (set (set prev c u) d v) k 0)
      → Refilled nodes count lists (take nlen (next' ++ drop (length next') next)) (take plen (prev' ++ drop (length prev') prev))
  written a x b y c u d v lists next_made prev_made len linked =
      let next_same = length_writes next a x b y in
      let prev_same = length_writes prev c u d v in
      refilled nodes count lists next prev _ _ _ _ held
      (all_written nlen next next' next_is (rw next_made next_same) ∙ next_made) (all_written plen prev prev' prev_is (rw prev_made prev_same) ∙ prev_made) next_same prev_same len linked

  -- the same three writes, as the calls' proofs see them
  pub after_end : (list new : ℕ) → list < count → new < nodes → times (lists_of nodes count next) new ≡ 0
      → next' ≡ set (set next (get_or prev (nodes + list) 0) new) new (nodes + list) → prev' ≡ set (set prev new (get_or prev (nodes + list) 0)) (nodes + list) new
      → Refilled nodes count (set (lists_of nodes count next) list (list_at (lists_of nodes count next) list ++ new ∷ [])) (take nlen (next' ++ drop (length next') next)) (take plen (prev' ++ drop (length prev') prev))
  after_end list new list_in new_in fresh next_made prev_made =
      let all = lists_of nodes count next in
      let last = get_or prev (nodes + list) 0 in
      written last new new (nodes + list) new last (nodes + list) new (set all list (list_at all list ++ new ∷ [])) next_made prev_made
      (length-set all list (list_at all list ++ new ∷ [])) (put_end nodes count next prev held list new list_in new_in fresh)

  pub after_middle : (place new : ℕ) → 0 < times (lists_of nodes count next) place → new < nodes → times (lists_of nodes count next) new ≡ 0
      → next' ≡ set (set next (get_or prev place 0) new) new place → prev' ≡ set (set prev new (get_or prev place 0)) place new
      → Refilled nodes count (map (inserted_before place new) (lists_of nodes count next)) (take nlen (next' ++ drop (length next') next)) (take plen (prev' ++ drop (length prev') prev))
  after_middle place new listed new_in fresh next_made prev_made =
      let all = lists_of nodes count next in
      let before = get_or prev place 0 in
      written before new new place new before place new (map (inserted_before place new) all) next_made prev_made
      (length-map all (inserted_before place new)) (put_middle nodes count next prev held place new listed new_in fresh)

  pub after_cut : (node : ℕ) → 0 < times (lists_of nodes count next) node
      → next' ≡ set (set next (get_or prev node 0) (get_or next node 0)) node node → prev' ≡ set (set prev (get_or next node 0) (get_or prev node 0)) node node
      → Refilled nodes count (map (without node) (lists_of nodes count next)) (take nlen (next' ++ drop (length next') next)) (take plen (prev' ++ drop (length prev') prev))
  after_cut node listed next_made prev_made =
      let all = lists_of nodes count next in
      let before = get_or prev node 0 in
      let after = get_or next node 0 in
      written before after node node after before node node (map (without node) all) next_made prev_made
      (length-map all (without node)) (cut_at nodes count next prev held node listed)

-- ---- what is read of a link

-- a node in a list is in range, and so are its links
pub record InRange (total : ℕ) (nexts prevs : List ℕ) (node : ℕ) : Type 0 where
  pub here : node < total
  pub next : get_or nexts node 0 < total
  pub prev : get_or prevs node 0 < total

-- so it is of each node in a list
pub link_in : (nodes count : ℕ) (next prev : List ℕ) (held : HoldLinks nodes count next prev) (node : ℕ) → 0 < times (lists_of nodes count next) node → InRange (length prev) next prev node
link_in nodes count next prev held node listed =
    let low : node < nodes = held.linked.within node listed in
    let node_in : node < nodes + count = omega arith in
    let after : get_or next node 0 < nodes + count = rw (all_len nodes count next prev held) at (held.linked.next_in node (in_all nodes count next prev held node node_in)) in
    let ahead : get_or prev node 0 < nodes + count = rw (all_len nodes count next prev held) at (held.linked.prev_in node (in_all nodes count next prev held node node_in)) in
    record { here = rw held.prev_len node_in; next = rw held.prev_len after; prev = rw held.prev_len ahead }

-- whether a node is linked to itself tells whether it is in a list
pub tells : (nodes count : ℕ) (next prev : List ℕ) (held : HoldLinks nodes count next prev) (node : ℕ) → node < nodes → not (eqb (get_or next node 0) node) ≡ is_listed (lists_of nodes count next) node
tells nodes count next prev held node low = elim (cases_lt 0 (times (lists_of nodes count next) node)) as (λ _. not (eqb (get_or next node 0) node) ≡ is_listed (lists_of nodes count next) node) [
  | inl some ↦
      let away : get_or next node 0 ≢ node = moves nodes (lists_of nodes count next) (λ k. get_or next k 0) (λ k. get_or prev k 0) held.linked node some in
      ap not (ne_eqb (get_or next node 0) node away) ∙ sym (listed_yes (lists_of nodes count next) node some)
  | inr none ↦
      let none' : times (lists_of nodes count next) node ≡ 0 = omega arith in
      ap not (eq-eqb (get_or next node 0) node (held.linked.loose node low none')) ∙ sym (listed_no (lists_of nodes count next) node none')
]

-- the first link of a list leads to its first node
pub leads_first : (nodes count : ℕ) (next prev : List ℕ) (held : HoldLinks nodes count next prev) (list : ℕ) → list < count → get_or next (nodes + list) 0 < nodes
    → (rest : List ℕ) × (list_at (lists_of nodes count next) list ≡ get_or next (nodes + list) 0 ∷ rest)
leads_first nodes count next prev held list h low =
    elim (first_link (λ k. get_or next k 0) (λ k. get_or prev k 0) (nodes + list) (list_at (lists_of nodes count next) list) (nodes + list) (held.linked.rings list (rw (all_len nodes count next prev held) h)))
    as (λ _. (rest : List ℕ) × (list_at (lists_of nodes count next) list ≡ get_or next (nodes + list) 0 ∷ rest)) [
      | inl none ↦ let back : get_or next (nodes + list) 0 ≡ nodes + list = none.1 in absurd (omega arith)
      | inr some ↦ some
    ]

-- where it leads past the nodes, the list is empty
pub leads_none : (nodes count : ℕ) (next prev : List ℕ) (held : HoldLinks nodes count next prev) (list : ℕ) → list < count → nodes ≤ get_or next (nodes + list) 0
    → list_at (lists_of nodes count next) list ≡ []
leads_none nodes count next prev held list h high =
    elim (first_link (λ k. get_or next k 0) (λ k. get_or prev k 0) (nodes + list) (list_at (lists_of nodes count next) list) (nodes + list) (held.linked.rings list (rw (all_len nodes count next prev held) h)))
    as (λ _. list_at (lists_of nodes count next) list ≡ []) [
      | inl none ↦ none.0
      | inr some ↦
          let first = get_or next (nodes + list) 0 in
          let here : times_in first (list_at (lists_of nodes count next) list) ≡ 1 + times_in first some.0 = rw (some.1, eq-eqb first first refl) refl in
          let le : times_in first (list_at (lists_of nodes count next) list) ≤ times (lists_of nodes count next) first = times_in_le (lists_of nodes count next) list first in
          let low : first < nodes = held.linked.within first (omega arith) in
          absurd (omega arith)
    ]

-- a first node that is linked out
pub record PopsFirst (lists lists' : List (List ℕ)) (list node : ℕ) : Type 0 where
  pub first : list_at lists list ≡ node ∷ list_at lists' list
  pub others : lists' ≡ set lists list (list_at lists' list)

-- so it is where a node stands once
pub pops_first : (lists : List (List ℕ)) (list node : ℕ) (rest : List ℕ) → list < length lists → list_at lists list ≡ node ∷ rest → times lists node ≤ 1 → PopsFirst lists (map (without node) lists) list node
pops_first lists list node rest h is once =
    let made : map (without node) lists ≡ set lists list rest = without_first lists list node rest is once in
    let at : list_at (map (without node) lists) list ≡ rest = rw made (get_or-set_same lists list rest [] h) in
    record { first = is ∙ ap (λ xs. node ∷ xs) (sym at); others = rw at made }

-- ---- empty lists: each number is linked to itself

-- `Links::new` makes such links
pub starts : (nodes count : ℕ) (next prev : List ℕ) → length next ≡ nodes + count → length prev ≡ nodes + count
    → ((k : ℕ) → k < nodes + count → get_or next k 0 ≡ k) → ((k : ℕ) → k < nodes + count → get_or prev k 0 ≡ k) → Refilled nodes count (replicate count []) next prev
starts nodes count next prev next_len prev_len next_self prev_self =
    let len : length (replicate {A = List ℕ} count []) ≡ count = length-replicate count [] in
    let linked : AreRings nodes (replicate count []) (λ k. get_or next k 0) (λ k. get_or prev k 0) = record {
      next_in = λ k h. let h' : k < nodes + count = rw len at h in rw (next_self k h') h;
      prev_in = λ k h. let h' : k < nodes + count = rw len at h in rw (prev_self k h') h;
      back = λ k h. let h' : k < nodes + count = rw len at h in rw (prev_self k h', next_self k h') refl;
      forth = λ k h. let h' : k < nodes + count = rw len at h in rw (next_self k h', prev_self k h') refl;
      rings = λ list h.
          let h' : list < count = rw len at h in
          let number : nodes + list < nodes + count = omega arith in
          rw (get_or-replicate {A = List ℕ} count list [] [] h') (next_self (nodes + list) number, prev_self (nodes + list) number, tt);
      within = λ n h. let none : times (replicate count []) n ≡ 0 = times_none count n in absurd (omega arith);
      once = λ n. let none : times (replicate count []) n ≡ 0 = times_none count n in omega arith;
      loose = λ n h _. next_self n (omega arith);
    } in
    record { held = holds nodes count next prev (replicate count []) next_len prev_len len linked; lists_are = along_is nodes count next prev (replicate count []) next_len prev_len len linked }
