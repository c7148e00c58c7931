-- Blocks while they are made: the parts of a list, a block that is followed, and the blocks so far.
use Rattle.std.proofs.Common.{◌≡◌, ◌≢◌, ℕ, zero, suc, ◌+◌, ◌-◌, ◌<◌, ◌≤◌, ◌⊎◌, inl, inr, true, false, cond, List, [], ◌∷◌, ◌++◌, length, get_or, set, take, drop, replicate, slice_get, slice_range, Some, refl, sym, ap, subst, arith, ◌∙◌, length-append, append_assoc, get_or-set_same, get_or-set_other, vec_len, Vec}
use Rattle.std.specs.Vec.{vec_capacity}
use Rattle.std.proofs.lemmas.Bool.{cases_eq, cases_Bool, eq-eqb, ne_eqb}
use Rattle.std.proofs.lemmas.List.{drop-append-le, length-replicate, length-set, take-append-le, take_all, get_or_default}
use Rattle.std.proofs.lemmas.Option.{slice_get_within}
use Rattle.std.proofs.Math.Seq.{drop-append_seam}
use Rattle.flow_graph.specs.ListLaws.{get_left_some, get_last, get_push}
use Rattle.flow_graph.specs.BoundLaws.{edge_within}
use Rattle.flow_graph.specs.declared.nodes.Node.{Node}
use Rattle.flow_graph.specs.Graphs.{IsGraph, Reached}
use Rattle.flow_graph.specs.PathLaws.{end_stands, reached_trace, begins_first}
use Rattle.flow_graph.specs.Paths.{Begins, Ends, HasEdge, Trace, from_start, goes_on}
use Rattle.flow_graph.specs.Blocks.{AreBlocksOf, AreStored, AreMade, AreParts, AreStarts, IsBlock, IsBlocks, IsChain, IsFirst, IsBlockSoFar, IsGlued, IsLast, IsPlaced, StandsIn, HasRoomForUnplaced, parts_at, is_first, unplaced}
use Rattle.flow_graph.specs.BlockLaws.{begins_more, chain_first, chain_more, chain_on, ends_more, first_is, glued_edge, not_first, only_from, only_to}

-- ---- the parts of a list

-- what is left of a list and what is dropped are the whole, unless more is dropped than there is
drop_length : (xs : List ℕ) (n : ℕ) → length (drop n xs) + n ≡ length xs ⊎ (length xs < n)
drop_length xs zero = inl (omega arith)
drop_length [] (suc n) = inr (omega arith)
drop_length (x ∷ xs) (suc n) = elim (drop_length xs n) [ inl e ↦ inl (omega (arith, e)) | inr lt ↦ inr (omega (arith, lt)) ]

-- the first start is not after the end
starts_below : (end s : ℕ) (starts : List ℕ) → AreStarts end (s ∷ starts) → s ≤ end
starts_below end s [] are = omega (arith, are)
starts_below end s (e ∷ starts) are = omega (arith, are.0, starts_below end e starts are.1)

-- a part is the same in a longer list
part_same : (order more : List ℕ) (s e : ℕ) → s ≤ e → e ≤ length order → slice_range (order ++ more) s e ≡ slice_range order s e
part_same order more s e le within =
    let room : e - s ≤ length (drop s order) = elim (drop_length order s) [ inl l ↦ omega (arith, l, le, within) | inr lt ↦ absurd (omega (arith, lt, le, within)) ] in
    ap (take (e - s)) (drop-append-le s order more (omega (arith, le, within))) ∙ take-append-le (e - s) (drop s order) more room

-- the part from the end of the old list on is what was added
part_new : (order more : List ℕ) (s : ℕ) → s ≡ length order → slice_range (order ++ more) s (length order + length more) ≡ more
part_new order more s is =
    ap (take (length order + length more - s)) (ap (λ k. drop k (order ++ more)) is ∙ drop-append_seam order more) ∙ take_all (length order + length more - s) more (omega (arith, is))

-- one part more, at the end
pub cut_more : (order more starts : List ℕ) → AreStarts (length order) starts → parts_at (order ++ more) (starts ++ (length order + length more) ∷ []) ≡ parts_at order starts ++ more ∷ []
cut_more order more [] are = absurd are
cut_more order more (s ∷ []) are = ap (λ l. l ∷ []) (part_new order more s are)
cut_more order more (s ∷ e ∷ starts) are =
    ap (λ l. l ∷ parts_at (order ++ more) (e ∷ starts ++ (length order + length more) ∷ [])) (part_same order more s e are.0 (starts_below (length order) e starts are.1))
    ∙ ap (λ l. slice_range order s e ∷ l) (cut_more order more (e ∷ starts) are.1)

-- one more begin, at the end
pub starts_more : (n m : ℕ) (starts : List ℕ) → n ≤ m → AreStarts n starts → AreStarts m (starts ++ m ∷ [])
starts_more n m [] le are = absurd are
starts_more n m (s ∷ []) le are = (omega (arith, le, are), refl)
starts_more n m (s ∷ e ∷ starts) le are = (are.0, starts_more n m (e ∷ starts) le are.1)

-- there is a part for each begin but the last, which is an end
pub length_cut : (end : ℕ) (order starts : List ℕ) → AreStarts end starts → length starts ≡ suc (length (parts_at order starts))
length_cut end order [] are = absurd are
length_cut end order (s ∷ []) are = refl
length_cut end order (s ∷ e ∷ starts) are = ap suc (length_cut end order (e ∷ starts) are.1)

-- the part of an index stands between its begin and the next
pub part_is : (end b : ℕ) (order starts : List ℕ) → AreStarts end starts → suc b < length starts → slice_get (parts_at order starts) b ≡ Some (slice_range order (get_or starts b 0) (get_or starts (suc b) 0))
part_is end b order [] are h = absurd are
part_is end b order (s ∷ []) are h = absurd (omega (arith, h))
part_is end zero order (s ∷ e ∷ starts) are h = refl
part_is end (suc b) order (s ∷ e ∷ starts) are h = part_is end b order (e ∷ starts) are.1 (omega (arith, h))

-- each begin is at most the next, and all are at most the end
pub part_bounds : (end b : ℕ) (starts : List ℕ) → AreStarts end starts → suc b < length starts → (get_or starts b 0 ≤ get_or starts (suc b) 0) × (get_or starts (suc b) 0 ≤ end)
part_bounds end b [] are h = absurd are
part_bounds end b (s ∷ []) are h = absurd (omega (arith, h))
part_bounds end zero (s ∷ e ∷ starts) are h = (are.0, starts_below end e starts are.1)
part_bounds end (suc b) (s ∷ e ∷ starts) are h = part_bounds end b (e ∷ starts) are.1 (omega (arith, h))

-- ---- how many have no block

-- one node fewer has no block once a node is placed
pub unplaced_less : (none n block : ℕ) (block_of : List ℕ) → n < length block_of → get_or block_of n none ≡ none → block ≢ none → unplaced none (set block_of n block) + 1 ≡ unplaced none block_of
unplaced_less none n block [] h is other = absurd (omega (arith, h))
unplaced_less none zero block (b ∷ block_of) h is other =
    omega (arith, ap {B = ℕ} (λ v. cond v 1 0) (eq-eqb b none is), ap {B = ℕ} (λ v. cond v 1 0) (ne_eqb block none other))
unplaced_less none (suc n) block (b ∷ block_of) h is other = omega (arith, unplaced_less none n block block_of (omega (arith, h)) is other)

-- at first none has
pub all_unplaced : (none n : ℕ) → unplaced none (replicate n none) ≡ n
all_unplaced none zero = refl
all_unplaced none (suc n) = omega (arith, ap {B = ℕ} (λ v. cond v 1 0) (eq-eqb none none refl), all_unplaced none n)

module _ {A : Type 0} (none n block : ℕ) (order : Vec ℕ A) (block_of : List ℕ) (h : n < length block_of) (is : get_or block_of n none ≡ none) (other : block ≢ none) (room : HasRoomForUnplaced none order block_of) where
  -- while a node stands in no block, `order` has room for it
  pub place_left : vec_len order < vec_capacity order
  place_left = omega (arith, room, unplaced_less none n block block_of h is other)

  -- and it has room for all the others once this node is placed
  pub room_left : (longer : Vec ℕ A) (after : List ℕ) → vec_len longer ≡ vec_len order + 1 → vec_capacity longer ≡ vec_capacity order → after ≡ set block_of n block → HasRoomForUnplaced none longer after
  room_left longer after len capacity after_is = omega (arith, room, len, capacity, ap (unplaced none) after_is, unplaced_less none n block block_of h is other)

-- ---- a block that is followed

-- what is placed then was placed, or is the node
pub gets_placed : (none : ℕ) (block_of : List ℕ) (n block k : ℕ) → n < length block_of → block ≢ none → IsPlaced none (set block_of n block) k → (k ≡ n) ⊎ IsPlaced none block_of k
gets_placed none block_of n block k h other placed = elim (cases_eq k n) [ inl e ↦ inl e | inr d ↦ inr (λ is. placed (get_or-set_other block_of n k block none d ∙ is)) ]

-- what was placed stays placed
pub keeps_placed : (none : ℕ) (block_of : List ℕ) (n block k : ℕ) → n < length block_of → block ≢ none → IsPlaced none block_of k → IsPlaced none (set block_of n block) k
keeps_placed none block_of n block k h other placed is = elim (cases_eq k n) as (λ _. ⊥) [
  | inl e ↦ other (sym (get_or-set_same block_of n block none h) ∙ ap (λ i. get_or (set block_of n block) i none) (sym e) ∙ is)
  | inr d ↦ placed (sym (get_or-set_other block_of n k block none d) ∙ is)
]

-- and the node is placed
pub set_placed : (none : ℕ) (block_of : List ℕ) (n block : ℕ) → n < length block_of → block ≢ none → IsPlaced none (set block_of n block) n
set_placed none block_of n block h other is = other (sym (get_or-set_same block_of n block none h) ∙ is)

module _ (nodes : List Node) (head block : ℕ) (order block_of : List ℕ) (few : block < length nodes) where
  abbrev none : ℕ
  none = length nodes

  other : block ≢ length nodes
  other e = omega (arith, e, few)

  -- its first node
  pub follow_begins : (longer after : List ℕ) → head < length nodes → length block_of ≡ length nodes → IsFirst nodes head → get_or block_of head (length nodes) ≡ length nodes
      → ((m n : ℕ) → IsGlued nodes m n → IsPlaced (length nodes) block_of n → IsPlaced (length nodes) block_of m)
      → longer ≡ order ++ head ∷ [] → after ≡ set block_of head block → IsBlockSoFar nodes head head block order longer block_of after
  follow_begins longer after there long first unplaced closed longer_is after_is =
      let h : head < length block_of = omega (arith, there, long) in
      subst (IsBlockSoFar nodes head head block order longer block_of) (sym after_is) (record {
        chain = head ∷ [];
        longer_is = longer_is;
        is_chain = there;
        begins = refl;
        ends = refl;
        long = length-set block_of head block ∙ long;
        were = λ n. elim (cases_eq n head) as (λ _. (get_or (set block_of head block) n none ≡ get_or block_of n none) ⊎ ((get_or (set block_of head block) n none ≡ block) × ((i : ℕ) × (slice_get (head ∷ []) i ≡ Some n)))) [
          | inl e ↦ inr (ap (λ k. get_or (set block_of head block) k none) e ∙ get_or-set_same block_of head block none h, (0, ap Some (sym e)))
          | inr d ↦ inl (get_or-set_other block_of head n block none d)
        ];
        put = λ i n e. put_one i n e h;
        closed = λ m n glued placed. elim (gets_placed none block_of head block n h other placed) as (λ _. IsPlaced none (set block_of head block) m × (m ≢ head)) [
          | inl e ↦ absurd (first m (subst (IsGlued nodes m) e glued))
          | inr was ↦ let before = closed m n glued was in (keeps_placed none block_of head block m h other before, λ e. before (ap (λ k. get_or block_of k none) e ∙ unplaced))
        ];
      })
    where
      put_one : (i n : ℕ) → slice_get (head ∷ []) i ≡ Some n → head < length block_of → get_or (set block_of head block) n none ≡ block
      put_one zero n e h = let same : head ≡ n = cc in ap (λ k. get_or (set block_of head block) k none) (sym same) ∙ get_or-set_same block_of head block none h
      put_one (suc i) n e h = cc

  module _ (node n : ℕ) (longer after : List ℕ) (followed : IsBlockSoFar nodes head node block order longer block_of after) (glued : IsGlued nodes node n) where
    -- the next node has no block yet
    pub next_unplaced : get_or after n (length nodes) ≡ length nodes
    next_unplaced = elim (cases_eq (get_or after n none) none) as (λ _. get_or after n none ≡ none) [ inl e ↦ e | inr placed ↦ absurd ((followed.closed node n glued placed).1 refl) ]

    pub follow_more : (longer' after' : List ℕ) → n < length nodes → longer' ≡ longer ++ n ∷ [] → after' ≡ set after n block → IsBlockSoFar nodes head n block order longer' block_of after'
    follow_more longer' after' there longer_is after_is =
        let h : n < length after = omega (arith, there, followed.long) in
        let old = followed.chain in
        let here : get_or (set after n block) n none ≡ block = get_or-set_same after n block none h in
        subst (IsBlockSoFar nodes head n block order longer' block_of) (sym after_is) (record {
          chain = followed.chain ++ n ∷ [];
          longer_is = longer_is ∙ ap (λ l. l ++ n ∷ []) followed.longer_is ∙ append_assoc order followed.chain (n ∷ []);
          is_chain = chain_more nodes followed.chain node n there followed.is_chain followed.ends glued;
          begins = begins_more followed.chain head n followed.begins;
          ends = ends_more followed.chain node n followed.ends;
          long = length-set after n block ∙ followed.long;
          were = λ k. elim (cases_eq k n) as (λ _. (get_or (set after n block) k none ≡ get_or block_of k none) ⊎ ((get_or (set after n block) k none ≡ block) × ((i : ℕ) × (slice_get (followed.chain ++ n ∷ []) i ≡ Some k)))) [
            | inl e ↦ inr (ap (λ j. get_or (set after n block) j none) e ∙ here, (length followed.chain, get_last followed.chain n ∙ ap Some (sym e)))
            | inr d ↦ let same = get_or-set_other after n k block none d in elim (followed.were k) as (λ _. (get_or (set after n block) k none ≡ get_or block_of k none) ⊎ ((get_or (set after n block) k none ≡ block) × ((i : ℕ) × (slice_get (followed.chain ++ n ∷ []) i ≡ Some k)))) [
              | inl was ↦ inl (same ∙ was)
              | inr new ↦ inr (same ∙ new.0, (new.1.0, get_left_some followed.chain (n ∷ []) new.1.0 k new.1.1))
            ]
          ];
          put = λ i k e. elim (cases_eq k n) as (λ _. get_or (set after n block) k none ≡ block) [
            | inl same ↦ ap (λ j. get_or (set after n block) j none) same ∙ here
            | inr d ↦ get_or-set_other after n k block none d ∙ elim (get_push followed.chain n k i e) as (λ _. get_or after k none ≡ block) [ inl was ↦ followed.put i k was | inr new ↦ absurd (d (sym new.1)) ]
          ];
          closed = λ m k g placed. elim (gets_placed none after n block k h other placed) as (λ _. IsPlaced none (set after n block) m × (m ≢ n)) [
            | inl e ↦
                let from : m ≡ node = only_from nodes node n m glued.enters (glued_edge nodes m n (subst (IsGlued nodes m) e g)) in
                let last : (i : ℕ) × (slice_get followed.chain i ≡ Some node) = (length followed.chain - 1, end_stands followed.chain node followed.ends) in
                let node_placed : IsPlaced none after node = λ is. other (sym (followed.put last.0 node last.1) ∙ is) in
                let m_placed : IsPlaced none after m = subst (IsPlaced none after) (sym from) node_placed in
                (keeps_placed none after n block m h other m_placed, λ same. m_placed (ap (λ j. get_or after j none) same ∙ next_unplaced))
            | inr was ↦ let m_placed = (followed.closed m k g was).0 in (keeps_placed none after n block m h other m_placed, λ same. m_placed (ap (λ j. get_or after j none) same ∙ next_unplaced))
          ];
        })

-- ---- the blocks so far

module _ (nodes : List Node) (head node block : ℕ) (lists : List (List ℕ)) (order longer block_of after : List ℕ) (made : AreMade nodes head lists block_of) (block_is : block ≡ length lists) (few : block < length nodes) (first : IsFirst nodes head)
    (followed : IsBlockSoFar nodes head node block order longer block_of after) (last : IsLast nodes node) where
  abbrev no_block : ℕ
  no_block = length nodes

  abbrev more : List (List ℕ)
  more = lists ++ followed.chain ∷ []

  is_number : block ≢ length nodes
  is_number e = omega (arith, e, few)

  same_begin : (chain : List ℕ) (m n : ℕ) → Begins m chain → Begins n chain → n ≡ m
  same_begin [] m n b c = absurd b
  same_begin (k ∷ chain) m n b c = sym c ∙ b

  same_end : (chain : List ℕ) (m n : ℕ) → Ends m chain → Ends n chain → n ≡ m
  same_end [] m n b c = absurd b
  same_end (k ∷ []) m n b c = sym c ∙ b
  same_end (j ∷ k ∷ chain) m n b c = same_end (k ∷ chain) m n b c

  chain_is_block : IsBlock nodes followed.chain
  chain_is_block = record {
    chain = followed.is_chain;
    first = λ n b. subst (IsFirst nodes) (sym (same_begin followed.chain head n followed.begins b)) first;
    last = λ m e. subst (IsLast nodes) (sym (same_end followed.chain node m followed.ends e)) last;
  }

  kept : (n : ℕ) → IsPlaced no_block block_of n → IsPlaced no_block after n
  kept n placed is = elim (followed.were n) as (λ _. ⊥) [ inl was ↦ placed (sym was ∙ is) | inr new ↦ is_number (sym new.0 ∙ is) ]

  stands_before : (b n : ℕ) → StandsIn lists b n → StandsIn more b n
  stands_before b n s = record { list = s.list; listed = get_left_some lists (followed.chain ∷ []) b s.list s.listed; place = s.place; is = s.is }

  stands_last : (i n : ℕ) → slice_get followed.chain i ≡ Some n → StandsIn more block n
  stands_last i n e = record { list = followed.chain; listed = ap (slice_get more) block_is ∙ get_last lists followed.chain; place = i; is = e }

  pub made_more : AreMade nodes (head + 1) (lists ++ followed.chain ∷ []) after
  made_more = record {
    long = followed.long;
    few = omega (arith, length-append lists (followed.chain ∷ []), made.few);
    blocks = λ b list e. elim (get_push lists followed.chain list b e) as (λ _. IsBlock nodes list) [ inl was ↦ made.blocks b list was | inr new ↦ subst (IsBlock nodes) new.1 chain_is_block ];
    under = λ b n list e begins. elim (get_push lists followed.chain list b e) as (λ _. n < head + 1) [
      | inl was ↦ omega (arith, made.under b n list was begins)
      | inr new ↦ omega (arith, same_begin list head n (subst (Begins head) new.1 followed.begins) begins)
    ];
    ascend = λ b c m n early late lt e e' begins begins'.
        elim (get_push lists followed.chain early b e) as (λ _. m < n) [
          | inl was ↦ elim (get_push lists followed.chain late c e') as (λ _. m < n) [
            | inl was' ↦ made.ascend b c m n early late lt was was' begins begins'
            | inr new' ↦ omega (arith, made.under b m early was begins, same_begin late head n (subst (Begins head) new'.1 followed.begins) begins')
          ]
          | inr new ↦ elim (get_push lists followed.chain late c e') as (λ _. m < n) [
            | inl was' ↦ absurd (omega (arith, lt, new.0, slice_get_within lists c late was'))
            | inr new' ↦ absurd (omega (arith, lt, new.0, new'.0))
          ]
        ];
    firsts = λ n lt is. elim (cases_eq n head) as (λ _. IsPlaced no_block after n) [
      | inl e ↦ λ bad. is_number (sym (followed.put 0 head (begins_first followed.chain head followed.begins)) ∙ ap (λ k. get_or after k no_block) (sym e) ∙ bad)
      | inr d ↦ kept n (made.firsts n (omega (arith, lt, d)) is)
    ];
    placed_under = λ n is placed. elim (followed.were n) as (λ _. n < head + 1) [
      | inl was ↦ omega (arith, made.placed_under n is (λ bad. placed (was ∙ bad)))
      | inr new ↦ omega (arith, chain_first nodes followed.chain new.1.0 head n followed.is_chain followed.begins new.1.1 is)
    ];
    closed = λ m n glued placed. (followed.closed m n glued placed).0;
    sound = λ n placed. elim (followed.were n) as (λ _. StandsIn more (get_or after n no_block) n) [
      | inl was ↦ subst (λ b. StandsIn more b n) (sym was) (stands_before (get_or block_of n no_block) n (made.sound n (λ bad. placed (was ∙ bad))))
      | inr new ↦ subst (λ b. StandsIn more b n) (sym new.0) (stands_last new.1.0 n new.1.1)
    ];
    complete = λ b n s. elim (get_push lists followed.chain s.list b s.listed) as (λ _. IsPlaced no_block after n) [
      | inl was ↦ kept n (made.complete b n (record { list = s.list; listed = was; place = s.place; is = s.is }))
      | inr new ↦ λ bad. is_number (sym (followed.put s.place n (subst (λ l. slice_get l s.place ≡ Some n) (sym new.1) s.is)) ∙ bad)
    ];
  }

-- a node that is not the first of its block adds none
pub made_on : (nodes : List Node) (n : ℕ) (lists : List (List ℕ)) (block_of : List ℕ) → AreMade nodes n lists block_of → is_first nodes n ≡ false → AreMade nodes (n + 1) lists block_of
made_on nodes n lists block_of made inner = record {
  long = made.long;
  few = omega (arith, made.few);
  blocks = made.blocks;
  under = λ b k list e begins. omega (arith, made.under b k list e begins);
  ascend = made.ascend;
  firsts = λ k lt is. elim (cases_eq k n) as (λ _. IsPlaced (length nodes) block_of k) [
    | inl e ↦ let before = not_first nodes n inner in absurd (is before.0 (subst (IsGlued nodes before.0) (sym e) before.1))
    | inr d ↦ made.firsts k (omega (arith, lt, d)) is
  ];
  placed_under = λ k is placed. omega (arith, made.placed_under k is placed);
  closed = made.closed;
  sound = made.sound;
  complete = made.complete;
}

-- before the first there are none
pub made_none : (nodes : List Node) (block_of : List ℕ) → length block_of ≡ length nodes → ((n : ℕ) → get_or block_of n (length nodes) ≡ length nodes) → AreMade nodes 0 [] block_of
made_none nodes block_of long empty = record {
  long = long;
  few = omega arith;
  blocks = λ b list e. cc;
  under = λ b n list e begins. cc;
  ascend = λ b c m n early late lt e e' begins begins'. cc;
  firsts = λ n lt is. absurd (omega (arith, lt));
  placed_under = λ n is placed. absurd (placed (empty n));
  closed = λ m n glued placed. absurd (placed (empty n));
  sound = λ n placed. absurd (placed (empty n));
  complete = λ b n s. let e = s.listed in cc;
}

-- a list of equal numbers, read with that number as the default, gives it at every place
get_or_replicate_any : (count number k : ℕ) → get_or (replicate count number) k number ≡ number
get_or_replicate_any zero number k = refl
get_or_replicate_any (suc count) number zero = refl
get_or_replicate_any (suc count) number (suc k) = get_or_replicate_any count number k

-- before the first node nothing is kept
pub kept_none : (nodes : List Node) (order starts block_of : List ℕ) → order ≡ [] → starts ≡ 0 ∷ [] → block_of ≡ replicate (length nodes) (length nodes) → AreStored nodes 0 order starts block_of
kept_none nodes order starts block_of order_is starts_are block_of_is =
    rw (order_is, starts_are, block_of_is) (record {
      starts_are = refl;
      made = made_none nodes (replicate (length nodes) (length nodes)) (length-replicate (length nodes) (length nodes)) (λ n. get_or_replicate_any (length nodes) (length nodes) n);
    })

-- and there is room for all nodes
pub room_none : {A : Type 0} (n : ℕ) (order : Vec ℕ A) (block_of : List ℕ) → vec_len order ≡ 0 → vec_capacity order ≡ n → block_of ≡ replicate n n → HasRoomForUnplaced n order block_of
room_none n order block_of len capacity is = omega (arith, len, capacity, ap (unplaced n) is, all_unplaced n n)

-- a node that is not the first of its block adds nothing
pub kept_on : (nodes : List Node) (n : ℕ) (order starts block_of : List ℕ) → AreStored nodes n order starts block_of → is_first nodes n ≡ false → AreStored nodes (n + 1) order starts block_of
kept_on nodes n order starts block_of kept inner = record { starts_are = kept.starts_are; made = made_on nodes n (parts_at order starts) block_of kept.made inner }

-- a node that is the first of its block adds the nodes of this block
pub kept_more : (nodes : List Node) (head node block : ℕ) (order longer starts more block_of after : List ℕ) → AreStored nodes head order starts block_of → block + 1 ≡ length starts → head < length nodes → is_first nodes head ≡ true
    → IsBlockSoFar nodes head node block order longer block_of after → IsLast nodes node → more ≡ starts ++ length longer ∷ [] → AreStored nodes (head + 1) longer more after
kept_more nodes head node block order longer starts more block_of after kept block_is there first followed last more_is =
    let long = length_cut (length order) order starts kept.starts_are in
    let parts = length-append order followed.chain in
    let end : length longer ≡ length order + length followed.chain = ap length followed.longer_is ∙ parts in
    let lists : parts_at longer more ≡ parts_at order starts ++ followed.chain ∷ [] = ap (λ l. parts_at longer l) more_is ∙ ap (λ e. parts_at longer (starts ++ e ∷ [])) end ∙ ap (λ l. parts_at l (starts ++ (length order + length followed.chain) ∷ [])) followed.longer_is ∙ cut_more order followed.chain starts kept.starts_are in
    record {
      starts_are = subst (AreStarts (length longer)) (sym more_is) (starts_more (length order) (length longer) starts (omega (arith, end)) kept.starts_are);
      made = subst (λ l. AreMade nodes (head + 1) l after) (sym lists)
          (made_more nodes head node block (parts_at order starts) order longer block_of after kept.made (omega (arith, long, block_is)) (omega (arith, long, block_is, kept.made.few, there)) (first_is nodes head first) followed last);
    }

-- ---- all blocks

module _ (nodes : List Node) (lists : List (List ℕ)) (block_of : List ℕ) (made : AreMade nodes (length nodes) lists block_of) where
  chain_next : (chain : List ℕ) (i m n : ℕ) → IsChain nodes chain → ((k : ℕ) → Ends k chain → IsLast nodes k) → slice_get chain i ≡ Some m → IsGlued nodes m n → slice_get chain (suc i) ≡ Some n
  chain_next chain i m n is last e glued = elim (chain_on nodes chain i m is e) as (λ _. slice_get chain (suc i) ≡ Some n) [
    | inl ends ↦ absurd (last m ends n glued)
    | inr next ↦ next.1 ∙ ap Some (only_to nodes m n next.0 glued.leaves (glued_edge nodes m next.0 next.2))
  ]

  on : (m n : ℕ) → IsGlued nodes m n → IsPlaced (length nodes) block_of m → IsPlaced (length nodes) block_of n
  on m n glued placed =
      let s = made.sound m placed in
      let block = made.blocks (get_or block_of m (length nodes)) s.list s.listed in
      made.complete (get_or block_of m (length nodes)) n (record { list = s.list; listed = s.listed; place = suc s.place; is = chain_next s.list s.place m n block.chain block.last s.is glued })

  placed_along : (n : ℕ) (before : List ℕ) → ((m s : ℕ) → HasEdge nodes m s → (1 ≤ s) × (s < length nodes)) → n < length nodes → Trace nodes n before → IsPlaced (length nodes) block_of n
  placed_along n before succs h from_start = made.firsts 0 h (λ m glued. omega (arith, (succs m 0 (glued_edge nodes m 0 glued)).0))
  placed_along n before succs h (goes_on m k earlier trace edge) = elim (cases_Bool (is_first nodes n)) as (λ _. IsPlaced (length nodes) block_of n) [
    | inl first ↦ made.firsts n h (first_is nodes n first)
    | inr inner ↦
        let glued = not_first nodes n inner in
        let same : m ≡ glued.0 = only_from nodes glued.0 n m glued.1.enters edge in
        on glued.0 n glued.1 (subst (IsPlaced (length nodes) block_of) same (placed_along m earlier succs (edge_within nodes m n edge) trace))
  ]

  pub all_stand : ((m s : ℕ) → HasEdge nodes m s → (1 ≤ s) × (s < length nodes)) → ((n : ℕ) → n < length nodes → Reached nodes n) → (n : ℕ) → n < length nodes → StandsIn lists (get_or block_of n (length nodes)) n
  all_stand succs reached n h = let trace = reached_trace nodes n (reached n h) in made.sound n (placed_along n trace.0 succs h trace.1)

  pub all_made : ((m s : ℕ) → HasEdge nodes m s → (1 ≤ s) × (s < length nodes)) → ((n : ℕ) → n < length nodes → Reached nodes n) → IsBlocks nodes lists
  all_made succs reached = record {
    blocks = made.blocks;
    ascend = made.ascend;
    every = λ n h. (get_or block_of n (length nodes), all_stand succs reached n h);
  }

-- at the end the parts are as `Blocks` keeps them
pub parts_made : (vars : List (List ℕ)) (received : List ℕ) (nodes : List Node) (order starts block_of : List ℕ) → IsGraph vars received nodes → AreStored nodes (length nodes) order starts block_of → AreParts order starts block_of
parts_made vars received nodes order starts block_of graph kept = record {
  starts_are = kept.starts_are;
  stands = λ n h. subst (λ b. StandsIn (parts_at order starts) b n) (get_or_default block_of n (length nodes) 0 h)
      (all_stand nodes (parts_at order starts) block_of kept.made (λ m s edge. graph.can.succs m edge.0 s edge.1) graph.reached n (omega (arith, h, kept.made.long)));
}

-- and are the blocks of the graph
pub blocks_made : (vars : List (List ℕ)) (received : List ℕ) (nodes : List Node) (order starts block_of : List ℕ) → IsGraph vars received nodes → AreStored nodes (length nodes) order starts block_of → AreBlocksOf nodes (record { nodes = length block_of; lists = parts_at order starts })
blocks_made vars received nodes order starts block_of graph kept = record {
  count = kept.made.long;
  are = all_made nodes (parts_at order starts) block_of kept.made (λ m s edge. graph.can.succs m edge.0 s edge.1) graph.reached;
}

-- the bounds of the part of an index, and the part
pub ends_at : (end b : ℕ) (order starts : List ℕ) → AreStarts end starts → b + 1 < length starts → (get_or starts b 0 ≤ get_or starts (b + 1) 0) × (get_or starts (b + 1) 0 ≤ end) × (slice_get (parts_at order starts) b ≡ Some (slice_range order (get_or starts b 0) (get_or starts (b + 1) 0)))
ends_at end b order starts are h =
    let e : suc b ≡ b + 1 = omega arith in
    let h' : suc b < length starts = omega (arith, h) in
    let bounds = part_bounds end b starts are h' in
    subst (λ k. (get_or starts b 0 ≤ get_or starts k 0) × (get_or starts k 0 ≤ end) × (slice_get (parts_at order starts) b ≡ Some (slice_range order (get_or starts b 0) (get_or starts k 0)))) e (bounds.0, bounds.1, part_is end b order starts are h')

-- the nodes that are glued are nodes of the graph
pub glued_within : (vars : List (List ℕ)) (received : List ℕ) (nodes : List Node) (m n : ℕ) → IsGraph vars received nodes → IsGlued nodes m n → n < length nodes
glued_within vars received nodes m n graph glued = let edge = glued_edge nodes m n glued in (graph.can.succs m edge.0 n edge.1).1
