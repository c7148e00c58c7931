-- The nodes of an editor, with their edges: what each of its edits makes of them.
use Rattle.std.proofs.Common.{◌≡◌, ℕ, zero, suc, ◌+◌, ◌<◌, ◌≤◌, Bool, true, false, ◌||◌, cond, eqb, ltb, nat_lt, List, [], ◌∷◌, ◌++◌, map, length, take, drop, set, slice_get, Option, Some, None, option_map, ◌⊎◌, inl, inr, refl, sym, ap, ◌∙◌, subst, arith, eq-eqb, append_assoc}
use Rattle.std.proofs.lemmas.Bool.{cases_eq, cases_lt, ne_eqb, lt-ltb, le-ltb}
use Rattle.std.proofs.lemmas.List.{append-nil, drop_all, take_all, length-map, length-set, length-take-le, set-set}
use Rattle.std.specs.Option.{option_or}
use Rattle.std.proofs.Math.Seq.{drop-length, take-length, take-suc-set}
use Rattle.flow_graph.specs.ListLaws.{get_take, set_here, set_elsewhere}
use Rattle.std.proofs.lemmas.Option.{slice_get_within, same_Some}
use Rattle.mir_base.specs.declared.instructions.Rhs.{Rhs}
use Rattle.mir_base.specs.Shapes.{AllBelow, rhs_vars}
use Rattle.node_list.specs.Lists.{Lists, inserted_before, list_at, times_in, times, is_listed, after_in, node_after}
use Rattle.node_list.specs.ListedLaws.{none_listed, some_listed}
use Rattle.flow_graph.specs.declared.nodes.Node.{Node}
use Rattle.flow_graph.specs.declared.nodes.Node.TheVariants.{Assign}
use Rattle.graph_edit.specs.Edited.{number_or_none, leads, edited_from, HoldsEdits}
use Rattle.graph_edit.specs.Editing.{past, put_before, change_at}
use Rattle.graph_edit.specs.EditingLaws.{put_graph, change_graph}
use Rattle.flow_graph.specs.NodeLaws.{redirected_same, redirected_twice, redirected_none}
use Rattle.graph_edit.specs.ChangeLaws.{redirected_changed, changed_succs}
use Rattle.flow_graph.specs.Graphs.{node_succs, succs_of, IsEdge, IsGraph, AllWithin}
use Rattle.graph_edit.specs.InsertionNodes.{edge_node}
use Rattle.graph_edit.specs.Insertions.{Change, changed, ChangeBelow}
use Rattle.flow_graph.specs.Retained.{redirected}
use Rattle.flow_graph.specs.Paths.{Ends}

-- ---- lists

-- there are equally many nodes
pub edited_length : (l : List (List ℕ)) (m : ℕ) (nodes : List Node) → length (edited_from l m nodes) ≡ length nodes
edited_length l m [] = refl
edited_length l m (node ∷ nodes) = ap suc (edited_length l (suc m) nodes)

-- the edited nodes of two lists joined are joined, the second numbered on from the first
edited_append : (l : List (List ℕ)) (m : ℕ) (xs ys : List Node) → edited_from l m (xs ++ ys) ≡ edited_from l m xs ++ edited_from l (m + length xs) ys
edited_append l m [] ys = let same : m ≡ m + 0 = omega arith in ap (λ k. edited_from l k ys) same
edited_append l m (x ∷ xs) ys =
    let same : suc m + length xs ≡ m + length (x ∷ xs) = omega arith in
    ap (λ zs. redirected (leads l m) x ∷ zs) (edited_append l (suc m) xs ys ∙ ap (λ k. edited_from l (suc m) xs ++ edited_from l k ys) same)

-- a list of mapped lists is the mapped list, where an empty list stays empty
list_map : (f : List ℕ → List ℕ) (l : List (List ℕ)) (s : ℕ) → f [] ≡ [] → list_at (map f l) s ≡ f (list_at l s)
list_map f [] s empty = sym empty
list_map f (xs ∷ l) zero empty = refl
list_map f (xs ∷ l) (suc s) empty = list_map f l s empty

-- ---- a number put before another in the lists

module _ (node new : ℕ) where
  abbrev put : List ℕ → List ℕ
  put = inserted_before node new

  head_put : (xs : List ℕ) → slice_get (put xs) 0 ≡ option_map (past node new) (slice_get xs 0)
  head_put [] = refl
  head_put (x ∷ xs) = chosen (eqb x node)
    where
      chosen : (b : Bool) → slice_get (cond b (new ∷ x ∷ put xs) (x ∷ put xs)) 0 ≡ Some (cond b new x)
      chosen true = refl
      chosen false = refl

  after_put : (k : ℕ) → (new ≡ k → ⊥) → (xs : List ℕ) → after_in k (put xs) ≡ option_map (past node new) (after_in k xs)
  after_put k differ [] = refl
  after_put k differ (x ∷ xs) = chosen (after_put k differ xs) (eqb x node)
    where
      plain : after_in k (put xs) ≡ option_map (past node new) (after_in k xs) → (b : Bool) → cond b (slice_get (put xs) 0) (after_in k (put xs)) ≡ option_map (past node new) (cond b (slice_get xs 0) (after_in k xs))
      plain rest true = head_put xs
      plain rest false = rest

      chosen : after_in k (put xs) ≡ option_map (past node new) (after_in k xs) → (b : Bool) → after_in k (cond b (new ∷ x ∷ put xs) (x ∷ put xs)) ≡ option_map (past node new) (cond (eqb x k) (slice_get xs 0) (after_in k xs))
      chosen rest true = ap (λ b. cond b (slice_get (x ∷ put xs) 0) (after_in k (x ∷ put xs))) (ne_eqb new k differ) ∙ plain rest (eqb x k)
      chosen rest false = plain rest (eqb x k)

  first_map : (a b : Option ℕ) → option_or (option_map (past node new) a) (option_map (past node new) b) ≡ option_map (past node new) (option_or a b)
  first_map None b = refl
  first_map (Some x) b = refl

  after_puts : (k : ℕ) → (new ≡ k → ⊥) → (l : List (List ℕ)) → node_after (map put l) k ≡ option_map (past node new) (node_after l k)
  after_puts k differ [] = refl
  after_puts k differ (xs ∷ l) =
      ap (λ o. option_or o (node_after (map put l) k)) (after_put k differ xs)
      ∙ ap (option_or (option_map (past node new) (after_in k xs))) (after_puts k differ l)
      ∙ first_map (after_in k xs) (node_after l k)

  -- after the new number comes the other
  module _ (apart : node ≡ new → ⊥) where
    after_new : (xs : List ℕ) → times_in new xs ≡ 0 → ((0 < times_in node xs) × (after_in new (put xs) ≡ Some node)) ⊎ ((times_in node xs ≡ 0) × (after_in new (put xs) ≡ None))
    after_new [] none = inr (refl, refl)
    after_new (x ∷ xs) none = elim (cases_eq x new) [
      | inl is ↦ let one : times_in new (x ∷ xs) ≡ 1 + times_in new xs = ap (λ b. cond b 1 0 + times_in new xs) (eq-eqb x new is) in absurd (omega (arith, one, none))
      | inr other ↦
          let fewer : times_in new (x ∷ xs) ≡ 0 + times_in new xs = ap (λ b. cond b 1 0 + times_in new xs) (ne_eqb x new other) in
          elim (cases_eq x node) [
            | inl is ↦
                let one : times_in node (x ∷ xs) ≡ 1 + times_in node xs = ap (λ b. cond b 1 0 + times_in node xs) (eq-eqb x node is) in
                inl (omega (arith, one), ap (λ b. after_in new (cond b (new ∷ x ∷ put xs) (x ∷ put xs))) (eq-eqb x node is) ∙ ap (λ b. cond b (slice_get (x ∷ put xs) 0) (after_in new (x ∷ put xs))) (eq-eqb new new refl) ∙ ap Some is)
            | inr differ ↦
                let same : times_in node (x ∷ xs) ≡ 0 + times_in node xs = ap (λ b. cond b 1 0 + times_in node xs) (ne_eqb x node differ) in
                let skip : after_in new (put (x ∷ xs)) ≡ after_in new (put xs) = ap (λ b. after_in new (cond b (new ∷ x ∷ put xs) (x ∷ put xs))) (ne_eqb x node differ) ∙ ap (λ b. cond b (slice_get (put xs) 0) (after_in new (put xs))) (ne_eqb x new other) in
                elim (after_new xs (omega (arith, none, fewer))) [
                  | inl some ↦ inl (omega (arith, some.0, same), skip ∙ some.1)
                  | inr out ↦ inr (omega (arith, out.0, same), skip ∙ out.1)
                ]
          ]
    ]

    after_news : (l : List (List ℕ)) → times l new ≡ 0 → 0 < times l node → node_after (map put l) new ≡ Some node
    after_news [] none there = absurd (omega (arith, there))
    after_news (xs ∷ l) none there = elim (after_new xs (omega (arith, none))) [
      | inl some ↦ ap (λ o. option_or o (node_after (map put l) new)) some.1
      | inr out ↦ ap (λ o. option_or o (node_after (map put l) new)) out.1 ∙ after_news l (omega (arith, none)) (omega (arith, there, out.0))
    ]

  ends_put : (s : ℕ) (xs : List ℕ) → Ends s xs → Ends s (put xs)
  ends_put s [] ends = ends
  ends_put s (x ∷ []) ends = chosen (eqb x node)
    where
      chosen : (b : Bool) → Ends s (cond b (new ∷ x ∷ []) (x ∷ []))
      chosen true = ends
      chosen false = ends
  ends_put s (x ∷ y ∷ xs) ends = chosen (ends_put s (y ∷ xs) ends) (eqb x node)
    where
      more : (k : ℕ) (ys : List ℕ) → Ends s ys → Ends s (k ∷ ys)
      more k [] e = absurd e
      more k (z ∷ ys) e = e

      chosen : Ends s (put (y ∷ xs)) → (b : Bool) → Ends s (cond b (new ∷ x ∷ put (y ∷ xs)) (x ∷ put (y ∷ xs)))
      chosen rest true = more new (x ∷ put (y ∷ xs)) (more x (put (y ∷ xs)) rest)
      chosen rest false = more x (put (y ∷ xs)) rest

-- a list that ends has a first item
pub ends_head : (s : ℕ) (xs : List ℕ) → Ends s xs → (k : ℕ) × (slice_get xs 0 ≡ Some k)
ends_head s [] ends = absurd ends
ends_head s (x ∷ xs) ends = (x, refl)

-- where there is a number, it may be mapped before or after it is read
mapped_number : (f : ℕ → ℕ) (o : Option ℕ) (k : ℕ) → o ≡ Some k → number_or_none (option_map f o) ≡ f (number_or_none o)
mapped_number f o k e = ap (λ q. number_or_none (option_map f q)) e ∙ ap (λ q. f (number_or_none q)) (sym e)

-- ---- where edges lead

-- an edge of an old node leads to the first of a list
pub leads_old : (l : List (List ℕ)) (m s : ℕ) → m < length l → leads l m s ≡ number_or_none (slice_get (list_at l s) 0)
leads_old l m s lt = ap (λ b. cond b (number_or_none (slice_get (list_at l s) 0)) (number_or_none (node_after l m))) (lt-ltb m (length l) lt)

-- an edge of a new node leads to the next of its list
pub leads_new : (l : List (List ℕ)) (m s : ℕ) → length l ≤ m → leads l m s ≡ number_or_none (node_after l m)
leads_new l m s le = ap (λ b. cond b (number_or_none (slice_get (list_at l s) 0)) (number_or_none (node_after l m))) (le-ltb m (length l) le)

-- nodes whose edges lead elsewhere
edited_past : (l l' : List (List ℕ)) (to : ℕ → ℕ) (m : ℕ) (nodes : List Node) → ((j slot s : ℕ) → IsEdge nodes j slot s → leads l' (m + j) s ≡ to (leads l (m + j) s)) → edited_from l' m nodes ≡ map (redirected to) (edited_from l m nodes)
edited_past l l' to m [] same = refl
edited_past l l' to m (node ∷ nodes) same =
    let none : m + 0 ≡ m = omega arith in
    let own : (slot s : ℕ) → slice_get (node_succs node) slot ≡ Some s → leads l' m s ≡ to (leads l m s) = λ slot s at. subst (λ k. leads l' k s ≡ to (leads l k s)) none (same 0 slot s at) in
    let rest = edited_past l l' to (suc m) nodes (λ j slot s edge. (let more : m + suc j ≡ suc m + j = omega arith in subst (λ k. leads l' k s ≡ to (leads l k s)) more (same (suc j) slot s edge))) in
    ap (λ n. n ∷ edited_from l' (suc m) nodes) (redirected_same (leads l' m) (λ s. to (leads l m s)) node own ∙ sym (redirected_twice (leads l m) to node))
    ∙ ap (λ ns. redirected to (redirected (leads l m) node) ∷ ns) rest

-- nodes whose edges lead where they say
edited_none : (l : List (List ℕ)) (m : ℕ) (nodes : List Node) → ((j slot s : ℕ) → IsEdge nodes j slot s → leads l (m + j) s ≡ s) → edited_from l m nodes ≡ nodes
edited_none l m [] same = refl
edited_none l m (node ∷ nodes) same =
    let none : m + 0 ≡ m = omega arith in
    let own : (slot s : ℕ) → slice_get (node_succs node) slot ≡ Some s → leads l m s ≡ s = λ slot s at. subst (λ k. leads l k s ≡ s) none (same 0 slot s at) in
    let rest = edited_none l (suc m) nodes (λ j slot s edge. (let more : m + suc j ≡ suc m + j = omega arith in subst (λ k. leads l k s ≡ s) more (same (suc j) slot s edge))) in
    ap (λ n. n ∷ edited_from l (suc m) nodes) (redirected_none (leads l m) node own) ∙ ap (λ ns. node ∷ ns) rest

-- one node changed
edited_changed : (l : List (List ℕ)) (m used : ℕ) (nodes : List Node) (n : ℕ) (change : Change) (old : Node) → slice_get nodes n ≡ Some old → n < used → edited_from l m (take used (set nodes n (changed change old))) ≡ change_at n change (edited_from l m (take used nodes))
edited_changed l m used [] n change old at lt = cc
edited_changed l m zero (node ∷ nodes) n change old at lt = absurd (omega (arith, lt))
edited_changed l m (suc used) (node ∷ nodes) zero change old at lt =
    ap (λ q. redirected (leads l m) (changed change q) ∷ edited_from l (suc m) (take used nodes)) (sym (same_Some node old at))
    ∙ ap (λ q. q ∷ edited_from l (suc m) (take used nodes)) (redirected_changed (leads l m) change node)
edited_changed l m (suc used) (node ∷ nodes) (suc n) change old at lt = ap (λ ns. redirected (leads l m) node ∷ ns) (edited_changed l (suc m) used nodes n change old at (omega (arith, lt)))

-- ---- an edge of the used nodes is one of the nodes

-- an edge of a used node is one of the nodes taken
taken_edge : (nodes : List Node) (used m slot s : ℕ) → m < used → IsEdge nodes m slot s → IsEdge (take used nodes) m slot s
taken_edge nodes used m slot s lt edge = ap (λ o. slice_get (succs_of o) slot) (get_take nodes used m lt) ∙ edge

-- and the other way round
edge_taken : (nodes : List Node) (used m slot s : ℕ) → m < used → IsEdge (take used nodes) m slot s → IsEdge nodes m slot s
edge_taken nodes used m slot s lt edge = ap (λ o. slice_get (succs_of o) slot) (sym (get_take nodes used m lt)) ∙ edge

-- ---- one by one

-- a vector's items after a write to all of them
pub all_written : (len : ℕ) (xs ws : List Node) → len ≡ length xs → length ws ≡ length xs → take len (ws ++ drop (length ws) xs) ≡ ws
all_written len xs ws e same = rw (drop_all (length ws) xs (omega (arith, same)), append-nil ws) (take_all len ws (omega (arith, e, same)))

-- the nodes of which those below number n have their edges
abbrev pub led_below : List (List ℕ) → ℕ → ℕ → List Node → List Node
led_below l m n nodes = edited_from l m (take n nodes) ++ drop n nodes

-- one more node has its edges
pub led_next : (l : List (List ℕ)) (m n : ℕ) (nodes : List Node) (node : Node) → slice_get nodes n ≡ Some node
    → set (led_below l m n nodes) n (redirected (leads l (m + n)) node) ≡ led_below l m (suc n) nodes
led_next l m n [] node at = cc
led_next l m zero (first ∷ nodes) node at =
    let same : m + 0 ≡ m = omega arith in
    ap (λ k. redirected (leads l k) node ∷ nodes) same ∙ ap (λ q. redirected (leads l m) q ∷ nodes) (sym (same_Some first node at))
led_next l m (suc n) (first ∷ nodes) node at =
    let same : m + suc n ≡ suc m + n = omega arith in
    ap (λ rest. redirected (leads l m) first ∷ rest) (ap (λ k. set (led_below l (suc m) n nodes) n (redirected (leads l k) node)) same ∙ led_next l (suc m) n nodes node at)

-- a node that has not got them yet
pub led_get : (l : List (List ℕ)) (m n : ℕ) (nodes : List Node) → slice_get (led_below l m n nodes) n ≡ slice_get nodes n
led_get l m zero [] = refl
led_get l m (suc n) [] = refl
led_get l m zero (first ∷ nodes) = refl
led_get l m (suc n) (first ∷ nodes) = led_get l (suc m) n nodes

-- all have them
pub led_whole : (l : List (List ℕ)) (nodes : List Node) → led_below l 0 (length nodes) nodes ≡ edited_from l 0 nodes
led_whole l nodes =
    ap (λ rest. edited_from l 0 (take (length nodes) nodes) ++ rest) (drop-length nodes)
    ∙ append-nil (edited_from l 0 (take (length nodes) nodes))
    ∙ ap (edited_from l 0) (take-length nodes)

-- ---- one put

-- a number is below used + 1 where it is below used or equal to it
joined_lt : (n used : ℕ) → nat_lt n used || eqb n used ≡ nat_lt n (suc used)
joined_lt n used = elim (cases_lt n used) [
  | inl lt ↦ ap (λ b. b || eqb n used) (lt-ltb n used lt) ∙ sym (lt-ltb n (suc used) (omega (arith, lt)))
  | inr ge ↦ elim (cases_eq n used) [
    | inl is ↦ ap (λ b. b || eqb n used) (le-ltb n used ge) ∙ eq-eqb n used is ∙ sym (lt-ltb n (suc used) (omega (arith, is)))
    | inr differ ↦ ap (λ b. b || eqb n used) (le-ltb n used ge) ∙ ne_eqb n used differ ∙ sym (le-ltb n (suc used) (omega (arith, ge, differ)))
  ]
]

module _ (vars : List (List ℕ)) (received : List ℕ) (nodes : List Node) (olds used : ℕ) (links : Lists) (held : HoldsEdits vars received nodes olds used links) where
  abbrev edited : List Node
  edited = edited_from links.lists 0 (take used nodes)

  pub used_length : length (edited_from links.lists 0 (take used nodes)) ≡ used
  used_length = edited_length links.lists 0 (take used nodes) ∙ length-take-le used nodes held.room

  pub listed_below : (n : ℕ) → n < used → is_listed links.lists n ≡ true
  listed_below n lt = held.listed n ∙ lt-ltb n used lt

  pub unlisted : is_listed links.lists used ≡ false
  unlisted = held.listed used ∙ le-ltb used used (omega arith)

  module _ (node x : ℕ) (rhs : Rhs) (room : used < length nodes) (some : 1 ≤ node) (within : node < used) where
    abbrev lists' : List (List ℕ)
    lists' = map (inserted_before node used) links.lists

    long : length lists' ≡ length links.lists
    long = length-map links.lists (inserted_before node used)

    old_leads : (m s : ℕ) → m < olds → s < olds → leads lists' m s ≡ past node used (leads links.lists m s)
    old_leads m s lt s_in =
        let head = ends_head s (list_at links.lists s) (held.ends s s_in) in
        leads_old lists' m s (omega (arith, long, lt, held.count))
        ∙ ap (λ xs. number_or_none (slice_get xs 0)) (list_map (inserted_before node used) links.lists s refl)
        ∙ ap number_or_none (head_put node used (list_at links.lists s))
        ∙ mapped_number (past node used) (slice_get (list_at links.lists s) 0) head.0 head.1
        ∙ ap (past node used) (sym (leads_old links.lists m s (omega (arith, lt, held.count))))

    new_leads : (m s : ℕ) → olds ≤ m → m < used → leads lists' m s ≡ past node used (leads links.lists m s)
    new_leads m s ge lt =
        let next = held.follows m ge lt in
        leads_new lists' m s (omega (arith, long, ge, held.count))
        ∙ ap number_or_none (after_puts node used m (λ e. omega (arith, e, lt)) links.lists)
        ∙ mapped_number (past node used) (node_after links.lists m) next.0 next.1
        ∙ ap (past node used) (sym (leads_new links.lists m s (omega (arith, ge, held.count))))

    own_next : node_after lists' used ≡ Some node
    own_next = after_news node used (λ e. omega (arith, e, within)) links.lists (none_listed links.lists used unlisted) (some_listed links.lists node (listed_below node within))

    pub edited_put : edited_from (map (inserted_before node used) links.lists) 0 (take (suc used) (set nodes used (Assign x rhs node))) ≡ put_before node x rhs (edited_from links.lists 0 (take used nodes))
    edited_put =
        let front = take used nodes in
        let count : 0 + length front ≡ used = omega (arith, length-take-le used nodes held.room) in
        let olds_are = edited_past links.lists lists' (past node used) 0 front (λ j slot s edge.
        (let within_front : j < used = omega (arith, length-take-le used nodes held.room, slice_get_within front j _ (edge_node front j slot s edge).1) in
        let number : j ≡ 0 + j = omega arith in
        subst (λ k. leads lists' k s ≡ past node used (leads links.lists k s)) number (elim (cases_lt j olds) [
          | inl old ↦ old_leads j s old (held.targets j slot s old (edge_taken nodes used j slot s within_front edge))
          | inr ge ↦ new_leads j s ge within_front
        ]))) in
        let last : redirected (leads lists' (0 + length front)) (Assign x rhs node) ≡ Assign x rhs node = ap (Assign x rhs) (ap (λ k. leads lists' k node) count ∙ leads_new lists' used node (omega (arith, long, held.count, held.some)) ∙ ap number_or_none own_next) in
        ap (edited_from lists' 0) (take-suc-set nodes used (Assign x rhs node) room)
        ∙ edited_append lists' 0 front (Assign x rhs node ∷ [])
        ∙ ap (λ l. l ++ edited_from lists' (0 + length front) (Assign x rhs node ∷ [])) olds_are
        ∙ ap (λ n. map (redirected (past node used)) (edited_from links.lists 0 front) ++ n ∷ []) last
        ∙ ap (λ k. map (redirected (past node k)) (edited_from links.lists 0 front) ++ Assign x rhs node ∷ []) (sym used_length)

    pub held_put : (links' : Lists) → links'.nodes ≡ links.nodes → links'.lists ≡ map (inserted_before node used) links.lists → ((n : ℕ) → is_listed links'.lists n ≡ (is_listed links.lists n || eqb n used)) → x < length vars → AllBelow (length vars) (rhs_vars rhs)
        → HoldsEdits vars received (set nodes used (Assign x rhs node)) olds (suc used) links'
    held_put links' same_nodes are joins var below = record {
      room = omega (arith, room, length-set nodes used (Assign x rhs node));
      links_room = same_nodes ∙ held.links_room ∙ sym (length-set nodes used (Assign x rhs node));
      count = ap length are ∙ long ∙ held.count;
      some = omega (arith, held.some);
      listed = λ n. joins n ∙ ap (λ b. b || eqb n used) (held.listed n) ∙ joined_lt n used;
      ends = λ s lt. subst (Ends s) (sym (ap (λ l. list_at l s) are ∙ list_map (inserted_before node used) links.lists s refl)) (ends_put node used s (list_at links.lists s) (held.ends s lt));
      follows = λ m ge lt. elim (cases_lt m used) [
        | inl old ↦
            let next = held.follows m ge old in
            (past node used next.0, ap (λ l. node_after l m) are ∙ after_puts node used m (λ e. omega (arith, e, old)) links.lists ∙ ap (option_map (past node used)) next.1)
        | inr end ↦ let is : m ≡ used = omega (arith, end, lt) in (node, ap (λ l. node_after l m) are ∙ ap (node_after lists') is ∙ own_next)
      ];
      targets = λ m slot s lt edge. held.targets m slot s lt (ap (λ o. slice_get (succs_of o) slot) (sym (set_elsewhere nodes used m (Assign x rhs node) (λ e. omega (arith, e, lt, held.some)))) ∙ edge);
      graph = subst (IsGraph vars received) (sym (ap (λ l. edited_from l 0 (take (suc used) (set nodes used (Assign x rhs node)))) are ∙ edited_put)) (put_graph vars received edited held.graph node x rhs some (omega (arith, within, used_length)) var below);
    }

  -- ---- one change

  module _ (n : ℕ) (change : Change) (old between : Node) (at : slice_get nodes n ≡ Some old) (within : n < used) where
    pub edited_change : edited_from links.lists 0 (take used (set (set nodes n between) n (changed change old))) ≡ change_at n change (edited_from links.lists 0 (take used nodes))
    edited_change = ap (λ l. edited_from links.lists 0 (take used l)) (set-set nodes n between (changed change old)) ∙ edited_changed links.lists 0 used nodes n change old at within

    still_edge : (m slot s : ℕ) → IsEdge (set nodes n (changed change old)) m slot s → IsEdge nodes m slot s
    still_edge m slot s edge = elim (cases_eq m n) [
      | inl is ↦
          ap (λ k. slice_get (succs_of (slice_get nodes k)) slot) is
          ∙ ap (λ o. slice_get (succs_of o) slot) at
          ∙ ap (λ l. slice_get l slot) (sym (changed_succs change old))
          ∙ ap (λ o. slice_get (succs_of o) slot) (sym (set_here nodes n (changed change old) (slice_get_within nodes n old at)))
          ∙ ap (λ k. slice_get (succs_of (slice_get (set nodes n (changed change old)) k)) slot) (sym is)
          ∙ edge
      | inr differ ↦ ap (λ o. slice_get (succs_of o) slot) (sym (set_elsewhere nodes n m (changed change old) differ)) ∙ edge
    ]

    pub held_change : ChangeBelow (length vars) change → HoldsEdits vars received (set (set nodes n between) n (changed change old)) olds used links
    held_change fits =
        let twice = set-set nodes n between (changed change old) in
        let same = length-set nodes n (changed change old) in
        subst (λ l. HoldsEdits vars received l olds used links) (sym twice) (record {
          room = omega (arith, held.room, same);
          links_room = held.links_room ∙ sym same;
          count = held.count;
          some = held.some;
          listed = held.listed;
          ends = held.ends;
          follows = held.follows;
          targets = λ m slot s lt edge. held.targets m slot s lt (still_edge m slot s edge);
          graph = subst (IsGraph vars received) (sym (edited_changed links.lists 0 used nodes n change old at within)) (change_graph vars received edited n change held.graph fits);
        })

-- ---- the beginning

-- where each list has its own number alone, every edge leads where it led
pub edited_open : (nodes : List Node) (l : List (List ℕ)) → AllWithin nodes → length l ≡ length nodes → ((s : ℕ) → s < length nodes → list_at l s ≡ s ∷ []) → edited_from l 0 nodes ≡ nodes
edited_open nodes l within count each = edited_none l 0 nodes (λ j slot s edge. (let j_in = slice_get_within nodes j _ (edge_node nodes j slot s edge).1 in
    leads_old l (0 + j) s (omega (arith, j_in, count)) ∙ ap (λ xs. number_or_none (slice_get xs 0)) (each s (within j slot s edge))))

-- so a new editor holds the graph
pub held_open : (vars : List (List ℕ)) (received : List ℕ) (nodes all : List Node) (links : Lists) → take (length nodes) all ≡ nodes → length nodes ≤ length all → links.nodes ≡ length all → length links.lists ≡ length nodes → ((s : ℕ) → s < length nodes → list_at links.lists s ≡ s ∷ []) → ((n : ℕ) → is_listed links.lists n ≡ nat_lt n (length nodes)) → IsGraph vars received nodes
    → HoldsEdits vars received all (length nodes) (length nodes) links
held_open vars received nodes all links taken room links_room count each listed graph = record {
  room = room;
  links_room = links_room;
  count = count;
  some = omega arith;
  listed = listed;
  ends = λ s lt. subst (Ends s) (sym (each s lt)) refl;
  follows = λ m ge lt. absurd (omega (arith, ge, lt));
  targets = λ m slot s lt edge. (graph.can.succs m slot s (subst (λ l. IsEdge l m slot s) taken (taken_edge all (length nodes) m slot s lt edge))).1;
  graph = subst (IsGraph vars received) (sym (ap (edited_from links.lists 0) taken ∙ edited_open nodes links.lists (λ m slot s edge. (graph.can.succs m slot s edge).1) count each)) graph;
}
