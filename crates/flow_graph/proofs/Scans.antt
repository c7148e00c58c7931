-- A scan for the first open successor, and the next item of a plan.
use Rattle.std.proofs.Common.{◌≡◌, ℕ, zero, suc, ◌+◌, ◌-◌, ◌<◌, ◌≤◌, Bool, true, false, cond, List, [], ◌∷◌, ◌++◌, length, take, drop, reverse, replicate, eqb, ◌||◌, slice_set, inl, inr, slice_get, slice_index_or, Option, Some, None, option_map, is_some, refl, sym, ap, ◌∙◌, subst, arith}
use Rattle.std.proofs.lemmas.Option.{slice_get_within, slice_get_past}
use Rattle.std.proofs.lemmas.List.{reverse-append, take-append-drop, take-append-le, take_all, length-append, length-replicate, length-set, get_or-replicate, get_or-set_same, get_or-set_other}
use Rattle.std.proofs.lemmas.Bool.Decides.{eqb_tells}
use Rattle.flow_graph.specs.ListLaws.{take_one}
use Rattle.flow_graph.specs.declared.plan.Item.{Item}
use Rattle.flow_graph.specs.declared.plan.Item.TheVariants.{Placed, Jump}
use Rattle.flow_graph.specs.declared.nodes.Node.{Node}
use Rattle.flow_graph.specs.declared.nodes.Node.TheVariants.{Start, Skip, Assign, Print, Guard, Call, Test, Return}
use Rattle.flow_graph.specs.Graphs.{AllWithin, IsBelow, following, succs_of}
use Rattle.std.specs.Option.{option_or}
use Rattle.flow_graph.specs.Plans.{after_node, first_open, is_placed, new_stretch, next_item, open_at}
use Rattle.flow_graph.specs.ReachWalks.{unmarked}
use Rattle.flow_graph.specs.Placing.{ArePlaced, ItemsWithin, follower_of, open_by, open_by_item, open_if, open_item, AreClosed, FirstOpenIsAt, open_end, placed_after, plan_weight, taken_of}
use Rattle.flow_graph.specs.MarkLaws.{unmarked_set}
use Rattle.flow_graph.specs.PlanLaws.{fresh}
use Rattle.mir_base.specs.ItemLaws.{some_of, none_of}

-- the `taken` of a Test is a node
pub taken_within : (nodes : List Node) (n : ℕ) (o : Option Node) → AllWithin nodes → slice_get nodes n ≡ o → IsBelow (length nodes) (taken_of o)
taken_within nodes n None within e = tt
taken_within nodes n (Some (Start next)) within e = tt
taken_within nodes n (Some (Skip next)) within e = tt
taken_within nodes n (Some (Assign x rhs next)) within e = tt
taken_within nodes n (Some (Print a next)) within e = tt
taken_within nodes n (Some (Guard test number next)) within e = tt
taken_within nodes n (Some (Call into unit operands next)) within e = tt
taken_within nodes n (Some (Test test taken other)) within e = within n 0 taken (ap (λ o. slice_get (succs_of o) 0) e)
taken_within nodes n (Some (Return a)) within e = tt

-- the node that follows is a node
pub following_within : (nodes : List Node) (n : ℕ) (o : Option Node) → AllWithin nodes → slice_get nodes n ≡ o → IsBelow (length nodes) (following o)
following_within nodes n None within e = tt
following_within nodes n (Some (Start next)) within e = within n 0 next (ap (λ o. slice_get (succs_of o) 0) e)
following_within nodes n (Some (Skip next)) within e = within n 0 next (ap (λ o. slice_get (succs_of o) 0) e)
following_within nodes n (Some (Assign x rhs next)) within e = within n 0 next (ap (λ o. slice_get (succs_of o) 0) e)
following_within nodes n (Some (Print a next)) within e = within n 0 next (ap (λ o. slice_get (succs_of o) 0) e)
following_within nodes n (Some (Guard test number next)) within e = within n 0 next (ap (λ o. slice_get (succs_of o) 0) e)
following_within nodes n (Some (Call into unit operands next)) within e = within n 0 next (ap (λ o. slice_get (succs_of o) 0) e)
following_within nodes n (Some (Test test taken other)) within e = within n 1 other (ap (λ o. slice_get (succs_of o) 1) e)
following_within nodes n (Some (Return a)) within e = tt

-- so is the one that follows an item
pub follower_within : (nodes : List Node) (item : Item) → AllWithin nodes → IsBelow (length nodes) (follower_of nodes item)
follower_within nodes (Placed n) within = following_within nodes n (slice_get nodes n) within refl
follower_within nodes (Jump n) within = tt

-- by the marks of placed nodes a taken successor is open where it is by the plan
open_by_at : (nodes : List Node) (placed : List Bool) (plan : List Item) (o : Option Node) → ArePlaced nodes placed plan → IsBelow (length nodes) (taken_of o) → open_by placed (taken_of o) ≡ open_at plan o
open_by_at nodes placed plan None are lt = refl
open_by_at nodes placed plan (Some (Start next)) are lt = refl
open_by_at nodes placed plan (Some (Skip next)) are lt = refl
open_by_at nodes placed plan (Some (Assign x rhs next)) are lt = refl
open_by_at nodes placed plan (Some (Print a next)) are lt = refl
open_by_at nodes placed plan (Some (Guard test number next)) are lt = refl
open_by_at nodes placed plan (Some (Call into unit operands next)) are lt = refl
open_by_at nodes placed plan (Some (Test test taken other)) are lt = ap (λ b. cond b None (Some taken)) (are.are taken lt)
open_by_at nodes placed plan (Some (Return a)) are lt = refl

-- the marks say which item is open
pub open_item_is : (nodes : List Node) (placed : List Bool) (plan : List Item) (item : Item) → AllWithin nodes → ArePlaced nodes placed plan → open_by_item nodes placed item ≡ open_item nodes plan item
open_item_is nodes placed plan (Placed n) within are = open_by_at nodes placed plan (slice_get nodes n) are (taken_within nodes n (slice_get nodes n) within refl)
open_item_is nodes placed plan (Jump n) within are = refl

-- the node of an item is in range
pub item_within : (n : ℕ) (items : List Item) (i : ℕ) (item : Item) → ItemsWithin n items → slice_get items i ≡ Some item → ItemsWithin n (item ∷ [])
item_within n [] i item h e = cc
item_within n (Placed m ∷ items) zero item h e = let same : Placed m ≡ item = cc in subst (λ x. ItemsWithin n (x ∷ [])) same (h.0, tt)
item_within n (Jump m ∷ items) zero item h e = let same : Jump m ≡ item = cc in subst (λ x. ItemsWithin n (x ∷ [])) same (h.0, tt)
item_within n (Placed m ∷ items) (suc i) item h e = item_within n items i item h.1 e
item_within n (Jump m ∷ items) (suc i) item h e = item_within n items i item h.1 e

-- ---- reversed lists

-- a list with one item more, reversed
pub reverse_more : {A : Type 0} (xs : List A) (x : A) → reverse (xs ++ x ∷ []) ≡ x ∷ reverse xs
reverse_more xs x = reverse-append xs (x ∷ [])

-- a prefix with one item more, reversed
pub reverse_take : {A : Type 0} (xs : List A) (i : ℕ) (x : A) → slice_get xs i ≡ Some x → reverse (take (i + 1) xs) ≡ x ∷ reverse (take i xs)
reverse_take xs i x e = ap reverse (take_one xs i x e) ∙ reverse_more (take i xs) x

-- ---- the scan

-- where the first choice is none, the second is taken
or_none : (a b : Option ℕ) → a ≡ None → option_or a b ≡ b
or_none None b e = refl
or_none (Some n) b e = cc

-- where the older items leave nothing open, the next item decides
first_step : (nodes : List Node) (plan older : List Item) (item : Item) → first_open nodes plan older ≡ None → first_open nodes plan (item ∷ older) ≡ open_item nodes plan item
first_step nodes plan older (Placed n) e = or_none (first_open nodes plan older) (open_at plan (slice_get nodes n)) e
first_step nodes plan older (Jump n) e = e

-- what the older items leave open comes first, whatever is newer
first_later : (nodes : List Node) (plan newer older : List Item) (t : ℕ) → first_open nodes plan older ≡ Some t → first_open nodes plan (newer ++ older) ≡ Some t
first_later nodes plan [] older t e = e
first_later nodes plan (Jump n ∷ newer) older t e = first_later nodes plan newer older t e
first_later nodes plan (Placed n ∷ newer) older t e = ap (λ a. option_or a (open_at plan (slice_get nodes n))) (first_later nodes plan newer older t e)

-- an item that is closed leaves all closed
pub scan_none : (nodes : List Node) (plan items : List Item) (i : ℕ) (item : Item) → slice_get items i ≡ Some item → first_open nodes plan (reverse (take i items)) ≡ None → open_item nodes plan item ≡ None → first_open nodes plan (reverse (take (i + 1) items)) ≡ None
scan_none nodes plan items i item here none e = ap (first_open nodes plan) (reverse_take items i item here) ∙ first_step nodes plan (reverse (take i items)) item none ∙ e

-- the first item that is open is the first open
pub scan_some : (nodes : List Node) (plan items : List Item) (i t : ℕ) (item : Item) → slice_get items i ≡ Some item → first_open nodes plan (reverse (take i items)) ≡ None → open_item nodes plan item ≡ Some t → first_open nodes plan (reverse items) ≡ Some t
scan_some nodes plan items i t item here none e =
    let now : first_open nodes plan (reverse (take (i + 1) items)) ≡ Some t = ap (first_open nodes plan) (reverse_take items i item here) ∙ first_step nodes plan (reverse (take i items)) item none ∙ e in
    let whole : reverse items ≡ reverse (drop (i + 1) items) ++ reverse (take (i + 1) items) = ap reverse (sym (take-append-drop (i + 1) items)) ∙ reverse-append (take (i + 1) items) (drop (i + 1) items) in
    ap (first_open nodes plan) whole ∙ first_later nodes plan (reverse (drop (i + 1) items)) (reverse (take (i + 1) items)) t now

-- where all are closed, there is none
pub scan_done : (nodes : List Node) (plan items : List Item) (i : ℕ) → i ≤ length items → length items ≤ i → first_open nodes plan (reverse (take i items)) ≡ None → first_open nodes plan (reverse items) ≡ None
scan_done nodes plan items i le le' e = ap (λ l. first_open nodes plan (reverse l)) (sym (take_all i items le')) ∙ e

-- ---- the first open item

-- where all items before one are closed and it is open, it has the first open successor
pub first_open_here : (nodes : List Node) (items : List Item) (i t : ℕ) (item : Item) → AreClosed nodes items i → slice_get items i ≡ Some item → open_item nodes (reverse items) item ≡ Some t → FirstOpenIsAt nodes items i
first_open_here nodes items i t item closed here e = scan_some nodes (reverse items) items i t item here closed.none e ∙ sym e ∙ ap (open_if nodes (reverse items)) (sym here)

-- one more closed item is passed
pub closed_more : (nodes : List Node) (items : List Item) (i : ℕ) (item : Item) → AreClosed nodes items i → slice_get items i ≡ Some item → open_item nodes (reverse items) item ≡ None → AreClosed nodes items (i + 1)
closed_more nodes items i item closed here e = record {
  few = omega (arith, slice_get_within items i item here);
  none = scan_none nodes (reverse items) items i item here closed.none e;
}

-- an item that the marks call open has the first open successor
pub first_open_marked : (nodes : List Node) (placed : List Bool) (items : List Item) (i : ℕ) (item : Item) (o : Option ℕ) → AllWithin nodes → ArePlaced nodes placed (reverse items) → AreClosed nodes items i → slice_get items i ≡ Some item → o ≡ open_by_item nodes placed item → is_some o ≡ true → FirstOpenIsAt nodes items i
first_open_marked nodes placed items i item o within are closed here e is =
    let t = some_of o is in
    first_open_here nodes items i t.0 item closed here (sym (open_item_is nodes placed (reverse items) item within are) ∙ sym e ∙ t.1)

-- one that they call closed is passed
pub closed_past : (nodes : List Node) (placed : List Bool) (items : List Item) (i : ℕ) (item : Item) (o : Option ℕ) → AllWithin nodes → ArePlaced nodes placed (reverse items) → AreClosed nodes items i → slice_get items i ≡ Some item → o ≡ open_by_item nodes placed item → is_some o ≡ false → AreClosed nodes items (i + 1)
closed_past nodes placed items i item o within are closed here e is =
    closed_more nodes items i item closed here (sym (open_item_is nodes placed (reverse items) item within are) ∙ sym e ∙ none_of o is)

-- where all are closed, none is open
pub first_open_none : (nodes : List Node) (items : List Item) (i : ℕ) → AreClosed nodes items i → length items ≤ i → FirstOpenIsAt nodes items i
first_open_none nodes items i closed le = scan_done nodes (reverse items) items i closed.few le closed.none ∙ ap (open_if nodes (reverse items)) (sym (slice_get_past items i le))

-- a new stretch begins at the first open successor
pub stretch_at : (nodes : List Node) (placed : List Bool) (items : List Item) (i : ℕ) (item : Item) (o : Option ℕ) → AllWithin nodes → ArePlaced nodes placed (reverse items) → FirstOpenIsAt nodes items i → slice_get items i ≡ Some item → o ≡ open_by_item nodes placed item → option_map Placed o ≡ new_stretch nodes (reverse items)
stretch_at nodes placed items i item o within are tells here e =
    ap (option_map Placed) (e ∙ open_item_is nodes placed (reverse items) item within are ∙ ap (open_if nodes (reverse items)) (sym here) ∙ sym tells)

-- where there is no such item, no stretch begins
pub stretch_none : (nodes : List Node) (items : List Item) (i : ℕ) → FirstOpenIsAt nodes items i → slice_get items i ≡ None → ◌≡◌ {A = Option Item} None (new_stretch nodes (reverse items))
stretch_none nodes items i tells here = ap (option_map Placed) (ap (open_if nodes (reverse items)) (sym here) ∙ sym tells)

-- what is placed stays placed, so that a closed item stays closed
still_closed_at : (plan : List Item) (item : Item) (o : Option Node) → open_at plan o ≡ None → open_at (item ∷ plan) o ≡ None
still_closed_at plan item None e = refl
still_closed_at plan item (Some (Start next)) e = refl
still_closed_at plan item (Some (Skip next)) e = refl
still_closed_at plan item (Some (Assign x rhs next)) e = refl
still_closed_at plan item (Some (Print a next)) e = refl
still_closed_at plan item (Some (Guard test number next)) e = refl
still_closed_at plan item (Some (Call into unit operands next)) e = refl
still_closed_at plan item (Some (Return a)) e = refl
still_closed_at plan (Jump m) (Some (Test test taken other)) e = e
still_closed_at plan (Placed m) (Some (Test test taken other)) e = chosen (eqb m taken) (is_placed taken plan) e
  where
    chosen : (b c : Bool) → cond c None (Some taken) ≡ None → cond (b || c) None (Some taken) ≡ None
    chosen true c h = refl
    chosen false c h = h

-- what a plan leaves closed is closed in a longer plan
still_closed : (nodes : List Node) (plan items : List Item) (item : Item) → first_open nodes plan items ≡ None → first_open nodes (item ∷ plan) items ≡ None
still_closed nodes plan [] item e = refl
still_closed nodes plan (Jump n ∷ older) item e = still_closed nodes plan older item e
still_closed nodes plan (Placed n ∷ older) item e = chosen (first_open nodes plan older) refl (still_closed nodes plan older item) e
  where
    chosen : (o : Option ℕ) → first_open nodes plan older ≡ o → (first_open nodes plan older ≡ None → first_open nodes (item ∷ plan) older ≡ None) → option_or o (open_at plan (slice_get nodes n)) ≡ None → option_or (first_open nodes (item ∷ plan) older) (open_at (item ∷ plan) (slice_get nodes n)) ≡ None
    chosen None is ih h = ap (λ a. option_or a (open_at (item ∷ plan) (slice_get nodes n))) (ih is) ∙ still_closed_at plan item (slice_get nodes n) h
    chosen (Some t) is ih h = cc

-- what is closed stays closed when an item is added
pub closed_stays : (nodes : List Node) (items items' : List Item) (item : Item) (i : ℕ) → AreClosed nodes items i → items' ≡ items ++ item ∷ [] → AreClosed nodes items' i
closed_stays nodes items items' item i closed e = subst (λ l. AreClosed nodes l i) (sym e) (record {
  few = omega (arith, closed.few, length-append items (item ∷ []));
  none = ap (λ l. first_open nodes (reverse (items ++ item ∷ [])) (reverse l)) (take-append-le i items (item ∷ []) closed.few)
      ∙ ap (λ l. first_open nodes l (reverse (take i items))) (reverse_more items item)
      ∙ still_closed nodes (reverse items) (reverse (take i items)) item closed.none;
})

-- ---- the next item

-- the opposite order begins with the last item
reverse_last : (items : List Item) (item : Item) → slice_get items (length items - 1) ≡ Some item → reverse items ≡ item ∷ reverse (take (length items - 1) items)
reverse_last [] item e = cc
reverse_last (x ∷ items) item e =
    let n = length (x ∷ items) - 1 in
    let all : take (n + 1) (x ∷ items) ≡ x ∷ items = take_all (n + 1) (x ∷ items) (omega arith) in
    ap reverse (sym all) ∙ reverse_take (x ∷ items) n item e

-- what comes after an item is what comes after the node that follows it
next_after : (nodes : List Node) (first : ℕ) (item : Item) (older : List Item) → next_item nodes first (item ∷ older) ≡ after_node nodes (item ∷ older) (follower_of nodes item)
next_after nodes first (Placed n) older = refl
next_after nodes first (Jump n) older = refl

-- the item that follows another is the next item
pub next_is : (nodes : List Node) (first : ℕ) (items : List Item) (item : Item) (result : Option Item) → slice_get items (length items - 1) ≡ Some item → result ≡ after_node nodes (reverse items) (follower_of nodes item) → result ≡ next_item nodes first (reverse items)
next_is nodes first items item result here e =
    let r = reverse_last items item here in
    e ∙ ap (λ l. after_node nodes l (follower_of nodes item)) r ∙ sym (next_after nodes first item (reverse (take (length items - 1) items))) ∙ ap (next_item nodes first) (sym r)

-- the first item is the first node
pub first_is_next : (nodes : List Node) (first : ℕ) (items : List Item) → length items ≡ 0 → Some (Placed first) ≡ next_item nodes first (reverse items)
first_is_next nodes first [] e = refl
first_is_next nodes first (x ∷ items) e = absurd (omega (arith, e))

-- ---- the whole plan

-- a node that is open is a node of the graph
open_at_within : (nodes : List Node) (plan : List Item) (n t : ℕ) (o : Option Node) → AllWithin nodes → slice_get nodes n ≡ o → open_at plan o ≡ Some t → t < length nodes
open_at_within nodes plan n t None within e f = cc
open_at_within nodes plan n t (Some (Start next)) within e f = cc
open_at_within nodes plan n t (Some (Skip next)) within e f = cc
open_at_within nodes plan n t (Some (Assign x rhs next)) within e f = cc
open_at_within nodes plan n t (Some (Print a next)) within e f = cc
open_at_within nodes plan n t (Some (Guard test number next)) within e f = cc
open_at_within nodes plan n t (Some (Call into unit operands next)) within e f = cc
open_at_within nodes plan n t (Some (Return a)) within e f = cc
open_at_within nodes plan n t (Some (Test test taken other)) within e f = chosen (is_placed taken plan) f
  where
    chosen : (b : Bool) → cond b None (Some taken) ≡ Some t → t < length nodes
    chosen true g = cc
    chosen false g = let same : taken ≡ t = cc in within n 0 t (ap (λ o. slice_get (succs_of o) 0) e ∙ ap Some same)

-- so is the first open one
first_within : (nodes : List Node) (plan items : List Item) (t : ℕ) → AllWithin nodes → first_open nodes plan items ≡ Some t → t < length nodes
first_within nodes plan [] t within e = cc
first_within nodes plan (Jump n ∷ older) t within e = first_within nodes plan older t within e
first_within nodes plan (Placed n ∷ older) t within e = chosen (first_open nodes plan older) (first_within nodes plan older t within) e
  where
    chosen : (o : Option ℕ) → (o ≡ Some t → t < length nodes) → option_or o (open_at plan (slice_get nodes n)) ≡ Some t → t < length nodes
    chosen None ih f = open_at_within nodes plan n t (slice_get nodes n) within refl f
    chosen (Some s) ih f = ih f

-- an item that places an open node is in range
new_within : (nodes : List Node) (plan : List Item) (item : Item) (o : Option ℕ) → AllWithin nodes → first_open nodes plan plan ≡ o → option_map Placed o ≡ Some item → ItemsWithin (length nodes) (item ∷ [])
new_within nodes plan item None within e f = cc
new_within nodes plan item (Some t) within e f = let same : Placed t ≡ item = cc in subst (λ i. ItemsWithin (length nodes) (i ∷ [])) same (first_within nodes plan plan t within e, tt)

-- an item that comes after a node is in range
after_within : (nodes : List Node) (plan : List Item) (item : Item) (o : Option ℕ) → AllWithin nodes → IsBelow (length nodes) o → after_node nodes plan o ≡ Some item → ItemsWithin (length nodes) (item ∷ [])
after_within nodes plan item None within lt e = new_within nodes plan item (first_open nodes plan plan) within refl e
after_within nodes plan item (Some s) within lt e = chosen (is_placed s plan) e
  where
    chosen : (b : Bool) → Some (cond b (Jump s) (Placed s)) ≡ Some item → ItemsWithin (length nodes) (item ∷ [])
    chosen true f = let same : Jump s ≡ item = cc in subst (λ i. ItemsWithin (length nodes) (i ∷ [])) same (lt, tt)
    chosen false f = let same : Placed s ≡ item = cc in subst (λ i. ItemsWithin (length nodes) (i ∷ [])) same (lt, tt)

-- the next item is in range
pub next_within : (nodes : List Node) (first : ℕ) (plan : List Item) (item : Item) → AllWithin nodes → first < length nodes → next_item nodes first plan ≡ Some item → ItemsWithin (length nodes) (item ∷ [])
next_within nodes first [] item within lt e = let same : Placed first ≡ item = cc in subst (λ i. ItemsWithin (length nodes) (i ∷ [])) same (lt, tt)
next_within nodes first (Placed n ∷ older) item within lt e = after_within nodes (Placed n ∷ older) item (following (slice_get nodes n)) within (following_within nodes n (slice_get nodes n) within refl) e
next_within nodes first (Jump n ∷ older) item within lt e = new_within nodes (Jump n ∷ older) item (first_open nodes (Jump n ∷ older) (Jump n ∷ older)) within refl e

-- items in range, joined, are in range
pub within_append : (n : ℕ) (xs ys : List Item) → ItemsWithin n xs → ItemsWithin n ys → ItemsWithin n (xs ++ ys)
within_append n [] ys h h' = h'
within_append n (Placed m ∷ xs) ys h h' = (h.0, within_append n xs ys h.1 h')
within_append n (Jump m ∷ xs) ys h h' = (h.0, within_append n xs ys h.1 h')

-- marks after an item
index_set : (marks : List Bool) (s n : ℕ) → s < length marks → n < length marks → slice_index_or (slice_set marks s true) n false ≡ eqb s n || slice_index_or marks n false
index_set marks s n lt lt' =
    elim (eqb_tells s n) [
      | inl p ↦ subst (λ m. slice_index_or (slice_set marks s true) m false ≡ true) p.1 (get_or-set_same marks s true false lt) ∙ sym (ap (λ b. b || slice_index_or marks n false) p.0)
      | inr p ↦ get_or-set_other marks s n true false (λ e. p.1 (sym e)) ∙ sym (ap (λ b. b || slice_index_or marks n false) p.0)
    ]

-- the marks after an item
pub placed_more : (nodes : List Node) (placed placed' : List Bool) (plan : List Item) (item : Item) → ArePlaced nodes placed plan → ItemsWithin (length nodes) (item ∷ []) → placed' ≡ placed_after placed item → ArePlaced nodes placed' (item ∷ plan)
placed_more nodes placed placed' plan (Jump n) are lt e = subst (λ p. ArePlaced nodes p (Jump n ∷ plan)) (sym e) (record { long = are.long; are = are.are })
placed_more nodes placed placed' plan (Placed n) are lt e =
    subst (λ p. ArePlaced nodes p (Placed n ∷ plan)) (sym e) (record {
      long = length-set placed n true ∙ are.long;
      are = λ m below. index_set placed n m (omega (arith, lt.0, are.long)) (omega (arith, below, are.long)) ∙ ap (λ b. eqb n m || b) (are.are m below);
    })

-- a jump comes only after a plan that ends in a node
jump_after : (nodes : List Node) (first n : ℕ) (plan : List Item) → next_item nodes first plan ≡ Some (Jump n) → open_end plan ≡ 1
jump_after nodes first n [] e = cc
jump_after nodes first n (Placed m ∷ older) e = refl
jump_after nodes first n (Jump m ∷ older) e = chosen (first_open nodes (Jump m ∷ older) (Jump m ∷ older)) e
  where
    chosen : (o : Option ℕ) → option_map Placed o ≡ Some (Jump n) → open_end (Jump m ∷ older) ≡ 1
    chosen None f = cc
    chosen (Some t) f = cc

-- each item makes the weight less
pub plan_lighter : (nodes : List Node) (first : ℕ) (placed placed' : List Bool) (plan : List Item) (item : Item) → ArePlaced nodes placed plan → ItemsWithin (length nodes) (item ∷ []) → next_item nodes first plan ≡ Some item → placed' ≡ placed_after placed item → plan_weight placed' (item ∷ plan) < plan_weight placed plan
plan_lighter nodes first placed placed' plan (Jump n) are lt e f = omega (arith, jump_after nodes first n plan e, ap unmarked f)
plan_lighter nodes first placed placed' plan (Placed n) are lt e f =
    let new : slice_index_or placed n false ≡ false = are.are n lt.0 ∙ fresh nodes first plan n e in
    let less = unmarked_set placed n (omega (arith, lt.0, are.long)) new in
    omega (arith, less, ap unmarked f)

-- before the first item no node is placed
pub plan_begins : (nodes : List Node) (placed : List Bool) (items : List Item) → placed ≡ replicate (length nodes) false → items ≡ [] → ArePlaced nodes placed (reverse items)
plan_begins nodes placed items e f = subst (λ l. ArePlaced nodes placed (reverse l)) (sym f) (record { long = ap length e ∙ length-replicate (length nodes) false; are = λ n lt. ap (λ l. slice_index_or l n false) e ∙ get_or-replicate (length nodes) n false false lt })
