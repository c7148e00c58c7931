-- The places of a plan's nodes, and what it emits.
use Rattle.std.proofs.Common.{◌≡◌, ℕ, ◌+◌, ◌<◌, ◌≤◌, cond, List, [], ◌∷◌, ◌++◌, map, length, take, reverse, replicate, slice_get, slice_set, slice_index_or, Option, Some, None, inl, inr, refl, sym, ap, ◌∙◌, subst, arith, append_assoc}
use Rattle.std.proofs.lemmas.List.{reverse-append, length-replicate, length-set, take_all, get_or-replicate, get_or-set_same, get_or-set_other}
use Rattle.std.proofs.lemmas.Bool.Decides.{eqb_tells}
use Rattle.mir_base.specs.declared.instructions.Inst.{Inst}
use Rattle.mir_base.specs.declared.instructions.Inst.TheVariants as insts
use Rattle.flow_graph.specs.declared.plan.Item.{Item}
use Rattle.flow_graph.specs.declared.plan.Item.TheVariants.{Placed, Jump}
use Rattle.flow_graph.specs.declared.nodes.Node.{Node}
use Rattle.flow_graph.specs.declared.nodes.Node.TheVariants.{Start, Skip, Assign, Print, Guard, Call, Test, Return}
use Rattle.flow_graph.specs.Graphs.{AllWithin, succs_of}
use Rattle.flow_graph.specs.Layouts.{emitted, emitted_by, item_insts, item_size, place_in, plain_body, size}
use Rattle.flow_graph.specs.Placing.{ArePlaces, ItemsWithin, places_after}
use Rattle.flow_graph.proofs.Scans.{reverse_take, within_append}

-- before the first item every place is 0
pub places_begin : (nodes : List Node) (receives : ℕ) (items : List Item) (places : List ℕ) → places ≡ replicate (length nodes) 0 → ArePlaces nodes receives (reverse (take 0 items)) places
places_begin nodes receives items places e = record {
  long = ap length e ∙ length-replicate (length nodes) 0;
  are = λ n lt. ap (λ l. slice_index_or l n 0) e ∙ get_or-replicate (length nodes) n 0 0 lt;
}

-- an item sets the place of its node
pub places_more : (nodes : List Node) (receives : ℕ) (items : List Item) (i : ℕ) (item : Item) (places places' : List ℕ) (place : ℕ) → slice_get items i ≡ Some item → ItemsWithin (length nodes) (item ∷ []) → place ≡ size nodes receives (reverse (take i items)) → ArePlaces nodes receives (reverse (take i items)) places → places' ≡ places_after places item place → ArePlaces nodes receives (reverse (take (i + 1) items)) places'
places_more nodes receives items i item places places' place here lt at_ are e =
    subst (λ l. ArePlaces nodes receives l places') (sym (reverse_take items i item here)) (subst (ArePlaces nodes receives (item ∷ reverse (take i items))) (sym e) (by_item item lt))
  where
    by_item : (item : Item) → ItemsWithin (length nodes) (item ∷ []) → ArePlaces nodes receives (item ∷ reverse (take i items)) (places_after places item place)
    by_item (Jump n) lt' = record { long = are.long; are = are.are }
    by_item (Placed n) lt' = record {
      long = length-set places n place ∙ are.long;
      are = λ m below.
          elim (eqb_tells n m) [
            | inl p ↦ subst (λ k. slice_index_or (slice_set places n place) k 0 ≡ place) p.1 (get_or-set_same places n place 0 (omega (arith, lt'.0, are.long))) ∙ at_ ∙ sym (ap (λ b. cond b (size nodes receives (reverse (take i items))) (place_in nodes receives (reverse (take i items)) m)) p.0)
            | inr p ↦ get_or-set_other places n m place 0 (λ e. p.1 (sym e)) ∙ are.are m below ∙ sym (ap (λ b. cond b (size nodes receives (reverse (take i items))) (place_in nodes receives (reverse (take i items)) m)) p.0)
          ];
    }

-- and emits what its size counts
pub size_more : (nodes : List Node) (receives : ℕ) (items : List Item) (i : ℕ) (item : Item) → slice_get items i ≡ Some item → size nodes receives (reverse (take (i + 1) items)) ≡ size nodes receives (reverse (take i items)) + item_size nodes item
size_more nodes receives items i item here = ap (size nodes receives) (reverse_take items i item here)

-- what is emitted with one item more
pub emitted_more : (nodes : List Node) (place : ℕ → ℕ) (items : List Item) (i : ℕ) (item : Item) (front body body' added : List Inst) → slice_get items i ≡ Some item → body ≡ front ++ emitted nodes place (reverse (take i items)) → added ≡ item_insts nodes place item → body' ≡ body ++ added → body' ≡ front ++ emitted nodes place (reverse (take (i + 1) items))
emitted_more nodes place items i item front body body' added here is e e' =
    e' ∙ ap (λ l. l ++ added) is ∙ append_assoc front (emitted nodes place (reverse (take i items))) added ∙ ap (λ l. front ++ (emitted nodes place (reverse (take i items)) ++ l)) e ∙ sym (ap (λ l. front ++ emitted nodes place l) (reverse_take items i item here))

-- items in range are so in the opposite order too
within_reverse : (n : ℕ) (items : List Item) → ItemsWithin n items → ItemsWithin n (reverse items)
within_reverse n [] h = h
within_reverse n (Placed m ∷ items) h = subst (ItemsWithin n) (sym (reverse-append (Placed m ∷ []) items)) (within_append n (reverse items) (Placed m ∷ []) (within_reverse n items h.1) (h.0, tt))
within_reverse n (Jump m ∷ items) h = subst (ItemsWithin n) (sym (reverse-append (Jump m ∷ []) items)) (within_append n (reverse items) (Jump m ∷ []) (within_reverse n items h.1) (h.0, tt))

module _ (nodes : List Node) (within : AllWithin nodes) (place place' : ℕ → ℕ) (same : (n : ℕ) → n < length nodes → place n ≡ place' n) where
  node_same : (n : ℕ) (o : Option Node) → slice_get nodes n ≡ o → emitted_by place o ≡ emitted_by place' o
  node_same n None e = refl
  node_same n (Some (Start next)) e = refl
  node_same n (Some (Skip next)) e = refl
  node_same n (Some (Assign x rhs next)) e = refl
  node_same n (Some (Print a next)) e = refl
  node_same n (Some (Guard test number next)) e = refl
  node_same n (Some (Call into unit operands next)) e = refl
  node_same n (Some (Test test taken other)) e = ap (λ p. insts.If test p ∷ []) (same taken (within n 0 taken (ap (λ o. slice_get (succs_of o) 0) e)))
  node_same n (Some (Return a)) e = refl

  emitted_same : (plan : List Item) → ItemsWithin (length nodes) plan → emitted nodes place plan ≡ emitted nodes place' plan
  emitted_same [] h = refl
  emitted_same (Placed n ∷ older) h = ap (λ l. l ++ emitted_by place (slice_get nodes n)) (emitted_same older h.1) ∙ ap (λ l. emitted nodes place' older ++ l) (node_same n (slice_get nodes n) refl)
  emitted_same (Jump n ∷ older) h = ap (λ l. l ++ insts.Goto (place n) ∷ []) (emitted_same older h.1) ∙ ap (λ p. emitted nodes place' older ++ insts.Goto p ∷ []) (same n h.0)

-- what is emitted with the places of the table is the plain body
pub emitted_all : (received : List ℕ) (nodes : List Node) (items : List Item) (places : List ℕ) (i : ℕ) (body : List Inst) → AllWithin nodes → ItemsWithin (length nodes) items → ArePlaces nodes (length received) (reverse items) places → i ≤ length items → length items ≤ i → body ≡ map insts.Receive received ++ emitted nodes (λ n. slice_index_or places n 0) (reverse (take i items)) → body ≡ plain_body received nodes (reverse items)
emitted_all received nodes items places i body within items_within are le le' e =
    e ∙ ap (λ l. map insts.Receive received ++ emitted nodes (λ n. slice_index_or places n 0) (reverse l)) (take_all i items le') ∙ ap (λ l. map insts.Receive received ++ l) (emitted_same nodes within (λ n. slice_index_or places n 0) (place_in nodes (length received) (reverse items)) are.are (reverse items) (within_reverse (length nodes) items items_within))
