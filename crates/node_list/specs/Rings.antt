-- How the lists are kept: each as a ring of links, which begins and ends at a number of its own past the nodes.
-- Cited by contracts.
use Rattle.std.specs.Prelude.{◌≡◌, ℕ, zero, suc, ◌+◌, ◌<◌, ◌≤◌, nat_lt, if◌then◌else◌, List, [], ◌∷◌, ◌++◌, length, map, slice_index, slice_set}
use Rattle.std.specs.List.{range_with_len}
use Rattle.node_list.specs.Lists.{Lists, list_at, times}

-- from a number the links lead forward along these, and back again
abbrev pub Along : (ℕ → ℕ) → (ℕ → ℕ) → ℕ → List ℕ → Type 0
Along next prev from [] = Unit {0}
Along next prev from (x ∷ xs) = (next from ≡ x) × (prev x ≡ from) × Along next prev x xs

-- the nodes that the links lead along from a number, up to the first that is no node; at most so many
abbrev pub linked_from : (ℕ → ℕ) → ℕ → ℕ → ℕ → List ℕ
linked_from next nodes zero from = []
linked_from next nodes (suc most) from =
    if nat_lt from nodes then from ∷ linked_from next nodes most (next from) else []

-- the lists that the links lead along
abbrev pub lists_along : ℕ → ℕ → (ℕ → ℕ) → List (List ℕ)
lists_along nodes count next =
    map (λ list. linked_from next nodes nodes (next (nodes + list))) (range_with_len 0 count)

-- the lists as contracts see them, of a slice of links
abbrev pub linked_lists : ℕ → ℕ → List ℕ → Lists
linked_lists nodes count
    next = record { nodes = nodes; lists = lists_along nodes count (slice_index next) }

-- a list of links after two writes, the second one last
abbrev pub with_two : List ℕ → ℕ → ℕ → ℕ → ℕ → List ℕ
with_two links a x b y = slice_set (slice_set links a x) b y

-- the links lead along these lists: each is a ring with its own number past the nodes, a node in no list is linked to
-- itself, and no node stands twice
pub record AreRings (nodes : ℕ) (lists : List (List ℕ)) (next prev : ℕ → ℕ) : Type 0 where
  pub next_in : (k : ℕ) → k < nodes + length lists → next k < nodes + length lists
  pub prev_in : (k : ℕ) → k < nodes + length lists → prev k < nodes + length lists
  pub back : (k : ℕ) → k < nodes + length lists → next (prev k) ≡ k
  pub forth : (k : ℕ) → k < nodes + length lists → prev (next k) ≡ k
  pub rings : (list : ℕ) → list < length lists
      → Along next prev (nodes + list) (list_at lists list ++ (nodes + list) ∷ [])
  pub within : (n : ℕ) → 0 < times lists n → n < nodes
  pub once : (n : ℕ) → times lists n ≤ 1
  pub loose : (n : ℕ) → n < nodes → times lists n ≡ 0 → next n ≡ n

-- the same of the slices that hold the links
pub record HoldLinks (nodes count : ℕ) (next prev : List ℕ) : Type 0 where
  pub next_len : length next ≡ nodes + count
  pub prev_len : length prev ≡ nodes + count
  pub linked : AreRings nodes (lists_along nodes count (slice_index next))
      (slice_index next) (slice_index prev)

-- each of so many lists has its own number alone: a list and the number of its ring are linked to each other, and all
-- other nodes to themselves
pub record AreOwnLinks (nodes count : ℕ) (links : List ℕ) : Type 0 where
  pub len : length links ≡ nodes + count
  pub rings : (list : ℕ) → list < count → slice_index links list ≡ nodes + list
  pub loose : (node : ℕ) → count ≤ node → node < nodes → slice_index links node ≡ node
  pub lists : (list : ℕ) → list < count → slice_index links (nodes + list) ≡ list
