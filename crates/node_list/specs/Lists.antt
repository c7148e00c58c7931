-- What contracts see of `Links`: a fixed number of lists of node numbers, and what each call makes of them. Cited by
-- contracts.
use Rattle.std.specs.Prelude.{◌≡◌, ℕ, ◌+◌, Bool, not, ◌||◌, ◌&&◌, nat_eq, nat_lt, if◌then◌else◌, List, [], ◌∷◌, ◌++◌, replicate, slice_get, slice_index_or, slice_set, Option, None}
use Rattle.std.specs.Option.{option_or}

-- lists of numbers below `nodes`
pub record Lists : Type 0 where
  pub nodes : ℕ
  pub lists : List (List ℕ)

-- so many lists with nothing in them
abbrev pub empty_lists : ℕ → ℕ → Lists
empty_lists nodes count = record { nodes = nodes; lists = replicate count [] }

-- the list of a number
abbrev pub list_at : List (List ℕ) → ℕ → List ℕ
list_at lists list = slice_index_or lists list []

-- at how many places of a list a node stands
abbrev pub times_in : ℕ → List ℕ → ℕ
times_in node [] = 0
times_in node (x ∷ xs) = (if nat_eq x node then 1 else 0) + times_in node xs

-- at how many places of all lists a node stands
abbrev pub times : List (List ℕ) → ℕ → ℕ
times [] node = 0
times (xs ∷ lists) node = times_in node xs + times lists node

-- whether a node stands in one of the lists
abbrev pub is_listed : List (List ℕ) → ℕ → Bool
is_listed lists node = nat_lt 0 (times lists node)

-- the listed nodes are those of before and this one
abbrev pub AlsoLists : ℕ → List (List ℕ) → List (List ℕ) → Type 0
AlsoLists node old new = (n : ℕ) → is_listed new n ≡ (is_listed old n || nat_eq n node)

-- the listed nodes are those of before without this one
abbrev pub NoLongerLists : ℕ → List (List ℕ) → List (List ℕ) → Type 0
NoLongerLists node old new = (n : ℕ) → is_listed new n ≡ (is_listed old n && not (nat_eq n node))

-- the lists with a node put at the end of one
abbrev pub with_last : List (List ℕ) → ℕ → ℕ → List (List ℕ)
with_last lists list node = slice_set lists list (list_at lists list ++ node ∷ [])

-- all lists but one are as before
abbrev pub OtherListsStay : ℕ → List (List ℕ) → List (List ℕ) → Type 0
OtherListsStay list old new = new ≡ slice_set old list (list_at new list)

-- a list with a new node put before another, wherever that one stands
abbrev pub inserted_before : ℕ → ℕ → List ℕ → List ℕ
inserted_before node new [] = []
inserted_before node new (x ∷ xs) =
    if nat_eq x node then new ∷ x ∷ inserted_before node new xs else x ∷ inserted_before node new xs

-- a list without a node; the others keep their order
abbrev pub without : ℕ → List ℕ → List ℕ
without node [] = []
without node (x ∷ xs) = if nat_eq x node then without node xs else x ∷ without node xs

-- the number after a node in a list; none after the last
abbrev pub after_in : ℕ → List ℕ → Option ℕ
after_in node [] = None
after_in node (x ∷ xs) = if nat_eq x node then slice_get xs 0 else after_in node xs

-- the number after a node in the list in which it stands
abbrev pub node_after : List (List ℕ) → ℕ → Option ℕ
node_after [] node = None
node_after (xs ∷ lists) node = option_or (after_in node xs) (node_after lists node)
