-- Roots, at which terms begin anew, the way from a root to a node, and the terms before a node. Cited by contracts.
use Rattle.std.specs.Prelude.{◌≡◌, ℕ, Bool, true, false, ◌||◌, nat_eq, nat_lt, List, [], ◌∷◌, length, slice_get}
use Rattle.flow_graph.specs.declared.nodes.Node.{Node}
use Rattle.flow_graph.specs.Edges.{preds_of}
use Rattle.value_number.specs.Terms.{Terms, initial_terms, terms_after}

-- Start, or a node that more than one edge enters
abbrev pub is_root : List Node → ℕ → Bool
is_root nodes n = nat_eq n 0 || nat_lt 1 (length (preds_of nodes n))

-- the way from a root to node n, back along single entering edges: the nodes before n, the nearest first
abbrev pub FromRoot : List Node → ℕ → ℕ → List ℕ → Type 0
FromRoot nodes root n [] = (n ≡ root) × (is_root nodes n ≡ true)
FromRoot nodes root n (m ∷ before) = (is_root nodes n ≡ false) × (preds_of nodes n ≡ m ∷ [])
    × FromRoot nodes root m before

-- the terms before the node to which these nodes lead from the root, where so many variables are globals
abbrev pub terms_before : ℕ → List Node → ℕ → List ℕ → Terms
terms_before shared nodes root [] = initial_terms root
terms_before shared nodes root (m ∷ before) =
    terms_after shared m (slice_get nodes m) (terms_before shared nodes root before)
