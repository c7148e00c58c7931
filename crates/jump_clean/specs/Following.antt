-- What the search for ends of chains keeps: what is known of each node, and the Skips of the chain. Cited by contracts.
use Rattle.std.specs.Prelude.{◌≡◌, ℕ, suc, ◌<◌, ◌≤◌, List, [], ◌∷◌, ◌++◌, length, slice_get, Option, Some, None, ◌⊎◌}
use Rattle.flow_graph.specs.declared.nodes.Node.{Node}
use Rattle.flow_graph.specs.declared.nodes.Node.TheVariants.{Skip}
use Rattle.jump_clean.specs.declared.chains.ChainPlace.{ChainPlace}
use Rattle.jump_clean.specs.declared.chains.ChainPlace.TheVariants.{Nothing, InChain, End}
use Rattle.jump_clean.specs.Chains.{IsEnd}
use Rattle.jump_clean.specs.ChainLaws.{IsSkipChain}
use Rattle.flow_graph.specs.Numbering.{IsIn}

-- between two searches: what is known is right, and no node is in a chain
pub record AreFound (nodes : List Node) (found : List ChainPlace) : Type 0 where
  pub long : length found ≡ length nodes
  pub right : (n e : ℕ) → slice_get found n ≡ Some (End e) → IsEnd nodes n e
  pub none_in_chain : (n : ℕ) → slice_get found n ≡ Some InChain → ⊥

-- what is known of a node is as it was, or it is one of these and this end is known
abbrev pub OnlyNoted : List ChainPlace → List ChainPlace → ℕ → List ℕ → Type 0
OnlyNoted found found' end nodes = (n : ℕ)
    → (slice_get found' n ≡ slice_get found n)
    ⊎ ((slice_get found' n ≡ Some (End end)) × IsIn n nodes)

-- during a search: the Skips of the chain lead from the start to node n
pub record IsFollowed (nodes : List Node) (found : List ChainPlace) (chain : List ℕ)
    (start n : ℕ) : Type 0 where
  pub long : length found ≡ length nodes
  pub right : (m e : ℕ) → slice_get found m ≡ Some (End e) → IsEnd nodes m e
  pub in_chain : (m : ℕ) → slice_get found m ≡ Some InChain → IsIn m chain
  pub is_chain : IsSkipChain nodes chain start n
  pub place_is : n < length nodes

-- the successor of a Skip
abbrev pub skip_succ : Node → Option ℕ
skip_succ (Skip next) = Some next
skip_succ _ = None

-- the successor of a Skip of which nothing is known
abbrev pub onward_of : Node → ChainPlace → Option ℕ
onward_of (Skip next) Nothing = Some next
onward_of _ _ = None

-- of how many nothing is known
abbrev pub unknown : List ChainPlace → ℕ
unknown [] = 0
unknown (Nothing ∷ found) = suc (unknown found)
unknown (InChain ∷ found) = unknown found
unknown (End e ∷ found) = unknown found

-- the least of the numbers from one occurrence of `first` on
pub record IsLeastFrom (chain : List ℕ) (first least : ℕ) : Type 0 where
  pub front : List ℕ
  pub remainder : List ℕ
  pub are : chain ≡ front ++ first ∷ remainder
  pub is_one : IsIn least (first ∷ remainder)
  pub least_is : (n : ℕ) → IsIn n (first ∷ remainder) → least ≤ n

-- where the search ends at node n, the end of the chain
abbrev pub EndsAt : ChainPlace → List ℕ → ℕ → ℕ → Type 0
EndsAt Nothing chain n end = end ≡ n
EndsAt InChain chain n end = IsLeastFrom chain n end
EndsAt (End e) chain n end = end ≡ e
