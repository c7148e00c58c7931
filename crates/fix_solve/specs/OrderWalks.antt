-- What holds while the nodes are put in order. Cited by contracts.
use Rattle.std.specs.Prelude.{◌≡◌, ℕ, ◌<◌, List, length, All}
use Rattle.fix_solve.specs.Net.{Net}
use Rattle.fix_solve.specs.declared.order.DepthFirst.{DepthFirst}

-- each node is below the number of nodes
abbrev pub AreNodes : ℕ → List ℕ → Type 0
AreNodes nodes = All (λ n. n < nodes)

-- each node has a next edge and the node from which the walk came, and what is put down are nodes
pub record IsWalk (nodes : ℕ) (nexts froms order : List ℕ) : Type 0 where
  pub nexts_len : length nexts ≡ nodes
  pub froms_len : length froms ≡ nodes
  pub ordered : AreNodes nodes order

-- the walk is one over this flow
abbrev pub WalksOver : {V : Type 0} → Net V → DepthFirst → Type 0
WalksOver net walk = IsWalk net.nodes walk.nexts.items walk.froms.items walk.order.items
