-- What is read at a node by the copies that were found. Cited by contracts.
use Rattle.std.specs.Prelude.{ℕ, ◌<◌, length}
use Rattle.held_assign.specs.Rows.{IsLookup, held_at}
use Rattle.copy_flow.specs.declared.rereading.HeldAt.{HeldAt}
use Rattle.copy_flow.specs.Copies.{read_for}

-- the node that is looked up has a row
pub record IsAtNode (at : HeldAt) : Type 0 where
  pub lookup : IsLookup (length at.held.now.targets) (length at.held.now.held) at.held.now
  pub within : at.node < length at.held.now.held

-- the variable that is read for v at the node that is looked up
abbrev pub read_at : HeldAt → ℕ → ℕ
read_at at v = read_for v (held_at at.held.now at.node v)
