-- Tests that make no difference: those whose two successors have the same end of chain become Skips, one after the
-- other. Cited by contracts.
use Rattle.std.specs.Prelude.{◌≡◌, ℕ, nat_eq, Bool, true, false, List, [], ◌∷◌, slice_get, slice_set, Some}
use Rattle.mir_base.specs.declared.instructions.Test as tests
use Rattle.flow_graph.specs.declared.nodes.Node.{Node}
use Rattle.flow_graph.specs.declared.nodes.Node.TheVariants.{Skip, Test}
use Rattle.jump_clean.specs.Chains.{IsEnd}

-- node n is a Test whose two successors have the same end of chain
pub record MakesNoDifference (nodes : List Node) (n : ℕ) (taken : ℕ) : Type 0 where
  pub test : tests.Test
  pub other : ℕ
  pub end : ℕ
  pub is : slice_get nodes n ≡ Some (Test test taken other)
  pub taken_end : IsEnd nodes taken end
  pub other_end : IsEnd nodes other end

-- such a node has become a Skip to its `taken`
pub record IsReduction (nodes : List Node) (n : ℕ) (reduced : List Node) : Type 0 where
  pub taken : ℕ
  pub same : MakesNoDifference nodes n taken
  pub is : reduced ≡ slice_set nodes n (Skip taken)

-- these nodes have become Skips in this order, the latest first
abbrev pub AreReductions : List Node → List ℕ → List Node → Type 0
AreReductions nodes [] reduced = reduced ≡ nodes
AreReductions nodes (n ∷ order) reduced = (middle : List Node) × AreReductions nodes order middle
    × IsReduction middle n reduced

-- a Skip, or a Test with one node for both successors
abbrev pub is_jump : Node → Bool
is_jump (Skip next) = true
is_jump (Test test taken other) = nat_eq taken other
is_jump _ = false

-- none of the nodes is a jump
abbrev pub HaveNoJumps : List Node → Type 0
HaveNoJumps nodes = (n : ℕ) (node : Node) → slice_get nodes n ≡ Some node → is_jump node ≡ false

-- no such node is left
abbrev pub NoEqualSuccessors : List Node → Type 0
NoEqualSuccessors nodes = (n taken : ℕ) → MakesNoDifference nodes n taken → ⊥

-- all have become Skips, in some order
pub record AreReduced (nodes reduced : List Node) : Type 0 where
  pub order : List ℕ
  pub reductions : AreReductions nodes order reduced
  pub differ : NoEqualSuccessors reduced
