-- The graph in which a variable is read in the place of each movable right side whose value it has already. Cited by
-- contracts.
use Rattle.std.specs.Prelude.{◌≡◌, ◌≢◌, ℕ, ◌<◌, List, length, slice_get, slice_index_or, Option, Some, None}
use Rattle.mir_base.specs.declared.instructions.Operand.TheVariants.{Var}
use Rattle.mir_base.specs.declared.instructions.Rhs.TheVariants.{Plain}
use Rattle.flow_graph.specs.declared.nodes.Node.{Node}
use Rattle.flow_graph.specs.declared.nodes.Node.TheVariants.{Start, Skip, Assign, Print, Guard, Call, Test, Return}
use Rattle.flow_graph.specs.Edges.{edges_from, IsSplit}
use Rattle.flow_graph.specs.Graphs.{GraphShape, succs_at}
use Rattle.value_number.specs.Terms.{Term, Terms, movable_term}
use Rattle.value_number.specs.Roots.{FromRoot, terms_before}

-- of the variables below `count`, the first that has this term; none exactly where none has it, or there is no term
abbrev pub IsHolder : ℕ → Terms → Option Term → Option ℕ → Type 0
IsHolder count terms None holder = holder ≡ None
IsHolder count terms (Some t) None = (v : ℕ) → v < count → terms v ≢ t
IsHolder count terms (Some t) (Some v) = (v < count) × (terms v ≡ t)
    × ((u : ℕ) → u < v → terms u ≢ t)

-- of the variables below `count`, this is the first that has, before node n, the term of the movable right side that
-- the node assigns; none where none has it, or the node assigns no such right side
pub record IsHolderAt (shared : ℕ) (nodes : List Node) (count n : ℕ) (node : Node)
    (holder : Option ℕ) : Type 0 where
  pub root : ℕ
  pub before : List ℕ
  pub path : FromRoot nodes root n before
  pub is : IsHolder count (terms_before shared nodes root before)
      (movable_term (terms_before shared nodes root before) node) holder

-- the assignment of this variable in the place of the node's right side, where there is one
abbrev pub numbered_node : Node → Option ℕ → Node
numbered_node node None = node
numbered_node (Start next) (Some v) = Start next
numbered_node (Skip next) (Some v) = Skip next
numbered_node (Assign x rhs next) (Some v) = Assign x (Plain (Var v)) next
numbered_node (Print a next) (Some v) = Print a next
numbered_node (Guard test number next) (Some v) = Guard test number next
numbered_node (Call into unit operands next) (Some v) = Call into unit operands next
numbered_node (Test test taken other) (Some v) = Test test taken other
numbered_node (Return a) (Some v) = Return a

-- what the nodes become by a table of their holders
pub record BecomeNumbered (nodes : List Node) (holders : List (Option ℕ))
    (result : List Node) : Type 0 where
  pub long : length result ≡ length nodes
  pub are : (n : ℕ) (node : Node) → slice_get nodes n ≡ Some node
      → slice_get result n ≡ Some (numbered_node node (slice_index_or holders n None))

-- what node n becomes: it assigns the first variable that has its term already, where there is one
pub record IsNumberedAt (shared : ℕ) (nodes : List Node) (count n : ℕ) (node : Node)
    (result : Option Node) : Type 0 where
  pub holder : Option ℕ
  pub holds : IsHolderAt shared nodes count n node holder
  pub is : result ≡ Some (numbered_node node holder)

-- what the nodes become, each decided by the terms of the nodes as they were
pub record AreNumbered (shared count : ℕ) (nodes result : List Node) : Type 0 where
  pub long : length result ≡ length nodes
  pub each : (n : ℕ) (node : Node) → slice_get nodes n ≡ Some node
      → IsNumberedAt shared nodes count n node (slice_get result n)

-- the graph in which each movable right side whose term some variable has before the node is the first such variable
pub record IsNumbered (graph result : GraphShape) : Type 0 where
  pub name_is : result.name ≡ graph.name
  pub vars_are : result.vars ≡ graph.vars
  pub received_are : result.received ≡ graph.received
  pub shared_is : result.shared ≡ graph.shared
  pub nodes_are : AreNumbered graph.shared (length graph.vars) graph.nodes result.nodes

-- there is no other such graph
abbrev pub IsOnlyNumbered : GraphShape → GraphShape → Type 0
IsOnlyNumbered graph result = (other : GraphShape) → IsNumbered graph other → other ≡ result

-- each node has the successors that it had, and a split graph stays split
pub record KeepsEdges (graph result : GraphShape) : Type 0 where
  pub succs : (n : ℕ) → succs_at result.nodes n ≡ succs_at graph.nodes n
  pub edges : edges_from 0 result.nodes ≡ edges_from 0 graph.nodes
  pub split : IsSplit graph.nodes → IsSplit result.nodes
