-- The row of what a node blocks has as many bits as there are patterns.
use Rattle.std.proofs.Common.{◌≡◌, ◌≤◌, ℕ, Bool, true, false, List, flat_map, length, replicate, subst, sym, inl, inr, ap, ◌∙◌}
use Rattle.std.proofs.lemmas.Bool.{cases_Bool}
use Rattle.std.proofs.lemmas.List.{length-replicate}
use Rattle.mir_base.specs.BelowLaws.{all_below_append, all_below_left, all_below_right}
use Rattle.mir_base.specs.Frames.{shared_vars}
use Rattle.mir_base.specs.SharedLaws.{shared_below}
use Rattle.mir_base.specs.Shapes.{AllBelow, into_vars, operand_vars}
use Rattle.flow_graph.specs.declared.nodes.Node.{Node}
use Rattle.flow_graph.specs.declared.nodes.Node.TheVariants.{Start, Skip, Assign, Print, Guard, Call, Test, Return}
use Rattle.flow_graph.specs.Graphs.{is_start, node_vars}
use Rattle.path_laws.specs.Paths.{AreRows}
use Rattle.graph_edit.specs.Accesses.{assigns_of}
use Rattle.sink_code.specs.PatternRows.{blocked_row, reads_in, row_joined}
use Rattle.sink_code.proofs.JoinedLast.{blocked_joined, blocked_start}
use Rattle.sink_code.proofs.PatternBits.{joined_long}

module _ (vars shared : ℕ) (few : shared ≤ vars) where
  -- the variables that a node reads are below the number of variables
  pub reads_below : (node : Node) → AllBelow vars (node_vars node) → AllBelow vars (reads_in shared node)
  reads_below (Start next) below = tt
  reads_below (Skip next) below = tt
  reads_below (Assign x rhs next) below = below.1
  reads_below (Print a next) below = below
  reads_below (Guard test number next) below = below
  reads_below (Call into unit operands next) below = all_below_right vars (into_vars into) (flat_map operand_vars operands) below
  reads_below (Test test taken other) below = below
  reads_below (Return a) below = all_below_append vars (shared_vars shared) (operand_vars a) (shared_below vars shared few) below

  -- and so are those that it assigns
  pub assigns_below : (node : Node) → AllBelow vars (node_vars node) → AllBelow vars (assigns_of shared node)
  assigns_below (Start next) below = tt
  assigns_below (Skip next) below = tt
  assigns_below (Assign x rhs next) below = (below.0, tt)
  assigns_below (Print a next) below = tt
  assigns_below (Guard test number next) below = tt
  assigns_below (Call into unit operands next) below = all_below_append vars (shared_vars shared) (into_vars into) (shared_below vars shared few) (all_below_left vars (into_vars into) (flat_map operand_vars operands) below)
  assigns_below (Test test taken other) below = tt
  assigns_below (Return a) below = tt

module _ (assigning naming : List (List Bool)) (bits shared : ℕ) (few : shared ≤ length assigning) (assigning_shape : AreRows (length assigning) bits assigning) (naming_shape : AreRows (length assigning) bits naming) where
  -- rows of one length are as many as they are
  naming_own : AreRows (length naming) bits naming
  naming_own = subst (λ n. AreRows n bits naming) (sym naming_shape.len) naming_shape

  -- a row to which is joined what a node blocks
  pub joins_long : (node : Node) (row : List Bool) → AllBelow (length assigning) (node_vars node) → length row ≡ bits → length (row_joined naming (assigns_of shared node) (row_joined assigning (reads_in shared node) row)) ≡ bits
  joins_long node row below long =
      joined_long naming bits naming_own (assigns_of shared node) (row_joined assigning (reads_in shared node) row) (subst (λ n. AllBelow n (assigns_of shared node)) (sym naming_shape.len) (assigns_below (length assigning) shared few node below))
      (joined_long assigning bits assigning_shape (reads_in shared node) row (reads_below (length assigning) shared few node below) long)

  pub row_long : (node : Node) → AllBelow (length assigning) (node_vars node) → length (blocked_row assigning naming bits shared node) ≡ bits
  row_long node below = elim (cases_Bool (is_start node)) as (λ _. length (blocked_row assigning naming bits shared node) ≡ bits) [
    | inl start ↦ ap length (sym (blocked_start assigning naming shared bits node start)) ∙ length-replicate bits true
    | inr other ↦ ap length (sym (blocked_joined assigning naming shared bits node other)) ∙ joins_long node (replicate bits false) below (length-replicate bits false)
  ]
