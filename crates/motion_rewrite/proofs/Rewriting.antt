-- What a placement puts before a node: one assignment for each number.
use Rattle.std.proofs.Common.{◌≡◌, ℕ, ◌<◌, List, [], ◌∷◌, ◌++◌, length, slice_get, Some, refl, ap, ◌∙◌}
use Rattle.mir_base.specs.declared.instructions.Operand.TheVariants.{Var}
use Rattle.mir_base.specs.declared.instructions.Rhs.TheVariants.{Plain}
use Rattle.mir_base.specs.declared.instructions.Expr.{Expr}
use Rattle.mir_base.specs.Shapes.{AllBelow}
use Rattle.mir_base.specs.ExpressionVars.{rhs_of}
use Rattle.flow_graph.specs.declared.nodes.Node.{Node}
use Rattle.motion_rewrite.specs.EditingOrder.{rewritten_alike}
use Rattle.flow_graph.specs.Graphs.{AllWithin}
use Rattle.graph_edit.specs.Insertions.{Replaced}
use Rattle.path_laws.specs.Paths.{AreRows}
use Rattle.motion_rewrite.specs.declared.placement.Placement.{Placement}
use Rattle.motion_rewrite.specs.Flatten.{inserted, insertion_of, insertions_of, reading, by_placement, flattened}
use Rattle.motion_rewrite.proofs.RowNumbers.{inserted_within}

module _ (temp : ℕ → ℕ) (table : List Expr) where
  -- a number that the table knows makes one assignment
  pub one_more : (i : ℕ) (e : Expr) (numbers : List ℕ) → slice_get table i ≡ Some e → insertions_of temp table (i ∷ numbers) ≡ record { var = temp i; rhs = rhs_of e } ∷ insertions_of temp table numbers
  one_more i e numbers at_i = ap (λ o. insertion_of (temp i) o ++ insertions_of temp table numbers) at_i

-- temporaries that agree on the expressions of the table
module _ (f g : ℕ → ℕ) (table : List Expr) (same : (i : ℕ) → i < length table → f i ≡ g i) where
  pub insertions_alike : (numbers : List ℕ) → AllBelow (length table) numbers → insertions_of f table numbers ≡ insertions_of g table numbers
  insertions_alike [] below = refl
  insertions_alike (i ∷ numbers) below =
      ap (λ x. insertion_of x (slice_get table i) ++ insertions_of f table numbers) (same i below.0) ∙ ap (λ l. insertion_of (g i) (slice_get table i) ++ l) (insertions_alike numbers below.1)

  pub reading_alike : (numbers : List ℕ) → AllBelow (length table) numbers → reading f numbers ≡ reading g numbers
  reading_alike [] below = refl
  reading_alike (i ∷ numbers) below = ap (λ x. Replaced (Plain (Var x))) (same i below.0)

  pub flattened_alike : (p : Placement) (nodes : List Node) → AllWithin nodes → AreRows (length nodes) (length table) p.insert → AreRows (length nodes) (length table) p.replace → flattened f table p nodes ≡ flattened g table p nodes
  flattened_alike p nodes within insert replace = rewritten_alike (by_placement f table p) (by_placement g table p) nodes within (λ m. insertions_alike (inserted p.insert m) (inserted_within (length nodes) (length table) p.insert insert m)) (λ m. reading_alike (inserted p.replace m) (inserted_within (length nodes) (length table) p.replace replace m))
