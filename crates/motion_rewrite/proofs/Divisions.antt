-- A placement of movable expressions replaces no dividing assignment, and none of its insertions traps.
use Rattle.std.proofs.Common.{◌≡◌, ℕ, not, true, false, List, length, slice_get, Some, inl, inr, sym, ap, ◌∙◌, subst}
use Rattle.std.proofs.lemmas.Bool.{true≢false}
use Rattle.std.proofs.lemmas.Option.{same_Some}
use Rattle.mir_base.specs.declared.instructions.Operand.{Operand}
use Rattle.mir_base.specs.declared.instructions.Rhs.{Rhs}
use Rattle.mir_base.specs.declared.instructions.Rhs.TheVariants.{Binary}
use Rattle.mir_base.specs.declared.instructions.Expr.{Expr}
use Rattle.mir_base.specs.declared.operators.Op.{Op}
use Rattle.mir_base.specs.ExpressionLaws.{never_traps_where_movable}
use Rattle.mir_base.specs.Expressions.{divides, is_movable}
use Rattle.mir_base.specs.ExpressionVars.{rhs_of}
use Rattle.flow_graph.specs.declared.nodes.Node.TheVariants.{Assign}
use Rattle.flow_graph.specs.Dividing.{DividesUnchanged}
use Rattle.flow_graph.specs.DividingLaws.{unchanged_in_place}
use Rattle.flow_graph.specs.Graphs.{GraphShape}
use Rattle.graph_edit.specs.InsertionNodes.{old_get}
use Rattle.graph_edit.specs.Insertions.{Change, Unchanged, changed, entry, rewritten_nodes}
use Rattle.flow_graph.specs.Retained.{redirected}
use Rattle.path_laws.specs.Paths.{has_bit}
use Rattle.motion_rewrite.specs.declared.placement.Placement.{Placement}
use Rattle.motion_rewrite.specs.Flatten.{IsFlattened, inserted, reading}
use Rattle.motion_rewrite.specs.Placements.{InsertionsTrapAlike}
use Rattle.motion_rewrite.specs.ExprTables.{AreMovable}
use Rattle.motion_rewrite.proofs.Insertions.{head_or_none}
use Rattle.motion_rewrite.specs.UseLaws.{uses_assign}
use Rattle.motion_rewrite.proofs.Rewritable.{IsRewritable, first_bit, replaced_use, rewriting_by, temps_of}

module _ {graph : GraphShape} {table : List Expr} {p : Placement} (r : IsRewritable graph table p) (movable : AreMovable (length graph.vars) table) where
  -- none of its insertions traps
  pub never_trap : InsertionsTrapAlike graph table p
  never_trap i e at_i n within set arguments values trap = absurd (true≢false (sym trap ∙ never_traps_where_movable values (rhs_of e) (movable.movable i e at_i)))

  -- a dividing right side is no expression that moves
  not_moved : (rhs : Rhs) (e : Expr) → rhs ≡ rhs_of e → is_movable (rhs_of e) ≡ true → is_movable rhs ≡ false → {A : Type 0} → A
  not_moved rhs e same moves stays = absurd (true≢false (sym moves ∙ sym (ap is_movable same) ∙ stays))

  -- so no dividing assignment is replaced
  unchanged : (n x : ℕ) (op : Op) (left right : Operand) (next : ℕ) → divides (Binary op left right) ≡ true → slice_get graph.nodes n ≡ Some (Assign x (Binary op left right) next) → reading (temps_of graph p) (inserted p.replace n) ≡ Unchanged
  unchanged n x op left right next may_trap is = elim (head_or_none (inserted p.replace n)) [
    | inl none ↦ ap (reading (temps_of graph p)) none
    | inr first ↦
        let set : has_bit p.replace first.0 n ≡ true = first_bit r n first.0 first.1 first.2 in
        let u = replaced_use r n first.0 set in
        let found = uses_assign graph u.0 n u.2 in
        let node_is : Assign x (Binary op left right) next ≡ Assign found.0 (rhs_of u.0) found.1 = same_Some (Assign x (Binary op left right) next) (Assign found.0 (rhs_of u.0) found.1) (sym is ∙ found.2) in
        let same : Binary op left right ≡ rhs_of u.0 = cc in
        not_moved (Binary op left right) u.0 same (movable.movable first.0 u.0 u.1) (ap not may_trap)
  ]

  -- and each stays as it is, with its operands
  pub flattened_unchanged : (result : GraphShape) → IsFlattened graph table p result → DividesUnchanged graph.nodes result.nodes
  flattened_unchanged result flat = subst (DividesUnchanged graph.nodes) (sym flat.nodes_are)
      (unchanged_in_place graph.nodes (rewritten_nodes (rewriting_by graph table p) graph.nodes) (λ n x op left right next may_trap is. (
        _,
        old_get (rewriting_by graph table p) graph.nodes n (Assign x (Binary op left right) next) is
            ∙ ap (λ (change : Change). Some (redirected (entry (rewriting_by graph table p).inserts (length graph.nodes)) (changed change (Assign x (Binary op left right) next)))) (unchanged n x op left right next may_trap is),
      )))
