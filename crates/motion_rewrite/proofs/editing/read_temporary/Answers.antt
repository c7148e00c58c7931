use Rattle.std.proofs.Common.{◌≡◌, ◌+◌, ◌∷◌, drop, get_or, length, ap, sym, ◌∙◌, subst, inl, inr, arith}
use Rattle.graph_edit.specs.Editing.{graph_changed}
use Rattle.graph_edit.specs.EditingLaws.{change_none}
use Rattle.graph_edit.specs.Insertions.{ChangeBelow}
use Rattle.motion_rewrite.specs.Flatten.{reading, set_from}
use Rattle.motion_rewrite.proofs.SetBits.{bits_step, bits_end}
use Rattle.motion_rewrite.proofs.editing.read_temporary.Goals as goal
use Rattle.motion_rewrite.proofs.editing.read_temporary.Goals.{In-Some}

first_is : (c : In-Some) → set_from 0 c.args.row.now ≡ c.in-Some.number ∷ set_from (c.in-Some.number + 1) (drop (c.in-Some.number + 1) c.args.row.now)
first_is c = let found = c.in-Some.ensures.found in bits_step 0 c.in-Some.number c.args.row.now found.0 found.1 c.in-Some.ensures.first found.2

pub change-requires-clause-node : goal.change-requires-clause-node
change-requires-clause-node c = elim c.requires.uses [
  | inl kept ↦ let never = sym (ap (reading (λ i. get_or c.args.temps.now i 0)) (first_is (goal.at.change-requires-clause-node c).In-Some)) ∙ kept in absurd (cc)
  | inr is ↦ is
]

pub change-requires-clause-rhs : goal.change-requires-clause-rhs
change-requires-clause-rhs c = subst (λ l. ChangeBelow (length c.args.editor.now.graph.vars) (reading (λ i. get_or c.args.temps.now i 0) l)) (first_is (goal.at.change-requires-clause-rhs c).In-Some) c.requires.vars

pub returns-in-Some-clause-graph : goal.returns-in-Some-clause-graph
returns-in-Some-clause-graph c = c.change.ensures.graph ∙ ap (λ l. graph_changed c.args.node (reading (λ i. get_or c.args.temps.now i 0) l) c.args.editor.now.graph) (sym (first_is (goal.at.returns-in-Some-clause-graph c).In-Some))

pub returns-in-None-clause-graph : goal.returns-in-None-clause-graph
returns-in-None-clause-graph c =
    let none = bits_end 0 c.args.row.now (omega arith) c.in-None.ensures.none in
    ap (λ l. (record c.args.editor.now.graph { nodes = l })) (sym (change_none c.args.node c.args.editor.now.graph.nodes))
    ∙ ap (λ l. graph_changed c.args.node (reading (λ i. get_or c.args.temps.now i 0) l) c.args.editor.now.graph) (sym none)
