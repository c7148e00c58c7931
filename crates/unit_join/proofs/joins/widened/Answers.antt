use Rattle.std.proofs.Common.{◌≡◌, ℕ, ◌-◌, List, ◌++◌, ◌∙◌, length, ap, subst, arith}
use Rattle.mir_base.specs.Shapes.{AllDiffer}
use Rattle.fresh_names.specs.FreshNameLaws.{names_differ}
use Rattle.fresh_names.specs.FreshNames.{AreTemporaryNames}
use Rattle.unit_join.specs.Joins.{called_leaves, copies}
use Rattle.unit_join.proofs.joins.widened.Goals as goal
use Rattle.unit_join.proofs.joins.widened.Goals.{In_ok-names}

-- the names are those of the copies
are_names : (c : In_ok-names) → AreTemporaryNames c.args.graph.now.vars (copies c.args.leaves.now.units (called_leaves c.args.leaves.now.units c.args.graph.now.nodes)) c.in_ok-names.names.items
are_names c =
    let leaves = c.args.leaves.now.units in
    let vars = c.args.graph.now.vars in
    let end = c.requires.copies.end in
    let rest : c.args.table.now.end - length vars ≡ copies leaves c.args.table.now.units.items = omega (arith, end) in
    let count : c.saturating_sub-count.result ≡ copies leaves (called_leaves leaves c.args.graph.now.nodes) =
    c.saturating_sub-count.ensures ∙ ap (λ (l : List (List ℕ)). c.args.table.now.end - length l) c.vars.ensures ∙ rest ∙ ap (copies leaves) c.requires.units in
    subst (λ n. AreTemporaryNames vars n c.in_ok-names.names.items) count (subst (λ (l : List (List ℕ)). AreTemporaryNames l c.saturating_sub-count.result c.in_ok-names.names.items) c.vars-2.ensures c.in_ok-names.ensures)

-- so they differ
differ : (c : In_ok-names) → AllDiffer (c.args.graph.now.vars ++ c.in_ok-names.names.items)
differ c = names_differ c.args.graph.now.vars c.in_ok-names.names.items (copies c.args.leaves.now.units (called_leaves c.args.leaves.now.units c.args.graph.now.nodes)) (are_names c) c.nodes-nodes.ensures.graph.can.names

pub open-requires : goal.open-requires
open-requires c = differ c

pub returns : goal.returns
returns c =
    let before = (goal.at.returns c).In_ok-names in
    record { names = c.in_ok-names.names.items; are_names = are_names before; differ = differ before; is = c.in_ok-wide.ensures ∙ c.in_ok-editor.ensures.graph }
