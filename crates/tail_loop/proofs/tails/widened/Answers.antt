use Rattle.std.proofs.Common.{ℕ, List, ◌++◌, ◌∙◌, subst}
use Rattle.mir_base.specs.Shapes.{AllDiffer}
use Rattle.fresh_names.specs.FreshNameLaws.{names_differ}
use Rattle.fresh_names.specs.FreshNames.{AreTemporaryNames}
use Rattle.tail_loop.specs.Tails.{temporaries}
use Rattle.tail_loop.proofs.tails.widened.Goals as goal
use Rattle.tail_loop.proofs.tails.widened.Goals.{In_ok-names}

-- the names are those of the temporaries
are_names : (c : In_ok-names) → AreTemporaryNames c.args.graph.now.vars (temporaries c.args.graph.now c.args.calls.now) c.in_ok-names.names.items
are_names c = subst (λ (l : List (List ℕ)). AreTemporaryNames l (temporaries c.args.graph.now c.args.calls.now) c.in_ok-names.names.items) c.vars.ensures (subst (λ n. AreTemporaryNames c.vars.result.now n c.in_ok-names.names.items) c.temporaries.ensures c.in_ok-names.ensures)

-- so they differ
differ : (c : In_ok-names) → AllDiffer (c.args.graph.now.vars ++ c.in_ok-names.names.items)
differ c = names_differ c.args.graph.now.vars c.in_ok-names.names.items (temporaries c.args.graph.now c.args.calls.now) (are_names c) c.nodes-nodes.ensures.graph.can.names

pub open-requires : goal.open-requires
open-requires c = differ c

pub returns : goal.returns
returns c =
    let before = (goal.at.returns c).In_ok-names in
    record { names = c.in_ok-names.names.items; are_names = are_names before; differ = differ before; is = c.in_ok-wide.ensures ∙ c.in_ok-editor.ensures.graph }
