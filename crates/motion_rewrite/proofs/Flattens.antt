-- What follows of the rewritten graph from the laws of rewritings: `flatten` and `flatten_dividing` ensure it.
use Rattle.std.proofs.Common.{◌≡◌, ℕ, List, length, take, sym, ap, ◌∙◌, subst}
use Rattle.mir_base.specs.declared.instructions.Expr.{Expr}
use Rattle.std.proofs.lemmas.List.{take-append-le}
use Rattle.mir_base.specs.Shapes.{AllDiffer}
use Rattle.mir_base.specs.UnitRuns.{UnitSame, UnitCheaper}
use Rattle.flow_graph.specs.declared.nodes.Node.{Node}
use Rattle.graph_edit.specs.Along.{RunsAlong, RunsFollow}
use Rattle.flow_graph.specs.Calls.{NodesCall}
use Rattle.flow_graph.specs.Edges.{IsSplit}
use Rattle.flow_graph.specs.Graphs.{GraphShape}
use Rattle.graph_edit.specs.InsertionGraphs.{rewritten_calls}
use Rattle.graph_edit.specs.InsertionPaths.{path_within, rewritten_over, rewritten_alone}
use Rattle.graph_edit.specs.Over.{IsOver, over_path}
use Rattle.graph_edit.specs.InsertionRunLaws.{rewritten_same, rewritten_cheaper, rewritten_runs}
use Rattle.graph_edit.specs.InsertionSplit.{rewritten_split}
use Rattle.graph_edit.specs.Insertions.{Rewriting, CanRewrite, rewritten_nodes}
use Rattle.flow_graph.specs.Machines.{graph_machine, machine_of}
use Rattle.flow_graph.specs.Paths.{IsFullPath}
use Rattle.motion_rewrite.specs.declared.placement.Placement.{Placement}
use Rattle.motion_rewrite.specs.Flatten.{IsFlattened}
use Rattle.motion_rewrite.specs.Over.{HasOver}
use Rattle.motion_rewrite.specs.Placements.{InsertionsTrapAlike, IsNoDearer}
use Rattle.motion_rewrite.proofs.Counting.{counted, others}
use Rattle.motion_rewrite.proofs.Fitting.{placement_fits}
use Rattle.motion_rewrite.proofs.TemporaryValues.{TemporariesHold, placement_preserves}
use Rattle.motion_rewrite.proofs.Evaluations.{counts_no_more}
use Rattle.motion_rewrite.proofs.Rewritable.{IsRewritable, rewriting_by}

-- the machines of the two graphs have the same received variables
machine_is : (graph result : GraphShape) (nodes : List Node) → result.shared ≡ graph.shared → result.received ≡ graph.received → result.nodes ≡ nodes → graph_machine graph.shared graph.received nodes ≡ machine_of result
machine_is graph result nodes shared received is = ap (λ k. graph_machine k graph.received nodes) (sym shared) ∙ ap (λ l. graph_machine result.shared l nodes) (sym received) ∙ ap (graph_machine result.shared result.received) (sym is)

module _ {graph : GraphShape} {table : List Expr} {p : Placement} (r : IsRewritable graph table p) where
  -- the rewriting, and the nodes that it makes
  abbrev way : Rewriting
  way = rewriting_by graph table p

  abbrev nodes' : List Node
  nodes' = rewritten_nodes way graph.nodes

  module _ (result : GraphShape) (flat : IsFlattened graph table p result) where
    -- it can be made
    abbrev fits : CanRewrite way flat.names graph
    fits = placement_fits r flat.names flat.are_names

    -- the result is that of the rewriting
    nodes_are : result.nodes ≡ nodes'
    nodes_are = flat.nodes_are

    machines : graph_machine graph.shared graph.received nodes' ≡ machine_of result
    machines = machine_is graph result nodes' flat.shared_is flat.received_are nodes_are

    -- the globals stay the first variables
    pub flattened_globals : take result.shared result.vars ≡ take graph.shared graph.vars
    flattened_globals = ap (λ k. take k result.vars) flat.shared_is ∙ ap (take graph.shared) flat.vars_are ∙ take-append-le graph.shared graph.vars flat.names r.least

    -- a split graph stays split, and no call is new
    pub flattened_split : IsSplit graph.nodes → IsSplit result.nodes
    flattened_split split = subst IsSplit (sym nodes_are) (rewritten_split way graph.nodes (λ m slot s edge. (r.is_graph.can.succs m slot s edge).1) split)

    pub flattened_calls : (called count : ℕ) → NodesCall result.nodes called count → NodesCall graph.nodes called count
    flattened_calls called count calls = rewritten_calls way graph.nodes called count (subst (λ l. NodesCall l called count) nodes_are calls)

    -- ---- what it does, where the insertions trap as the graph does

    -- the result does the same
    pub flattened_same : InsertionsTrapAlike graph table p → UnitSame (machine_of graph) (machine_of result)
    flattened_same alike = subst (UnitSame (machine_of graph)) machines
        (rewritten_same way flat.names graph (TemporariesHold r) fits r.is_graph (placement_preserves r alike))

    -- and evaluates no more where the placement does not
    pub flattened_cheaper : InsertionsTrapAlike graph table p → AllDiffer table → IsNoDearer graph table p → UnitCheaper (machine_of graph) (machine_of result)
    flattened_cheaper alike differ no_dearer = subst (UnitCheaper (machine_of graph)) machines
        (rewritten_cheaper way flat.names graph (TemporariesHold r) fits r.is_graph (placement_preserves r alike)
        (counts_no_more r differ no_dearer))

    -- ---- paths

    -- one path lies over each full path, with the counts of the placement
    pub flattened_paths : AllDiffer table → (path : List ℕ) → IsFullPath graph.nodes path → HasOver graph result table p path
    flattened_paths differ path full =
        let within = path_within way graph.nodes path full.is_path in
        subst (λ l. HasOver graph (record result { nodes = l }) table p path) (sym nodes_are) (record {
          over = over_path way.inserts (length graph.nodes) path;
          is_over = rewritten_over way flat.names graph fits r.is_graph path full;
          alone = rewritten_alone way flat.names graph fits r.is_graph path;
          counted = λ i e at_i. counted r differ i e at_i path within;
          others = λ e out. others r differ e out path within;
        })

    -- and a run along the one goes on along the other
    pub flattened_runs : InsertionsTrapAlike graph table p → RunsFollow graph result
    flattened_runs alike = record {
      follow = λ path other entry answers full is is_entry are runs.
          let lies : IsOver graph.nodes nodes' path other = subst (λ l. IsOver graph.nodes l path other) nodes_are is in
          subst (λ m. RunsAlong m entry answers other) machines
          (subst (RunsAlong (graph_machine graph.shared graph.received nodes') entry answers) (sym (rewritten_alone way flat.names graph fits r.is_graph path other lies))
          (rewritten_runs way flat.names graph (TemporariesHold r) fits r.is_graph (placement_preserves r alike) path entry answers are runs));
    }
