-- Law: what a global is handed on with is live. For proofs only.
use Rattle.std.proofs.Common.{◌≡◌, ◌<◌, ℕ, true, ◌||◌, List, [], ◌∷◌, ◌++◌, flat_map, slice_get, Option, Some, None, ap, ◌∙◌}
use Rattle.std.proofs.lemmas.Bool.{false≢true, lt-ltb}
use Rattle.mir_base.specs.Frames.{shared_vars}
use Rattle.mir_base.specs.Shapes.{operand_vars}
use Rattle.flow_graph.specs.declared.nodes.Node.{Node}
use Rattle.flow_graph.specs.declared.nodes.Node.TheVariants.{Start, Skip, Assign, Print, Guard, Call, Test, Return}
use Rattle.flow_graph.specs.Graphs.{GraphShape}
use Rattle.flow_graph.specs.Numbering.{is_in}
use Rattle.path_laws.specs.Paths.{EndsBorn}
use Rattle.graph_edit.specs.Accesses.{assigns_at, reads_at, reads_var}
use Rattle.dead_code.specs.Liveness.{IsHandedOn, IsLiveBefore, hands_on}
use Rattle.graph_edit.specs.VarLaws.{is_in_append, shared_is_in}

module _ (graph : GraphShape) (x : ℕ) (global : x < graph.shared) where
  -- a global is among the globals and more
  among : (more : List ℕ) → is_in x (shared_vars graph.shared ++ more) ≡ true
  among more = is_in_append x (shared_vars graph.shared) more ∙ ap (λ b. b || is_in x more) (shared_is_in graph.shared x ∙ lt-ltb x graph.shared global)

  -- a node that hands the globals on reads each
  hands_reads : (node : Option Node) → hands_on node ≡ true → reads_var graph x node ≡ true
  hands_reads None is = absurd (false≢true is)
  hands_reads (Some (Start next)) is = absurd (false≢true is)
  hands_reads (Some (Skip next)) is = absurd (false≢true is)
  hands_reads (Some (Assign y rhs next)) is = absurd (false≢true is)
  hands_reads (Some (Print a next)) is = absurd (false≢true is)
  hands_reads (Some (Guard test number next)) is = absurd (false≢true is)
  hands_reads (Some (Call into unit operands next)) is = among (flat_map operand_vars operands)
  hands_reads (Some (Test test taken other)) is = absurd (false≢true is)
  hands_reads (Some (Return a)) is = among (operand_vars a)

  -- so a path on which it is handed on is one on which it is read
  ends_read : (path : List ℕ)
      → EndsBorn (λ m. hands_on (slice_get graph.nodes m)) (assigns_at graph x) path
      → EndsBorn (reads_at graph x) (assigns_at graph x) path
  ends_read [] ends = ends
  ends_read (n ∷ []) ends = hands_reads (slice_get graph.nodes n) ends
  ends_read (m ∷ n ∷ path) ends = (ends.0, ends_read (n ∷ path) ends.1)

-- the value that a global is handed on with is live
pub handed_live : (graph : GraphShape) (x n : ℕ) → x < graph.shared → IsHandedOn graph x n → IsLiveBefore graph x n
handed_live graph x n global on = record { path = on.path; is_path = on.is_path; begins = on.begins; ends = ends_read graph x global on.path on.ends }
