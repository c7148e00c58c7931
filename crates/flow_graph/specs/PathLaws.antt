-- Laws of paths: where a list begins and ends; the traces of a node are the paths from Start to it, and the nodes that
-- have one are those that are reached. For proofs only, of path_laws and the crates above it.
use Rattle.std.proofs.Common.{◌≡◌, ℕ, suc, ◌-◌, ◌<◌, List, [], ◌∷◌, ◌++◌, length, slice_get, reverse, Some, sym, ap, ◌∙◌, subst, arith, append_assoc}
use Rattle.std.proofs.lemmas.List.{reverse-append}
use Rattle.flow_graph.specs.declared.nodes.Node.{Node}
use Rattle.flow_graph.specs.Graphs.{AllWithin, Reached, at_start, along, succs_of}
use Rattle.flow_graph.specs.Paths.{Begins, Ends, HasEdge, IsPath, Trace, from_start, goes_on}
use Rattle.mir_base.specs.declared.instructions.Rhs.{Rhs}
use Rattle.flow_graph.specs.declared.nodes.Node.TheVariants.{Assign}

-- ---- the first and the last of a list

-- a list begins with the item at place 0
pub first_begins : (list : List ℕ) (n : ℕ) → slice_get list 0 ≡ Some n → Begins n list
first_begins [] n e = cc
first_begins (k ∷ list) n e = let same : k ≡ n = cc in same

-- and the item with which it begins has place 0
pub begins_first : (list : List ℕ) (n : ℕ) → Begins n list → slice_get list 0 ≡ Some n
begins_first [] n b = absurd b
begins_first (k ∷ list) n b = ap Some b

-- the node with which a list ends stands at its last index
pub end_stands : (list : List ℕ) (m : ℕ) → Ends m list → slice_get list (length list - 1) ≡ Some m
end_stands [] m e = absurd e
end_stands (k ∷ []) m e = ap Some e
end_stands (j ∷ k ∷ list) m e =
    let at : length (j ∷ k ∷ list) - 1 ≡ suc (length (k ∷ list) - 1) = omega arith in
    subst (λ i. slice_get (j ∷ k ∷ list) i ≡ Some m) (sym at) (end_stands (k ∷ list) m e)

-- ---- an edge

-- an assignment leads to its successor
pub assign_edge : (nodes : List Node) (n x next : ℕ) (rhs : Rhs) → slice_get nodes n ≡ Some (Assign x rhs next) → HasEdge nodes n next
assign_edge nodes n x next rhs is = (0, ap (λ o. slice_get (succs_of o) 0) is)

-- ---- traces and paths

module _ (nodes : List Node) (some : 0 < length nodes) (within : AllWithin nodes) where
  -- one more edge at the end of a path
  longer : (path : List ℕ) (m n : ℕ) → IsPath nodes (path ++ m ∷ []) → HasEdge nodes m n → IsPath nodes (path ++ m ∷ n ∷ [])
  longer [] m n is edge = (edge, within m edge.0 n edge.1)
  longer (k ∷ []) m n is edge = (is.0, (edge, within m edge.0 n edge.1))
  longer (k ∷ l ∷ path) m n is edge = (is.0, longer (l ∷ path) m n is.1 edge)

  -- a trace, read the other way round, is a path from Start
  pub trace_path : (n : ℕ) (before : List ℕ) → Trace nodes n before → IsPath nodes (reverse before ++ n ∷ [])
  trace_path n before from_start = some
  trace_path n before (goes_on m k earlier trace edge) =
      subst (IsPath nodes) (sym (ap (λ l. l ++ n ∷ []) (reverse-append (m ∷ []) earlier) ∙ append_assoc (reverse earlier) (m ∷ []) (n ∷ []))) (longer (reverse earlier) m n (trace_path m earlier trace) edge)

  trace_on : (m : ℕ) (before path : List ℕ) (n : ℕ) → Trace nodes m before → IsPath nodes (m ∷ path)
      → Ends n (m ∷ path) → (all : List ℕ) × Trace nodes n all × (reverse before ++ m ∷ path ≡ reverse all ++ n ∷ [])
  trace_on m before [] n trace is ends = (before, subst (λ k. Trace nodes k before) ends trace, ap (λ k. reverse before ++ k ∷ []) ends)
  trace_on m before (k ∷ path) n trace is ends =
      let r = trace_on k (m ∷ before) path n (goes_on m k before trace is.0) is.1 ends in
      (r.0, r.1, sym (ap (λ l. l ++ k ∷ path) (reverse-append (m ∷ []) before) ∙ append_assoc (reverse before) (m ∷ []) (k ∷ path)) ∙ r.2)

  -- and each path from Start is a trace of its last node
  pub path_trace : (path : List ℕ) (n : ℕ) → IsPath nodes path → Begins 0 path → Ends n path
      → (before : List ℕ) × Trace nodes n before × (path ≡ reverse before ++ n ∷ [])
  path_trace [] n is begins ends = absurd is
  path_trace (m ∷ path) n is begins ends =
      let r = trace_on m [] path n (subst (λ k. Trace nodes k []) (sym begins) from_start) is ends in
      (r.0, r.1, r.2)

-- each node that is reached has a trace
pub reached_trace : (nodes : List Node) (n : ℕ) → Reached nodes n → (before : List ℕ) × Trace nodes n before
reached_trace nodes n at_start = ([], from_start)
reached_trace nodes n (along m slot s reached edge) = let r = reached_trace nodes m reached in (m ∷ r.0, goes_on m n r.0 r.1 (slot, edge))

-- a node with a path from Start is reached
pub trace_reached : (nodes : List Node) (n : ℕ) (before : List ℕ) → Trace nodes n before → Reached nodes n
trace_reached nodes n before from_start = at_start
trace_reached nodes n before (goes_on m k earlier trace edge) = along m edge.0 n (trace_reached nodes m earlier trace) edge.1
