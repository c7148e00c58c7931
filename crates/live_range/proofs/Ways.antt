-- Paths, node by node: their first nodes, the full path that a trace makes, and from where a Return is reached.
use Rattle.std.proofs.Common.{◌<◌, ℕ, List, [], ◌∷◌, ◌++◌, length, reverse, refl, sym, ap, ◌∙◌, subst, append_assoc}
use Rattle.std.proofs.lemmas.List.{reverse-append}
use Rattle.flow_graph.specs.declared.nodes.Node.{Node}
use Rattle.flow_graph.specs.BoundLaws.{edge_within}
use Rattle.flow_graph.specs.Graphs.{AllWithin}
use Rattle.flow_graph.specs.PathLaws.{trace_path}
use Rattle.flow_graph.specs.Paths.{Begins, Ends, HasEdge, IsFullPath, IsPath, IsReturnAt, Trace, from_start, goes_on}
use Rattle.live_range.specs.Held.{ReachesReturn}

-- a list with this last item ends there
pub ends_last : (list : List ℕ) (n : ℕ) → Ends n (list ++ n ∷ [])
ends_last [] n = refl
ends_last (k ∷ []) n = refl
ends_last (k ∷ l ∷ list) n = ends_last (l ∷ list) n

module _ (nodes : List Node) where
  -- the first node of a path is there
  pub head_below : (n : ℕ) (path : List ℕ) → IsPath nodes (n ∷ path) → n < length nodes
  head_below n [] is = is
  head_below n (s ∷ path) is = edge_within nodes n s is.0

  -- a trace, read the other way round and continued, begins at Start
  trace_begins : (n : ℕ) (before later : List ℕ) → Trace nodes n before → Begins 0 (reverse before ++ n ∷ later)
  trace_begins n before later from_start = refl
  trace_begins n before later (goes_on m k earlier trace edge) =
      subst (Begins 0) (sym (ap (λ l. l ++ n ∷ later) (reverse-append (m ∷ []) earlier) ∙ append_assoc (reverse earlier) (m ∷ []) (n ∷ later))) (trace_begins m earlier (n ∷ later) trace)

  -- so that of a Return is a full path
  pub trace_full : 0 < length nodes → AllWithin nodes → (n : ℕ) (before : List ℕ) → Trace nodes n before → IsReturnAt nodes n → IsFullPath nodes (reverse before ++ n ∷ [])
  trace_full some within n before trace returns = record {
    is_path = trace_path nodes some within n before trace;
    begins = trace_begins n before [] trace;
    last = n;
    ends = ends_last (reverse before) n;
    returns = returns;
  }

  -- where a Return is reached from a node, one is reached from each node before it
  pub reaches_back : (m n : ℕ) → HasEdge nodes m n → ReachesReturn nodes n → ReachesReturn nodes m
  reaches_back m n edge reaches = record { later = n ∷ reaches.later; is_path = (edge, reaches.is_path); last = reaches.last; ends = reaches.ends; returns = reaches.returns }

  -- so it is all along a path to such a node
  pub reaches_along : (n : ℕ) (path : List ℕ) (last : ℕ) → IsPath nodes (n ∷ path) → Ends last (n ∷ path) → ReachesReturn nodes last → ReachesReturn nodes n
  reaches_along n [] last is ends reaches = subst (ReachesReturn nodes) (sym ends) reaches
  reaches_along n (s ∷ path) last is ends reaches = reaches_back n s is.0 (reaches_along s path last is.1 ends reaches)
