-- What is live behind a node that stands over a path is read by one that stands over a longer path. For proofs only.
use Rattle.std.proofs.Common.{◌≡◌, ℕ, Bool, true, List, [], ◌∷◌, ◌++◌, flat_map, sym, ap, ◌∙◌, subst}
use Rattle.flow_graph.specs.Graphs.{GraphShape}
use Rattle.flow_graph.specs.Paths.{Begins, HasEdge, IsPath}
use Rattle.path_laws.specs.Paths.{EndsBorn}
use Rattle.graph_edit.specs.Accesses.{assigns_at, reads_at}
use Rattle.graph_edit.specs.Insertions.{Insertion}
use Rattle.dead_code.specs.Liveness.{IsLiveAfter}
use Rattle.path_images.specs.Ends.{IsEndOf, cons_rest, latest, latest_here, latest_past}
use Rattle.path_images.specs.Walks.{IsPlaced}
use Rattle.path_images.specs.Images.{Ask, IsRead}
use Rattle.sink_best.specs.GraphWalks.{graph_does}
use Rattle.sink_best.specs.OneLift.{LeadsOn, Next, moves, stays}

module _ (Walk : List ℕ → Type 0) (does : Ask Insertion → ℕ → Bool) (firm : ℕ → Bool) (over : ℕ → List ℕ) (graph : GraphShape) (onward : LeadsOn Walk over graph.nodes)
    (path : List ℕ) (k : ℕ) (rest : List ℕ) (y : ℕ) where
  abbrev lift : List ℕ → List ℕ
  lift = flat_map over

  abbrev Read : Type 0
  Read = IsRead Insertion Walk does firm over (graph_does graph) path k rest y

  still_placed : (b a : ℕ) (before p : List ℕ) → IsPlaced over (a ∷ before) p → IsPlaced over (b ∷ a ∷ before) p
  still_placed b a before p placed n q e = (let l = placed n q e in record { node = b; front = l.node ∷ l.front; is = ap (λ c. b ∷ c) l.is })

  placed_next : (b s : ℕ) (end p : List ℕ) → end ≡ lift p → IsPlaced over (b ∷ end) (s ∷ p)
  placed_next b s end p whole n q e = record { node = b; front = []; is = ap (λ c. b ∷ c) (whole ∙ ap lift (cons_rest s n p q e)) }

  go : (q : List ℕ) (a : ℕ) (on before : List ℕ) → Walk (on ++ path) → IsEndOf (a ∷ before) (lift (on ++ path))
      → IsPlaced over (a ∷ before) (on ++ path) → latest (assigns_at graph y) before ≡ k ∷ rest
      → IsPath graph.nodes (a ∷ q) → EndsBorn (reads_at graph y) (assigns_at graph y) (a ∷ q) → Read
  go [] a on before walk at placed last is ends = record { on = on; walk = walk; node = a; before = before; at = at; placed = placed; reads_it = ends; last = last }
  go (b ∷ q) a on before walk at placed last is ends = by (onward (on ++ path) a before walk at placed b is.0) (λ on' walk' at' placed'. go q b on' (a ∷ before) walk' at' placed' (latest_past (assigns_at graph y) a before ends.0 ∙ last) is.1 ends.1)
    where
      by : Next Walk over (on ++ path) a before b
          → ((on' : List ℕ) → Walk (on' ++ path) → IsEndOf (b ∷ a ∷ before) (lift (on' ++ path)) → IsPlaced over (b ∷ a ∷ before) (on' ++ path) → Read)
          → Read
      by (stays end) further = further on walk end (still_placed b a before (on ++ path) placed)
      by (moves s walk_s whole end) further = further (s ∷ on) walk_s (subst (λ l. IsEndOf (b ∷ l) (lift (s ∷ (on ++ path)))) (sym whole) end) (placed_next b s (a ∷ before) (on ++ path) whole)

  pub live_read_on : Walk path → IsEndOf (k ∷ rest) (flat_map over path) → IsPlaced over (k ∷ rest) path
      → assigns_at graph y k ≡ true → IsLiveAfter graph y k
      → IsRead Insertion Walk does firm over (graph_does graph) path k rest y
  live_read_on walk at placed sets live = begin live.2.path live.2.is_path live.2.begins live.2.ends
    where
      first : (a : ℕ) (q : List ℕ) → IsPath graph.nodes (a ∷ q) → EndsBorn (reads_at graph y) (assigns_at graph y) (a ∷ q) → Next Walk over path k rest a → Read
      first a q is ends (stays end) = go q a [] (k ∷ rest) walk end (still_placed a k rest path placed) (latest_here (assigns_at graph y) k rest sets) is ends
      first a q is ends (moves s walk_s whole end) = go q a (s ∷ []) (k ∷ rest) walk_s (subst (λ l. IsEndOf (a ∷ l) (lift (s ∷ path))) (sym whole) end) (placed_next a s (k ∷ rest) path whole) (latest_here (assigns_at graph y) k rest sets) is ends

      begin : (l : List ℕ) → IsPath graph.nodes l → Begins live.0 l → EndsBorn (reads_at graph y) (assigns_at graph y) l → Read
      begin [] is begins ends = absurd is
      begin (a ∷ q) is begins ends = first a q is ends (onward path k rest walk at placed a (subst (HasEdge graph.nodes k) (sym begins) live.1))
