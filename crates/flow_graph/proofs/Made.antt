-- The nodes that are retained make a graph.
use Rattle.std.proofs.Common.{◌≡◌, ℕ, zero, suc, ◌<◌, ◌≤◌, Bool, true, false, List, [], ◌∷◌, map, length, slice_get, Option, Some, None, option_map, refl, sym, ap, ◌∙◌, subst, arith}
use Rattle.std.proofs.lemmas.Option.{slice_get-map, slice_get_within, slice_get-get_or}
use Rattle.mir_base.specs.Shapes.{AllBelow}
use Rattle.flow_graph.specs.declared.nodes.Node.{Node}
use Rattle.flow_graph.specs.declared.nodes.Node.TheVariants.{Start, Skip}
use Rattle.flow_graph.specs.Graphs.{IsEdge, Reached, at_start, along, node_succs, succs_of, succs_at, node_vars, CanMake, IsGraph}
use Rattle.flow_graph.specs.Retained.{redirected, marked_below, marked, AreRetained}
use Rattle.flow_graph.specs.RetainedLaws.{at_rank}
use Rattle.flow_graph.specs.NodeLaws.{mapped_from, redirected_start, redirected_succs, redirected_succs_of, redirected_vars}
use Rattle.flow_graph.specs.BoundLaws.{reached_within}

-- item n of those that the marks retain, with its number m in the whole list
record Preimage {A : Type 0} (marks : List Bool) (xs : List A) (n : ℕ) (x : A) : Type 0 where
  m : ℕ
  marks_it : slice_get marks m ≡ Some true
  ranks_it : marked_below marks m ≡ n
  is : slice_get xs m ≡ Some x

-- each item that is retained was marked, and its new number is how many before it were
preimage : {A : Type 0} (marks : List Bool) (xs : List A) (n : ℕ) (x : A) → slice_get (marked marks xs) n ≡ Some x → Preimage marks xs n x
preimage [] xs n x e = cc
preimage (true ∷ marks) [] n x e = cc
preimage (false ∷ marks) [] n x e = cc
preimage (true ∷ marks) (y ∷ xs) zero x e = record { m = 0; marks_it = refl; ranks_it = refl; is = e }
preimage (true ∷ marks) (y ∷ xs) (suc n) x e = let p = preimage marks xs n x e in record { m = suc p.m; marks_it = p.marks_it; ranks_it = ap suc p.ranks_it; is = p.is }
preimage (false ∷ marks) (y ∷ xs) n x e = let p = preimage marks xs n x e in record { m = suc p.m; marks_it = p.marks_it; ranks_it = p.ranks_it; is = p.is }

-- a later one has a higher rank
rank_positive : (marks : List Bool) (s : ℕ) → slice_get marks 0 ≡ Some true → 1 ≤ s → 1 ≤ marked_below marks s
rank_positive [] s e lt = cc
rank_positive (b ∷ marks) zero e lt = absurd (omega (arith, lt))
rank_positive (true ∷ marks) (suc s) e lt = omega arith
rank_positive (false ∷ marks) (suc s) e lt = cc

module _ (vars : List (List ℕ)) (received : List ℕ) (raw nodes : List Node) (can : CanMake vars received raw) (retained : AreRetained raw nodes) where
  abbrev marks : List Bool
  marks = retained.marks

  abbrev to : ℕ → ℕ
  to = marked_below marks

  start_marked : slice_get marks 0 ≡ Some true
  start_marked = (retained.are_marks.exact 0 (slice_get_within raw 0 _ can.start.1)).1 at_start

  image_of : (m : ℕ) → slice_get marks m ≡ Some true → slice_get nodes (to m) ≡ option_map (redirected to) (slice_get raw m)
  image_of m e = ap (λ l. slice_get l (to m)) retained.are ∙ slice_get-map (redirected to) (marked marks raw) (to m) ∙ ap (option_map (redirected to)) (at_rank marks raw m e retained.are_marks.long)

  record Back (n : ℕ) (node : Node) : Type 0 where
    m : ℕ
    marks_it : slice_get marks m ≡ Some true
    ranks_it : to m ≡ n
    old : Node
    is : slice_get raw m ≡ Some old
    same : redirected to old ≡ node

  back : (n : ℕ) (node : Node) → slice_get nodes n ≡ Some node → Back n node
  back n node e =
      let s = mapped_from (redirected to) (slice_get (marked marks raw) n) node (sym (slice_get-map (redirected to) (marked marks raw) n) ∙ sym (ap (λ l. slice_get l n) retained.are) ∙ e) in
      let p = preimage marks raw n s.0 s.1 in
      record { m = p.m; marks_it = p.marks_it; ranks_it = p.ranks_it; old = s.0; is = p.is; same = s.2 }

  -- an edge among the retained nodes is one among the old
  record EdgeBack (n slot s : ℕ) : Type 0 where
    m : ℕ
    t : ℕ
    marks_it : slice_get marks m ≡ Some true
    edge : IsEdge raw m slot t
    same : to t ≡ s

  edge_back_at : (n slot s : ℕ) (o : Option Node) → slice_get nodes n ≡ o → slice_get (succs_of o) slot ≡ Some s → EdgeBack n slot s
  edge_back_at n slot s None e f = cc
  edge_back_at n slot s (Some node) e f =
      let b = back n node e in
      let g : slice_get (map to (node_succs b.old)) slot ≡ Some s = sym (ap (λ l. slice_get l slot) (redirected_succs to b.old)) ∙ ap (λ x. slice_get (node_succs x) slot) b.same ∙ f in
      let p = mapped_from to (slice_get (node_succs b.old) slot) s (sym (slice_get-map to (node_succs b.old) slot) ∙ g) in
      record { m = b.m; t = p.0; marks_it = b.marks_it; edge = ap (λ o. slice_get (succs_of o) slot) b.is ∙ p.1; same = p.2 }

  reached_of : (m : ℕ) → slice_get marks m ≡ Some true → m < length raw → Reached raw m
  reached_of m e lt = (retained.are_marks.exact m lt).0 e

  marked_of : (m : ℕ) → Reached raw m → m < length raw → slice_get marks m ≡ Some true
  marked_of m r lt = (retained.are_marks.exact m lt).1 r

  rank_within : (m : ℕ) (node : Node) → slice_get marks m ≡ Some true → slice_get raw m ≡ Some node → to m < length nodes
  rank_within m node e is = slice_get_within nodes (to m) (redirected to node) (image_of m e ∙ ap (option_map (redirected to)) is)

  mark_within : (m : ℕ) → slice_get marks m ≡ Some true → m < length raw
  mark_within m e = omega (arith, slice_get_within marks m true e, retained.are_marks.long)

  there : (m : ℕ) → m < length raw → (node : Node) × (slice_get raw m ≡ Some node)
  there m lt = (_, slice_get-get_or raw m (Skip 0) lt)

  succs_inner : (n slot s : ℕ) → EdgeBack n slot s → (1 ≤ s) × (s < length nodes)
  succs_inner n slot s b =
      let old = can.succs b.m slot b.t b.edge in
      let r = along b.m slot b.t (reached_of b.m b.marks_it (mark_within b.m b.marks_it)) b.edge in
      let is = marked_of b.t r old.1 in
      let node = there b.t old.1 in
      (subst (λ k. 1 ≤ k) b.same (rank_positive marks b.t start_marked old.0), subst (λ k. k < length nodes) b.same (rank_within b.t node.0 is node.1))

  reach : (m : ℕ) → Reached raw m → Reached nodes (to m)
  reach zero at_start = at_start
  reach m (along p slot s r e) =
      let lt = reached_within raw (slice_get_within raw 0 _ can.start.1) (λ m slot s edge. (can.succs m slot s edge).1) p r in
      let is = marked_of p r lt in
      let f : IsEdge nodes (to p) slot (to m) = ap (λ o. slice_get (succs_of o) slot) (image_of p is) ∙ ap (λ l. slice_get l slot) (redirected_succs_of to (slice_get raw p)) ∙ slice_get-map to (succs_at raw p) slot ∙ ap (option_map to) e in
      along (to p) slot (to m) (reach p r) f

  pub make_graph : IsGraph vars received nodes
  make_graph = record {
    can = record {
      start = (to can.start.0, image_of 0 start_marked ∙ ap (option_map (redirected to)) can.start.1);
      only = λ n s e. let b = back n (Start s) e in let t = redirected_start to b.old s b.same in sym b.ranks_it ∙ ap to (can.only b.m t.0 (b.is ∙ ap Some t.1));
      succs = λ n slot s e. succs_inner n slot s (edge_back_at n slot s (slice_get nodes n) refl e);
      below = λ n node e. let b = back n node e in subst (AllBelow (length vars)) (sym (redirected_vars to b.old) ∙ ap node_vars b.same) (can.below b.m b.old b.is);
      received_below = can.received_below;
      received_differ = can.received_differ;
      names = can.names;
    };
    reached = λ n lt.
        let b = back n _ (slice_get-get_or nodes n (Skip 0) lt) in
        subst (Reached nodes) b.ranks_it (reach b.m (reached_of b.m b.marks_it (mark_within b.m b.marks_it)));
  }
