-- The row of one more node, to which what does not go on to its successors is joined, one by one.
use Rattle.std.proofs.Common.{◌≡◌, ◌⊎◌, ℕ, suc, ◌+◌, ◌<◌, ◌≤◌, Bool, true, false, not, ◌||◌, ◌&&◌, List, [], ◌∷◌, ◌++◌, length, get_or, set, slice_get, Some, sym, ap, subst, inl, inr, ◌↔◌, arith, ◌∙◌}
use Rattle.std.proofs.lemmas.Bool.{cases_eq}
use Rattle.std.proofs.lemmas.Option.{get_or_from_slice_get, slice_get-get_or, slice_get_within}
use Rattle.bit_rows.specs.BitLaws.{and_bit, length_and, length_minus, length_or, minus_bit, or_bit}
use Rattle.bit_rows.specs.Bits.{and_bits, minus_bits, or_bits, row_of}
use Rattle.flow_graph.specs.declared.edges.Edge.{Edge}
use Rattle.flow_graph.specs.declared.nodes.Node.{Node}
use Rattle.flow_graph.specs.FlowEdges.{edge_at, first_out, flow_edges}
use Rattle.flow_graph.specs.FlowEdgeLaws.{flow_edges_are}
use Rattle.flow_graph.specs.Graphs.{AllWithin}
use Rattle.flow_graph.specs.Paths.{HasEdge}
use Rattle.path_laws.specs.Leads.{TellLasts}
use Rattle.path_laws.specs.LeadsLaws.{flow_step, step_edge}
use Rattle.path_laws.specs.Paths.{AreRows, IsLastNode, has_bit}
use Rattle.path_laws.specs.RowLaws.{Written, put, written_shape}
use Rattle.path_laws.specs.Says.{both_say, either_says, not_says}
use Rattle.path_laws.specs.Pushing.{pushed_before, pushed_last, pushed_shape}

-- the last row has what ends at its node by `stop`, or by the successors to which the edges below this number lead, and
-- the others are whole
pub record TellLastsTo (nodes : List Node) (bits : ℕ) (rows stop : List (List Bool)) (node number : ℕ) (all : List (List Bool)) : Type 0 where
  pub shape : AreRows (node + 1) bits all
  pub whole : (n b : ℕ) → n < node → (has_bit all b n ≡ true) ↔ IsLastNode nodes rows stop b n
  pub sound : (b : ℕ) → has_bit all b node ≡ true → IsLastNode nodes rows stop b node
  pub stopped : (b : ℕ) → has_bit rows b node ≡ true → has_bit stop b node ≡ true → has_bit all b node ≡ true
  pub ended : (e b : ℕ) → first_out false nodes node ≤ e → e < number → has_bit rows b node ≡ true → has_bit rows b (edge_at (flow_edges false nodes) e).target ≡ false → has_bit all b node ≡ true

module _ (nodes : List Node) (within : AllWithin nodes) (bits : ℕ) (rows stop : List (List Bool)) (node : ℕ) where
  -- an edge of the node leads to a successor
  to_successor : (number m source : ℕ) → slice_get (flow_edges false nodes) number ≡ Some (record { source = source; target = m }) → first_out false nodes node ≤ number → number < first_out false nodes (suc node) → HasEdge nodes node m
  to_successor number m source at low high =
      let is : edge_at (flow_edges false nodes) number ≡ record { source = source; target = m } = get_or_from_slice_get (flow_edges false nodes) number _ _ at in
      let from : source ≡ node = (flow_edges_are nodes within false).only number node (record { source = source; target = m }) at low high in
      let step : HasEdge nodes source m = subst (λ (e : Edge). HasEdge nodes e.source e.target) is (flow_step false nodes number (slice_get_within (flow_edges false nodes) number _ at)) in
      subst (λ k. HasEdge nodes k m) from step

  -- the row of what stops at the node and is there is put at the end
  pub stopped_first : (all pushed after : List (List Bool)) → TellLasts nodes bits rows stop node all → length (row_of rows node) ≡ bits → length (row_of stop node) ≡ bits
      → pushed ≡ all ++ row_of stop node ∷ [] → after ≡ set pushed node (and_bits (row_of pushed node) (row_of rows node)) → TellLastsTo nodes bits rows stop node (first_out false nodes node) after
  stopped_first all pushed after are long stop_long is set_is =
      let last : row_of pushed node ≡ row_of stop node = pushed_last node bits all pushed (row_of stop node) are.shape is in
      let shape = pushed_shape node bits all pushed (row_of stop node) are.shape is stop_long in
      let here : length (row_of pushed node) ≡ bits = ap length last ∙ stop_long in
      let alike : length (row_of pushed node) ≡ length (row_of rows node) = here ∙ sym long in
      let row = and_bits (row_of pushed node) (row_of rows node) in
      let made : Written pushed after node row = put pushed after node row (rw shape.len (omega arith)) set_is in
      let bit : (b : ℕ) → has_bit after b node ≡ (has_bit stop b node && has_bit rows b node) = λ b.
      ap (λ (r : List Bool). get_or r b false) made.here ∙ and_bit (row_of pushed node) (row_of rows node) b alike ∙ ap (λ (r : List Bool). get_or r b false && has_bit rows b node) last in
      let both = λ (b : ℕ). both_say (has_bit stop b node) (has_bit rows b node) in
      record {
        shape = written_shape (node + 1) bits node pushed after row shape made (length_and (row_of pushed node) (row_of rows node) alike ∙ here);
        whole = λ n b h. subst (λ (r : List Bool). (get_or r b false ≡ true) ↔ IsLastNode nodes rows stop b n) (sym (made.others n (λ e. absurd (omega (arith, e, h))) ∙ pushed_before node bits all pushed (row_of stop node) are.shape is n h)) (are.are n b h);
        sound = λ b on. let parts = (both b).0 (sym (bit b) ∙ on) in (parts.1, inl parts.0);
        stopped = λ b has stops. bit b ∙ (both b).1 (stops, has);
        ended = λ e b low high has off. absurd (omega (arith, low, high));
      }

  -- and what a successor has not is joined to it
  pub ended_next : (number m source : ℕ) (all after : List (List Bool)) → TellLastsTo nodes bits rows stop node number all → length (row_of rows node) ≡ bits → length (row_of rows m) ≡ bits
      → slice_get (flow_edges false nodes) number ≡ Some (record { source = source; target = m }) → first_out false nodes node ≤ number → number < first_out false nodes (suc node)
      → after ≡ set all node (or_bits (row_of all node) (minus_bits (row_of rows node) (row_of rows m))) → TellLastsTo nodes bits rows stop node (number + 1) after
  ended_next number m source all after are long next_long at low some is =
      let gone = minus_bits (row_of rows node) (row_of rows m) in
      let row = or_bits (row_of all node) gone in
      let here : length (row_of all node) ≡ bits = are.shape.each node (omega arith) in
      let equal : length (row_of rows node) ≡ length (row_of rows m) = long ∙ sym next_long in
      let gone_long : length gone ≡ bits = length_minus (row_of rows node) (row_of rows m) equal ∙ long in
      let alike : length (row_of all node) ≡ length gone = here ∙ sym gone_long in
      let made : Written all after node row = put all after node row (rw are.shape.len (omega arith)) is in
      let bit : (b : ℕ) → has_bit after b node ≡ (has_bit all b node || (has_bit rows b node && not (has_bit rows b m))) = λ b.
      ap (λ (r : List Bool). get_or r b false) made.here ∙ or_bit (row_of all node) gone b alike ∙ ap (λ (x : Bool). has_bit all b node || x) (minus_bit (row_of rows node) (row_of rows m) b equal) in
      let either = λ (b : ℕ). either_says (has_bit all b node) (has_bit rows b node && not (has_bit rows b m)) in
      let both = λ (b : ℕ). both_say (has_bit rows b node) (not (has_bit rows b m)) in
      let target : edge_at (flow_edges false nodes) number ≡ record { source = source; target = m } = get_or_from_slice_get (flow_edges false nodes) number _ _ at in
      record {
        shape = written_shape (node + 1) bits node all after row are.shape made (length_or (row_of all node) gone alike ∙ here);
        whole = λ n b h. subst (λ (r : List Bool). (get_or r b false ≡ true) ↔ IsLastNode nodes rows stop b n) (sym (made.others n (λ e. absurd (omega (arith, e, h))))) (are.whole n b h);
        sound = λ b on. elim ((either b).0 (sym (bit b) ∙ on)) as (λ _. IsLastNode nodes rows stop b node) [
          | inl was ↦ are.sound b was
          | inr now ↦ (
              let parts = (both b).0 now in
              (parts.0, inr (m, to_successor number m source at low some, (not_says (has_bit rows b m)).0 parts.1))
              )
        ];
        stopped = λ b has stops. bit b ∙ (either b).1 (inl (are.stopped b has stops));
        ended = λ e b first below has off. bit b ∙ (either b).1 (elim (cases_eq e number) as (λ _. (has_bit all b node ≡ true) ⊎ ((has_bit rows b node && not (has_bit rows b m)) ≡ true)) [
          | inl same ↦ inr ((both b).1 (has, (not_says (has_bit rows b m)).1 (subst (λ (x : Edge). has_bit rows b x.target ≡ false) target (subst (λ k. has_bit rows b (edge_at (flow_edges false nodes) k).target ≡ false) same off))))
          | inr d ↦ inl (are.ended e b first (omega (arith, below, d)) has off)
        ]);
      }

  -- an edge from the node to the successor
  from_successor : (m : ℕ) → HasEdge nodes node m → (e : ℕ) × (first_out false nodes node ≤ e) × (e < first_out false nodes (suc node)) × ((edge_at (flow_edges false nodes) e).target ≡ m)
  from_successor m edge_is =
      let edge = step_edge false nodes within m node edge_is in
      let at = slice_get-get_or (flow_edges false nodes) edge.0 (record { source = 0; target = 0 }) edge.1 in
      let stands = (flow_edges_are nodes within false).stands edge.0 (edge_at (flow_edges false nodes) edge.0) at in
      (edge.0, rw edge.2 at stands.0, rw edge.2 at stands.1, edge.3)

  -- once all its edges have come the last row is whole
  pub ended_all : (number : ℕ) (all : List (List Bool)) → TellLastsTo nodes bits rows stop node number all → first_out false nodes (suc node) ≤ number → TellLasts nodes bits rows stop (node + 1) all
  ended_all number all are late = record {
    shape = are.shape;
    are = λ n b h. elim (cases_eq n node) as (λ _. (has_bit all b n ≡ true) ↔ IsLastNode nodes rows stop b n) [
      | inl e ↦ rw e (
        are.sound b,
        λ last. elim last.1 as (λ _. has_bit all b node ≡ true) [
          | inl stops ↦ are.stopped b last.0 stops
          | inr next ↦ (
              let edge = from_successor next.0 next.1 in
              let high : edge.0 < first_out false nodes (suc node) = edge.2 in
              are.ended edge.0 b edge.1 (omega (arith, high, late)) last.0 (subst (λ k. has_bit rows b k ≡ false) (sym edge.3) next.2)
              )
        ],
      )
      | inr d ↦ are.whole n b (omega (arith, h, d))
    ];
  }
