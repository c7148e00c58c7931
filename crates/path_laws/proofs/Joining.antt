-- The row of one more node, to which those of its neighbours are joined one by one.
use Rattle.std.proofs.Common.{◌≡◌, ℕ, suc, ◌+◌, ◌<◌, ◌≤◌, Bool, true, false, not, ◌||◌, List, [], ◌∷◌, ◌++◌, length, get_or, replicate, set, slice_get, Some, sym, ap, subst, inl, inr, ◌↔◌, true≢false, arith, ◌∙◌}
use Rattle.std.proofs.lemmas.Bool.{cases_eq, or_cases, or_left, or_right}
use Rattle.std.proofs.lemmas.List.{length-replicate}
use Rattle.std.proofs.lemmas.Option.{get_or_from_slice_get, slice_get-get_or, slice_get_within}
use Rattle.bit_rows.specs.BitLaws.{length_or, or_bit}
use Rattle.bit_rows.specs.Bits.{or_bits, row_of}
use Rattle.flow_graph.specs.declared.edges.Edge.{Edge}
use Rattle.flow_graph.specs.declared.nodes.Node.{Node}
use Rattle.flow_graph.specs.FlowEdges.{edge_at, first_out, flow_edges}
use Rattle.flow_graph.specs.FlowEdgeLaws.{flow_edges_are}
use Rattle.flow_graph.specs.Graphs.{AllWithin}
use Rattle.path_laws.specs.FalseRows.{false_bit}
use Rattle.path_laws.specs.Leads.{SomeStep, TellSteps, steps_of}
use Rattle.path_laws.specs.Paths.{AreRows, has_bit}
use Rattle.path_laws.specs.RowLaws.{Written, put, written_shape}
use Rattle.path_laws.specs.Pushing.{pushed_before, pushed_last, pushed_shape}
use Rattle.path_laws.specs.LeadsLaws.{flow_step, step_edge}

-- a step one way is a step back the other way
step_reversed : (against : Bool) (nodes : List Node) (m n : ℕ) → steps_of (not against) nodes m n → steps_of against nodes n m
step_reversed true nodes m n step = step
step_reversed false nodes m n step = step

-- and a step back one the other way
step_unreversed : (against : Bool) (nodes : List Node) (m n : ℕ) → steps_of against nodes n m → steps_of (not against) nodes m n
step_unreversed true nodes m n step = step
step_unreversed false nodes m n step = step

-- the last row has the bits of the neighbours to which the edges below this number lead, and the others are whole
pub record TellStepsTo (against : Bool) (nodes : List Node) (bits : ℕ) (rows : List (List Bool)) (node number : ℕ) (all : List (List Bool)) : Type 0 where
  pub shape : AreRows (node + 1) bits all
  pub whole : (n b : ℕ) → n < node → (has_bit all b n ≡ true) ↔ SomeStep against nodes rows b n
  pub sound : (b : ℕ) → has_bit all b node ≡ true → SomeStep against nodes rows b node
  pub complete : (e b : ℕ) → first_out (not against) nodes node ≤ e → e < number → has_bit rows b (edge_at (flow_edges (not against) nodes) e).target ≡ true → has_bit all b node ≡ true

module _ (against : Bool) (nodes : List Node) (within : AllWithin nodes) (bits : ℕ) (rows : List (List Bool)) (node : ℕ) where
  -- an edge of the node leads to a neighbour
  to_neighbour : (number m source b : ℕ) → slice_get (flow_edges (not against) nodes) number ≡ Some (record { source = source; target = m }) → first_out (not against) nodes node ≤ number → number < first_out (not against) nodes (suc node) → has_bit rows b m ≡ true → SomeStep against nodes rows b node
  to_neighbour number m source b at low high on =
      let is : edge_at (flow_edges (not against) nodes) number ≡ record { source = source; target = m } = get_or_from_slice_get (flow_edges (not against) nodes) number _ _ at in
      let from : source ≡ node = (flow_edges_are nodes within (not against)).only number node (record { source = source; target = m }) at low high in
      let step : steps_of (not against) nodes m source = subst (λ (e : Edge). steps_of (not against) nodes e.target e.source) is (flow_step (not against) nodes number (slice_get_within (flow_edges (not against) nodes) number _ at)) in
      (m, step_reversed against nodes m node (subst (steps_of (not against) nodes m) from step), on)

  -- the row that an edge leads to
  target_row : (number m source b : ℕ) → slice_get (flow_edges (not against) nodes) number ≡ Some (record { source = source; target = m }) → has_bit rows b (edge_at (flow_edges (not against) nodes) number).target ≡ true → has_bit rows b m ≡ true
  target_row number m source b at on = subst (λ (e : Edge). has_bit rows b e.target ≡ true) (get_or_from_slice_get (flow_edges (not against) nodes) number _ _ at) on

  -- the row of the first neighbour is put at the end
  pub joined_first : (m source : ℕ) (all after : List (List Bool)) → TellSteps against nodes bits rows node all → length (row_of rows m) ≡ bits
      → slice_get (flow_edges (not against) nodes) (first_out (not against) nodes node) ≡ Some (record { source = source; target = m }) → first_out (not against) nodes node < first_out (not against) nodes (suc node)
      → after ≡ all ++ row_of rows m ∷ [] → TellStepsTo against nodes bits rows node (first_out (not against) nodes node + 1) after
  joined_first m source all after are long at some is =
      let last : row_of after node ≡ row_of rows m = pushed_last node bits all after (row_of rows m) are.shape is in
      record {
        shape = pushed_shape node bits all after (row_of rows m) are.shape is long;
        whole = λ n b h. subst (λ (r : List Bool). (get_or r b false ≡ true) ↔ SomeStep against nodes rows b n) (sym (pushed_before node bits all after (row_of rows m) are.shape is n h)) (are.are n b h);
        sound = λ b on. to_neighbour (first_out (not against) nodes node) m source b at (omega arith) some (sym (ap (λ (r : List Bool). get_or r b false) last) ∙ on);
        complete = λ e b low high on. ap (λ (r : List Bool). get_or r b false) last ∙ target_row (first_out (not against) nodes node) m source b at (let same : e ≡ first_out (not against) nodes node = omega (arith, low, high) in subst (λ k. has_bit rows b (edge_at (flow_edges (not against) nodes) k).target ≡ true) same on);
      }

  -- and those of the others are joined to it
  pub joined_next : (number m source : ℕ) (all after : List (List Bool)) → TellStepsTo against nodes bits rows node number all → length (row_of rows m) ≡ bits
      → slice_get (flow_edges (not against) nodes) number ≡ Some (record { source = source; target = m }) → first_out (not against) nodes node ≤ number → number < first_out (not against) nodes (suc node)
      → after ≡ set all node (or_bits (row_of all node) (row_of rows m)) → TellStepsTo against nodes bits rows node (number + 1) after
  joined_next number m source all after are long at low some is =
      let row = or_bits (row_of all node) (row_of rows m) in
      let here : length (row_of all node) ≡ bits = are.shape.each node (omega arith) in
      let alike : length (row_of all node) ≡ length (row_of rows m) = here ∙ sym long in
      let made : Written all after node row = put all after node row (rw are.shape.len (omega arith)) is in
      let bit : (b : ℕ) → has_bit after b node ≡ (has_bit all b node || has_bit rows b m) = λ b. ap (λ (r : List Bool). get_or r b false) made.here ∙ or_bit (row_of all node) (row_of rows m) b alike in
      record {
        shape = written_shape (node + 1) bits node all after row are.shape made (length_or (row_of all node) (row_of rows m) alike ∙ here);
        whole = λ n b h. subst (λ (r : List Bool). (get_or r b false ≡ true) ↔ SomeStep against nodes rows b n) (sym (made.others n (λ e. absurd (omega (arith, e, h))))) (are.whole n b h);
        sound = λ b on. elim (or_cases (has_bit all b node) (has_bit rows b m) (sym (bit b) ∙ on)) as (λ _. SomeStep against nodes rows b node) [
          | inl was ↦ are.sound b was
          | inr now ↦ to_neighbour number m source b at low some now
        ];
        complete = λ e b first below on. bit b ∙ elim (cases_eq e number) as (λ _. (has_bit all b node || has_bit rows b m) ≡ true) [
          | inl same ↦ or_right (has_bit all b node) (has_bit rows b m) (target_row number m source b at (subst (λ k. has_bit rows b (edge_at (flow_edges (not against) nodes) k).target ≡ true) same on))
          | inr d ↦ or_left (has_bit all b node) (has_bit rows b m) (are.complete e b first (omega (arith, below, d)) on)
        ];
      }

  -- an edge from the node to the neighbour
  from_neighbour : (b : ℕ) → (step : SomeStep against nodes rows b node) → (e : ℕ) × (first_out (not against) nodes node ≤ e) × (e < first_out (not against) nodes (suc node)) × (has_bit rows b (edge_at (flow_edges (not against) nodes) e).target ≡ true)
  from_neighbour b (m, step, on) =
      let edge = step_edge (not against) nodes within m node (step_unreversed against nodes m node step) in
      let at = slice_get-get_or (flow_edges (not against) nodes) edge.0 (record { source = 0; target = 0 }) edge.1 in
      let stands = (flow_edges_are nodes within (not against)).stands edge.0 (edge_at (flow_edges (not against) nodes) edge.0) at in
      (edge.0, rw edge.2 at stands.0, rw edge.2 at stands.1, ap (λ k. has_bit rows b k) edge.3 ∙ on)

  -- once all its edges have come the last row is whole
  pub joined_all : (number : ℕ) (all : List (List Bool)) → TellStepsTo against nodes bits rows node number all → first_out (not against) nodes (suc node) ≤ number → TellSteps against nodes bits rows (node + 1) all
  joined_all number all are late = record {
    shape = are.shape;
    are = λ n b h. elim (cases_eq n node) as (λ _. (has_bit all b n ≡ true) ↔ SomeStep against nodes rows b n) [
      | inl e ↦ rw e (
        are.sound b,
        λ step. let edge = from_neighbour b step in are.complete edge.0 b edge.1 (let high : edge.0 < first_out (not against) nodes (suc node) = edge.2 in omega (arith, high, late)) edge.3,
      )
      | inr d ↦ are.whole n b (omega (arith, h, d))
    ];
  }

  -- a node with no edge has a row of no bit
  pub joined_none : (all after : List (List Bool)) → TellSteps against nodes bits rows node all → first_out (not against) nodes (suc node) ≤ first_out (not against) nodes node → after ≡ all ++ replicate bits false ∷ [] → TellSteps against nodes bits rows (node + 1) after
  joined_none all after are none is =
      let last : row_of after node ≡ replicate bits false = pushed_last node bits all after (replicate bits false) are.shape is in
      joined_all (first_out (not against) nodes (suc node)) after
      (record {
        shape = pushed_shape node bits all after (replicate bits false) are.shape is (length-replicate bits false);
        whole = λ n b h. subst (λ (r : List Bool). (get_or r b false ≡ true) ↔ SomeStep against nodes rows b n) (sym (pushed_before node bits all after (replicate bits false) are.shape is n h)) (are.are n b h);
        sound = λ b on. let off : false ≡ true = sym (false_bit bits b) ∙ sym (ap (λ (r : List Bool). get_or r b false) last) ∙ on in absurd (true≢false (sym off));
        complete = λ e b low high on. absurd (omega (arith, low, high, none));
      })
      (omega arith)
