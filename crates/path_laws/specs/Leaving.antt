-- The edges between blocks while they are listed.
use Rattle.std.proofs.Common.{◌≡◌, ℕ, zero, suc, ◌+◌, ◌-◌, ◌<◌, ◌≤◌, ◌⊎◌, inl, inr, Bool, true, false, List, [], ◌∷◌, ◌++◌, length, get_or, slice_get, Some, refl, sym, ap, subst, arith, ◌∙◌, length-append, append_assoc}
use Rattle.flow_graph.specs.ListLaws.{get_left_some, get_right, get_append}
use Rattle.std.proofs.lemmas.Bool.{cases_eq, cases_lt}
use Rattle.std.proofs.lemmas.List.{get_or_append_left, append-nil}
use Rattle.std.proofs.lemmas.Option.{get_or_from_slice_get, slice_get_within, slice_get-get_or}
use Rattle.flow_graph.specs.declared.edges.Edge.{Edge}
use Rattle.flow_graph.specs.declared.nodes.Node.{Node}
use Rattle.flow_graph.specs.Blocks.{StandsIn}
use Rattle.flow_graph.specs.Graphs.{AllWithin}
use Rattle.flow_graph.specs.Paths.{Ends}
use Rattle.flow_graph.specs.Edges.{edges_from}
use Rattle.path_laws.specs.Between.{AreBetween, AreOutFrom, AreOutTo, IsAhead, IsAheadOf, IsBetween, ahead_of, count_at, out_below}
use Rattle.node_list.specs.Lists.{list_at}
use Rattle.path_laws.specs.Leads.{steps_of}
use Rattle.flow_graph.specs.FlowEdges.{AreFlowEdges, edge_at, first_out, flow_edges}
use Rattle.flow_graph.specs.NumberTables.{number_at}
use Rattle.path_laws.specs.Nets.{IsListedFlow}
use Rattle.path_laws.specs.Paths.{AreRows}
use Rattle.flow_graph.specs.FlowEdgeLaws.{flow_edges_are}
use Rattle.path_laws.specs.Counting.{ahead_is, count_is}
use Rattle.path_laws.specs.LeadsLaws.{flow_step, step_edge}
use Rattle.mir_base.specs.ItemLaws.{one_item}

-- ---- the edges that leave one block

module _ (against : Bool) (nodes : List Node) (lists : List (List ℕ)) (block from : ℕ) (ahead : IsAheadOf against lists block from) (before : List Edge) where
  abbrev first : ℕ
  first = first_out against nodes from

  pub out_none : (list : List Edge) → list ≡ before → AreOutTo against nodes lists block from (first_out against nodes from) (first_out against nodes from) before list
  out_none list is = record {
    out = [];
    list_is = is ∙ sym (append-nil before);
    many = omega arith;
    most = omega (arith, count_is against from (edges_from 0 nodes));
    source = λ e edge h. cc;
    sound = λ e edge h. cc;
    complete = λ e low high. absurd (omega (arith, low, high));
  }

  pub out_more : (within : AllWithin nodes) (number source target : ℕ) (list more : List Edge) (edge : Edge) → AreOutTo against nodes lists block from (first_out against nodes from) number before list
      → slice_get (flow_edges against nodes) number ≡ Some (record { source = source; target = target }) → first_out against nodes from ≤ number → number < first_out against nodes (suc from)
      → edge.source ≡ block → StandsIn lists edge.target target → more ≡ list ++ edge ∷ [] → AreOutTo against nodes lists block from (first_out against nodes from) (number + 1) before more
  out_more within number source target list more edge so_far at low high block_is stands more_is =
      let is : edge_at (flow_edges against nodes) number ≡ record { source = source; target = target } = get_or_from_slice_get (flow_edges against nodes) number _ _ at in
      let from_is : source ≡ from = (flow_edges_are nodes within against).only number from (record { source = source; target = target }) at low high in
      let step : steps_of against nodes target source = subst (λ (e : Edge). steps_of against nodes e.target e.source) is (flow_step against nodes number (slice_get_within (flow_edges against nodes) number _ at)) in
      let this : IsBetween against nodes lists edge = record {
        within = slice_get_within lists edge.target stands.list stands.listed;
        from = from;
        to = target;
        leaves = subst (λ b. IsAheadOf against lists b from) (sym block_is) ahead;
        enters = stands;
        step = subst (steps_of against nodes target) from_is step;
      } in
      record {
        out = so_far.out ++ edge ∷ [];
        list_is = more_is ∙ ap (λ l. l ++ edge ∷ []) so_far.list_is ∙ append_assoc before so_far.out (edge ∷ []);
        many = omega (arith, so_far.many, length-append so_far.out (edge ∷ []));
        most = omega (arith, high);
        source = λ e x h. elim (get_append so_far.out (edge ∷ []) e x h) as (λ _. x.source ≡ block) [ inl old ↦ so_far.source e x old | inr new ↦ one_source edge x new.0 new.2 block_is ];
        sound = λ e x h. elim (get_append so_far.out (edge ∷ []) e x h) as (λ _. IsBetween against nodes lists x) [ inl old ↦ so_far.sound e x old | inr new ↦ subst (IsBetween against nodes lists) (one_item edge x new.0 new.2) this ];
        complete = λ e l h. elim (cases_eq e number) as (λ _. (i : ℕ) × (x : Edge) × (slice_get (so_far.out ++ edge ∷ []) i ≡ Some x) × StandsIn lists x.target (edge_at (flow_edges against nodes) e).target) [
          | inl same ↦ (length so_far.out + 0, edge, get_right so_far.out (edge ∷ []) 0, subst (StandsIn lists edge.target) (sym (ap (λ k. (edge_at (flow_edges against nodes) k).target) same ∙ ap (λ (y : Edge). y.target) is)) stands)
          | inr d ↦ let old = so_far.complete e l (omega (arith, h, d)) in (old.0, old.1, get_left_some so_far.out (edge ∷ []) old.0 old.1 old.2, old.3)
        ];
      }
    where
      one_source : (edge x : Edge) (j : ℕ) → slice_get (edge ∷ []) j ≡ Some x → edge.source ≡ block → x.source ≡ block
      one_source edge x j e is = ap (λ (y : Edge). y.source) (sym (one_item edge x j e)) ∙ is

  pub out_all : (within : AllWithin nodes) (number : ℕ) (list : List Edge) → AreOutTo against nodes lists block from (first_out against nodes from) number before list → first_out against nodes (suc from) ≤ number
      → (out : List Edge) × (list ≡ before ++ out) × AreOutFrom against nodes lists block from out
  out_all within number list so_far late = (
    so_far.out,
    so_far.list_is,
    record {
      few = omega (arith, so_far.many, so_far.most, count_is against from (edges_from 0 nodes));
      source = so_far.source;
      sound = so_far.sound;
      complete = λ to step.
          let edge = step_edge against nodes within to from step in
          let at = slice_get-get_or (flow_edges against nodes) edge.0 (record { source = 0; target = 0 }) edge.1 in
          let stands = (flow_edges_are nodes within against).stands edge.0 (edge_at (flow_edges against nodes) edge.0) at in
          let low : first_out against nodes from ≤ edge.0 = rw edge.2 at stands.0 in
          let high : edge.0 < first_out against nodes (suc from) = rw edge.2 at stands.1 in
          let r = so_far.complete edge.0 low (omega (arith, high, late)) in
          (r.0, r.1, r.2, subst (StandsIn lists r.1.target) edge.3 r.3);
    },
  )

-- ---- the edges that leave one block more

module _ (against : Bool) (nodes : List Node) (lists : List (List ℕ)) where
  pub between_none : (edges : List Edge) (firsts : List ℕ) → edges ≡ [] → firsts ≡ 0 ∷ [] → AreBetween against nodes lists 0 edges firsts
  between_none edges firsts edges_are firsts_are = rw (edges_are, firsts_are) (record {
    few = omega arith;
    long = omega arith;
    last = refl;
    under = all_zero;
    source = λ e edge h. cc;
    only = λ e n edge h low high. cc;
    stands = λ e edge h. cc;
    sound = λ e edge h. cc;
    complete = λ b from to lt ahead step. absurd (omega (arith, lt));
  })
    where
      all_zero : (n : ℕ) → number_at (0 ∷ []) n ≤ 0
      all_zero zero = omega arith
      all_zero (suc n) = omega arith

  module _ (block from : ℕ) (edges more out : List Edge) (firsts longer : List ℕ) (are : AreBetween against nodes lists block edges firsts) (ahead : IsAheadOf against lists block from) (leave : AreOutFrom against nodes lists block from out) (more_is : more ≡ edges ++ out) (longer_is : longer ≡ firsts ++ length more ∷ []) where
    long_more : length more ≡ length edges + length out
    long_more = ap length more_is ∙ length-append edges out

    early : (n : ℕ) → n ≤ block → number_at longer n ≡ number_at firsts n
    early n le = ap (λ l. number_at l n) longer_is ∙ get_or_append_left firsts (length more ∷ []) 0 n (omega (arith, le, are.long))

    last_back : (xs : List ℕ) (x n : ℕ) → n ≡ length xs → number_at (xs ++ x ∷ []) n ≡ x
    last_back [] x zero e = refl
    last_back [] x (suc n) e = absurd (omega (arith, e))
    last_back (y ∷ xs) x zero e = absurd (omega (arith, e))
    last_back (y ∷ xs) x (suc n) e = last_back xs x n (omega (arith, e))

    past : (xs : List ℕ) (x n : ℕ) → length xs < n → number_at (xs ++ x ∷ []) n ≡ 0
    past [] x zero h = absurd (omega (arith, h))
    past [] x (suc n) h = refl
    past (y ∷ xs) x zero h = absurd (omega (arith, h))
    past (y ∷ xs) x (suc n) h = past xs x n (omega (arith, h))

    at_end : (n : ℕ) → n ≡ block + 1 → number_at longer n ≡ length more
    at_end n e = ap (λ l. number_at l n) longer_is ∙ last_back firsts (length more) n (e ∙ sym are.long)

    far : (n : ℕ) → block + 1 < n → number_at longer n ≡ 0
    far n h = ap (λ l. number_at l n) longer_is ∙ past firsts (length more) n (omega (arith, h, are.long))

    either : (e : ℕ) (edge : Edge) → slice_get more e ≡ Some edge → (slice_get edges e ≡ Some edge) ⊎ ((j : ℕ) × (e ≡ length edges + j) × (slice_get out j ≡ Some edge))
    either e edge h = get_append edges out e edge (subst (λ l. slice_get l e ≡ Some edge) more_is h)

    same_ahead : (list : List ℕ) (k : ℕ) → IsAhead against from list → IsAhead against k list → k ≡ from
    same_ahead list k a b = go against list a b
      where
        go : (way : Bool) (list : List ℕ) → IsAhead way from list → IsAhead way k list → k ≡ from
        go true [] a b = absurd a
        go true (x ∷ list) a b = sym b ∙ a
        go false [] a b = absurd a
        go false (x ∷ []) a b = sym b ∙ a
        go false (x ∷ y ∷ list) a b = go false (y ∷ list) a b

    fewer : length more ≤ out_below against lists (edges_from 0 nodes) (block + 1)
    fewer =
        let next : block + 1 ≡ suc block = omega arith in
        let list : list_at lists block ≡ ahead.list = get_or_from_slice_get lists block ahead.list [] ahead.listed in
        let node : ahead_of against (list_at lists block) ≡ from = ap (ahead_of against) list ∙ ahead_is against ahead.list from ahead.ahead in
        let out_few : length out ≤ count_at against (ahead_of against (list_at lists block)) (edges_from 0 nodes) = rw node leave.few in
        rw next (omega (arith, long_more, are.few, out_few))

    pub between_more : AreBetween against nodes lists (block + 1) more longer
    between_more = record {
      few = fewer;
      long = ap length longer_is ∙ length-append firsts (length more ∷ []) ∙ omega (arith, are.long);
      last = at_end (block + 1) refl;
      under = λ n. elim (cases_lt block n) as (λ _. number_at longer n ≤ length more) [
        | inl gt ↦ elim (cases_eq n (block + 1)) as (λ _. number_at longer n ≤ length more) [ inl e ↦ omega (arith, at_end n e) | inr d ↦ omega (arith, far n (omega (arith, gt, d))) ]
        | inr le ↦ omega (arith, early n le, are.under n, long_more)
      ];
      source = λ e edge h. elim (either e edge h) as (λ _. edge.source < block + 1) [ inl old ↦ omega (arith, are.source e edge old) | inr new ↦ omega (arith, leave.source new.0 edge new.2) ];
      only = λ e n edge h low high. elim (cases_lt n block) as (λ _. edge.source ≡ n) [
        | inl lt ↦
            let low' : number_at firsts n ≤ e = omega (arith, low, early n (omega (arith, lt))) in
            let high' : e < number_at firsts (suc n) = omega (arith, high, early (suc n) (omega (arith, lt))) in
            elim (either e edge h) as (λ _. edge.source ≡ n) [
              | inl old ↦ are.only e n edge old low' high'
              | inr new ↦ absurd (omega (arith, new.1, high', are.under (suc n)))
            ]
        | inr ge ↦ elim (cases_eq n block) as (λ _. edge.source ≡ n) [
          | inl here ↦
              let begins : number_at longer n ≡ length edges = early n (omega (arith, here)) ∙ ap (number_at firsts) here ∙ are.last in
              elim (either e edge h) as (λ _. edge.source ≡ n) [
                | inl old ↦ absurd (omega (arith, low, begins, slice_get_within edges e edge old))
                | inr new ↦ leave.source new.0 edge new.2 ∙ sym here
              ]
          | inr d ↦ absurd (omega (arith, high, far (suc n) (omega (arith, ge, d))))
        ]
      ];
      stands = λ e edge h. elim (either e edge h) as (λ _. (number_at longer edge.source ≤ e) × (e < number_at longer (suc edge.source))) [
        | inl old ↦
            let s = are.stands e edge old in
            let lt = are.source e edge old in
            (omega (arith, s.0, early edge.source (omega (arith, lt))), omega (arith, s.1, early (suc edge.source) (omega (arith, lt))))
        | inr new ↦
            let here = leave.source new.0 edge new.2 in
            let begins : number_at longer edge.source ≡ length edges = early edge.source (omega (arith, here)) ∙ ap (number_at firsts) here ∙ are.last in
            let ends = at_end (suc edge.source) (omega (arith, here)) in
            (omega (arith, begins, new.1), omega (arith, ends, slice_get_within more e edge h))
      ];
      sound = λ e edge h. elim (either e edge h) as (λ _. IsBetween against nodes lists edge) [ inl old ↦ are.sound e edge old | inr new ↦ leave.sound new.0 edge new.2 ];
      complete = λ b k to lt at step. elim (cases_eq b block) as (λ _. (e : ℕ) × (edge : Edge) × (slice_get more e ≡ Some edge) × (edge.source ≡ b) × StandsIn lists edge.target to) [
        | inl here ↦
            let listed : Some ahead.list ≡ Some at.list = sym ahead.listed ∙ ap (slice_get lists) (sym here) ∙ at.listed in
            let same_list : at.list ≡ ahead.list = cc in
            let same : k ≡ from = same_ahead ahead.list k ahead.ahead (subst (IsAhead against k) same_list at.ahead) in
            let r = leave.complete to (subst (steps_of against nodes to) same step) in
            (length edges + r.0, r.1, subst (λ l. slice_get l (length edges + r.0) ≡ Some r.1) (sym more_is) (get_right edges out r.0 ∙ r.2), leave.source r.0 r.1 r.2 ∙ sym here, r.3)
        | inr d ↦
            let r = are.complete b k to (omega (arith, lt, d)) at step in
            (r.0, r.1, subst (λ l. slice_get l r.0 ≡ Some r.1) (sym more_is) (get_left_some edges out r.0 r.1 r.2), r.3, r.4)
      ];
    }

  -- all of them are edges of a flow over blocks
  pub between_flow : (edges : List Edge) (firsts : List ℕ) → AreBetween against nodes lists (length lists) edges firsts → AreFlowEdges (length lists) edges (number_at firsts)
  between_flow edges firsts are = record {
    ends = λ e edge h. (are.source e edge h, (are.sound e edge h).within);
    starts = are.under;
    stops = λ n. are.under (suc n);
    only = are.only;
    stands = are.stands;
  }

-- the last item of a list is its end
pub ends_last : (list : List ℕ) → 0 < length list → Ends (get_or list (length list - 1) 0) list
ends_last [] h = absurd (omega (arith, h))
ends_last (k ∷ []) h = refl
ends_last (j ∷ k ∷ list) h =
    let e : length (j ∷ k ∷ list) - 1 ≡ suc (length (k ∷ list) - 1) = omega arith in
    subst (λ i. Ends (get_or (j ∷ k ∷ list) i 0) (k ∷ list)) (sym e) (ends_last (k ∷ list) (omega arith))

-- the ends of the edges between blocks, as a slice has them
pub between_ends : (against : Bool) (nodes : List Node) (lists : List (List ℕ)) (edges slice : List Edge) (firsts : List ℕ) (count : ℕ) → AreBetween against nodes lists (length lists) edges firsts → slice ≡ edges → count ≡ length lists
    → (e : ℕ) → e < length slice → ((edge_at slice e).source < count) × ((edge_at slice e).target < count)
between_ends against nodes lists edges slice firsts count are slice_is count_is e h =
    let h' : e < length edges = subst (λ (s : List Edge). e < length s) slice_is h in
    let at : slice_get edges e ≡ Some (edge_at edges e) = slice_get-get_or edges e _ h' in
    rw (slice_is, count_is) (are.source e (edge_at edges e) at, (are.sound e (edge_at edges e) at).within)

-- and the flow over blocks
pub between_listed : (against : Bool) (nodes : List Node) (lists : List (List ℕ)) (edges slice : List Edge) (firsts table : List ℕ) (count bits : ℕ) (seeds stops : List (List Bool)) → AreBetween against nodes lists (length lists) edges firsts
    → slice ≡ edges → table ≡ firsts → count ≡ length lists → AreRows (length lists) bits seeds → AreRows (length lists) bits stops → IsListedFlow count slice table bits seeds stops
between_listed against nodes lists edges slice firsts table count bits seeds stops are slice_is table_is count_is seed_rows stop_rows = rw (slice_is, table_is, count_is) (record {
  long = omega (arith, are.long);
  flow = record { are = between_flow against nodes lists edges firsts are; first_rows = seed_rows; bar_rows = stop_rows };
})
