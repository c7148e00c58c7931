-- The credit of what is delayed: along each edge it makes up for what is put anew, whatever assignments weigh.
use Rattle.std.proofs.Common.{◌≡◌, ◌<◌, ◌≤◌, ◌+◌, ℕ, Bool, true, false, if◌then◌else◌, nat_eq, not, List, length, slice_get, Option, Some, None, option_map, inl, inr, refl, sym, ap, ◌∙◌, arith}
use Rattle.std.proofs.lemmas.Bool.{true≢false, eq-eqb, ne_eqb}
use Rattle.std.proofs.lemmas.Option.{slice_get_within}
use Rattle.mir_base.specs.declared.instructions.Rhs.{Rhs}
use Rattle.mir_base.specs.Shapes.{AllBelow, rhs_vars}
use Rattle.flow_graph.specs.declared.nodes.Node.{Node}
use Rattle.flow_graph.specs.declared.nodes.Node.TheVariants.{Start, Skip, Assign, Print, Guard, Call, Test, Return}
use Rattle.sink_code.specs.Credits.{IsCredit}
use Rattle.flow_graph.specs.Edges.{IsSplit}
use Rattle.flow_graph.specs.Graphs.{GraphShape, IsGraph}
use Rattle.graph_edit.specs.Insertions.{Insertion, changed}
use Rattle.graph_edit.specs.Over.{weigh, weigh_all, weight_at}
use Rattle.flow_graph.specs.Paths.{HasEdge, IsReturnAt, is_return}
use Rattle.sink_code.specs.Sinking.{put_for}
use Rattle.graph_edit.specs.Accesses.{is_sinkable, occurs_at}
use Rattle.sink_code.specs.SunkGraphs.{AreInsertions, emptied, sinking}
use Rattle.sink_code.specs.Delaying.{IsDelayedTo}
use Rattle.sink_code.specs.DelayLaws.{back_to, none_at_start, put_delayed, source_within, trace_of}
use Rattle.graph_edit.specs.OccurrenceLaws.{occurrence_is}
use Rattle.sink_code.specs.OrderedLaws.{each_put, sum_none, sum_one, sum_vars, sums_le, weigh_in_order, weight_of}
use Rattle.sink_code.specs.WaitingLaws.{waits_below}

module _ (graph : GraphShape) (is_graph : IsGraph graph.vars graph.received graph.nodes) (split : IsSplit graph.nodes) (late : ℕ → ℕ → Option Rhs) (inserts : ℕ → List Insertion) (are : AreInsertions graph late inserts) (weight : ℕ → Rhs → ℕ) where
  abbrev vars : ℕ
  vars = length graph.vars

  -- the weight of all that is delayed at a node
  abbrev pub credit : ℕ → ℕ
  credit n = sum_vars (λ x. weight_of weight x (late n x)) 0 (length graph.vars)

  -- a pattern that is delayed is over the graph's variables
  pub delayed_below : (n x : ℕ) (t : Rhs) → n < length graph.nodes → IsDelayedTo graph x t n → (x < vars) × AllBelow vars (rhs_vars t)
  delayed_below n x t lt d = let tr = trace_of graph is_graph n lt in waits_below graph is_graph x t tr.0 (d tr.0 tr.1)

  -- the insertions weigh what they put for each variable
  inserts_weigh : (n : ℕ) → n < length graph.nodes → weigh_all weight (inserts n) ≡ sum_vars (λ x. weight_of weight x (put_for (inserts n) x)) 0 vars
  inserts_weigh n lt = weigh_in_order weight (inserts n) 0 vars (are.inserts_are n lt).in_order
      (each_put (λ x t. x < 0 + vars) 0 (inserts n) (are.inserts_are n lt).in_order (λ x t put. (let below = (delayed_below n x t lt ((are.delayed_are n x t lt).0 (put_delayed graph is_graph split late inserts are n x t lt put))).0 in omega (arith, below))))

  -- what a node weighs that goes, variable by variable
  abbrev lost_of : Bool → Option Node → ℕ → ℕ
  lost_of true (Some (Assign y t next)) x = if nat_eq x y then weight y t else 0
  lost_of b o x = 0

  abbrev lost : ℕ → ℕ → ℕ
  lost n x = lost_of (is_sinkable (slice_get graph.nodes n)) (slice_get graph.nodes n) x

  -- the node weighs what goes of it and what stays
  node_weighs : (n : ℕ) → n < length graph.nodes → weigh weight (option_map (changed (emptied (is_sinkable (slice_get graph.nodes n)))) (slice_get graph.nodes n)) + sum_vars (lost n) 0 vars ≡ weight_at weight graph.nodes n
  node_weighs n lt = by (slice_get graph.nodes n) (is_sinkable (slice_get graph.nodes n)) refl refl
    where
      none : sum_vars (λ x. 0) 0 vars ≡ 0
      none = sum_none (λ x. 0) 0 vars (λ y le. refl)

      kept : (o : Option Node) → weigh weight (option_map (changed (emptied false)) o) ≡ weigh weight o
      kept None = refl
      kept (Some (Start next)) = refl
      kept (Some (Skip next)) = refl
      kept (Some (Assign x t next)) = refl
      kept (Some (Print a next)) = refl
      kept (Some (Guard test number next)) = refl
      kept (Some (Call into unit operands next)) = refl
      kept (Some (Test test taken other)) = refl
      kept (Some (Return a)) = refl

      by : (o : Option Node) (b : Bool) → slice_get graph.nodes n ≡ o → is_sinkable o ≡ b → weigh weight (option_map (changed (emptied b)) o) + sum_vars (lost_of b o) 0 vars ≡ weigh weight o
      by o false is sinkable = omega (arith, none, kept o)
      by None true is sinkable = absurd (true≢false (sym sinkable))
      by (Some (Start next)) true is sinkable = absurd (true≢false (sym sinkable))
      by (Some (Skip next)) true is sinkable = absurd (true≢false (sym sinkable))
      by (Some (Assign y t next)) true is sinkable =
          let below : y < 0 + vars = omega (arith, (is_graph.can.below n (Assign y t next) is).0) in
          let one = sum_one (λ x. (if nat_eq x y then weight y t else 0)) 0 vars y (omega arith) below (λ z differ. ap (λ b. (if b then weight y t else 0)) (ne_eqb z y differ)) in
          let own = ap {B = ℕ} (λ b. (if b then weight y t else 0)) (eq-eqb y y refl) in
          omega (arith, one, own)
      by (Some (Print a next)) true is sinkable = absurd (true≢false (sym sinkable))
      by (Some (Guard test number next)) true is sinkable = absurd (true≢false (sym sinkable))
      by (Some (Call into unit operands next)) true is sinkable = absurd (true≢false (sym sinkable))
      by (Some (Test test taken other)) true is sinkable = absurd (true≢false (sym sinkable))
      by (Some (Return a)) true is sinkable = absurd (true≢false (sym sinkable))

  -- what is put weighs at most what is delayed
  put_light : (n x : ℕ) → n < length graph.nodes → weight_of weight x (put_for (inserts n) x) ≤ weight_of weight x (late n x)
  put_light n x lt = by (put_for (inserts n) x) refl
    where
      by : (o : Option Rhs) → put_for (inserts n) x ≡ o → weight_of weight x o ≤ weight_of weight x (late n x)
      by None e = omega arith
      by (Some t) e = (let same = ap {B = ℕ} (weight_of weight x) (put_delayed graph is_graph split late inserts are n x t lt e) in omega (arith, same))

  -- a node where the pattern occurs loses its weight
  lost_here : (n x : ℕ) (t : Rhs) → occurs_at x t graph n ≡ true → lost n x ≡ weight x t
  lost_here n x t o =
      let w = occurrence_is x t (slice_get graph.nodes n) o in
      ap (λ (found : Option Node). lost_of (is_sinkable found) found x) w.1
      ∙ ap (λ b. lost_of (not b) (Some (Assign x t w.0)) x) w.2
      ∙ ap (λ b. (if b then weight x t else 0)) (eq-eqb x x refl)

  -- variable by variable, what is put and what is delayed next weigh at most what was delayed and what goes
  each_var : (n s x : ℕ) → HasEdge graph.nodes n s → weight_of weight x (put_for (inserts n) x) + weight_of weight x (late s x) ≤ weight_of weight x (late n x) + lost n x
  each_var n s x edge = by (late s x) refl
    where
      lt : n < length graph.nodes
      lt = source_within graph is_graph n s edge

      by : (o : Option Rhs) → late s x ≡ o → weight_of weight x (put_for (inserts n) x) + weight_of weight x o ≤ weight_of weight x (late n x) + lost n x
      by None e = omega (arith, put_light n x lt)
      by (Some t) e = elim (back_to graph is_graph split late inserts are n s x t edge e) [
        | inl o ↦ (let here = lost_here n x t o in omega (arith, put_light n x lt, here))
        | inr on ↦
            let none = ap {B = ℕ} (weight_of weight x) on.not_put in
            let there = ap {B = ℕ} (weight_of weight x) on.late_there in
            omega (arith, none, there)
      ]

  -- so what is delayed is a credit
  pub is_credit : IsCredit weight (sinking graph inserts) graph.nodes credit
  is_credit = record {
    starts = sum_none (λ x. weight_of weight x (late 0 x)) 0 vars (λ x le. nothing x (late 0 x) refl);
    each_edge = λ n s edge.
        let lt = source_within graph is_graph n s edge in
        omega (arith, inserts_weigh n lt, node_weighs n lt, sums_le (λ x. weight_of weight x (put_for (inserts n) x)) (λ x. weight_of weight x (late s x)) (λ x. weight_of weight x (late n x)) (lost n) 0 vars (λ x. each_var n s x edge));
    ends = λ n returns.
        let lt = there n returns in
        omega (arith, inserts_weigh n lt, node_weighs n lt, light n lt);
  }
    where
      start_within : 0 < length graph.nodes
      start_within = slice_get_within graph.nodes 0 (Start is_graph.can.start.0) is_graph.can.start.1

      nothing : (x : ℕ) (o : Option Rhs) → late 0 x ≡ o → weight_of weight x o ≡ 0
      nothing x None e = refl
      nothing x (Some t) e = absurd (none_at_start graph is_graph x t ((are.delayed_are 0 x t start_within).0 e))

      there : (n : ℕ) → IsReturnAt graph.nodes n → n < length graph.nodes
      there n returns = by (slice_get graph.nodes n) refl returns
        where
          by : (o : Option Node) → slice_get graph.nodes n ≡ o → is_return o ≡ true → n < length graph.nodes
          by None e r = absurd (true≢false (sym r))
          by (Some node) e r = slice_get_within graph.nodes n node e

      light : (n : ℕ) → n < length graph.nodes → sum_vars (λ x. weight_of weight x (put_for (inserts n) x)) 0 vars ≤ sum_vars (λ x. weight_of weight x (late n x)) 0 vars
      light n lt =
          let zero_sum = sum_none (λ x. 0) 0 vars (λ y le. refl) in
          let le = sums_le (λ x. weight_of weight x (put_for (inserts n) x)) (λ x. 0) (λ x. weight_of weight x (late n x)) (λ x. 0) 0 vars (λ x. (let one = put_light n x lt in omega (arith, one))) in
          omega (arith, le, zero_sum)
