-- Laws of where patterns are delayed and inserted, from node to node of a split graph; so they sink as the law of moved
-- assignments asks. For proofs only, those of sink_rounds too.
use Rattle.std.proofs.Common.{◌≡◌, ◌⊎◌, ◌<◌, ℕ, suc, Bool, true, false, ◌||◌, nat_eq, List, [], ◌∷◌, length, slice_get, Option, Some, None, inl, inr, refl, sym, ap, ◌∙◌, subst, arith}
use Rattle.std.proofs.lemmas.Bool.{cases_Bool, cases_eq, cases_lt, true≢false, eq-eqb, ne_eqb, or_parts, or_right}
use Rattle.std.proofs.lemmas.Option.{same_Some, none-some, slice_get_within}
use Rattle.mir_base.specs.declared.instructions.Rhs.{Rhs}
use Rattle.mir_base.specs.ExpressionLaws.{never_traps_where_undivided}
use Rattle.mir_base.specs.Expressions.{divides, rhs_traps}
use Rattle.mir_base.specs.Frames.{Values}
use Rattle.mir_base.specs.Shapes.{rhs_vars}
use Rattle.flow_graph.specs.declared.nodes.Node.{Node}
use Rattle.flow_graph.specs.declared.nodes.Node.TheVariants.{Start, Skip, Assign}
use Rattle.flow_graph.specs.BoundLaws.{edge_within}
use Rattle.flow_graph.specs.Edges.{IsSplit}
use Rattle.flow_graph.specs.Graphs.{GraphShape, IsGraph, AllWithin, assigns, node_reads, succs_of}
use Rattle.graph_edit.specs.Insertions.{Insertion, Unchanged, Removed}
use Rattle.graph_edit.specs.JoinLaws.{joins, one_or_skips, skip_leads}
use Rattle.flow_graph.specs.Numbering.{is_in}
use Rattle.flow_graph.specs.PathLaws.{reached_trace}
use Rattle.flow_graph.specs.Paths.{HasEdge, Trace, from_start, goes_on}
use Rattle.sink_code.specs.Sinking.{put_for, AllOthers, AllPut, AreApart, LeaveAlone, NeverTrap, NonePut, Sinks}
use Rattle.graph_edit.specs.VarLaws.{NoneAssigned, none_assigned}
use Rattle.graph_edit.specs.Accesses.{blocks_at, blocks_pattern, is_sinkable, is_occurrence, occurs_at}
use Rattle.sink_code.specs.Delaying.{IsDelayedTo, IsInsertedAt}
use Rattle.sink_code.specs.SunkGraphs.{AreInsertions, RisesFrom, emptied, sinking}
use Rattle.graph_edit.specs.OccurrenceLaws.{sinkable_is, is_occurrence_of, lets_pass, occurrence_blocks, occurrence_sinkable, occurrence_is, reading_blocks}
use Rattle.sink_code.specs.OrderedLaws.{EachPut, each_put}
use Rattle.sink_code.specs.WaitingLaws.{Waits, one_waits, waits_apart, waits_sinkable}

-- none of the list is this variable, where it is not in the list
all_others : (x : ℕ) (ys : List ℕ) → is_in x ys ≡ false → AllOthers x ys
all_others x [] none = tt
all_others x (y ∷ ys) none = let both = or_parts (nat_eq y x) (is_in x ys) none in (both.0, all_others x ys both.1)

-- different numbers, as a test
differ_test : (x y : ℕ) → (x ≡ y → ⊥) → nat_eq x y ≡ false
differ_test x y differ = ne_eqb x y differ

-- a path with no node before its last is that of Start
pub at_start : (nodes : List Node) (s : ℕ) → Trace nodes s [] → s ≡ 0
at_start nodes s from_start = refl

module _ (graph : GraphShape) (is_graph : IsGraph graph.vars graph.received graph.nodes) where
  abbrev within : AllWithin graph.nodes
  within = λ m slot s edge. (is_graph.can.succs m slot s edge).1

  -- each node is come to on some path
  pub trace_of : (n : ℕ) → n < length graph.nodes → (before : List ℕ) × Trace graph.nodes n before
  trace_of n lt = reached_trace graph.nodes n (is_graph.reached n lt)

  pub source_within : (n s : ℕ) → HasEdge graph.nodes n s → n < length graph.nodes
  source_within n s edge = edge_within graph.nodes n s edge

  pub target_within : (n s : ℕ) → HasEdge graph.nodes n s → s < length graph.nodes
  target_within n s edge = within n edge.0 s edge.1

  -- no edge leads to Start
  pub start_unentered : (n : ℕ) → HasEdge graph.nodes n 0 → ⊥
  start_unentered n edge = let above = (is_graph.can.succs n edge.0 0 edge.1).0 in omega (arith, above)

  -- of one variable one pattern is delayed at a node
  pub one_delayed : (n x : ℕ) (t u : Rhs) → n < length graph.nodes → IsDelayedTo graph x t n
      → IsDelayedTo graph x u n → t ≡ u
  one_delayed n x t u lt d d' = let tr = trace_of n lt in one_waits graph x t u tr.0 (d tr.0 tr.1) (d' tr.0 tr.1)

  -- and none reads what one of another variable assigns
  pub delayed_apart : (n x y : ℕ) (t u : Rhs) → n < length graph.nodes → IsDelayedTo graph x t n
      → IsDelayedTo graph y u n → (x ≡ y → ⊥) → is_in y (rhs_vars t) ≡ false
  delayed_apart n x y t u lt d d' differ = let tr = trace_of n lt in waits_apart graph x y t u tr.0 (d tr.0 tr.1) (d' tr.0 tr.1) (differ_test x y differ)

  -- none of them divides
  pub delayed_sinkable : (n x : ℕ) (t : Rhs) → n < length graph.nodes → IsDelayedTo graph x t n → divides t ≡ false
  delayed_sinkable n x t lt d = let tr = trace_of n lt in waits_sinkable graph x t tr.0 (d tr.0 tr.1)

  -- nothing is delayed after Start
  pub none_at_first : (s x : ℕ) (t : Rhs) → HasEdge graph.nodes 0 s → IsDelayedTo graph x t s → ⊥
  none_at_first s x t edge d = elim (d (0 ∷ []) (goes_on 0 s [] from_start edge)) [
    | inl o ↦ (let w = occurrence_is x t (slice_get graph.nodes 0) o in let clash : Some (Assign x t w.0) ≡ Some (Start is_graph.can.start.0) = sym w.1 ∙ is_graph.can.start.1 in cc)
    | inr later ↦ later.1
  ]

  -- nor at it
  pub none_at_start : (x : ℕ) (t : Rhs) → IsDelayedTo graph x t 0 → ⊥
  none_at_start x t d = d [] from_start

  -- what is delayed at a successor occurs at the node, or was delayed at it and passes it
  pub came_from : (n s x : ℕ) (t : Rhs) → HasEdge graph.nodes n s → IsDelayedTo graph x t s
      → (occurs_at x t graph n ≡ true) ⊎ ((blocks_at x t graph n ≡ false) × IsDelayedTo graph x t n)
  came_from n s x t edge d =
      let tr = trace_of n (source_within n s edge) in
      elim (d (n ∷ tr.0) (goes_on n s tr.0 tr.1 edge)) [
        | inl o ↦ inl o
        | inr later ↦ inr (later.0, λ before trace. waiting before later.0 (d (n ∷ before) (goes_on n s before trace edge)))
      ]
    where
      waiting : (before : List ℕ) → blocks_at x t graph n ≡ false → Waits graph x t (n ∷ before)
          → Waits graph x t before
      waiting before free (inl o) = absurd (true≢false (sym (occurrence_blocks graph x t t (slice_get graph.nodes n) o) ∙ free))
      waiting before free (inr later) = later.1

  module _ (split : IsSplit graph.nodes) where
    -- what occurs at a node is delayed at its successor
    pub occurs_on : (n s x : ℕ) (t : Rhs) → HasEdge graph.nodes n s → occurs_at x t graph n ≡ true
        → IsDelayedTo graph x t s
    occurs_on n s x t edge o [] trace = absurd (start_unentered n (subst (HasEdge graph.nodes n) (at_start graph.nodes s trace) edge))
    occurs_on n s x t edge o (k ∷ before) (goes_on k0 s0 before0 trace edge') = elim (joins graph.nodes within split n k s edge edge') [
      | inl same ↦ inl (subst (λ m. occurs_at x t graph m ≡ true) same o)
      | inr skip ↦ (let w = occurrence_is x t (slice_get graph.nodes n) o in let clash : Some (Assign x t w.0) ≡ Some (Skip s) = sym w.1 ∙ skip in absurd (cc))
    ]

    -- what is delayed at a node that does not block it, and at one successor, is delayed at each
    pub delayed_each : (n s s' x : ℕ) (t : Rhs) → HasEdge graph.nodes n s → HasEdge graph.nodes n s'
        → blocks_at x t graph n ≡ false → IsDelayedTo graph x t n → IsDelayedTo graph x t s
        → IsDelayedTo graph x t s'
    delayed_each n s s' x t edge edge' free d on [] trace = absurd (start_unentered n (subst (HasEdge graph.nodes n) (at_start graph.nodes s' trace) edge'))
    delayed_each n s s' x t edge edge' free d on (k ∷ before) (goes_on k0 s0 before0 trace from) = elim (joins graph.nodes within split n k s' edge' from) [
      | inl same ↦ inr (subst (λ m. blocks_at x t graph m ≡ false) same free, d before (subst (λ m. Trace graph.nodes m before) (sym same) trace))
      | inr skip ↦ subst (λ m. IsDelayedTo graph x t m) (sym (skip_leads graph.nodes n s' s skip edge)) on (k ∷ before) (goes_on k s' before trace from)
    ]

    -- so it is not inserted there
    pub not_inserted : (n s x : ℕ) (t : Rhs) → HasEdge graph.nodes n s
        → blocks_at x t graph n ≡ false → IsDelayedTo graph x t n → IsDelayedTo graph x t s
        → IsInsertedAt graph x t n → ⊥
    not_inserted n s x t edge free d on put = elim put.1 [
      | inl blocked ↦ true≢false (sym blocked ∙ free)
      | inr lost ↦ lost.2 (delayed_each n s lost.0 x t edge lost.1 free d on)
    ]

    -- where a pattern passes a node and is yet inserted before it, the node is a Skip: of a node with other
    -- predecessors too all are Skips, and a node with one alone gets what passes it
    pub passed_at_skip : (n x : ℕ) (t : Rhs) → IsInsertedAt graph x t n
        → blocks_at x t graph n ≡ false → (next : ℕ) × (slice_get graph.nodes n ≡ Some (Skip next))
    passed_at_skip n x t put free = elim put.1 [
      | inl blocked ↦ absurd (true≢false (sym blocked ∙ free))
      | inr lost ↦ by lost.0 lost.1 lost.2
    ]
      where
        by : (s : ℕ) → HasEdge graph.nodes n s → (IsDelayedTo graph x t s → ⊥)
            → (next : ℕ) × (slice_get graph.nodes n ≡ Some (Skip next))
        by s edge stays = elim (one_or_skips graph.nodes within split s) [
          | inl one ↦ absurd (stays (passes s edge (λ k from. one n k edge from)))
          | inr skips ↦ (s, skips n edge)
        ]
          where
            passes : (s : ℕ) → HasEdge graph.nodes n s → ((k : ℕ) → HasEdge graph.nodes k s → n ≡ k)
                → IsDelayedTo graph x t s
            passes s edge one [] trace = absurd (start_unentered n (subst (HasEdge graph.nodes n) (at_start graph.nodes s trace) edge))
            passes s edge one (k ∷ before) (goes_on k0 s0 before0 trace from) =
                let same = one k from in
                inr (subst (λ m. blocks_at x t graph m ≡ false) same free, put.0 before (subst (λ m. Trace graph.nodes m before) (sym same) trace))

-- ---- the tables

module _ (graph : GraphShape) (is_graph : IsGraph graph.vars graph.received graph.nodes)
    (split : IsSplit graph.nodes) (late : ℕ → ℕ → Option Rhs) (inserts : ℕ → List Insertion)
    (are : AreInsertions graph late inserts) where
  -- what is put before a node is delayed there
  pub put_delayed : (n x : ℕ) (t : Rhs) → n < length graph.nodes → put_for (inserts n) x ≡ Some t → late n x ≡ Some t
  put_delayed n x t lt put = (are.delayed_are n x t lt).1 (((are.inserts_are n lt).exact x t).0 put).0

  -- nothing is put where nothing is delayed
  pub none_put : (n x : ℕ) → n < length graph.nodes → late n x ≡ None → put_for (inserts n) x ≡ None
  none_put n x lt none = by (put_for (inserts n) x) refl
    where
      by : (o : Option Rhs) → put_for (inserts n) x ≡ o → o ≡ None
      by None is = refl
      by (Some t) is = absurd (none-some t (sym none ∙ put_delayed n x t lt is))

  -- what is delayed at a node that blocks it is put there
  pub blocked_put : (n x : ℕ) (t : Rhs) → n < length graph.nodes → late n x ≡ Some t
      → blocks_at x t graph n ≡ true → put_for (inserts n) x ≡ Some t
  blocked_put n x t lt is blocked = ((are.inserts_are n lt).exact x t).1 ((are.delayed_are n x t lt).0 is, inl blocked)

  -- each insertion is delayed where it is put
  pub each_delayed : (n : ℕ) → n < length graph.nodes → EachPut (λ x t. IsDelayedTo graph x t n) (inserts n)
  each_delayed n lt =
      each_put (λ x t. IsDelayedTo graph x t n) 0 (inserts n) (are.inserts_are n lt).in_order (λ x t put. (((are.inserts_are n lt).exact x t).0 put).0)

  -- ---- apart

  alone : (n low x : ℕ) (t : Rhs) (puts : List Insertion) → n < length graph.nodes → x < low
      → IsDelayedTo graph x t n → RisesFrom low puts → EachPut (λ y u. IsDelayedTo graph y u n) puts
      → LeaveAlone x puts
  alone n low x t [] lt below d rises each = tt
  alone n low x t (put ∷ puts) lt below d rises each = (
    (differ_test x put.var (λ e. (omega (arith, e, below, rises.0))), all_others x (rhs_vars put.rhs) (delayed_apart graph is_graph n put.var x put.rhs t lt each.0 d (λ e. (omega (arith, e, below, rises.0))))),
    alone n (suc put.var) x t puts lt (omega (arith, below, rises.0)) d rises.1 each.1,
  )

  apart : (n low : ℕ) (puts : List Insertion) → n < length graph.nodes → RisesFrom low puts
      → EachPut (λ y u. IsDelayedTo graph y u n) puts → AreApart puts
  apart n low [] lt rises each = tt
  apart n low (put ∷ puts) lt rises each = (alone n (suc put.var) put.var put.rhs puts lt (omega arith) each.0 rises.1 each.1, apart n (suc put.var) puts lt rises.1 each.1)

  -- what is inserted before one node leaves each other alone
  pub inserts_apart : (n : ℕ) → AreApart (inserts n)
  inserts_apart n = elim (cases_lt n (length graph.nodes)) [
    | inl lt ↦ apart n 0 (inserts n) lt (are.inserts_are n lt).in_order (each_delayed n lt)
    | inr ge ↦ subst AreApart (sym (are.none_past n ge)) tt
  ]

  never : (n : ℕ) (puts : List Insertion) → n < length graph.nodes
      → EachPut (λ y u. IsDelayedTo graph y u n) puts → NeverTrap puts
  never n [] lt each = tt
  never n (put ∷ puts) lt each = (λ v. never_traps_where_undivided v put.rhs (delayed_sinkable graph is_graph n put.var put.rhs lt each.0), never n puts lt each.1)

  inserts_never_trap : (n : ℕ) → NeverTrap (inserts n)
  inserts_never_trap n = elim (cases_lt n (length graph.nodes)) [
    | inl lt ↦ never n (inserts n) lt (each_delayed n lt)
    | inr ge ↦ subst NeverTrap (sym (are.none_past n ge)) tt
  ]

  -- ---- from node to node

  -- what a node reads is put before it where it is delayed
  reads_put : (n : ℕ) (node : Node) → slice_get graph.nodes n ≡ Some node → (xs : List ℕ)
      → ((x : ℕ) → is_in x xs ≡ true → is_in x (node_reads graph node) ≡ true)
      → AllPut (late n) (inserts n) xs
  reads_put n node is [] among = tt
  reads_put n node is (x ∷ xs) among = (by (late n x) refl, reads_put n node is xs (λ y h. among y (or_right (nat_eq x y) (is_in y xs) h)))
    where
      here : (b : Bool) → nat_eq x x ≡ true → (nat_eq x x || b) ≡ true
      here b e = ap (λ a. a || b) e

      by : (o : Option Rhs) → late n x ≡ o → o ≡ put_for (inserts n) x
      by None e = sym (none_put n x (slice_get_within graph.nodes n node is) e)
      by (Some t) e =
          let reads = among x (here (is_in x xs) (eq-eqb x x refl)) in
          sym (blocked_put n x t (slice_get_within graph.nodes n node is) e (ap (blocks_pattern graph x t) is ∙ reading_blocks graph x t node reads))

  -- what is no longer delayed was put
  pub lost_put : (n s x : ℕ) → HasEdge graph.nodes n s → late s x ≡ None → late n x ≡ put_for (inserts n) x
  lost_put n s x edge none = by (late n x) refl
    where
      by : (o : Option Rhs) → late n x ≡ o → o ≡ put_for (inserts n) x
      by None e = sym (none_put n x (source_within graph is_graph n s edge) e)
      by (Some t) e = sym (((are.inserts_are n (source_within graph is_graph n s edge)).exact x t).1 (
        (are.delayed_are n x t (source_within graph is_graph n s edge)).0 e,
        inr (s, edge, λ d. none-some t (sym none ∙ (are.delayed_are s x t (target_within graph is_graph n s edge)).1 d)),
      ))

  -- what is delayed at a successor occurs at the node; or the node lets it pass, and it was delayed there and is not
  -- put
  pub record PassedOn (n x : ℕ) (t : Rhs) : Type 0 where
    pub free : blocks_at x t graph n ≡ false
    pub late_there : late n x ≡ Some t
    pub not_put : put_for (inserts n) x ≡ None

  pub back_to : (n s x : ℕ) (t : Rhs) → HasEdge graph.nodes n s → late s x ≡ Some t
      → (occurs_at x t graph n ≡ true) ⊎ PassedOn n x t
  back_to n s x t edge is =
      let d = (are.delayed_are s x t (target_within graph is_graph n s edge)).0 is in
      elim (came_from graph is_graph n s x t edge d) [
        | inl o ↦ inl o
        | inr on ↦
            let there = (are.delayed_are n x t (source_within graph is_graph n s edge)).1 on.1 in
            inr (record { free = on.0; late_there = there; not_put = by d on.0 on.1 there (put_for (inserts n) x) refl })
      ]
    where
      by : IsDelayedTo graph x t s → blocks_at x t graph n ≡ false → IsDelayedTo graph x t n
          → late n x ≡ Some t → (o : Option Rhs) → put_for (inserts n) x ≡ o → o ≡ None
      by d free on there None e = refl
      by d free on there (Some u) e =
          let same : t ≡ u = same_Some t u (sym there ∙ put_delayed n x u (source_within graph is_graph n s edge) e) in
          absurd (not_inserted graph is_graph split n s x t edge free on d (((are.inserts_are n (source_within graph is_graph n s edge)).exact x t).0 (e ∙ ap Some (sym same))))

  -- of what is passed on no operand is put
  operands_none : (n x : ℕ) (t : Rhs) → n < length graph.nodes → PassedOn n x t → (ys : List ℕ)
      → ((y : ℕ) → is_in y ys ≡ true → is_in y (rhs_vars t) ≡ true) → NonePut (inserts n) ys
  operands_none n x t lt on [] among = tt
  operands_none n x t lt on (y ∷ ys) among = (by (put_for (inserts n) y) refl, operands_none n x t lt on ys (λ z h. among z (or_right (nat_eq y z) (is_in z ys) h)))
    where
      by : (o : Option Rhs) → put_for (inserts n) y ≡ o → o ≡ None
      by None e = refl
      by (Some u) e = elim (cases_eq x y) [
        | inl same ↦ absurd (none-some u (sym on.not_put ∙ ap (put_for (inserts n)) same ∙ e))
        | inr differ ↦
            let reads = among y (ap (λ a. a || is_in y ys) (eq-eqb y y refl)) in
            let apart = delayed_apart graph is_graph n x y t u lt ((are.delayed_are n x t lt).0 on.late_there) ((are.delayed_are n y u lt).0 (put_delayed n y u lt e)) differ in
            absurd (true≢false (sym reads ∙ apart))
      ]

  back : (n s x : ℕ) (t : Rhs) (node : Node) → slice_get graph.nodes n ≡ Some node
      → HasEdge graph.nodes n s → late s x ≡ Some t
      → ((emptied (is_sinkable (slice_get graph.nodes n)) ≡ Removed) × ((next : ℕ) × (node ≡ Assign x t next)))
      ⊎ ((assigns graph x node ≡ false) × (NoneAssigned graph node (rhs_vars t) × ((late n x ≡ Some t) × NonePut (inserts n) (rhs_vars t))))
  back n s x t node is edge later = elim (back_to n s x t edge later) [
    | inl o ↦
        let w = occurrence_is x t (slice_get graph.nodes n) o in
        inl (ap emptied (occurrence_sinkable x t (slice_get graph.nodes n) o), (w.0, same_Some node (Assign x t w.0) (sym is ∙ w.1)))
    | inr on ↦
        let free = lets_pass graph x t node (sym (ap (blocks_pattern graph x t) is) ∙ on.free) in
        inr (free.sets, (none_assigned graph node (rhs_vars t) free.operands, (on.late_there, operands_none n x t (slice_get_within graph.nodes n node is) on (rhs_vars t) (λ y h. h))))
  ]

  -- what becomes of a node
  only : (n : ℕ) (node : Node) → slice_get graph.nodes n ≡ Some node
      → (emptied (is_sinkable (slice_get graph.nodes n)) ≡ Unchanged)
      ⊎ ((emptied (is_sinkable (slice_get graph.nodes n)) ≡ Removed) × ((x : ℕ) × (t : Rhs) × (next : ℕ) × (node ≡ Assign x t next)))
  only n node is = elim (cases_Bool (is_sinkable (slice_get graph.nodes n))) [
    | inl sinkable ↦
        let w = sinkable_is (slice_get graph.nodes n) sinkable in
        inr (ap emptied sinkable, (w.0, w.1, w.2, same_Some node (Assign w.0 w.1 w.2) (sym is ∙ w.3)))
    | inr kept ↦ inl (ap emptied kept)
  ]

  removed_sinkable : (b : Bool) → emptied b ≡ Removed → b ≡ true
  removed_sinkable true e = refl
  removed_sinkable false e = cc

  removed : (n s x : ℕ) (t : Rhs) → slice_get graph.nodes n ≡ Some (Assign x t s)
      → emptied (is_sinkable (slice_get graph.nodes n)) ≡ Removed
      → (late s x ≡ Some t) × ((v : Values) → rhs_traps v t ≡ false)
  removed n s x t is gone =
      let sinkable = sinkable_is (slice_get graph.nodes n) (removed_sinkable (is_sinkable (slice_get graph.nodes n)) gone) in
      let same : Assign sinkable.0 sinkable.1 sinkable.2 ≡ Assign x t s = same_Some (Assign sinkable.0 sinkable.1 sinkable.2) (Assign x t s) (sym sinkable.3 ∙ is) in
      let rhs : sinkable.1 ≡ t = cc in
      let stays : divides t ≡ false = ap divides (sym rhs) ∙ sinkable.4 in
      let edge : HasEdge graph.nodes n s = (0, ap (λ (o : Option Node). slice_get (succs_of o) 0) is) in (
        (are.delayed_are s x t (target_within graph is_graph n s edge)).1 (occurs_on graph is_graph split n s x t edge (ap (is_occurrence x t) is ∙ is_occurrence_of x t s stays)),
        λ v. never_traps_where_undivided v t stays,
      )

  -- so they sink
  pub insertions_sink : Sinks graph (sinking graph inserts) late
  insertions_sink = record {
    apart = inserts_apart;
    never = inserts_never_trap;
    only = only;
    starts = λ s x edge. starts s x edge;
    reads = λ n node is. reads_put n node is (node_reads graph node) (λ x h. h);
    lost = lost_put;
    back = back;
    removed = removed;
  }
    where
      starts : (s x : ℕ) → HasEdge graph.nodes 0 s → late s x ≡ None
      starts s x edge = by (late s x) refl
        where
          by : (o : Option Rhs) → late s x ≡ o → o ≡ None
          by None e = refl
          by (Some t) e = absurd (none_at_first graph is_graph s x t edge ((are.delayed_are s x t (target_within graph is_graph 0 s edge)).0 e))
