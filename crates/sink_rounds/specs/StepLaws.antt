-- Laws of steps: each can be made and does the same as the graph, and a round is one of them.
use Rattle.std.proofs.Common.{◌≡◌, ◌⊎◌, ◌<◌, ℕ, Bool, true, false, not, nat_eq, ◌||◌, if◌then◌else◌, List, [], ◌∷◌, ◌++◌, length, slice_get, Option, Some, None, inl, inr, refl, sym, ap, ◌∙◌, subst, append-nil}
use Rattle.std.proofs.lemmas.Bool.{cases_Bool, cases_eq, cases_lt, eq-eqb, true≢false, ne_eqb, or_right}
use Rattle.std.proofs.lemmas.Option.{none-some, same_Some, slice_get_past, slice_get_within}
use Rattle.mir_base.specs.ExpressionLaws.{never_traps_where_undivided}
use Rattle.mir_base.specs.Expressions.{divides}
use Rattle.mir_base.specs.declared.instructions.Rhs.{Rhs}
use Rattle.mir_base.specs.Shapes.{AllDiffer, rhs_vars}
use Rattle.mir_base.specs.UnitRuns.{UnitSame}
use Rattle.flow_graph.specs.declared.nodes.Node.{Node}
use Rattle.flow_graph.specs.declared.nodes.Node.TheVariants.{Start, Assign}
use Rattle.flow_graph.specs.Edges.{IsSplit}
use Rattle.flow_graph.specs.Graphs.{GraphShape, IsGraph, node_reads, succs_of}
use Rattle.flow_graph.specs.Machines.{graph_machine}
use Rattle.flow_graph.specs.Numbering.{is_in}
use Rattle.flow_graph.specs.Paths.{HasEdge}
use Rattle.graph_edit.specs.Insertions.{CanRewrite, Change, ChangeBelow, Insertion, InsertionsBelow, Removed, Rewriting, Unchanged, rewritten_nodes}
use Rattle.sink_code.specs.Sinking.{AllPut, AreApart, NeverTrap, NonePut, Sinks, put_for, sinking_same}
use Rattle.graph_edit.specs.VarLaws.{none_assigned}
use Rattle.graph_edit.specs.Accesses.{blocks_at, blocks_pattern, is_sinkable, is_occurrence}
use Rattle.sink_code.specs.Delaying.{IsDelayedTo}
use Rattle.dead_code.specs.Pruned.{IsDeadAt, pruned_from}
use Rattle.sink_code.specs.PutLaws.{alone_unput, put_first}
use Rattle.sink_rounds.specs.RoundGraphs.{IsRound}
use Rattle.sink_code.specs.SunkGraphs.{AreInsertions, emptied, sinking}
use Rattle.sink_code.specs.DelayLaws.{back_to, blocked_put, delayed_apart, delayed_sinkable, inserts_apart, lost_put, none_at_start, occurs_on, put_delayed, target_within, trace_of}
use Rattle.graph_edit.specs.OccurrenceLaws.{is_occurrence_of, lets_pass, occurrence_is, occurrence_sinkable, reading_blocks, sinkable_is}
use Rattle.sink_code.specs.OrderedLaws.{EachPut}
use Rattle.sink_code.specs.WaitingLaws.{waits_below}
use Rattle.sink_rounds.specs.Maximal.{late_delayed}
use Rattle.sink_rounds.specs.Steps.{IsSinking, IsStep}

-- ---- insertions that leave each other alone

-- each of them is what is put for its variable
each_apart : (P : ℕ → Rhs → Type 0) (puts : List Insertion) → AreApart puts → ((x : ℕ) (t : Rhs) → put_for puts x ≡ Some t → P x t) → EachPut P puts
each_apart P [] apart all = tt
each_apart P (put ∷ puts) apart all = (all put.var put.rhs (put_first put puts), each_apart P puts apart.1 (λ x t is. all x t (later x t is)))
  where
    later : (x : ℕ) (t : Rhs) → put_for puts x ≡ Some t → put_for (put ∷ puts) x ≡ Some t
    later x t is = elim (cases_eq x put.var) [
      | inl same ↦ absurd (none-some t (sym (alone_unput put.var puts apart.0) ∙ ap (put_for puts) (sym same) ∙ is))
      | inr differ ↦ ap (λ b. (if b then Some put.rhs else put_for puts x)) (ne_eqb x put.var differ) ∙ is
    ]

module _ (graph : GraphShape) (is_graph : IsGraph graph.vars graph.received graph.nodes) (r : Rewriting) (late : ℕ → ℕ → Option Rhs) (sinks : IsSinking graph r late) where
  -- what a sinking delays is delayed by every path
  delayed : (n x : ℕ) (t : Rhs) → late n x ≡ Some t → IsDelayedTo graph x t n
  delayed n x t is = late_delayed graph r late sinks n x t is

  -- and so is what it puts
  put_is : (n x : ℕ) (t : Rhs) → put_for (r.inserts n) x ≡ Some t → IsDelayedTo graph x t n
  put_is n x t is = delayed n x t (sinks.put n x t is)

  -- ---- it can be made

  pub step_fits : CanRewrite r [] graph
  step_fits = record {
    at_start = nothing (r.inserts 0) refl;
    put = λ n lt. subst (λ k. InsertionsBelow k (r.inserts n)) (sym (ap length (append-nil graph.vars))) (below n lt (r.inserts n) (each_apart (λ x t. IsDelayedTo graph x t n) (r.inserts n) (sinks.apart n) (put_is n)));
    change = λ n lt. changes n (r.changes n) (sinks.only n);
    names = subst AllDiffer (sym (append-nil graph.vars)) is_graph.can.names;
  }
    where
      nothing : (puts : List Insertion) → r.inserts 0 ≡ puts → puts ≡ []
      nothing [] e = refl
      nothing (put ∷ puts) e = absurd (none-some put.rhs (sym (sinks.start put.var) ∙ sinks.put 0 put.var put.rhs (ap (λ l. put_for l put.var) e ∙ put_first put puts)))

      below : (n : ℕ) → n < length graph.nodes → (puts : List Insertion) → EachPut (λ x t. IsDelayedTo graph x t n) puts → InsertionsBelow (length graph.vars) puts
      below n lt [] each = tt
      below n lt (put ∷ puts) each = (let tr = trace_of graph is_graph n lt in waits_below graph is_graph put.var put.rhs tr.0 (each.0 tr.0 tr.1), below n lt puts each.1)

      changes : (n : ℕ) (c : Change) → ((c ≡ Unchanged) ⊎ ((c ≡ Removed) × (is_sinkable (slice_get graph.nodes n) ≡ true))) → ChangeBelow (length (graph.vars ++ [])) c
      changes n c (inl e) = subst (ChangeBelow (length (graph.vars ++ []))) (sym e) tt
      changes n c (inr e) = subst (ChangeBelow (length (graph.vars ++ []))) (sym e.0) tt

  -- ---- it does the same

  free_put : (n x : ℕ) (t : Rhs) → late n x ≡ Some t → put_for (r.inserts n) x ≡ None → blocks_at x t graph n ≡ false
  free_put n x t is none = elim (cases_Bool (blocks_at x t graph n)) [
    | inl blocked ↦ absurd (none-some t (sym none ∙ sinks.blocked n x t is blocked))
    | inr free ↦ free
  ]

  -- what is not delayed is not put
  unlate : (n x : ℕ) → late n x ≡ None → put_for (r.inserts n) x ≡ None
  unlate n x none = by (put_for (r.inserts n) x) refl
    where
      by : (o : Option Rhs) → put_for (r.inserts n) x ≡ o → o ≡ None
      by None e = refl
      by (Some t) e = absurd (none-some t (sym none ∙ sinks.put n x t e))

  -- what it puts never traps
  never : (n : ℕ) → NeverTrap (r.inserts n)
  never n = elim (cases_lt n (length graph.nodes)) [
    | inr ge ↦ subst NeverTrap (sym (sinks.past n ge)) tt
    | inl lt ↦ all lt (r.inserts n) (each_apart (λ x t. IsDelayedTo graph x t n) (r.inserts n) (sinks.apart n) (put_is n))
  ]
    where
      all : n < length graph.nodes → (puts : List Insertion) → EachPut (λ x t. IsDelayedTo graph x t n) puts → NeverTrap puts
      all lt [] each = tt
      all lt (put ∷ puts) each = (λ v. never_traps_where_undivided v put.rhs (delayed_sinkable graph is_graph n put.var put.rhs lt each.0), all lt puts each.1)

  -- what is delayed of variables that a node reads is put before it
  reads_put : (n : ℕ) (node : Node) → slice_get graph.nodes n ≡ Some node → (xs : List ℕ) → ((x : ℕ) → is_in x xs ≡ true → is_in x (node_reads graph node) ≡ true) → AllPut (late n) (r.inserts n) xs
  reads_put n node is [] among = tt
  reads_put n node is (x ∷ xs) among = (by (late n x) refl, reads_put n node is xs (λ y h. among y (or_right (nat_eq x y) (is_in y xs) h)))
    where
      by : (o : Option Rhs) → late n x ≡ o → o ≡ put_for (r.inserts n) x
      by None e = sym (unlate n x e)
      by (Some t) e =
          let reads = among x (ap (λ b. b || is_in x xs) (eq-eqb x x refl)) in
          sym (sinks.blocked n x t e (ap (blocks_pattern graph x t) is ∙ reading_blocks graph x t node reads))

  -- nothing is put for a variable that a delayed pattern reads, if that one is not put
  operands_none : (n x : ℕ) (t : Rhs) → n < length graph.nodes → late n x ≡ Some t → put_for (r.inserts n) x ≡ None → (ys : List ℕ) → ((y : ℕ) → is_in y ys ≡ true → is_in y (rhs_vars t) ≡ true) → NonePut (r.inserts n) ys
  operands_none n x t lt is none [] among = tt
  operands_none n x t lt is none (y ∷ ys) among = (by (put_for (r.inserts n) y) refl, operands_none n x t lt is none ys (λ z h. among z (or_right (nat_eq y z) (is_in z ys) h)))
    where
      by : (o : Option Rhs) → put_for (r.inserts n) y ≡ o → o ≡ None
      by None e = refl
      by (Some u) e = elim (cases_eq x y) [
        | inl same ↦ absurd (none-some u (sym none ∙ ap (put_for (r.inserts n)) same ∙ e))
        | inr differ ↦
            let reads = among y (ap (λ a. a || is_in y ys) (eq-eqb y y refl)) in
            absurd (true≢false (sym reads ∙ delayed_apart graph is_graph n x y t u lt (delayed n x t is) (put_is n y u e) differ))
      ]

  -- these are the premises of the law of moved assignments
  pub step_sinks : Sinks graph r late
  step_sinks = record {
    apart = sinks.apart;
    never = never;
    only = λ n node is. elim (sinks.only n) [
      | inl unchanged ↦ inl unchanged
      | inr gone ↦ (let w = sinkable_is (slice_get graph.nodes n) gone.1 in inr (gone.0, (w.0, w.1, w.2, same_Some node (Assign w.0 w.1 w.2) (sym is ∙ w.3))))
    ];
    starts = λ s x edge. starts s x edge;
    reads = λ n node is. reads_put n node is (node_reads graph node) (λ x h. h);
    lost = sinks.lost;
    back = λ n s x t node is edge later. elim (sinks.back n s x t edge later) [
      | inl o ↦ (let w = occurrence_is x t (slice_get graph.nodes n) o.1 in inl (o.0, (w.0, same_Some node (Assign x t w.0) (sym is ∙ w.1))))
      | inr on ↦
          let free = lets_pass graph x t node (sym (ap (blocks_pattern graph x t) is) ∙ on.0) in
          inr (free.sets, (none_assigned graph node (rhs_vars t) free.operands, (on.1.0, operands_none n x t (slice_get_within graph.nodes n node is) on.1.0 on.1.1 (rhs_vars t) (λ y h. h))))
    ];
    removed = λ n s x t is gone. (sinks.removed n s x t is gone, λ v. never_traps_where_undivided v t (undivided n s x t is gone));
  }
    where
      starts : (s x : ℕ) → HasEdge graph.nodes 0 s → late s x ≡ None
      starts s x edge = by (late s x) refl
        where
          by : (o : Option Rhs) → late s x ≡ o → o ≡ None
          by None e = refl
          by (Some t) e = elim (sinks.back 0 s x t edge e) [
            | inl o ↦
                let w = occurrence_is x t (slice_get graph.nodes 0) o.1 in
                let clash : Some (Assign x t w.0) ≡ Some (Start is_graph.can.start.0) = sym w.1 ∙ is_graph.can.start.1 in
                absurd (cc)
            | inr on ↦ absurd (none-some t (sym (sinks.start x) ∙ on.1.0))
          ]

      undivided : (n s x : ℕ) (t : Rhs) → slice_get graph.nodes n ≡ Some (Assign x t s) → r.changes n ≡ Removed → divides t ≡ false
      undivided n s x t is gone = elim (sinks.only n) [
        | inl unchanged ↦ (let never : Unchanged ≡ Removed = sym unchanged ∙ gone in absurd (cc))
        | inr both ↦
            let w = sinkable_is (slice_get graph.nodes n) both.1 in
            let same : Assign w.0 w.1 w.2 ≡ Assign x t s = same_Some (Assign w.0 w.1 w.2) (Assign x t s) (sym w.3 ∙ is) in
            let rhs : w.1 ≡ t = cc in
            ap divides (sym rhs) ∙ w.4
      ]

  -- so the graph with the moved assignments does the same
  pub step_same : UnitSame (graph_machine graph.shared graph.received graph.nodes) (graph_machine graph.shared graph.received (rewritten_nodes r graph.nodes))
  step_same = sinking_same r [] graph late step_fits is_graph step_sinks

-- ---- a round is a step

module _ (graph : GraphShape) (is_graph : IsGraph graph.vars graph.received graph.nodes) (split : IsSplit graph.nodes) where
  -- the sinking of a round is one
  pub round_sinking : (late : ℕ → ℕ → Option Rhs) (inserts : ℕ → List Insertion) → AreInsertions graph late inserts → IsSinking graph (sinking graph inserts) late
  round_sinking late inserts are = record {
    only = λ n. elim (cases_Bool (is_sinkable (slice_get graph.nodes n))) [ inl sinkable ↦ inr (ap emptied sinkable, sinkable) | inr kept ↦ inl (ap emptied kept) ];
    removed = λ n s x t is gone.
        let stays : divides t ≡ false = undivided (divides t) (ap (λ o. emptied (is_sinkable o)) (sym is) ∙ gone) in
        let edge : HasEdge graph.nodes n s = (0, ap (λ (o : Option Node). slice_get (succs_of o) 0) is) in
        (are.delayed_are s x t (target_within graph is_graph n s edge)).1 (occurs_on graph is_graph split n s x t edge (ap (is_occurrence x t) is ∙ is_occurrence_of x t s stays));
    start = λ x. unstarted x (late 0 x) refl;
    back = λ n s x t edge is. elim (back_to graph is_graph split late inserts are n s x t edge is) [
      | inl o ↦ inl (ap emptied (occurrence_sinkable x t (slice_get graph.nodes n) o), o)
      | inr on ↦ inr (on.free, (on.late_there, on.not_put))
    ];
    put = λ n x t put. elim (cases_lt n (length graph.nodes)) [
      | inl lt ↦ put_delayed graph is_graph split late inserts are n x t lt put
      | inr ge ↦ absurd (none-some t (ap (λ l. put_for l x) (sym (are.none_past n ge)) ∙ put))
    ];
    apart = inserts_apart graph is_graph split late inserts are;
    blocked = λ n x t is blocked. elim (cases_lt n (length graph.nodes)) [
      | inl lt ↦ blocked_put graph is_graph split late inserts are n x t lt is blocked
      | inr ge ↦ absurd (true≢false (sym blocked ∙ ap (blocks_pattern graph x t) (slice_get_past graph.nodes n ge)))
    ];
    past = are.none_past;
    lost = lost_put graph is_graph split late inserts are;
  }
    where
      undivided : (b : Bool) → emptied (not b) ≡ Removed → b ≡ false
      undivided true gone = cc
      undivided false gone = refl

      unstarted : (x : ℕ) (o : Option Rhs) → late 0 x ≡ o → o ≡ None
      unstarted x None e = refl
      unstarted x (Some t) e = absurd (none_at_start graph is_graph x t ((are.delayed_are 0 x t (slice_get_within graph.nodes 0 (Start is_graph.can.start.0) is_graph.can.start.1)).0 e))

  -- so is the round: it is the best of all steps
  abbrev pub round_is_step : (round : GraphShape) → IsRound graph round → IsStep graph round
  round_is_step round is = record {
    r = sinking graph is.is_sunk.inserts;
    late = is.is_sunk.delayed;
    sinks = round_sinking is.is_sunk.delayed is.is_sunk.inserts is.is_sunk.insertions;
    dead = is.is_pruned.dead;
    dead_are = λ n lt gone. subst (λ g. IsDeadAt g n) is.is_sunk.is ((is.is_pruned.dead_are n (subst (λ (g : GraphShape). n < length g.nodes) (sym is.is_sunk.is) lt)).0 gone);
    is = is.is_pruned.is ∙ ap (λ (g : GraphShape). record g { nodes = pruned_from is.is_pruned.dead 0 g.nodes }) is.is_sunk.is;
  }
