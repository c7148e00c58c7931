-- Law: assignments whose variable is not live after them may be removed. For proofs only.
use Rattle.std.proofs.Common.{◌≡◌, ℕ, ◌+◌, ◌<◌, ◌≤◌, false, if◌then◌else◌, nat_eq, List, [], ◌∷◌, ◌++◌, length, slice_get, Option, Some, None, option_map, ◌⊎◌, inl, inr, refl, sym, ap, ◌∙◌, subst, arith, append-nil}
use Rattle.std.proofs.lemmas.Bool.{cases_Bool, true≢false, eqb-true}
use Rattle.mir_base.specs.declared.instructions.Rhs.{Rhs}
use Rattle.mir_base.specs.Frames.{Values}
use Rattle.mir_base.specs.Expressions.{rhs_traps, rhs_value}
use Rattle.mir_base.specs.Shapes.{AllDiffer}
use Rattle.mir_base.specs.UnitRuns.{UnitSame, UnitCheaper}
use Rattle.flow_graph.specs.declared.nodes.Node.{Node}
use Rattle.flow_graph.specs.declared.nodes.Node.TheVariants.{Start, Skip, Assign, Print, Guard, Call, Test, Return}
use Rattle.mir_base.specs.EqualValues.{EqualOn}
use Rattle.flow_graph.specs.Graphs.{GraphShape, IsGraph, node_reads, assigns, succs_of}
use Rattle.flow_graph.specs.ListLaws.{some_at}
use Rattle.graph_edit.specs.Over.{weigh, weight_at, new_weight_at}
use Rattle.graph_edit.specs.InsertionRunLaws.{rewritten_same, rewritten_cheaper}
use Rattle.graph_edit.specs.InsertionRuns.{Preserves, counts}
use Rattle.graph_edit.specs.Insertions.{Change, Unchanged, Replaced, Removed, Rewriting, changed, ChangeBelow, CanRewrite, rewritten_nodes}
use Rattle.graph_edit.specs.ChangeLaws.{changed_not}
use Rattle.flow_graph.specs.Machines.{graph_machine}
use Rattle.flow_graph.specs.Paths.{HasEdge}
use Rattle.flow_graph.specs.Sums.{sum_on}

-- each of these variables is one of `Live`
abbrev pub AllLive : (ℕ → Type 0) → List ℕ → Type 0
AllLive Live [] = Unit {0}
AllLive Live (x ∷ xs) = Live x × AllLive Live xs

-- nothing is put, and some assignments are removed
abbrev pub removing : (ℕ → Change) → Rewriting
removing changes = record { inserts = λ n. []; changes = changes }

-- `Live n x`: the variable x is live before node n. What a node reads is live before it, and what is live after it and
-- is not assigned by it; an assignment is removed only where its variable is not live after it, and where it never
-- traps
pub record RemovesDead (graph : GraphShape) (changes : ℕ → Change)
    (Live : ℕ → ℕ → Type 0) : Type 0 where
  pub reads : (n : ℕ) (node : Node) → slice_get graph.nodes n ≡ Some node → changes n ≡ Unchanged
      → AllLive (Live n) (node_reads graph node)
  pub back : (n s x : ℕ) (node : Node) → slice_get graph.nodes n ≡ Some node
      → HasEdge graph.nodes n s → Live s x → assigns graph x node ≡ false → Live n x
  pub only : (n : ℕ) (node : Node) → slice_get graph.nodes n ≡ Some node
      → (changes n ≡ Unchanged)
      ⊎ ((changes n ≡ Removed) × ((x : ℕ) × (rhs : Rhs) × (next : ℕ) × (node ≡ Assign x rhs next)))
  pub dead : (n s x : ℕ) (rhs : Rhs) → slice_get graph.nodes n ≡ Some (Assign x rhs s)
      → changes n ≡ Removed → (Live s x → ⊥) × ((v : Values) → rhs_traps v rhs ≡ false)

module _ (graph : GraphShape) (changes : ℕ → Change) (Live : ℕ → ℕ → Type 0)
    (is_graph : IsGraph graph.vars graph.received graph.nodes)
    (removes : RemovesDead graph changes Live) where
  -- the live variables have equal values
  pub record LiveEqual (n : ℕ) (before : List ℕ) (v w : Values) : Type 0 where
    pub equal : (x : ℕ) → Live n x → v x ≡ w x

  equal_on : (n : ℕ) (before : List ℕ) (v w : Values) → LiveEqual n before v w → (xs : List ℕ)
      → AllLive (Live n) xs → EqualOn xs w v
  equal_on n before v w holds [] live = tt
  equal_on n before v w holds (x ∷ xs) live = (sym (holds.equal x live.0), equal_on n before v w holds xs live.1)

  never_replaced : (n : ℕ) (node : Node) (rhs : Rhs) → slice_get graph.nodes n ≡ Some node
      → changes n ≡ Replaced rhs → ⊥
  never_replaced n node rhs is e = elim (removes.only n node is) [ inl unchanged ↦ (let never = sym e ∙ unchanged in absurd (cc)) | inr removed ↦ (let never = sym e ∙ removed.0 in absurd (cc)) ]

  removal_preserves : Preserves graph (removing changes) LiveEqual
  removal_preserves = record {
    changes = λ n node is. elim (removes.only n node is) [ inl unchanged ↦ inl unchanged | inr removed ↦ inr removed.1 ];
    starts = λ s values edge. record { equal = λ x live. refl };
    traps = λ n before arguments v w trace holds trap. absurd (true≢false trap);
    reads = λ n node before v w trace is unchanged holds untrapped. equal_on n before v w holds (node_reads graph node) (removes.reads n node is unchanged);
    keeps = λ n s node before v w v1 w1 trace is edge unchanged holds untrapped both. record {
      equal = λ x live. elim (cases_Bool (assigns graph x node)) [
        | inl assigned ↦ both.same x assigned
        | inr stays ↦ both.first_keeps x stays ∙ holds.equal x (removes.back n s x node is edge live stays) ∙ sym (both.second_keeps x stays)
      ];
    };
    replaces = λ n s x rhs other before v w trace is change holds untrapped. absurd (never_replaced n (Assign x rhs s) other is change);
    removes = λ n s x rhs before v w trace is change holds untrapped.
        let dead = removes.dead n s x rhs is change in (
          dead.1 v,
          record {
            equal = λ y live. elim (cases_Bool (nat_eq y x)) [
              | inl same ↦ absurd (dead.0 (subst (Live s) (eqb-true y x same) live))
              | inr differ ↦ ap (λ b. (if b then rhs_value v rhs else v y)) differ ∙ holds.equal y (removes.back n s y (Assign x rhs s) is (0, next_edge n s x rhs is) live differ)
            ];
          },
        );
  }
    where
      next_edge : (n s x : ℕ) (rhs : Rhs) → slice_get graph.nodes n ≡ Some (Assign x rhs s)
          → slice_get (succs_of (slice_get graph.nodes n)) 0 ≡ Some s
      next_edge n s x rhs is = ap (λ o. slice_get (succs_of o) 0) is

  removal_fits : CanRewrite (removing changes) [] graph
  removal_fits = record {
    at_start = refl;
    put = λ n lt. tt;
    change = λ n lt. below n lt;
    names = subst AllDiffer (sym (append-nil graph.vars)) is_graph.can.names;
  }
    where
      below : (n : ℕ) → n < length graph.nodes → ChangeBelow (length (graph.vars ++ [])) (changes n)
      below n lt =
          let node = some_at graph.nodes n lt in
          elim (removes.only n node.0 node.1) [ inl unchanged ↦ subst (ChangeBelow (length (graph.vars ++ []))) (sym unchanged) tt | inr removed ↦ subst (ChangeBelow (length (graph.vars ++ []))) (sym removed.0) tt ]

  -- the graph without them does the same, and evaluates no more operators
  pub removal_same : UnitSame (graph_machine graph.shared graph.received graph.nodes) (graph_machine graph.shared graph.received (rewritten_nodes (removing changes) graph.nodes))
  removal_same = rewritten_same (removing changes) [] graph LiveEqual removal_fits is_graph removal_preserves

  weighs_less : (n : ℕ) → new_weight_at counts (removing changes) graph.nodes n ≤ weight_at counts graph.nodes n
  weighs_less n = from (slice_get graph.nodes n) refl
    where
      removed_weight : (node : Node) → weigh counts (Some (changed Removed node)) ≤ weigh counts (Some node)
      removed_weight (Start next) = omega arith
      removed_weight (Skip next) = omega arith
      removed_weight (Assign x rhs next) = omega arith
      removed_weight (Print a next) = omega arith
      removed_weight (Guard test number next) = omega arith
      removed_weight (Call into unit operands next) = omega arith
      removed_weight (Test test taken other) = omega arith
      removed_weight (Return a) = omega arith

      from : (o : Option Node) → slice_get graph.nodes n ≡ o
          → 0 + weigh counts (option_map (changed (changes n)) o) ≤ weigh counts o
      from None is = omega arith
      from (Some node) is = elim (removes.only n node is) [
        | inl unchanged ↦ (let e = ap (λ c. weigh counts (Some (changed c node))) unchanged in omega (arith, e, ap {B = ℕ} (λ m. weigh counts (Some m)) (changed_not node)))
        | inr removed ↦ (let e = ap (λ c. weigh counts (Some (changed c node))) removed.0 in omega (arith, e, removed_weight node))
      ]

  less_on : (path : List ℕ)
      → sum_on (new_weight_at counts (removing changes) graph.nodes) path ≤ sum_on (weight_at counts graph.nodes) path
  less_on [] = omega arith
  less_on (n ∷ path) = omega (arith, weighs_less n, less_on path)

  pub removal_cheaper : UnitCheaper (graph_machine graph.shared graph.received graph.nodes) (graph_machine graph.shared graph.received (rewritten_nodes (removing changes) graph.nodes))
  removal_cheaper = rewritten_cheaper (removing changes) [] graph LiveEqual removal_fits is_graph removal_preserves (λ path full. less_on path)
