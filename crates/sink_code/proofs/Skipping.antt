-- Skips one after the other, each the only predecessor of the next node: where they lead is determined, and so is where
-- they come from.
use Rattle.std.proofs.Common.{◌≡◌, ◌<◌, ◌+◌, ℕ, zero, suc, Bool, true, false, nat_eq, if◌then◌else◌, List, length, slice_get, Option, Some, None, eqb-true, inl, inr, refl, sym, ap, ◌∙◌, subst, arith}
use Rattle.std.proofs.lemmas.Bool.{cases_eq, true≢false}
use Rattle.std.proofs.lemmas.Option.{none-some, same_Some}
use Rattle.mir_base.specs.declared.instructions.Rhs.{Rhs}
use Rattle.mir_base.specs.Shapes.{rhs_vars}
use Rattle.flow_graph.specs.declared.nodes.Node.{Node}
use Rattle.flow_graph.specs.declared.nodes.Node.TheVariants.{Start, Skip, Assign, Print, Guard, Call, Test, Return}
use Rattle.flow_graph.specs.BlockLaws.{only_from, only_one}
use Rattle.flow_graph.specs.Edges.{IsSplit, preds_of}
use Rattle.flow_graph.specs.Graphs.{AllWithin, GraphShape, succs_of}
use Rattle.graph_edit.specs.JoinLaws.{joins}
use Rattle.flow_graph.specs.Paths.{HasEdge}
use Rattle.graph_edit.specs.VarLaws.{assigns_none}
use Rattle.graph_edit.specs.Accesses.{blocks_at, blocks_pattern}
use Rattle.sink_code.specs.Skips.{LeadsBy, skip_on, skip_over}

-- a step goes over a Skip, along the only edge into the next node
pub record StepsOn (nodes : List Node) (m n : ℕ) : Type 0 where
  pub skip : slice_get nodes m ≡ Some (Skip n)
  pub one : length (preds_of nodes n) ≡ 1

-- what `skip_on` leads to is one step on
pub steps_on : (nodes : List Node) (m n : ℕ) → skip_on nodes m ≡ Some n → StepsOn nodes m n
steps_on nodes m n is = by (slice_get nodes m) refl is
  where
    once : (next : ℕ) (b : Bool) → slice_get nodes m ≡ Some (Skip next) → nat_eq (length (preds_of nodes next)) 1 ≡ b → (if b then Some next else None) ≡ Some n → StepsOn nodes m n
    once next true e one h =
        let same = same_Some next n h in
        record { skip = e ∙ ap (λ k. Some (Skip k)) same; one = ap (λ k. length (preds_of nodes k)) (sym same) ∙ eqb-true (length (preds_of nodes next)) 1 one }
    once next false e one h = absurd (none-some n h)

    by : (o : Option Node) → slice_get nodes m ≡ o → skip_over nodes o ≡ Some n → StepsOn nodes m n
    by None e h = absurd (none-some n h)
    by (Some (Start next)) e h = absurd (none-some n h)
    by (Some (Skip next)) e h = once next (nat_eq (length (preds_of nodes next)) 1) e refl h
    by (Some (Assign x rhs next)) e h = absurd (none-some n h)
    by (Some (Print a next)) e h = absurd (none-some n h)
    by (Some (Guard test number next)) e h = absurd (none-some n h)
    by (Some (Call into unit operands next)) e h = absurd (none-some n h)
    by (Some (Test test taken other)) e h = absurd (none-some n h)
    by (Some (Return a)) e h = absurd (none-some n h)

-- so it is an edge
pub step_edge : (nodes : List Node) (m n : ℕ) → skip_on nodes m ≡ Some n → HasEdge nodes m n
step_edge nodes m n is = (0, ap (λ (o : Option Node). slice_get (succs_of o) 0) (steps_on nodes m n is).skip)

-- and the only one into the node
pub step_alone : (nodes : List Node) (m n k : ℕ) → skip_on nodes m ≡ Some n → HasEdge nodes k n → m ≡ k
step_alone nodes m n k is edge =
    let one = only_one (preds_of nodes n) (steps_on nodes m n is).one in
    only_from nodes one.0 n m one.1 (step_edge nodes m n is) ∙ sym (only_from nodes one.0 n k one.1 edge)

-- no Skip blocks a pattern
skip_free : (graph : GraphShape) (x : ℕ) (t : Rhs) (next : ℕ) → blocks_pattern graph x t (Some (Skip next)) ≡ false
skip_free graph x t next = assigns_none (rhs_vars t)

-- so it is blocked at no node that is one
pub skip_lets_pass : (graph : GraphShape) (x : ℕ) (t : Rhs) (m next : ℕ) → slice_get graph.nodes m ≡ Some (Skip next) → blocks_at x t graph m ≡ false
skip_lets_pass graph x t m next skip = ap (blocks_pattern graph x t) skip ∙ skip_free graph x t next

-- so each step goes over one that does not
pub step_free : (graph : GraphShape) (x : ℕ) (t : Rhs) (m n : ℕ) → skip_on graph.nodes m ≡ Some n → blocks_at x t graph m ≡ false
step_free graph x t m n is = skip_lets_pass graph x t m n (steps_on graph.nodes m n is).skip

-- and none over one that does
pub blocked_ends : (graph : GraphShape) (x : ℕ) (t : Rhs) (m n : ℕ) → blocks_at x t graph m ≡ true → skip_on graph.nodes m ≡ Some n → ⊥
blocked_ends graph x t m n blocked is = true≢false (sym blocked ∙ step_free graph x t m n is)

module _ (nodes : List Node) where
  -- a step more
  pub leads_on : (k s m n : ℕ) → LeadsBy nodes k s m → skip_on nodes m ≡ Some n → LeadsBy nodes (k + 1) s n
  leads_on k s m n leads steps = let more : suc k ≡ k + 1 = omega arith in subst (λ i. LeadsBy nodes i s n) more (m, leads, steps)

  -- so many Skips lead to one node
  pub leads_same : (k s n n' : ℕ) → LeadsBy nodes k s n → LeadsBy nodes k s n' → n ≡ n'
  leads_same zero s n n' p q = sym p ∙ q
  leads_same (suc k) s n n' p q = same_Some n n' (sym p.2 ∙ ap (skip_on nodes) (leads_same k s p.0 q.0 p.1 q.1) ∙ q.2)

  -- a node on the way steps on
  pub record StepsAfter (k s : ℕ) : Type 0 where
    pub at : ℕ
    pub next : ℕ
    pub leads : LeadsBy nodes k s at
    pub steps : skip_on nodes at ≡ Some next

  pub steps_after : (k j s n : ℕ) → j < k → LeadsBy nodes k s n → StepsAfter j s
  steps_after zero j s n lt p = absurd (omega (arith, lt))
  steps_after (suc k) j s n lt p = elim (cases_eq j k) [
    | inl same ↦ record { at = p.0; next = n; leads = subst (λ i. LeadsBy nodes i s p.0) (sym same) p.1; steps = p.2 }
    | inr differ ↦ steps_after k j s p.0 (omega (arith, lt, differ)) p.1
  ]

  -- where no Skip leads on, no more Skips lead anywhere
  pub ends_there : (i k s n m : ℕ) → LeadsBy nodes i s n → skip_on nodes n ≡ None → i < k → LeadsBy nodes k s m → ⊥
  ends_there i k s n m leads none more led =
      let past = steps_after k i s m more led in
      none-some past.next (sym none ∙ ap (skip_on nodes) (sym (leads_same i s past.at n past.leads leads)) ∙ past.steps)

  -- where they come from: of two nodes that are no Skips, each with a successor that leads to this node, both are one
  pub one_source : AllWithin nodes → IsSplit nodes → (j i m k s r n : ℕ) → ((next : ℕ) → slice_get nodes m ≡ Some (Skip next) → ⊥) → ((next : ℕ) → slice_get nodes k ≡ Some (Skip next) → ⊥) → HasEdge nodes m s → HasEdge nodes k r → LeadsBy nodes j s n → LeadsBy nodes i r n → m ≡ k
  one_source within split zero zero m k s r n plain plain' from_m from_k p q = elim (joins nodes within split m k n (subst (HasEdge nodes m) p from_m) (subst (HasEdge nodes k) q from_k)) [
    | inl same ↦ same
    | inr skip ↦ absurd (plain n skip)
  ]
  one_source within split zero (suc i) m k s r n plain plain' from_m from_k p q =
      absurd (plain n (ap (slice_get nodes) (sym (step_alone nodes q.0 n m q.2 (subst (HasEdge nodes m) p from_m))) ∙ (steps_on nodes q.0 n q.2).skip))
  one_source within split (suc j) zero m k s r n plain plain' from_m from_k p q =
      absurd (plain' n (ap (slice_get nodes) (sym (step_alone nodes p.0 n k p.2 (subst (HasEdge nodes k) q from_k))) ∙ (steps_on nodes p.0 n p.2).skip))
  one_source within split (suc j) (suc i) m k s r n plain plain' from_m from_k p q =
      let same = step_alone nodes p.0 n q.0 p.2 (step_edge nodes q.0 n q.2) in
      one_source within split j i m k s r q.0 plain plain' from_m from_k (subst (LeadsBy nodes j s) same p.1) q.1
