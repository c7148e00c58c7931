-- Patterns that are held up: Skips lead on from a node to one place, so what is not blocked at the last of them is not
-- held up.
use Rattle.std.proofs.Common.{◌≡◌, ℕ, false, true, if◌then◌else◌, Some, None, inl, inr, sym, ◌∙◌, subst, arith, Bool}
use Rattle.std.proofs.lemmas.Bool.{cases_eq, cases_lt, true≢false}
use Rattle.std.proofs.lemmas.Option.{same_Some}
use Rattle.mir_base.specs.declared.instructions.Rhs.{Rhs}
use Rattle.mir_base.specs.Expressions.{divides}
use Rattle.flow_graph.specs.declared.nodes.Node.TheVariants.{Assign}
use Rattle.flow_graph.specs.Graphs.{GraphShape}
use Rattle.sink_code.specs.declared.patterns.Pattern.{Pattern}
use Rattle.graph_edit.specs.Accesses.{blocks_at}
use Rattle.sink_code.specs.Moving.{IsHeldUp}
use Rattle.sink_code.specs.Skips.{LeadsBy, LeadsTo, skip_on}
use Rattle.sink_code.specs.PatternTables.{pattern_of}
use Rattle.sink_code.proofs.Skipping.{blocked_ends, leads_same, steps_after}

-- a pattern is not held up where the last node to which Skips lead on does not block it
pub not_held_up : (graph : GraphShape) (p : Pattern) (s n : ℕ) → LeadsTo graph.nodes s n → blocks_at p.var p.rhs graph n ≡ false → IsHeldUp graph p s → ⊥
not_held_up graph p s n to free held = elim (cases_lt held.leads.skips to.over.skips) [
  | inl fewer ↦
      let step = steps_after graph.nodes to.over.skips held.leads.skips s n fewer to.over.leads in
      let same = leads_same graph.nodes held.leads.skips s step.at held.at step.leads held.leads.leads in
      blocked_ends graph p.var p.rhs held.at step.next held.blocks (subst (λ k. skip_on graph.nodes k ≡ Some step.next) same step.steps)
  | inr late ↦ elim (cases_eq held.leads.skips to.over.skips) [
    | inl same ↦
        let there = leads_same graph.nodes to.over.skips s held.at n (subst (λ k. LeadsBy graph.nodes k s held.at) same held.leads.leads) to.over.leads in
        true≢false (sym (subst (λ k. blocks_at p.var p.rhs graph k ≡ true) there held.blocks) ∙ free)
    | inr differ ↦ to.last held.leads.skips held.at (omega (arith, late, differ)) held.leads.few held.leads.leads
  ]
]

-- the pattern of an assignment has its variable and its right side
pub pattern_is : (x next : ℕ) (t : Rhs) (p : Pattern) → pattern_of (Assign x t next) ≡ Some p → record { var = x; rhs = t } ≡ p
pattern_is x next t p is = by (divides t) is
  where
    by : (b : Bool) → (if b then None else Some (record { var = x; rhs = t })) ≡ Some p → record { var = x; rhs = t } ≡ p
    by true e = cc
    by false e = same_Some (record { var = x; rhs = t }) p e
