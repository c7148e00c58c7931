-- The right side of the one pattern of a variable that is delayed at a node of a block, told by that at its first node.
use Rattle.std.proofs.Common.{◌≡◌, ◌⊎◌, ◌↔◌, ℕ, zero, suc, Bool, true, false, nat_eq, if◌then◌else◌, List, get_or, slice_get, Option, Some, None, refl, sym, ap, inl, inr, ◌∙◌, true≢false}
use Rattle.std.proofs.lemmas.Bool.{cases_eq, eq-eqb, ne_eqb}
use Rattle.std.proofs.lemmas.Option.{get_or_from_slice_get, none-some, same_Some}
use Rattle.mir_base.specs.declared.instructions.Rhs.{Rhs}
use Rattle.flow_graph.specs.BlockLaws.{chain_inner, glued_edge}
use Rattle.flow_graph.specs.Blocks.{IsChain}
use Rattle.flow_graph.specs.Edges.{IsSplit}
use Rattle.flow_graph.specs.Graphs.{GraphShape, IsGraph}
use Rattle.key_rows.specs.KeyRows.{key_in}
use Rattle.sink_code.specs.declared.patterns.Pattern.{Pattern}
use Rattle.graph_edit.specs.Accesses.{blocks_at, occurs_at}
use Rattle.sink_code.specs.Delaying.{IsDelayedTo}
use Rattle.sink_code.specs.PatternTables.{pattern_of}
use Rattle.sink_code.proofs.Carried.{glued_on}
use Rattle.sink_code.specs.DelayLaws.{came_from, occurs_on}
use Rattle.graph_edit.specs.OccurrenceLaws.{occurrence_blocks}
use Rattle.sink_code.proofs.PatternBits.{occurs_at_node}

-- ---- at a node

-- the right side of this pattern, where it is of the variable x
abbrev pub rhs_for : ℕ → Option Pattern → Option Rhs
rhs_for x None = None
rhs_for x (Some p) = if nat_eq p.var x then Some p.rhs else None

-- that of the pattern that occurs at a node
abbrev pub rhs_at : GraphShape → ℕ → ℕ → Option Rhs
rhs_at graph x n = rhs_for x (key_in pattern_of (slice_get graph.nodes n))

-- it is t exactly where x <- t occurs
pub rhs_occurs : (graph : GraphShape) (x : ℕ) (t : Rhs) (n : ℕ) → (rhs_at graph x n ≡ Some t) ↔ (occurs_at x t graph n ≡ true)
rhs_occurs graph x t n = (
  (λ e. there (key_in pattern_of (slice_get graph.nodes n)) refl e),
  (λ o. ap (rhs_for x) ((occurs_at_node (record { var = x; rhs = t }) (slice_get graph.nodes n)).0 o) ∙ ap (λ b. if b then Some t else None) (eq-eqb x x refl)),
)
  where
    there : (q : Option Pattern) → key_in pattern_of (slice_get graph.nodes n) ≡ q → rhs_for x q ≡ Some t → occurs_at x t graph n ≡ true
    there None is e = absurd (none-some t e)
    there (Some p) is e = elim (cases_eq p.var x) [
      | inl same ↦
          let rhs : p.rhs ≡ t = same_Some p.rhs t (sym (ap (λ b. if b then Some p.rhs else None) (eq-eqb p.var x same)) ∙ e) in
          let whole : p ≡ record { var = x; rhs = t } = ap (λ y. record { var = y; rhs = p.rhs }) same ∙ ap (λ r. record { var = x; rhs = r }) rhs in
          (occurs_at_node (record { var = x; rhs = t }) (slice_get graph.nodes n)).1 (is ∙ ap Some whole)
      | inr differ ↦ absurd (none-some t (sym (ap (λ b. if b then Some p.rhs else None) (ne_eqb p.var x differ)) ∙ e))
    ]

-- ---- past a node

-- the right side that is delayed after a node: that which occurs at it, and else that which is delayed at it, where the
-- node does not block it
abbrev pub rhs_past : (Rhs → Bool) → Option Rhs → Option Rhs → Option Rhs
rhs_past blocks (Some u) came = Some u
rhs_past blocks None None = None
rhs_past blocks None (Some t) = if blocks t then None else Some t

-- where it comes from
past_from : (blocks : Rhs → Bool) (here came : Option Rhs) (t : Rhs) → rhs_past blocks here came ≡ Some t → (here ≡ Some t) ⊎ ((came ≡ Some t) × (blocks t ≡ false))
past_from blocks (Some u) came t e = inl e
past_from blocks None None t e = absurd (none-some t e)
past_from blocks None (Some u) t e = by (blocks u) refl e
  where
    by : (b : Bool) → blocks u ≡ b → (if b then None else Some u) ≡ Some t → (None ≡ Some t) ⊎ ((Some u ≡ Some t) × (blocks t ≡ false))
    by true on e = absurd (none-some t e)
    by false off e = inr (e, ap blocks (sym (same_Some u t e)) ∙ off)

-- ---- along a block

-- the right side that is delayed at an index of a list, where the first is delayed at its first node
abbrev pub rhs_along : GraphShape → ℕ → Option Rhs → List ℕ → ℕ → Option Rhs
rhs_along graph x first list zero = first
rhs_along graph x first list (suc i) = rhs_past (λ t. blocks_at x t graph (get_or list i 0)) (rhs_at graph x (get_or list i 0)) (rhs_along graph x first list i)

module _ (graph : GraphShape) (is_graph : IsGraph graph.vars graph.received graph.nodes) (split : IsSplit graph.nodes) (x : ℕ) (list : List ℕ) (chain : IsChain graph.nodes list) (first : Option Rhs)
    (first_is : (head : ℕ) (t : Rhs) → slice_get list 0 ≡ Some head → (first ≡ Some t) ↔ IsDelayedTo graph x t head) where
  -- no pattern of the variable occurs at a node that does not block one
  none_here : (m : ℕ) (t : Rhs) → blocks_at x t graph m ≡ false → rhs_at graph x m ≡ None
  none_here m t free = by (rhs_at graph x m) refl
    where
      by : (o : Option Rhs) → rhs_at graph x m ≡ o → o ≡ None
      by None e = refl
      by (Some u) e = absurd (true≢false (sym (occurrence_blocks graph x u t (slice_get graph.nodes m) ((rhs_occurs graph x u m).0 e)) ∙ free))

  -- it is the one
  pub along_is : (i n : ℕ) (t : Rhs) → slice_get list i ≡ Some n → (rhs_along graph x first list i ≡ Some t) ↔ IsDelayedTo graph x t n
  along_is zero n t at = first_is n t at
  along_is (suc i) n t at =
      let before = chain_inner graph.nodes list i n chain at in
      let m = before.0 in
      let edge = glued_edge graph.nodes m n before.2 in
      let there = along_is i m t before.1 in
      let blocks : ℕ → Rhs → Bool = λ k u. blocks_at x u graph k in
      let came = rhs_along graph x first list i in
      let is : rhs_along graph x first list (suc i) ≡ rhs_past (blocks m) (rhs_at graph x m) came = ap (λ k. rhs_past (blocks k) (rhs_at graph x k) came) (get_or_from_slice_get list i m 0 before.1) in (
        λ e. elim (past_from (blocks m) (rhs_at graph x m) came t (sym is ∙ e)) [
          | inl here ↦ occurs_on graph is_graph split m n x t edge ((rhs_occurs graph x t m).0 here)
          | inr passes ↦ glued_on graph is_graph x t m n before.2 passes.1 (there.0 passes.0)
        ],
        λ d. is ∙ elim (came_from graph is_graph m n x t edge d) as (λ _. rhs_past (blocks m) (rhs_at graph x m) came ≡ Some t) [
          | inl o ↦ ap (λ here. rhs_past (blocks m) here came) ((rhs_occurs graph x t m).1 o)
          | inr passes ↦
              ap (λ here. rhs_past (blocks m) here came) (none_here m t passes.0)
              ∙ ap (rhs_past (blocks m) None) (there.1 passes.1)
              ∙ ap (λ b. if b then None else Some t) passes.0
        ],
      )
