-- What is delayed at the nodes of a block, told by what is delayed at its first node.
use Rattle.std.proofs.Common.{◌≡◌, ℕ, zero, suc, ◌↔◌, ◌||◌, ◌&&◌, not, Bool, true, false, List, [], ◌∷◌, take, slice_get, Some, refl, sym, ap, inl, inr, ◌∙◌, subst}
use Rattle.std.proofs.lemmas.Bool.{and_parts, not-true, or_cases, or_left, or_right}
use Rattle.mir_base.specs.declared.instructions.Rhs.{Rhs}
use Rattle.flow_graph.specs.declared.nodes.Node.{Node}
use Rattle.flow_graph.specs.BlockLaws.{chain_inner, glued_edge, only_from}
use Rattle.flow_graph.specs.Blocks.{IsBlock, IsChain, IsGlued}
use Rattle.flow_graph.specs.Edges.{IsSplit}
use Rattle.flow_graph.specs.Graphs.{GraphShape, IsGraph}
use Rattle.flow_graph.specs.Paths.{Begins, Ends, HasEdge, Trace, goes_on}
use Rattle.path_laws.specs.BlockwiseLaws.{passed_next}
use Rattle.graph_edit.specs.Accesses.{blocks_at, occurs_at}
use Rattle.sink_code.specs.Delaying.{IsDelayedTo, IsInsertedAt}
use Rattle.sink_code.specs.Inside.{comes_past}
use Rattle.sink_code.specs.DelayLaws.{at_start, came_from, not_inserted, occurs_on, start_unentered}

-- a node to which the last of a block leads is the first of its own
pub entered_first : (nodes : List Node) (list from_list : List ℕ) (last next place : ℕ) → IsBlock nodes list → IsBlock nodes from_list → Ends last from_list → HasEdge nodes last next → slice_get list place ≡ Some next → place ≡ 0
entered_first nodes list from_list last next zero block from ends step at = refl
entered_first nodes list from_list last next (suc place) block from ends step at =
    let before = chain_inner nodes list place next block.chain at in
    let same : last ≡ before.0 = only_from nodes before.0 next last before.2.enters step in
    absurd (from.last last ends next (subst (λ k. IsGlued nodes k next) (sym same) before.2))

module _ (graph : GraphShape) (is_graph : IsGraph graph.vars graph.received graph.nodes) (x : ℕ) (t : Rhs) where
  -- what is delayed at a node that does not block it is delayed at the node that is glued to it
  pub glued_on : (m n : ℕ) → IsGlued graph.nodes m n → blocks_at x t graph m ≡ false → IsDelayedTo graph x t m → IsDelayedTo graph x t n
  glued_on m n glued free d [] trace = absurd (start_unentered graph is_graph m (subst (HasEdge graph.nodes m) (at_start graph.nodes n trace) (glued_edge graph.nodes m n glued)))
  glued_on m n glued free d (k ∷ before) (goes_on k0 n0 before0 trace edge) =
      let same : k ≡ m = only_from graph.nodes m n k glued.enters edge in
      inr (ap (blocks_at x t graph) same ∙ free, d before (subst (λ j. Trace graph.nodes j before) same trace))

  module _ (split : IsSplit graph.nodes) (list : List ℕ) (chain : IsChain graph.nodes list) (head : ℕ) (begins : Begins head list) (came : Bool) (at_head : (came ≡ true) ↔ IsDelayedTo graph x t head) where
    -- what comes past the nodes before one of a block
    abbrev comes : ℕ → Bool
    comes i = comes_past graph x t came (take i list)

    first_is : (n : ℕ) → slice_get list 0 ≡ Some n → n ≡ head
    first_is n e = by list begins e
      where
        by : (l : List ℕ) → Begins head l → slice_get l 0 ≡ Some n → n ≡ head
        by [] b e = absurd b
        by (k ∷ l) b e = let same : k ≡ n = cc in sym same ∙ b

    -- is what is delayed there
    pub delayed_along : (i n : ℕ) → slice_get list i ≡ Some n → (comes i ≡ true) ↔ IsDelayedTo graph x t n
    delayed_along zero n e = let same = first_is n e in (λ c. subst (IsDelayedTo graph x t) (sym same) (at_head.0 c), λ d. at_head.1 (subst (IsDelayedTo graph x t) same d))
    delayed_along (suc i) n e =
        let before = chain_inner graph.nodes list i n chain e in
        let m = before.0 in
        let glued = before.2 in
        let edge = glued_edge graph.nodes m n glued in
        let there = delayed_along i m before.1 in
        let next : comes (suc i) ≡ (occurs_at x t graph m || (comes i && not (blocks_at x t graph m))) = passed_next (occurs_at x t graph) (blocks_at x t graph) list i m came before.1 in (
          λ c. elim (or_cases (occurs_at x t graph m) (comes i && not (blocks_at x t graph m)) (sym next ∙ c)) [
            | inl o ↦ occurs_on graph is_graph split m n x t edge o
            | inr passes ↦ (let parts = and_parts (comes i) (not (blocks_at x t graph m)) passes in glued_on m n glued (not-true (blocks_at x t graph m) parts.1) (there.0 parts.0))
          ],
          λ d. next ∙ elim (came_from graph is_graph m n x t edge d) as (λ _. (occurs_at x t graph m || (comes i && not (blocks_at x t graph m))) ≡ true) [
            | inl o ↦ or_left (occurs_at x t graph m) (comes i && not (blocks_at x t graph m)) o
            | inr passes ↦ or_right (occurs_at x t graph m) (comes i && not (blocks_at x t graph m)) (ap (λ b. b && not (blocks_at x t graph m)) (there.1 passes.1) ∙ ap not passes.0)
          ],
        )

    -- a pattern that passes a node which is not the last of its block is not inserted before it
    pub inner_passes : (i n m : ℕ) → slice_get list i ≡ Some n → slice_get list (suc i) ≡ Some m → blocks_at x t graph n ≡ false → IsInsertedAt graph x t n → ⊥
    inner_passes i n m e e' free put =
        let before = chain_inner graph.nodes list i m chain e' in
        let both : Some before.0 ≡ Some n = sym before.1 ∙ e in
        let same : before.0 ≡ n = cc in
        let glued : IsGlued graph.nodes n m = subst (λ j. IsGlued graph.nodes j m) same before.2 in
        not_inserted graph is_graph split n m x t (glued_edge graph.nodes n m glued) free put.0 (glued_on n m glued free put.0) put
