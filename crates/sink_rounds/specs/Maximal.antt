-- Whatever a sinking delays is delayed in the round too, and the round stops it nowhere earlier.
use Rattle.std.proofs.Common.{◌≡◌, ◌<◌, ℕ, false, List, [], ◌∷◌, length, slice_get, Option, Some, None, inl, inr, refl, sym, ap, ◌∙◌}
use Rattle.std.proofs.lemmas.Bool.{true≢false}
use Rattle.std.proofs.lemmas.Option.{none-some}
use Rattle.mir_base.specs.declared.instructions.Rhs.{Rhs}
use Rattle.flow_graph.specs.Graphs.{GraphShape}
use Rattle.flow_graph.specs.Paths.{HasEdge, goes_on}
use Rattle.graph_edit.specs.Insertions.{Insertion, Rewriting}
use Rattle.sink_code.specs.Sinking.{put_for}
use Rattle.graph_edit.specs.Accesses.{blocks_at}
use Rattle.sink_code.specs.Delaying.{IsDelayedTo}
use Rattle.sink_code.specs.SunkGraphs.{AreInsertions}
use Rattle.sink_code.specs.DelayLaws.{at_start}
use Rattle.graph_edit.specs.OccurrenceLaws.{occurrence_blocks}
use Rattle.sink_rounds.specs.Steps.{IsSinking}

module _ (graph : GraphShape) (r : Rewriting) (late : ℕ → ℕ → Option Rhs) (sinks : IsSinking graph r late) where
  -- what is delayed occurs on each path before the node, and after that nothing blocks it
  pub late_delayed : (n x : ℕ) (t : Rhs) → late n x ≡ Some t → IsDelayedTo graph x t n
  late_delayed n x t is [] trace = none-some t (sym (sinks.start x) ∙ ap (λ m. late m x) (sym (at_start graph.nodes n trace)) ∙ is)
  late_delayed n x t is (m ∷ before) (goes_on m0 n0 before0 trace edge) = elim (sinks.back m n x t edge is) [
    | inl o ↦ inl o.1
    | inr on ↦ inr (on.0, late_delayed m x t on.1.0 before trace)
  ]

  -- what is delayed at a node that does not block it, and not put there, is delayed at each successor
  pub late_on : (n s x : ℕ) (t : Rhs) → HasEdge graph.nodes n s → late n x ≡ Some t → blocks_at x t graph n ≡ false → put_for (r.inserts n) x ≡ None → late s x ≡ Some t
  late_on n s x t edge is free none = by (late s x) refl
    where
      by : (o : Option Rhs) → late s x ≡ o → o ≡ Some t
      by None e = absurd (none-some t (sym (sym is ∙ sinks.lost n s x edge e ∙ none)))
      by (Some u) e = elim (sinks.back n s x u edge e) [
        | inl o ↦ absurd (true≢false (sym (occurrence_blocks graph x u t (slice_get graph.nodes n) o.1) ∙ free))
        | inr on ↦ sym on.1.0 ∙ is
      ]

  module _ (late' : ℕ → ℕ → Option Rhs) (inserts : ℕ → List Insertion) (are : AreInsertions graph late' inserts) where
    -- so it is delayed in the round
    pub late_too : (n x : ℕ) (t : Rhs) → n < length graph.nodes → late n x ≡ Some t → late' n x ≡ Some t
    late_too n x t lt is = (are.delayed_are n x t lt).1 (late_delayed n x t is)

    -- and where the round puts it, the sinking does, if it still delays it
    pub put_too : (n x : ℕ) (t : Rhs) → n < length graph.nodes → put_for (inserts n) x ≡ Some t → late n x ≡ Some t → put_for (r.inserts n) x ≡ Some t
    put_too n x t lt put is = elim (((are.inserts_are n lt).exact x t).0 put).1 [
      | inl blocked ↦ sinks.blocked n x t is blocked
      | inr lost ↦ by lost.0 lost.1 lost.2 (late lost.0 x) refl
    ]
      where
        by : (s : ℕ) → HasEdge graph.nodes n s → (IsDelayedTo graph x t s → ⊥) → (o : Option Rhs) → late s x ≡ o → put_for (r.inserts n) x ≡ Some t
        by s edge none None e = sym (sinks.lost n s x edge e) ∙ is
        by s edge none (Some u) e = elim (sinks.back n s x u edge e) [
          | inl o ↦ sinks.blocked n x t is (occurrence_blocks graph x u t (slice_get graph.nodes n) o.1)
          | inr on ↦ absurd (none (late_delayed s x t (e ∙ sym on.1.0 ∙ is)))
        ]
