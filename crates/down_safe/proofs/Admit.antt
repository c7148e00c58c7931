-- The busy placement is admissible.
use Rattle.std.proofs.Common.{◌≡◌, ◌⊎◌, ◌↔◌, ℕ, ◌<◌, Bool, true, false, List, ◌∷◌, length, inl, inr, refl, sym, ◌∙◌, true≢false}
use Rattle.std.proofs.lemmas.Bool.{cases_Bool}
use Rattle.std.proofs.lemmas.Option.{slice_get_within}
use Rattle.mir_base.specs.declared.instructions.Expr.{Expr}
use Rattle.flow_graph.specs.Graphs.{GraphShape, IsGraph}
use Rattle.flow_graph.specs.Paths.{HasEdge, Trace, from_start, goes_on}
use Rattle.flow_graph.specs.BoundLaws.{edge_within}
use Rattle.motion_rewrite.specs.Expressions.{kills, uses}
use Rattle.motion_rewrite.specs.PlacementLaws.{start_not_down}
use Rattle.motion_rewrite.specs.Placements.{DownLaws, IsAdmissible, IsAvailableAfter, IsSafe, Places}
use Rattle.down_safe.specs.Busy.{IsBusy}

-- where two bits say whether two statements hold, one of the two holds or neither
pub either_decided : (a b : Bool) (P Q : Type 0) → ((a ≡ true) ↔ P) → ((b ≡ true) ↔ Q) → Dec (P ⊎ Q)
either_decided true b P Q p q = yes (inl (p.0 refl))
either_decided false true P Q p q = yes (inr (q.0 refl))
either_decided false false P Q p q = no (λ some. elim some [ inl x ↦ true≢false (sym (p.1 x)) | inr y ↦ true≢false (sym (q.1 y)) ])

module _ (graph : GraphShape) (is_graph : IsGraph graph.vars graph.received graph.nodes) (e : Expr) (Down : ℕ → Type 0) (laws : DownLaws graph e Down) where
  -- a node with a trace is there
  trace_within : (n : ℕ) (before : List ℕ) → Trace graph.nodes n before → n < length graph.nodes
  trace_within n before from_start = slice_get_within graph.nodes 0 _ is_graph.can.start.1
  trace_within n before (goes_on m k earlier trace edge) = (is_graph.can.succs m edge.0 n edge.1).1

  module _ (p : Places) (is : IsBusy graph e Down p) (safe_known : (m : ℕ) → m < length graph.nodes → Dec (IsSafe graph e Down m)) where
    -- it inserts at the node
    abbrev Inserted : ℕ → Type 0
    Inserted m = p.inserts m ≡ true

    -- before a node that is down, an insertion stands there or has made e available; and where a use has, an insertion
    -- has
    abbrev Holds : ℕ → List ℕ → Type 0
    Holds n before = (Down n → Inserted n ⊎ IsAvailableAfter graph e Inserted before) × (IsAvailableAfter graph e (λ m. uses graph e m ≡ true) before → IsAvailableAfter graph e Inserted before)

    -- one more edge, to a node that is down and not earliest
    carried : (m n : ℕ) (before : List ℕ) → Trace graph.nodes m before → HasEdge graph.nodes m n → Holds m before → Down n → p.inserts n ≡ false → IsAvailableAfter graph e Inserted (m ∷ before)
    carried m n before trace edge here down none =
        let n_in = (is_graph.can.succs m edge.0 n edge.1).1 in
        let not_earliest : (kills graph e m ≡ true) ⊎ (IsSafe graph e Down m → ⊥) → ⊥ = λ cause. true≢false (sym ((is.inserts_at n n_in).1 (down, (m, edge, cause))) ∙ none) in
        elim (cases_Bool (kills graph e m)) [
          | inl kill ↦ absurd (not_earliest (inl kill))
          | inr keep ↦ elim (safe_known m (edge_within graph.nodes m n edge)) [
            | yes safe ↦ (keep, elim safe [ inl up ↦ inr (here.1 (up before trace)) | inr below ↦ here.0 below ])
            | no unsafe ↦ absurd (not_earliest (inr unsafe))
          ]
        ]

    -- along each path
    busy_available : (n : ℕ) (before : List ℕ) → Trace graph.nodes n before → Holds n before
    busy_available n before from_start = ((λ down. absurd (start_not_down graph e Down laws is_graph.can down)), (λ after. absurd after))
    busy_available n before (goes_on m k earlier trace edge) =
        let here = busy_available m earlier trace in (
          (λ down. elim (cases_Bool (p.inserts n)) [ inl early ↦ inl early | inr late ↦ inr (carried m n earlier trace edge here down late) ]),
          (λ after. (after.0, elim after.1 [ inl used ↦ here.0 (laws.used m (edge_within graph.nodes m n edge) used) | inr more ↦ inr (here.1 more) ])),
        )

    -- so each replaced use has e available
    pub busy_admissible : IsAdmissible graph e Down p
    busy_admissible = record {
      replaced_uses = λ n n_in replaced. sym (is.replaces_at n n_in) ∙ replaced;
      safe = λ n n_in inserted. inr ((is.inserts_at n n_in).0 inserted).0;
      available = λ n before replaced trace. let n_in = trace_within n before trace in (busy_available n before trace).0 (laws.used n n_in (sym (is.replaces_at n n_in) ∙ replaced));
    }
