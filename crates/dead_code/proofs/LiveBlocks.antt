-- Which variables are live before and after the nodes of a block, taken from its last to its first.
use Rattle.std.proofs.Common.{◌≡◌, ◌⊎◌, ℕ, ◌<◌, ◌↔◌, ◌||◌, ◌&&◌, not, Bool, true, false, List, [], ◌∷◌, length, reverse, refl, sym, ap, inl, inr, ◌∙◌, subst}
use Rattle.std.specs.List.{list_any}
use Rattle.std.proofs.lemmas.Bool.{and_from, and_parts, not-true, not_from_false, or_cases, or_left, or_right}
use Rattle.std.proofs.lemmas.Grind.{reverse_onto}
use Rattle.std.proofs.lemmas.List.Folds.{list_any-append}
use Rattle.flow_graph.specs.BlockLaws.{glued_edge, only_to}
use Rattle.flow_graph.specs.Blocks.{IsGlued}
use Rattle.flow_graph.specs.Graphs.{GraphShape}
use Rattle.flow_graph.specs.Paths.{Begins, HasEdge, IsPath}
use Rattle.path_laws.specs.Blockwise.{passed, passed_all}
use Rattle.path_laws.specs.Paths.{EndsBorn}
use Rattle.graph_edit.specs.Accesses.{assigns_at, reads_at}
use Rattle.dead_code.specs.Dead.{live_past}
use Rattle.dead_code.specs.Liveness.{IsLiveAfter, IsLiveBefore}
use Rattle.path_laws.specs.BlockwiseLaws.{passed_append}

-- ---- lists the other way round

-- a test holds of some item of a list, and of the list the other way round
pub any_reverse : (f : ℕ → Bool) (list : List ℕ) → list_any f (reverse list) ≡ list_any f list
any_reverse f [] = refl
any_reverse f (n ∷ list) = ap (list_any f) (reverse_onto list n []) ∙ list_any-append f (reverse list) (n ∷ []) ∙ turn (list_any f (reverse list)) (f n) ∙ ap (λ b. f n || b) (any_reverse f list)
  where
    turn : (a b : Bool) → (a || (b || false)) ≡ (b || a)
    turn true true = refl
    turn true false = refl
    turn false true = refl
    turn false false = refl

module _ (graph : GraphShape) (x : ℕ) where
  abbrev reads : ℕ → Bool
  reads = reads_at graph x

  abbrev assigns : ℕ → Bool
  assigns = assigns_at graph x

  -- ---- one node

  -- a variable that a node reads is live before it
  live_here : (n : ℕ) → n < length graph.nodes → reads n ≡ true → IsLiveBefore graph x n
  live_here n within on = record { path = n ∷ []; is_path = within; begins = refl; ends = on }

  -- and so is one that is live after it, and that it does not assign
  live_on : (n : ℕ) → assigns n ≡ false → IsLiveAfter graph x n → IsLiveBefore graph x n
  live_on n free (s, edge, lives) = longer lives.path lives.is_path lives.begins lives.ends
    where
      longer : (path : List ℕ) → IsPath graph.nodes path → Begins s path → EndsBorn reads assigns path → IsLiveBefore graph x n
      longer [] p b e = absurd p
      longer (m ∷ path) p b e = record { path = n ∷ m ∷ path; is_path = (rw b edge, p); begins = refl; ends = (free, e) }

  -- no other is
  live_splits : (n : ℕ) → IsLiveBefore graph x n → (reads n ≡ true) ⊎ ((assigns n ≡ false) × IsLiveAfter graph x n)
  live_splits n lives = split lives.path lives.is_path lives.begins lives.ends
    where
      split : (path : List ℕ) → IsPath graph.nodes path → Begins n path → EndsBorn reads assigns path → (reads n ≡ true) ⊎ ((assigns n ≡ false) × IsLiveAfter graph x n)
      split [] p b e = absurd p
      split (m ∷ []) p b e = inl (ap reads (sym b) ∙ e)
      split (m ∷ s ∷ path) p b e = inr (ap assigns (sym b) ∙ e.0, (s, subst (λ k. HasEdge graph.nodes k s) b p.0, record { path = s ∷ path; is_path = p.1; begins = refl; ends = e.1 }))

  -- a bit that tells whether it is live after a node, taken past the node, tells whether it is live before it
  pub live_back : (n : ℕ) (after : Bool) → n < length graph.nodes → (after ≡ true) ↔ IsLiveAfter graph x n → (passed reads assigns n after ≡ true) ↔ IsLiveBefore graph x n
  live_back n after within tells = (
    λ h. elim (or_cases (reads n) (after && not (assigns n)) h) [
      | inl on ↦ live_here n within on
      | inr came ↦ (let parts = and_parts after (not (assigns n)) came in live_on n (not-true (assigns n) parts.1) (tells.0 parts.0))
    ],
    λ lives. elim (live_splits n lives) as (λ _. passed reads assigns n after ≡ true) [
      | inl on ↦ or_left (reads n) (after && not (assigns n)) on
      | inr later ↦ or_right (reads n) (after && not (assigns n)) (and_from after (not (assigns n)) (tells.1 later.1) (not_from_false (assigns n) later.0))
    ],
  )

  -- it is live after a node where it is live before the next of its block
  pub live_glued : (m n : ℕ) → IsGlued graph.nodes m n → IsLiveBefore graph x n ↔ IsLiveAfter graph x m
  live_glued m n glued = (
    λ lives. (n, glued_edge graph.nodes m n glued, lives),
    λ after. subst (IsLiveBefore graph x) (only_to graph.nodes m n after.0 glued.leaves after.1) after.2,
  )

  -- ---- a block

  -- past a list that begins with a node comes what comes past the others, past that node
  pub past_first : (n : ℕ) (list : List ℕ) (after : Bool) → live_past graph x after (n ∷ list) ≡ passed reads assigns n (live_past graph x after list)
  past_first n list after = ap (passed_all reads assigns after) (reverse_onto list n []) ∙ passed_append reads assigns (reverse list) (n ∷ []) after
