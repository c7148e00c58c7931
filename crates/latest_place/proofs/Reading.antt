-- The rows give the lazy placement: the bits of one expression say where it is delayed, latest and isolated, one after
-- the other, and the placement that is made of them is the lazy one.
use Rattle.std.proofs.Common.{◌≡◌, ◌<◌, ◌↔◌, ◌&&◌, not, ℕ, Bool, true, false, refl, sym, subst, ◌∙◌, inl, inr, List, [], ◌∷◌, length}
use Rattle.mir_base.specs.declared.instructions.Expr.{Expr}
use Rattle.flow_graph.specs.Graphs.{GraphShape}
use Rattle.flow_graph.specs.Paths.{Begins, HasEdge, IsPath, Trace, goes_on}
use Rattle.path_laws.specs.Paths.{EndsBorn, Since}
use Rattle.motion_rewrite.specs.Expressions.{uses}
use Rattle.motion_rewrite.specs.Placements.{Places, ReachesAlong}
use Rattle.down_safe.specs.Busy.{IsEarliest}
use Rattle.latest_place.specs.Lazy.{ComesToUse, IsDelayed, IsIsolated, IsLatest, IsLazy}
use Rattle.latest_place.specs.Rows.{IsDelayedBit, IsLatestBit, IsNeededBit}
use Rattle.latest_place.specs.Stable.{not_both, split_bit}
use Rattle.latest_place.specs.SplitFacts.{SplitFacts}
use Rattle.latest_place.specs.Admissible.{IsNeeded}
use Rattle.path_laws.specs.Says.{both_say, not_says, off_says}

-- the bits of one expression, by node, each read from those before it
pub record AreLateBits (graph : GraphShape) (e : Expr) (Down : ℕ → Type 0) (early used delayed latest isolated : ℕ → Bool) : Type 0 where
  pub early_is : (n : ℕ) → n < length graph.nodes → (early n ≡ true) ↔ IsEarliest graph e Down n
  pub used_is : (n : ℕ) → n < length graph.nodes → used n ≡ uses graph e n
  pub delayed_is : (n : ℕ) → n < length graph.nodes → (delayed n ≡ true) ↔ IsDelayedBit graph.nodes early used n
  pub latest_is : (n : ℕ) → n < length graph.nodes → (latest n ≡ true) ↔ IsLatestBit graph.nodes delayed used n
  pub isolated_is : (n : ℕ) → n < length graph.nodes → (isolated n ≡ true) ↔ (IsNeededBit graph.nodes latest used n → ⊥)

-- the bits of one expression, by node, and the placement made of them
pub record AreLazyBits (graph : GraphShape) (e : Expr) (Down : ℕ → Type 0) (used latest isolated : ℕ → Bool) (p : Places) : Type 0 where
  pub used_is : (n : ℕ) → n < length graph.nodes → used n ≡ uses graph e n
  pub latest_is : (n : ℕ) → n < length graph.nodes → (latest n ≡ true) ↔ IsLatest graph e Down n
  pub isolated_is : (n : ℕ) → n < length graph.nodes → (isolated n ≡ true) ↔ IsIsolated graph e Down n
  pub inserts_is : (n : ℕ) → p.inserts n ≡ (latest n && not (isolated n))
  pub replaces_is : (n : ℕ) → p.replaces n ≡ (used n && not (latest n && isolated n))

module _ (graph : GraphShape) (facts : SplitFacts graph) (e : Expr) (Down : ℕ → Type 0) (early used delayed latest isolated : ℕ → Bool)
    (rows : AreLateBits graph e Down early used delayed latest isolated) where
  -- ---- delayed

  reaches_from_since : (n : ℕ) (before : List ℕ) → Trace graph.nodes n before → Since (λ m. early m && not (used m)) used before → ReachesAlong (IsEarliest graph e Down) (uses graph e) before
  reaches_from_since n [] t h = absurd h
  reaches_from_since n (m ∷ before) (goes_on m0 n0 before0 t edge) h =
      let below = facts.sources_below m n edge in
      let free : used m ≡ false → uses graph e m ≡ false = λ off. sym (rows.used_is m below) ∙ off in
      elim h [
        | inl here ↦ (let both = (both_say (early m) (not (used m))).0 here in (free ((not_says (used m)).0 both.1), inl ((rows.early_is m below).0 both.0)))
        | inr more ↦ (free more.0, inr (reaches_from_since m before t more.1))
      ]

  since_from_reaches : (n : ℕ) (before : List ℕ) → Trace graph.nodes n before → ReachesAlong (IsEarliest graph e Down) (uses graph e) before → Since (λ m. early m && not (used m)) used before
  since_from_reaches n [] t h = absurd h
  since_from_reaches n (m ∷ before) (goes_on m0 n0 before0 t edge) h =
      let below = facts.sources_below m n edge in
      let off : used m ≡ false = rows.used_is m below ∙ h.0 in
      elim h.1 [
        | inl here ↦ inl ((both_say (early m) (not (used m))).1 ((rows.early_is m below).1 here, (not_says (used m)).1 off))
        | inr more ↦ inr (off, since_from_reaches m before t more)
      ]

  pub delayed_says : (n : ℕ) → n < length graph.nodes → (delayed n ≡ true) ↔ IsDelayed graph e Down n
  delayed_says n below = (to, from)
    where
      to : delayed n ≡ true → IsDelayed graph e Down n
      to on before t = elim ((rows.delayed_is n below).0 on) [
        | inl here ↦ inl ((rows.early_is n below).0 here)
        | inr run ↦ inr (reaches_from_since n before t (run before t))
      ]

      from : IsDelayed graph e Down n → delayed n ≡ true
      from d = (rows.delayed_is n below).1 (split_bit (early n)
          (λ on. inl on)
          (λ off. inr (λ before t. since_from_reaches n before t (elim (d before t) [
            | inl here ↦ not_both ((rows.early_is n below).1 here) off
            | inr s ↦ s
          ]))))

  not_delayed : (n : ℕ) → n < length graph.nodes → (delayed n ≡ false) ↔ ¬ (IsDelayed graph e Down n)
  not_delayed n below = (
    λ off d. not_both ((delayed_says n below).1 d) off,
    λ nd. (off_says (delayed n)).1 (λ on. nd ((delayed_says n below).0 on)),
  )

  -- ---- latest

  pub latest_says : (n : ℕ) → n < length graph.nodes → (latest n ≡ true) ↔ IsLatest graph e Down n
  latest_says n below = (
    λ on. let l = (rows.latest_is n below).0 on in (
      (delayed_says n below).0 l.0,
      elim l.1 [
        | inl here ↦ inl (sym (rows.used_is n below) ∙ here)
        | inr s ↦ inr (s.0, s.1, (not_delayed s.0 (facts.targets_below n s.0 s.1)).0 s.2)
      ],
    ),
    λ l. (rows.latest_is n below).1 (
      (delayed_says n below).1 l.0,
      elim l.1 [
        | inl here ↦ inl (rows.used_is n below ∙ here)
        | inr s ↦ inr (s.0, s.1, (not_delayed s.0 (facts.targets_below n s.0 s.1)).1 s.2)
      ],
    ),
  )

  not_latest : (n : ℕ) → n < length graph.nodes → (latest n ≡ false) ↔ ¬ (IsLatest graph e Down n)
  not_latest n below = (
    λ off l. not_both ((latest_says n below).1 l) off,
    λ nl. (off_says (latest n)).1 (λ on. nl ((latest_says n below).0 on)),
  )

  -- ---- isolated

  ends_comes : (path : List ℕ) → IsPath graph.nodes path → EndsBorn (λ m. used m && not (latest m)) latest path → ComesToUse graph e Down path
  ends_comes [] is ends = absurd is
  ends_comes (n ∷ []) is ends =
      let both = (both_say (used n) (not (latest n))).0 ends in
      ((not_latest n is).0 ((not_says (latest n)).0 both.1), sym (rows.used_is n is) ∙ both.0)
  ends_comes (m ∷ n ∷ path) is ends = ((not_latest m (facts.sources_below m n is.0)).0 ends.0, ends_comes (n ∷ path) is.1 ends.1)

  comes_ends : (path : List ℕ) → IsPath graph.nodes path → ComesToUse graph e Down path → EndsBorn (λ m. used m && not (latest m)) latest path
  comes_ends [] is comes = absurd comes
  comes_ends (n ∷ []) is comes = (both_say (used n) (not (latest n))).1 (rows.used_is n is ∙ comes.1, (not_says (latest n)).1 ((not_latest n is).1 comes.0))
  comes_ends (m ∷ n ∷ path) is comes = ((not_latest m (facts.sources_below m n is.0)).1 comes.0, comes_ends (n ∷ path) is.1 comes.1)

  -- an edge before a path
  one_more : (n s : ℕ) (path : List ℕ) → HasEdge graph.nodes n s → IsPath graph.nodes path → Begins s path → IsPath graph.nodes (n ∷ path)
  one_more n s [] edge is begins = absurd is
  one_more n s (k ∷ path) edge is begins = (subst (HasEdge graph.nodes n) (sym begins) edge, is)

  to_needed : (n : ℕ) → IsNeededBit graph.nodes latest used n → IsNeeded graph e Down n
  to_needed n s = (s.2.path, one_more n s.0 s.2.path s.1 s.2.is_path s.2.begins, ends_comes s.2.path s.2.is_path s.2.ends)

  from_needed : (n : ℕ) (path : List ℕ) → IsPath graph.nodes (n ∷ path) → ComesToUse graph e Down path → IsNeededBit graph.nodes latest used n
  from_needed n [] is comes = absurd comes
  from_needed n (s ∷ path) is comes = (s, is.0, record { path = s ∷ path; is_path = is.1; begins = refl; ends = comes_ends (s ∷ path) is.1 comes })

  pub isolated_says : (n : ℕ) → n < length graph.nodes → (isolated n ≡ true) ↔ IsIsolated graph e Down n
  isolated_says n below = (
    λ on path is comes. (rows.isolated_is n below).0 on (from_needed n path is comes),
    λ alone. (rows.isolated_is n below).1 (λ needed. let more = to_needed n needed in alone more.0 more.1 more.2),
  )

-- ---- the placement

module _ (graph : GraphShape) (e : Expr) (Down : ℕ → Type 0) (used latest isolated : ℕ → Bool) (p : Places) (rows : AreLazyBits graph e Down used latest isolated p) where
  pub rows_are_lazy : IsLazy graph e Down p
  rows_are_lazy = record { inserts_at = λ n below. (inserted n below, inserts n below); replaces_at = λ n below. (replaced n below, replaces n below) }
    where
      inserted : (n : ℕ) → n < length graph.nodes → p.inserts n ≡ true → IsLatest graph e Down n × (IsIsolated graph e Down n → ⊥)
      inserted n below on =
          let both = (both_say (latest n) (not (isolated n))).0 (sym (rows.inserts_is n) ∙ on) in
          ((rows.latest_is n below).0 both.0, λ alone. not_both ((rows.isolated_is n below).1 alone) ((not_says (isolated n)).0 both.1))

      inserts : (n : ℕ) → n < length graph.nodes → IsLatest graph e Down n × (IsIsolated graph e Down n → ⊥) → p.inserts n ≡ true
      inserts n below h =
          let off : isolated n ≡ false = (off_says (isolated n)).1 (λ on. h.1 ((rows.isolated_is n below).0 on)) in
          rows.inserts_is n ∙ (both_say (latest n) (not (isolated n))).1 ((rows.latest_is n below).1 h.0, (not_says (isolated n)).1 off)

      replaced : (n : ℕ) → n < length graph.nodes → p.replaces n ≡ true → (uses graph e n ≡ true) × (IsLatest graph e Down n × IsIsolated graph e Down n → ⊥)
      replaced n below on =
          let both = (both_say (used n) (not (latest n && isolated n))).0 (sym (rows.replaces_is n) ∙ on) in (
            sym (rows.used_is n below) ∙ both.0,
            λ h. not_both ((both_say (latest n) (isolated n)).1 ((rows.latest_is n below).1 h.0, (rows.isolated_is n below).1 h.1)) ((not_says (latest n && isolated n)).0 both.1),
          )

      replaces : (n : ℕ) → n < length graph.nodes → (uses graph e n ≡ true) × (IsLatest graph e Down n × IsIsolated graph e Down n → ⊥) → p.replaces n ≡ true
      replaces n below h =
          let off : (latest n && isolated n) ≡ false = (off_says (latest n && isolated n)).1 (λ on.
          let both = (both_say (latest n) (isolated n)).0 on in
          h.1 ((rows.latest_is n below).0 both.0, (rows.isolated_is n below).0 both.1)) in
          rows.replaces_is n ∙ (both_say (used n) (not (latest n && isolated n))).1 (rows.used_is n below ∙ h.0, (not_says (latest n && isolated n)).1 off)
