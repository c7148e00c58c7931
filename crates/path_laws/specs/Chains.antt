-- A bit through blocks is a bit through their nodes.
use Rattle.std.proofs.Common.{◌≡◌, ℕ, zero, suc, ◌<◌, ◌↔◌, inl, inr, Bool, true, false, not, ◌||◌, ◌&&◌, List, [], ◌∷◌, length, take, slice_get, Some, refl, sym, ap, subst, arith, ◌∙◌}
use Rattle.std.proofs.lemmas.List.{take_all}
use Rattle.std.proofs.lemmas.Bool.{or_cases, or_left, or_right, and_parts, not-true, not_from_false}
use Rattle.path_laws.specs.Leads.{Leads, at_seed, one_more}
use Rattle.path_laws.specs.Blockwise.{passed, passed_all}
use Rattle.path_laws.specs.BlockwiseLaws.{passed_next}

-- each node but the first has the one before it as its only step back
abbrev pub IsRun : (ℕ → ℕ → Type 0) → List ℕ → Type 0
IsRun steps [] = ⊥
IsRun steps (p ∷ []) = Unit {0}
IsRun steps (p ∷ q ∷ path) = steps q p × ((k : ℕ) → steps q k → k ≡ p) × IsRun steps (q ∷ path)

-- the nodes of each block in the order of the flow, and the edges between blocks
pub record AreRuns (nodes count : ℕ) (steps : ℕ → ℕ → Type 0) (paths : ℕ → List ℕ)
    (between : ℕ → ℕ → Type 0) : Type 0 where
  pub runs : (c : ℕ) → c < count → IsRun steps (paths c)
  pub sound : (c d : ℕ) → between c d → (c < count) × (d < count)
      × ((m : ℕ) × (k : ℕ) × (i : ℕ) × (slice_get (paths c) 0 ≡ Some m)
      × (slice_get (paths d) i ≡ Some k) × (suc i ≡ length (paths d)) × steps m k)
  pub complete : (c m k : ℕ) → c < count → slice_get (paths c) 0 ≡ Some m → steps m k
      → (d : ℕ) × (i : ℕ) × between c d × (slice_get (paths d) i ≡ Some k)
      × (suc i ≡ length (paths d))

module _ (steps : ℕ → ℕ → Type 0) (seed bar : ℕ → Bool) where
  abbrev Led : ℕ → Type 0
  Led n = Leads steps seed bar n

  -- what comes out of a node has come from a seed, if what came to it has
  run_one : (p : ℕ) (x : Bool) → (x ≡ true → bar p ≡ false → Led p) → passed seed bar p x ≡ true → Led p
  run_one p x from on = elim (or_cases (seed p) (x && not (bar p)) on) as (λ _. Led p) [
    | inl here ↦ at_seed p here
    | inr came ↦ let parts = and_parts x (not (bar p)) came in from parts.0 (not-true (bar p) parts.1)
  ]

  -- and so it is with a run
  run_sound : (path : List ℕ) (x : Bool) (i n : ℕ) → IsRun steps path → ((m : ℕ) → slice_get path 0 ≡ Some m → x ≡ true → bar m ≡ false → Led m) → slice_get path i ≡ Some n → passed_all seed bar x (take (suc i) path) ≡ true → Led n
  run_sound [] x i n is from e on = absurd is
  run_sound (p ∷ []) x zero n is from e on = let same : p ≡ n = cc in subst Led same (run_one p x (from p refl) on)
  run_sound (p ∷ []) x (suc i) n is from e on = cc
  run_sound (p ∷ q ∷ path) x zero n is from e on = let same : p ≡ n = cc in subst Led same (run_one p x (from p refl) on)
  run_sound (p ∷ q ∷ path) x (suc i) n is from e on =
      run_sound (q ∷ path) (passed seed bar p x) i n is.2
      (λ m at came free.
      let same : q ≡ m = cc in
      let here = run_one p x (from p refl) came in
      one_more m p (subst (λ j. steps j p) same is.0) free here)
      e on

  -- a node's step back in its run
  pub run_back : (path : List ℕ) (i m : ℕ) → IsRun steps path → slice_get path (suc i) ≡ Some m → (p : ℕ) × (slice_get path i ≡ Some p) × steps m p × ((k : ℕ) → steps m k → k ≡ p)
  run_back [] i m is e = absurd is
  run_back (p ∷ []) i m is e = cc
  run_back (p ∷ q ∷ path) zero m is e = let same : q ≡ m = cc in (p, refl, subst (λ j. steps j p) same is.0, subst (λ j. (k : ℕ) → steps j k → k ≡ p) same is.1)
  run_back (p ∷ q ∷ path) (suc i) m is e = run_back (q ∷ path) i m is.2 e

  -- a block does to the bit what its nodes do, one after the other, where an edge leads from it
  module _ (nodes count : ℕ) (paths : ℕ → List ℕ) (between : ℕ → ℕ → Type 0) (are : AreRuns nodes count steps paths between) (block_seed block_stop : ℕ → Bool)
      (does : (c d : ℕ) (x : Bool) → between c d → passed_all seed bar x (paths d) ≡ (block_seed d || (x && not (block_stop d)))) where
    -- the last node of a block in the order of the flow
    abbrev Ahead : ℕ → ℕ → Type 0
    Ahead d k = (i : ℕ) × (slice_get (paths d) i ≡ Some k) × (suc i ≡ length (paths d))

    -- a block that leads to a seed: so does the node from which the flow leaves it
    pub last_leads : (c d : ℕ) → between c d → Leads between block_seed block_stop d → (k : ℕ) → Ahead d k → Led k
    last_leads c d from (at_seed b on) k (i, at, end) =
        let h = (are.sound c d from).1 in
        let whole : passed_all seed bar false (paths d) ≡ true = does c d false from ∙ or_left (block_seed d) (false && not (block_stop d)) on in
        run_sound (paths d) false i k (are.runs d h) (λ m first bad free. absurd (cc)) at (ap (passed_all seed bar false) (take_all (suc i) (paths d) (omega (arith, end))) ∙ whole)
    last_leads c d from (one_more b e step free rest) k (i, at, end) =
        let h = (are.sound c d from).1 in
        let s = are.sound d e step in
        let whole : passed_all seed bar true (paths d) ≡ true = does c d true from ∙ or_right (block_seed d) (not (block_stop d)) (not_from_false (block_stop d) free) in
        run_sound (paths d) true i k (are.runs d h)
        (λ m first on m_free.
        let both : Some s.2.0 ≡ Some m = sym s.2.3 ∙ first in
        let same : s.2.0 ≡ m = cc in
        one_more m s.2.1 (subst (λ j. steps j s.2.1) same s.2.6) m_free (last_leads d e step rest s.2.1 (s.2.2, s.2.4, s.2.5)))
        at (ap (passed_all seed bar true) (take_all (suc i) (paths d) (omega (arith, end))) ∙ whole)

    -- the bits of blocks, and what comes to each
    module _ (w x : ℕ → Bool) (w_is : (c : ℕ) → c < count → (w c ≡ true) ↔ Leads between block_seed block_stop c) (x_sound : (c : ℕ) → c < count → x c ≡ true → (d : ℕ) × between c d × (w d ≡ true)) (x_complete : (c d : ℕ) → c < count → between c d → w d ≡ true → x c ≡ true) where
      -- what comes out of a block's nodes comes out of the block
      pub last_on : (c d : ℕ) → between c d → passed_all seed bar (x d) (paths d) ≡ true → w d ≡ true
      last_on c d way on =
          let h = (are.sound c d way).1 in
          elim (or_cases (block_seed d) (x d && not (block_stop d)) (sym (does c d (x d) way) ∙ on)) as (λ _. w d ≡ true) [
            | inl here ↦ (w_is d h).1 (at_seed d here)
            | inr came ↦
                let parts = and_parts (x d) (not (block_stop d)) came in
                let from = x_sound d h parts.0 in
                (w_is d h).1 (one_more d from.0 from.1 (not-true (block_stop d) parts.1) ((w_is from.0 (are.sound d from.0 from.1).1).0 from.2))
          ]

      pub after_complete : (n : ℕ) → Led n → (c i : ℕ) → c < count → slice_get (paths c) i ≡ Some n → passed_all seed bar (x c) (take (suc i) (paths c)) ≡ true
      after_complete n (at_seed m on) c i h at = passed_next seed bar (paths c) i n (x c) at ∙ or_left (seed n) (passed_all seed bar (x c) (take i (paths c)) && not (bar n)) on
      after_complete n (one_more m k step free rest) c zero h at =
          let out = are.complete c n k h at step in
          let d_in = (are.sound c out.0 out.2).1 in
          let on = after_complete k rest out.0 out.1 d_in out.3 in
          let w_on = last_on c out.0 out.2 (ap (passed_all seed bar (x out.0)) (sym (take_all (suc out.1) (paths out.0) (omega (arith, out.4)))) ∙ on) in
          let x_on = x_complete c out.0 h out.2 w_on in
          passed_next seed bar (paths c) zero n (x c) at ∙ or_right (seed n) (x c && not (bar n)) (rw (x_on, free) refl)
      after_complete n (one_more m k step free rest) c (suc i) h at =
          let back = run_back (paths c) i n (are.runs c h) at in
          let same : k ≡ back.0 = back.3 k step in
          let on = after_complete k rest c i h (back.1 ∙ ap Some (sym same)) in
          passed_next seed bar (paths c) (suc i) n (x c) at ∙ or_right (seed n) (passed_all seed bar (x c) (take (suc i) (paths c)) && not (bar n)) (rw (on, free) refl)
