-- Prefixes of lists, and what runs show across silent steps. For proofs only.
use Rattle.std.proofs.Common.{◌≡◌, ℕ, zero, suc, ◌+◌, ◌≤◌, List, [], ◌∷◌, ◌++◌, sym, ap, ◌∙◌, refl, arith, append_assoc, zero-add, suc-add, not-suc-le-zero}
use Rattle.mir_base.specs.Frames.{Answer, Frame, Transition, Code}
use Rattle.mir_base.specs.Runs.{IsPrefix}
use Rattle.mir_base.specs.UnitRuns.{after_transition, frame_run}
use Rattle.mir_base.specs.Simulations.{Silently}

-- ---- prefixes

-- the empty list is one of each list
pub nil_prefix : {A : Type 0} (xs : List A) → IsPrefix [] xs
nil_prefix xs = (xs, refl)

-- with an item before both
pub cons_prefix : {A : Type 0} (x : A) (xs ys : List A) → IsPrefix xs ys → IsPrefix (x ∷ xs) (x ∷ ys)
cons_prefix x xs ys p = (p.0, ap (λ l. x ∷ l) p.1)

-- a prefix of a prefix
pub prefix_trans : {A : Type 0} (xs ys zs : List A) → IsPrefix xs ys → IsPrefix ys zs → IsPrefix xs zs
prefix_trans xs ys zs p q = (p.0 ++ q.0, q.1 ∙ ap (λ l. l ++ q.0) p.1 ∙ append_assoc xs p.0 q.0)

-- ---- silent steps

-- silent steps after silent steps
pub silently_trans : (d : Code) (j k : ℕ) (f g h : Frame) (m n : ℕ) → Silently d j f g m → Silently d k g h n → Silently d (j + k) f h (m + n)
silently_trans d zero k f g h m n s r = rw (zero-add k, s.0, s.1, zero-add n) r
silently_trans d (suc j) k f g h m n s r = rw (suc-add j k) (s.0, s.1, s.2 + n, s.3, silently_trans d j k s.0 g h s.2 n s.4 r, omega (arith, s.5))

-- the events are those from the frame after the silent steps
pub past_events : (d : Code) (k : ℕ) (g h : Frame) (n : ℕ) → Silently d k g h n → (m : ℕ) (answers : List Answer)
    → (frame_run d (k + m) g answers).events ≡ (frame_run d m h answers).events
past_events d zero g h n s m answers = rw (zero-add m, s.0)
past_events d (suc k) g h n s m answers = rw (suc-add k m, s.3) (past_events d k s.0 h s.2 s.4 m answers)

-- and the counts of these steps are added
pub past_counted : (d : Code) (k : ℕ) (g h : Frame) (n : ℕ) → Silently d k g h n → (m : ℕ) (answers : List Answer)
    → (frame_run d (k + m) g answers).counted ≡ n + (frame_run d m h answers).counted
past_counted d zero g h n s m answers = rw (zero-add m, s.0, s.1) (sym (zero-add _))
past_counted d (suc k) g h n s m answers = rw (suc-add k m, s.3) (omega (arith, past_counted d k s.0 h s.2 s.4 m answers, s.5))

-- within the silent steps nothing is shown
pub quiet : (d : Code) (k : ℕ) (g h : Frame) (n : ℕ) → Silently d k g h n → (m : ℕ) (answers : List Answer) → m ≤ k → (frame_run d m g answers).events ≡ []
quiet d k g h n s zero answers le = refl
quiet d zero g h n s (suc m) answers le = absurd (not-suc-le-zero le)
quiet d (suc k) g h n s (suc m) answers le = ap (λ t. (after_transition (frame_run d m) t answers).events) s.3 ∙ quiet d k s.0 h s.2 s.4 m answers (omega arith)

-- what is shown from the transition after the silent steps on
pub shown_from : (d : Code) (k : ℕ) (g h : Frame) (n : ℕ) → Silently d k g h n → (t : Transition) → d h ≡ t
    → (m : ℕ) (answers : List Answer)
    → (frame_run d (k + suc m) g answers).events ≡ (after_transition (frame_run d m) t answers).events
shown_from d k g h n s t is m answers = past_events d k g h n s (suc m) answers ∙ ap (λ u. (after_transition (frame_run d m) u answers).events) is

-- and what is counted
pub counted_from : (d : Code) (k : ℕ) (g h : Frame) (n : ℕ) → Silently d k g h n → (t : Transition) → d h ≡ t
    → (m : ℕ) (answers : List Answer)
    → (frame_run d (k + suc m) g answers).counted ≡ n + (after_transition (frame_run d m) t answers).counted
counted_from d k g h n s t is m answers = past_counted d k g h n s (suc m) answers ∙ ap (λ u. n + (after_transition (frame_run d m) u answers).counted) is
