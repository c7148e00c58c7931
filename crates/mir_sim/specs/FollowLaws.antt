-- One frame follows another: what the first shows, the second shows too, and in the end it has evaluated no more
-- operators.
use Rattle.std.proofs.Common.{◌≡◌, ℕ, zero, suc, ◌+◌, ◌≤◌, List, [], ◌∷◌, ◌++◌, ℤ, Option, refl, sym, ap, ◌∙◌, subst, arith, append-nil}
use Rattle.std.proofs.lemmas.List.Elements.{All-nil, All-cons}
use Rattle.mir_base.specs.Frames.{CallEntry, Answer, Frame, resumed, Transition, Continues, Prints, Calls, Returns, Traps, Code}
use Rattle.mir_base.specs.Runs.{IsPrefix}
use Rattle.mir_base.specs.UnitRuns.{Event, Printed, Called, Returned, Trapped, Shown, nothing, counting, showing, after_transition, frame_run, EndsInReturn, IsCallAnswer, AreAnswers}
use Rattle.mir_base.specs.Simulations.{Silently}
use Rattle.mir_base.specs.SilentLaws.{nil_prefix, prefix_trans, past_events, past_counted}

-- the transition shows this event
abbrev pub Shows : Event → Transition → Type 0
Shows e (Continues n next) = ⊥
Shows e (Prints v next) = e ≡ Printed v
Shows e (Calls unit entry into next) = e ≡ Called unit entry
Shows e (Returns v) = e ≡ Returned v
Shows e (Traps kind n) = e ≡ Trapped kind

-- after some silent steps the frame shows this event
pub record Caught (d : Code) (g : Frame) (e : Event) : Type 0 where
  pub k : ℕ
  pub n : ℕ
  pub h : Frame
  pub silent : Silently d k g h n
  pub shows : Shows e (d h)

-- a frame that shows its event at once has no silent step before it
here : (d : Code) (g : Frame) (e : Event) (t : Transition) → d g ≡ t → Shows e t → Caught d g e
here d g e t is shows = record { k = 0; n = 0; h = g; silent = (refl, refl); shows = subst (Shows e) (sym is) shows }

-- the first event of a run comes after its silent transitions: by one transition
catch_after : (d : Code) (go : Frame → List Answer → Shown) (g : Frame) (answers : List Answer) (e : Event) (rest : List Event) (t : Transition)
    → d g ≡ t → ((h : Frame) → (go h answers).events ≡ e ∷ rest → Caught d h e)
    → (after_transition go t answers).events ≡ e ∷ rest → Caught d g e
catch_after d go g answers e rest (Continues n next) is ih eq =
    let c = ih next eq in
    record { k = suc c.k; n = n + c.n; h = c.h; silent = (next, n, c.n, is, c.silent, refl); shows = c.shows }
catch_after d go g answers e rest (Prints v next) is ih eq = here d g e (Prints v next) is (cc)
catch_after d go g [] e rest (Calls unit entry into next) is ih eq = here d g e (Calls unit entry into next) is (cc)
catch_after d go g (a ∷ answers) e rest (Calls unit entry into next) is ih eq = here d g e (Calls unit entry into next) is (cc)
catch_after d go g answers e rest (Returns v) is ih eq = here d g e (Returns v) is (cc)
catch_after d go g answers e rest (Traps kind n) is ih eq = here d g e (Traps kind n) is (cc)

-- by all of them
catch : (d : Code) (m : ℕ) (g : Frame) (answers : List Answer) (e : Event) (rest : List Event) → (frame_run d m g answers).events ≡ e ∷ rest → Caught d g e
catch d zero g answers e rest eq = cc
catch d (suc m) g answers e rest eq = catch_after d (frame_run d m) g answers e rest (d g) refl (λ h q. catch d m h answers e rest q) eq

-- what is shown before the silent steps is shown after them
later : (d : Code) (k : ℕ) (g h : Frame) (n : ℕ) → Silently d k g h n → (m : ℕ) (answers : List Answer)
    → (j : ℕ) × IsPrefix (frame_run d m g answers).events (frame_run d j h answers).events
later d zero g h n s m answers = (m, subst (λ f. IsPrefix (frame_run d m g answers).events (frame_run d m f answers).events) s.0 ([], sym (append-nil (frame_run d m g answers).events)))
later d (suc k) g h n s zero answers = (0, nil_prefix [])
later d (suc k) g h n s (suc m) answers =
    let r = later d k s.0 h s.2 s.4 m answers in
    (r.0, subst (λ t. IsPrefix (after_transition (frame_run d m) t answers).events (frame_run d r.0 h answers).events) (sym s.3) r.1)

-- the calls of both are answered with so many globals
module _ (shared : ℕ) where
  -- each event of f comes in g too
  pub record FrameFollows (c d : Code) (f g : Frame) : Type 0 where
    pub by : (answers : List Answer) → AreAnswers shared answers → (n : ℕ)
        → (m : ℕ) × IsPrefix (frame_run c n f answers).events (frame_run d m g answers).events

  -- a silent step of the first frame shows nothing
  follows_on_left : (c d : Code) (f f' g : Frame) (n : ℕ) → c f ≡ Continues n f' → FrameFollows c d f g → FrameFollows c d f' g
  follows_on_left c d f f' g n is r =
      record { by = λ answers are m. let p = r.by answers are (suc m) in (p.0, subst (λ t. IsPrefix (after_transition (frame_run c m) t answers).events (frame_run d p.0 g answers).events) is p.1) }

  -- nor do silent steps of the second
  follows_on_right : (c d : Code) (f g h : Frame) (k n : ℕ) → Silently d k g h n → FrameFollows c d f g → FrameFollows c d f h
  follows_on_right c d f g h k n s r =
      record {
        by = λ answers are m.
            let p = r.by answers are m in
            let q = later d k g h n s p.0 answers in
            (q.0, prefix_trans (frame_run c m f answers).events (frame_run d p.0 g answers).events (frame_run d q.0 h answers).events p.1 q.1);
      }

  -- a transition's first event
  shown_first : (go : Frame → List Answer → Shown) (e : Event) (t : Transition) → Shows e t
      → (tail : List Event) × ((after_transition go t []).events ≡ e ∷ tail)
  shown_first go e (Continues n next) s = absurd s
  shown_first go e (Prints v next) s = ((go next []).events, ap (λ x. x ∷ (go next []).events) (sym s))
  shown_first go e (Calls unit entry into next) s = ([], ap (λ x. x ∷ []) (sym s))
  shown_first go e (Returns v) s = ([], ap (λ x. x ∷ []) (sym s))
  shown_first go e (Traps kind n) s = ([], ap (λ x. x ∷ []) (sym s))

  -- what the first frame shows next, the second shows after some silent steps
  pub catches_up : (c d : Code) (f g : Frame) (e : Event) (t : Transition) → c f ≡ t → Shows e t → FrameFollows c d f g → Caught d g e
  catches_up c d f g e t is s r =
      let first = shown_first (frame_run c 0) e t s in
      let p = r.by [] (All-nil (IsCallAnswer shared)) 1 in
      let run : (frame_run c 1 f []).events ≡ e ∷ first.0 = ap (λ v. (after_transition (frame_run c 0) v []).events) is ∙ first.1 in
      catch d p.0 g [] e (first.0 ++ p.1.0) (p.1.1 ∙ ap (λ l. l ++ p.1.0) run)

  -- the same tail, once the second frame shows the same event
  peel : (e : Event) (xs ys rest : List Event) → (e ∷ ys) ≡ (e ∷ xs) ++ rest → ys ≡ xs ++ rest
  peel e xs ys rest eq = cc

  -- a run whose first event is known goes on, without it, from the next frame
  peel_run : (d : Code) (g g' : Frame) (e : Event) (t : Transition) (xs : List Event) (answers rest : List Answer)
      → d g ≡ t
      → ((go : Frame → List Answer → Shown) → (after_transition go t answers).events ≡ e ∷ (go g' rest).events)
      → (m : ℕ) → IsPrefix (e ∷ xs) (frame_run d m g answers).events
      → (j : ℕ) × IsPrefix xs (frame_run d j g' rest).events
  peel_run d g g' e t xs answers rest is goes zero p = let q : [] ≡ e ∷ (xs ++ p.0) = p.1 in cc
  peel_run d g g' e t xs answers rest is goes (suc m) p =
      let q : (e ∷ (frame_run d m g' rest).events) ≡ (e ∷ xs) ++ p.0 = sym (ap (λ v. (after_transition (frame_run d m) v answers).events) is ∙ goes (frame_run d m)) ∙ p.1 in
      (m, (p.0, peel e xs (frame_run d m g' rest).events p.0 q))

  -- frames that follow still do so after a step of both: each prints the same value
  follows_after_prints : (c d : Code) (f f' g g' : Frame) (v : ℤ) → c f ≡ Prints v f' → d g ≡ Prints v g' → FrameFollows c d f g → FrameFollows c d f' g'
  follows_after_prints c d f f' g g' v is is' r =
      record {
        by = λ answers are n.
            let p = r.by answers are (suc n) in
            let q = subst (λ t. IsPrefix (after_transition (frame_run c n) t answers).events (frame_run d p.0 g answers).events) is p.1 in
            peel_run d g g' (Printed v) (Prints v g') (frame_run c n f' answers).events answers answers is' (λ go. refl) p.0 q;
      }

  -- each makes the same call and gets the same answer
  follows_after_call : (c d : Code) (f f' g g' : Frame) (unit : ℕ) (entry : CallEntry) (i i' : Option ℕ)
      → c f ≡ Calls unit entry i f' → d g ≡ Calls unit entry i' g' → FrameFollows c d f g → (a : Answer)
      → IsCallAnswer shared a → FrameFollows c d (resumed i a f') (resumed i' a g')
  follows_after_call c d f f' g g' unit entry i i' is is' r a fits =
      record {
        by = λ answers are n.
            let p = r.by (a ∷ answers) (All-cons (IsCallAnswer shared) a answers fits are) (suc n) in
            let q = subst (λ t. IsPrefix (after_transition (frame_run c n) t (a ∷ answers)).events (frame_run d p.0 g (a ∷ answers)).events) is p.1 in
            peel_run d g (resumed i' a g') (Called unit entry) (Calls unit entry i' g') (frame_run c n (resumed i a f') answers).events (a ∷ answers) answers is' (λ go. refl) p.0 q;
      }

  -- The second frame, which counted y so far, will not have counted more than the first, which counted x, if both
  -- return. Q is what this rests on: nothing is said where Q does not hold.
  pub record FrameCheaper (Q : Type 0) (c d : Code) (x y : ℕ) (f g : Frame) : Type 0 where
    pub by : Q → (answers : List Answer) → AreAnswers shared answers → (n m : ℕ)
        → EndsInReturn (frame_run c n f answers).events → EndsInReturn (frame_run d m g answers).events
        → y + (frame_run d m g answers).counted ≤ x + (frame_run c n f answers).counted

  -- the cost so far grows by what a silent step evaluates: of the first frame
  cheaper_on_left : (Q : Type 0) (c d : Code) (x y : ℕ) (f f' g : Frame) (n : ℕ) → c f ≡ Continues n f'
      → FrameCheaper Q c d x y f g → FrameCheaper Q c d (x + n) y f' g
  cheaper_on_left Q c d x y f f' g n is r =
      record {
        by = λ q answers are k m ends ends'.
            let same : frame_run c (suc k) f answers ≡ counting n (frame_run c k f' answers) = ap (λ t. after_transition (frame_run c k) t answers) is in
            let more = r.by q answers are (suc k) m (subst EndsInReturn (sym (ap (λ s. s.events) same)) ends) ends' in
            let count : (frame_run c (suc k) f answers).counted ≡ n + (frame_run c k f' answers).counted = ap (λ s. s.counted) same in
            omega (arith, more, count);
      }

  -- of the second
  cheaper_on_right : (Q : Type 0) (c d : Code) (x y : ℕ) (f g h : Frame) (k n : ℕ) → Silently d k g h n
      → FrameCheaper Q c d x y f g → FrameCheaper Q c d x (y + n) f h
  cheaper_on_right Q c d x y f g h k n s r =
      record {
        by = λ q answers are i m ends ends'.
            let more = r.by q answers are i (k + m) ends (subst EndsInReturn (sym (past_events d k g h n s m answers)) ends') in
            let count = past_counted d k g h n s m answers in
            omega (arith, more, count);
      }

  -- a print costs nothing on either side
  cheaper_after_prints : (Q : Type 0) (c d : Code) (x y : ℕ) (f f' g g' : Frame) (v : ℤ) → c f ≡ Prints v f'
      → d g ≡ Prints v g' → FrameCheaper Q c d x y f g → FrameCheaper Q c d x y f' g'
  cheaper_after_prints Q c d x y f f' g g' v is is' r =
      record {
        by = λ q answers are k m ends ends'.
            let same : frame_run c (suc k) f answers ≡ showing (Printed v) (frame_run c k f' answers) = ap (λ t. after_transition (frame_run c k) t answers) is in
            let same' : frame_run d (suc m) g answers ≡ showing (Printed v) (frame_run d m g' answers) = ap (λ t. after_transition (frame_run d m) t answers) is' in
            let more = r.by q answers are (suc k) (suc m) (subst EndsInReturn (sym (ap (λ s. s.events) same)) ends) (subst EndsInReturn (sym (ap (λ s. s.events) same')) ends') in
            let count : (frame_run c (suc k) f answers).counted ≡ (frame_run c k f' answers).counted = ap (λ s. s.counted) same in
            let count' : (frame_run d (suc m) g answers).counted ≡ (frame_run d m g' answers).counted = ap (λ s. s.counted) same' in
            omega (arith, more, count, count');
      }

  -- nor does a call in the frames of its callers
  cheaper_after_call : (Q : Type 0) (c d : Code) (x y : ℕ) (f f' g g' : Frame) (unit : ℕ) (entry : CallEntry) (i i' : Option ℕ)
      → c f ≡ Calls unit entry i f' → d g ≡ Calls unit entry i' g' → FrameCheaper Q c d x y f g → (a : Answer)
      → IsCallAnswer shared a → FrameCheaper Q c d x y (resumed i a f') (resumed i' a g')
  cheaper_after_call Q c d x y f f' g g' unit entry i i' is is' r a fits =
      record {
        by = λ q answers are k m ends ends'.
            let same : frame_run c (suc k) f (a ∷ answers) ≡ showing (Called unit entry) (frame_run c k (resumed i a f') answers) = ap (λ t. after_transition (frame_run c k) t (a ∷ answers)) is in
            let same' : frame_run d (suc m) g (a ∷ answers) ≡ showing (Called unit entry) (frame_run d m (resumed i' a g') answers) = ap (λ t. after_transition (frame_run d m) t (a ∷ answers)) is' in
            let more = r.by q (a ∷ answers) (All-cons (IsCallAnswer shared) a answers fits are) (suc k) (suc m) (subst EndsInReturn (sym (ap (λ s. s.events) same)) ends) (subst EndsInReturn (sym (ap (λ s. s.events) same')) ends') in
            let count : (frame_run c (suc k) f (a ∷ answers)).counted ≡ (frame_run c k (resumed i a f') answers).counted = ap (λ s. s.counted) same in
            let count' : (frame_run d (suc m) g (a ∷ answers)).counted ≡ (frame_run d m (resumed i' a g') answers).counted = ap (λ s. s.counted) same' in
            omega (arith, more, count, count');
      }

  -- both return: then the costs so far are all that counts
  cheaper_at_return : (Q : Type 0) (c d : Code) (x y : ℕ) (f g : Frame) (v : Answer) → c f ≡ Returns v
      → d g ≡ Returns v → FrameCheaper Q c d x y f g → Q → y ≤ x
  cheaper_at_return Q c d x y f g v is is' r q =
      let same : frame_run c 1 f [] ≡ showing (Returned v) nothing = ap (λ t. after_transition (frame_run c 0) t []) is in
      let same' : frame_run d 1 g [] ≡ showing (Returned v) nothing = ap (λ t. after_transition (frame_run d 0) t []) is' in
      let more = r.by q [] (All-nil (IsCallAnswer shared)) 1 1 (subst EndsInReturn (sym (ap (λ s. s.events) same)) tt) (subst EndsInReturn (sym (ap (λ s. s.events) same')) tt) in
      let count : (frame_run c 1 f []).counted ≡ 0 = ap (λ s. s.counted) same in
      let count' : (frame_run d 1 g []).counted ≡ 0 = ap (λ s. s.counted) same' in
      omega (arith, more, count, count')

  -- ---- both together

  -- the second frame follows the first and evaluates no more operators
  pub record Pair (Q : Type 0) (c d : Code) (x y : ℕ) (f g : Frame) : Type 0 where
    pub follows : FrameFollows c d f g
    pub cheaper : FrameCheaper Q c d x y f g

  module _ (Q : Type 0) (c d : Code) (x y : ℕ) where
    -- a silent step of the first
    pub pair_on_left : (f f' g : Frame) (n : ℕ) → c f ≡ Continues n f' → Pair Q c d x y f g → Pair Q c d (x + n) y f' g
    pair_on_left f f' g n is p = record { follows = follows_on_left c d f f' g n is p.follows; cheaper = cheaper_on_left Q c d x y f f' g n is p.cheaper }

    -- silent steps of the second
    pub pair_on_right : (f g h : Frame) (k n : ℕ) → Silently d k g h n → Pair Q c d x y f g → Pair Q c d x (y + n) f h
    pair_on_right f g h k n s p = record { follows = follows_on_right c d f g h k n s p.follows; cheaper = cheaper_on_right Q c d x y f g h k n s p.cheaper }

    pub pair_after_prints : (f f' g g' : Frame) (v : ℤ) → c f ≡ Prints v f' → d g ≡ Prints v g' → Pair Q c d x y f g → Pair Q c d x y f' g'
    pair_after_prints f f' g g' v is is' p = record { follows = follows_after_prints c d f f' g g' v is is' p.follows; cheaper = cheaper_after_prints Q c d x y f f' g g' v is is' p.cheaper }

    pub pair_after_call : (f f' g g' : Frame) (unit : ℕ) (entry : CallEntry) (i i' : Option ℕ)
        → c f ≡ Calls unit entry i f' → d g ≡ Calls unit entry i' g' → Pair Q c d x y f g → (a : Answer)
        → IsCallAnswer shared a → Pair Q c d x y (resumed i a f') (resumed i' a g')
    pair_after_call f f' g g' unit entry i i' is is' p a fits = record {
      follows = follows_after_call c d f f' g g' unit entry i i' is is' p.follows a fits;
      cheaper = cheaper_after_call Q c d x y f f' g g' unit entry i i' is is' p.cheaper a fits;
    }

    pub pair_at_return : (f g : Frame) (v : Answer) → c f ≡ Returns v → d g ≡ Returns v → Pair Q c d x y f g → Q → y ≤ x
    pair_at_return f g v is is' p q = cheaper_at_return Q c d x y f g v is is' p.cheaper q
