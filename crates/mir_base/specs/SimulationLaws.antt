-- The laws of the simulation rule: machines that simulate do the same, and the second evaluates no more operators where
-- P holds. For proofs only.
use Rattle.std.proofs.Common.{◌≡◌, ℕ, zero, suc, ◌+◌, ◌-◌, ◌<◌, ◌≤◌, List, [], ◌∷◌, ◌++◌, inl, inr, refl, sym, ap, ◌∙◌, subst, arith, le_refl, not-suc-le-zero}
use Rattle.std.proofs.lemmas.Bool.{cases_lt}
use Rattle.std.proofs.lemmas.List.Elements.{All-head, All-tail}
use Rattle.mir_base.specs.Frames.{Answer, Frame, resumed, Transition, Continues, Prints, Calls, Returns, Traps, Code}
use Rattle.mir_base.specs.Runs.{IsPrefix}
use Rattle.mir_base.specs.UnitRuns.{Event, Printed, Called, Returned, Trapped, Shown, after_transition, frame_run, EndsInReturn, Machine, IsCallAnswer, AreAnswers, UnitSame, UnitCheaper}
use Rattle.mir_base.specs.Simulations.{Silently, Relation, Responds, HandsOver, Simulates}
use Rattle.mir_base.specs.UnitLaws.{entered}
use Rattle.mir_base.specs.SilentLaws.{nil_prefix, cons_prefix, past_events, past_counted, quiet, shown_from, counted_from}

-- these events are a prefix of what a run from this frame shows
abbrev ComeIn : List Event → Code → Frame → List Answer → Type 0
ComeIn events code frame answers = (m : ℕ) × IsPrefix events (frame_run code m frame answers).events

-- a transition shows this event, and then what is shown from the next frame on
abbrev ShowsThen : Transition → List Answer → Event → Frame → List Answer → Type 0
ShowsThen transition answers event next rest = (go : Frame → List Answer → Shown)
    → (after_transition go transition answers).events ≡ event ∷ (go next rest).events

-- a transition shows this event, and then no more
abbrev ShowsLast : Transition → List Answer → Event → Type 0
ShowsLast transition answers event = (go : Frame → List Answer → Shown)
    → (after_transition go transition answers).events ≡ event ∷ []

module _ (shared : ℕ) (c d : Code) (P : Type 0) (R : Relation) (hands : (f : Frame) → HandsOver shared (c f)) (responds : (z x y : ℕ) (f g : Frame) → R z x y f g → Responds P R d z x y g (c f)) where
  -- ---- each event of the first comes in the second

  -- what n steps of the first show from related frames comes in the second
  abbrev Forth : ℕ → Type 0
  Forth n = (z x y : ℕ) (f g : Frame) → R z x y f g → (answers : List Answer) → AreAnswers shared answers → ComeIn (frame_run c n f answers).events d g answers

  forth_after : (n : ℕ) → Forth n → (z x y : ℕ) (g : Frame) (t : Transition) → HandsOver shared t
      → Responds P R d z x y g t → (answers : List Answer) → AreAnswers shared answers
      → ComeIn (after_transition (frame_run c n) t answers).events d g answers
  forth_after n ih z x y g (Continues i next) h a answers are =
      let r = ih a.measure (x + i) (y + a.cost) next a.there a.related answers are in
      (a.steps + r.0, subst (IsPrefix (frame_run c n next answers).events) (sym (past_events d a.steps g a.there a.cost a.silent r.0 answers)) r.1)
  forth_after n ih z x y g (Prints v next) h a answers are =
      let r = ih a.measure x (y + a.cost) next a.second_next a.related answers are in
      let shown = shown_from d a.steps g a.there a.cost a.silent (Prints v a.second_next) a.is r.0 answers in
      (a.steps + suc r.0, subst (IsPrefix (Printed v ∷ (frame_run c n next answers).events)) (sym shown) (cons_prefix (Printed v) _ _ r.1))
  forth_after n ih z x y g (Calls u entry into next) h a [] are =
      let shown = shown_from d a.steps g a.there a.cost a.silent (Calls u entry a.second_into a.second_next) a.is 0 [] in
      (a.steps + suc 0, subst (IsPrefix (Called u entry ∷ [])) (sym shown) ([], refl))
  forth_after n ih z x y g (Calls u entry into next) h a (answer ∷ answers) are =
      let r' = a.related answer (subst (λ k. IsCallAnswer k answer) (sym h) (All-head (IsCallAnswer shared) answer answers are)) in
      let r = ih r'.0 x (y + a.cost) (resumed into answer next) (resumed a.second_into answer a.second_next) r'.1 answers (All-tail (IsCallAnswer shared) answer answers are) in
      let shown = shown_from d a.steps g a.there a.cost a.silent (Calls u entry a.second_into a.second_next) a.is r.0 (answer ∷ answers) in
      (a.steps + suc r.0, subst (IsPrefix (Called u entry ∷ (frame_run c n (resumed into answer next) answers).events)) (sym shown) (cons_prefix (Called u entry) _ _ r.1))
  forth_after n ih z x y g (Returns answer) h a answers are =
      let shown = shown_from d a.steps g a.there a.cost a.silent (Returns answer) a.is 0 answers in
      (a.steps + suc 0, subst (IsPrefix (Returned answer ∷ [])) (sym shown) ([], refl))
  forth_after n ih z x y g (Traps kind i) h a answers are =
      let shown = shown_from d a.steps g a.there a.cost a.silent (Traps kind a.counted) a.is 0 answers in
      (a.steps + suc 0, subst (IsPrefix (Trapped kind ∷ [])) (sym shown) ([], refl))

  forth : (n : ℕ) → Forth n
  forth zero z x y f g r answers are = (0, nil_prefix [])
  forth (suc n) z x y f g r answers are = forth_after n (forth n) z x y g (c f) (hands f) (responds z x y f g r) answers are

  -- ---- and the other way round

  back_continuing : (M : ℕ) (f next g h : Frame) (n m k : ℕ) (answers : List Answer) → c f ≡ Continues n next
      → Silently d k g h m → k ≤ M → ComeIn (frame_run d (M - k) h answers).events c next answers
      → ComeIn (frame_run d M g answers).events c f answers
  back_continuing M f next g h n m k answers is s le r =
      let sum : k + (M - k) ≡ M = omega arith in
      let e : (frame_run d M g answers).events ≡ (frame_run d (M - k) h answers).events = ap (λ i. (frame_run d i g answers).events) (sym sum) ∙ past_events d k g h m s (M - k) answers in
      let q : (frame_run c (suc r.0) f answers).events ≡ (frame_run c r.0 next answers).events = ap (λ t. (after_transition (frame_run c r.0) t answers).events) is in
      (suc r.0, (r.1.0, q ∙ r.1.1 ∙ ap (λ l. l ++ r.1.0) (sym e)))

  -- where M is past the silent steps
  past_there : (M : ℕ) (g h : Frame) (m k : ℕ) (answers : List Answer) (t : Transition) → d h ≡ t → Silently d k g h m
      → k < M → (frame_run d M g answers).events ≡ (after_transition (frame_run d (M - suc k)) t answers).events
  past_there M g h m k answers t is s lt =
      let sum : k + suc (M - suc k) ≡ M = omega arith in
      ap (λ i. (frame_run d i g answers).events) (sym sum) ∙ shown_from d k g h m s t is (M - suc k) answers

  back_shown : (M : ℕ) (g h : Frame) (m k : ℕ) (answers rest : List Answer) (t t' : Transition) (e : Event) (f next next' : Frame)
      → c f ≡ t → d h ≡ t' → Silently d k g h m → k < M → ShowsThen t answers e next rest
      → ShowsThen t' answers e next' rest → ComeIn (frame_run d (M - suc k) next' rest).events c next rest
      → ComeIn (frame_run d M g answers).events c f answers
  back_shown M g h m k answers rest t t' e f next next' is is' s lt shows shows' r =
      let e1 = past_there M g h m k answers t' is' s lt ∙ shows' (frame_run d (M - suc k)) in
      let q : (frame_run c (suc r.0) f answers).events ≡ e ∷ (frame_run c r.0 next rest).events = ap (λ u. (after_transition (frame_run c r.0) u answers).events) is ∙ shows (frame_run c r.0) in
      (suc r.0, (r.1.0, q ∙ ap (λ l. e ∷ l) r.1.1 ∙ ap (λ l. l ++ r.1.0) (sym e1)))

  back_last : (M : ℕ) (g h : Frame) (m k : ℕ) (answers : List Answer) (t t' : Transition) (e : Event) (f : Frame)
      → c f ≡ t → d h ≡ t' → Silently d k g h m → k < M → ShowsLast t answers e → ShowsLast t' answers e
      → ComeIn (frame_run d M g answers).events c f answers
  back_last M g h m k answers t t' e f is is' s lt shows shows' =
      let e1 = past_there M g h m k answers t' is' s lt ∙ shows' (frame_run d (M - suc k)) in
      let q : (frame_run c 1 f answers).events ≡ e ∷ [] = ap (λ u. (after_transition (frame_run c 0) u answers).events) is ∙ shows (frame_run c 0) in
      (1, ([], q ∙ ap (λ l. l ++ []) (sym e1)))

  -- where M is within them: nothing is shown
  still : (M : ℕ) (f g h : Frame) (m k : ℕ) (answers : List Answer) → Silently d k g h m → M ≤ k → ComeIn (frame_run d M g answers).events c f answers
  still M f g h m k answers s le = (0, ([], ap (λ l. l ++ []) (sym (quiet d k g h m s M answers le))))

  -- what m steps of the second show from related frames comes in the first; and so at each measure below b
  abbrev Back : ℕ → Type 0
  Back m = (z x y : ℕ) (f g : Frame) → R z x y f g → (answers : List Answer) → AreAnswers shared answers → ComeIn (frame_run d m g answers).events c f answers

  abbrev BackBelow : ℕ → ℕ → Type 0
  BackBelow m b = (z x y : ℕ) (f g : Frame) → z < b → R z x y f g → (answers : List Answer) → AreAnswers shared answers → ComeIn (frame_run d m g answers).events c f answers

  back_after : (M b : ℕ) → ((j : ℕ) → j < M → Back j) → BackBelow M b → (z x y : ℕ) (f g : Frame) → z < suc b
      → (t : Transition) → c f ≡ t → HandsOver shared t → Responds P R d z x y g t → (answers : List Answer)
      → AreAnswers shared answers → ComeIn (frame_run d M g answers).events c f answers
  back_after M b ih lower z x y f g lt (Continues i next) is h a answers are =
      elim (cases_lt a.steps M) [
        | inl within ↦
            elim a.moves [
              | inl moves ↦ back_continuing M f next g a.there i a.cost a.steps answers is a.silent (omega arith) (ih (M - a.steps) (omega arith) a.measure (x + i) (y + a.cost) next a.there a.related answers are)
              | inr falls ↦ elim (cases_lt 0 a.steps) [
                | inl moves ↦ back_continuing M f next g a.there i a.cost a.steps answers is a.silent (omega arith) (ih (M - a.steps) (omega arith) a.measure (x + i) (y + a.cost) next a.there a.related answers are)
                | inr stays ↦
                    let none : M - a.steps ≡ M = omega arith in
                    let r = lower a.measure (x + i) (y + a.cost) next a.there (omega arith) a.related answers are in
                    back_continuing M f next g a.there i a.cost a.steps answers is a.silent (omega arith) (r.0, subst (λ j. IsPrefix (frame_run d j a.there answers).events (frame_run c r.0 next answers).events) (sym none) r.1)
              ]
            ]
        | inr over ↦ still M f g a.there a.cost a.steps answers a.silent over
      ]
  back_after M b ih lower z x y f g lt (Prints v next) is h a answers are =
      elim (cases_lt a.steps M) [
        | inl within ↦ back_shown M g a.there a.cost a.steps answers answers (Prints v next) (Prints v a.second_next) (Printed v) f next a.second_next is a.is a.silent within (λ go. refl) (λ go. refl) (ih (M - suc a.steps) (omega arith) a.measure x (y + a.cost) next a.second_next a.related answers are)
        | inr over ↦ still M f g a.there a.cost a.steps answers a.silent over
      ]
  back_after M b ih lower z x y f g lt (Calls u entry into next) is h a [] are =
      elim (cases_lt a.steps M) [
        | inl within ↦ back_last M g a.there a.cost a.steps [] (Calls u entry into next) (Calls u entry a.second_into a.second_next) (Called u entry) f is a.is a.silent within (λ go. refl) (λ go. refl)
        | inr over ↦ still M f g a.there a.cost a.steps [] a.silent over
      ]
  back_after M b ih lower z x y f g lt (Calls u entry into next) is h a (answer ∷ answers) are =
      let r = a.related answer (subst (λ k. IsCallAnswer k answer) (sym h) (All-head (IsCallAnswer shared) answer answers are)) in
      elim (cases_lt a.steps M) [
        | inl within ↦ back_shown M g a.there a.cost a.steps (answer ∷ answers) answers (Calls u entry into next) (Calls u entry a.second_into a.second_next) (Called u entry) f (resumed into answer next) (resumed a.second_into answer a.second_next) is a.is a.silent within (λ go. refl) (λ go. refl) (ih (M - suc a.steps) (omega arith) r.0 x (y + a.cost) (resumed into answer next) (resumed a.second_into answer a.second_next) r.1 answers (All-tail (IsCallAnswer shared) answer answers are))
        | inr over ↦ still M f g a.there a.cost a.steps (answer ∷ answers) a.silent over
      ]
  back_after M b ih lower z x y f g lt (Returns answer) is h a answers are =
      elim (cases_lt a.steps M) [
        | inl within ↦ back_last M g a.there a.cost a.steps answers (Returns answer) (Returns answer) (Returned answer) f is a.is a.silent within (λ go. refl) (λ go. refl)
        | inr over ↦ still M f g a.there a.cost a.steps answers a.silent over
      ]
  back_after M b ih lower z x y f g lt (Traps kind i) is h a answers are =
      elim (cases_lt a.steps M) [
        | inl within ↦ back_last M g a.there a.cost a.steps answers (Traps kind i) (Traps kind a.counted) (Trapped kind) f is a.is a.silent within (λ go. refl) (λ go. refl)
        | inr over ↦ still M f g a.there a.cost a.steps answers a.silent over
      ]

  back_below : (M b : ℕ) → ((j : ℕ) → j < M → Back j) → BackBelow M b
  back_below M zero ih z x y f g lt r answers are = absurd (not-suc-le-zero lt)
  back_below M (suc b) ih z x y f g lt r answers are = back_after M b ih (back_below M b ih) z x y f g lt (c f) refl (hands f) (responds z x y f g r) answers are

  -- at each number of steps below the bound
  back_within : (bound : ℕ) (M : ℕ) → M < bound → Back M
  back_within zero M lt z x y f g r answers are = absurd (not-suc-le-zero lt)
  back_within (suc bound) M lt z x y f g r answers are = back_below M (suc z) (λ j h. back_within bound j (omega arith)) z x y f g (le_refl _) r answers are

  -- ---- and what they count

  cheaper_continuing : (n : ℕ) (x y : ℕ) (next g h : Frame) (i m k : ℕ) (M : ℕ) (answers : List Answer)
      → Silently d k g h m
      → ((M' : ℕ) → EndsInReturn (frame_run c n next answers).events → EndsInReturn (frame_run d M' h answers).events → (y + m) + (frame_run d M' h answers).counted ≤ (x + i) + (frame_run c n next answers).counted)
      → EndsInReturn (frame_run c n next answers).events → EndsInReturn (frame_run d M g answers).events
      → y + (frame_run d M g answers).counted ≤ x + (i + (frame_run c n next answers).counted)
  cheaper_continuing n x y next g h i m k M answers s ih ends ends' =
      elim (cases_lt k M) [
        | inl within ↦
            let sum : k + (M - k) ≡ M = omega arith in
            let e : (frame_run d M g answers).events ≡ (frame_run d (M - k) h answers).events = ap (λ j. (frame_run d j g answers).events) (sym sum) ∙ past_events d k g h m s (M - k) answers in
            let q : (frame_run d M g answers).counted ≡ m + (frame_run d (M - k) h answers).counted = ap (λ j. (frame_run d j g answers).counted) (sym sum) ∙ past_counted d k g h m s (M - k) answers in
            let r = ih (M - k) ends (subst EndsInReturn e ends') in
            omega (arith, r, q)
        | inr over ↦ absurd (subst EndsInReturn (quiet d k g h m s M answers over) ends')
      ]

  -- a run of the second that ends in a return goes past the transition that shows an event
  at_event : (g h : Frame) (m k M : ℕ) (answers : List Answer) (t : Transition) → d h ≡ t → Silently d k g h m
      → EndsInReturn (frame_run d M g answers).events
      → (j : ℕ) × EndsInReturn (after_transition (frame_run d j) t answers).events × ((frame_run d M g answers).counted ≡ m + (after_transition (frame_run d j) t answers).counted)
  at_event g h m k M answers t is s ends =
      elim (cases_lt k M) [
        | inl within ↦
            let sum : k + suc (M - suc k) ≡ M = omega arith in
            (M - suc k, subst EndsInReturn (past_there M g h m k answers t is s within) ends, ap (λ j. (frame_run d j g answers).counted) (sym sum) ∙ counted_from d k g h m s t is (M - suc k) answers)
        | inr over ↦ absurd (subst EndsInReturn (quiet d k g h m s M answers over) ends)
      ]

  -- where n steps of the first from related frames end in a return, the second evaluates no more operators in all
  abbrev CountsNoMore : ℕ → Type 0
  CountsNoMore n = (z x y : ℕ) (f g : Frame) → R z x y f g → (answers : List Answer) → AreAnswers shared answers → (M : ℕ) → EndsInReturn (frame_run c n f answers).events → EndsInReturn (frame_run d M g answers).events → y + (frame_run d M g answers).counted ≤ x + (frame_run c n f answers).counted

  cheaper_after : P → (n : ℕ) → CountsNoMore n → (z x y : ℕ) (g : Frame) (t : Transition) → HandsOver shared t
      → Responds P R d z x y g t → (answers : List Answer) → AreAnswers shared answers → (M : ℕ)
      → EndsInReturn (after_transition (frame_run c n) t answers).events
      → EndsInReturn (frame_run d M g answers).events
      → y + (frame_run d M g answers).counted ≤ x + (after_transition (frame_run c n) t answers).counted
  cheaper_after p n ih z x y g (Continues i next) h a answers are M ends ends' =
      cheaper_continuing n x y next g a.there i a.cost a.steps M answers a.silent (λ M'. ih a.measure (x + i) (y + a.cost) next a.there a.related answers are M') ends ends'
  cheaper_after p n ih z x y g (Prints v next) h a answers are M ends ends' =
      let q = at_event g a.there a.cost a.steps M answers (Prints v a.second_next) a.is a.silent ends' in
      omega (arith, q.2, ih a.measure x (y + a.cost) next a.second_next a.related answers are q.0 ends q.1)
  cheaper_after p n ih z x y g (Calls u entry into next) h a [] are M ends ends' = absurd ends
  cheaper_after p n ih z x y g (Calls u entry into next) h a (answer ∷ answers) are M ends ends' =
      let r = a.related answer (subst (λ k. IsCallAnswer k answer) (sym h) (All-head (IsCallAnswer shared) answer answers are)) in
      let q = at_event g a.there a.cost a.steps M (answer ∷ answers) (Calls u entry a.second_into a.second_next) a.is a.silent ends' in
      omega (arith, q.2, ih r.0 x (y + a.cost) (resumed into answer next) (resumed a.second_into answer a.second_next) r.1 answers (All-tail (IsCallAnswer shared) answer answers are) q.0 ends q.1)
  cheaper_after p n ih z x y g (Returns answer) h a answers are M ends ends' =
      let q = at_event g a.there a.cost a.steps M answers (Returns answer) a.is a.silent ends' in
      omega (arith, q.2, a.cheaper p)
  cheaper_after p n ih z x y g (Traps kind i) h a answers are M ends ends' = absurd ends

  cheaper_within : P → (n : ℕ) → CountsNoMore n
  cheaper_within p zero z x y f g r answers are M ends ends' = absurd ends
  cheaper_within p (suc n) z x y f g r answers are M ends ends' = cheaper_after p n (cheaper_within p n) z x y g (c f) (hands f) (responds z x y f g r) answers are M ends ends'

-- ---- the laws

-- the two do the same
pub simulated_same : (first second : Machine) (P : Type 0) (R : Relation) → Simulates first second P R → UnitSame first second
simulated_same first second P R s = record {
  receives = s.receives;
  shared = s.shared;
  forth = record {
    follows = λ entry answers is are n.
        let r = s.starts entry is in
        forth first.shared first.code second.code P R s.hands s.responds n r.0 0 0 _ _ r.1 answers are;
  };
  back = record {
    follows = λ entry answers is are n.
        let r = s.starts entry (entered second first (sym s.receives) (sym s.shared) entry is) in
        back_within first.shared first.code second.code P R s.hands s.responds (suc n) n (le_refl _) r.0 0 0 _ _ r.1 answers (subst (λ k. AreAnswers k answers) (sym s.shared) are);
  };
}

-- and the second evaluates no more operators where P holds
pub simulated_cheaper : (first second : Machine) (P : Type 0) (R : Relation) → Simulates first second P R → P → UnitCheaper first second
simulated_cheaper first second P R s p =
    record {
      cheaper = λ entry answers is are n m ends ends'.
          let r = s.starts entry is in
          let c = cheaper_within first.shared first.code second.code P R s.hands s.responds p n r.0 0 0 _ _ r.1 answers are m ends ends' in
          omega (arith, c);
    }
