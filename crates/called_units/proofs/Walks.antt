-- What a walk keeps, and what it leaves.
use Rattle.std.proofs.Common.{◌≡◌, ℕ, zero, suc, ◌+◌, ◌<◌, ◌≤◌, Bool, true, false, cond, List, [], ◌∷◌, ◌++◌, length, slice_get, slice_set, slice_index_or, Option, Some, None, ◌⊎◌, inl, inr, refl, sym, ap, ◌∙◌, subst, arith, replicate, length-append}
use Rattle.std.proofs.lemmas.Bool.{cases_lt}
use Rattle.std.proofs.lemmas.List.{length-replicate, length-set}
use Rattle.mir_base.specs.declared.instructions.Inst.{Inst}
use Rattle.mir_base.specs.declared.instructions.Inst.TheVariants.{Call}
use Rattle.mir_base.specs.declared.instructions.Operand.{Operand}
use Rattle.mir_base.specs.Shapes.{BodyFits, ProgramShape, UnitShape, body_at}
use Rattle.mir_sim.specs.Calls.{HasCall}
use Rattle.flow_graph.specs.ListLaws.{set_here}
use Rattle.flow_graph.specs.MarkLaws.{marked_before, set_keeps, unmarked_same, unmarked_set}
use Rattle.flow_graph.specs.Numbering.{is_in}
use Rattle.flow_graph.specs.NumberingLaws.{is_in_first, is_in_last, is_in_pushed}
use Rattle.flow_graph.specs.ReachWalks.{stack_after, walk_weight}
use Rattle.called_units.specs.CalledUnits.{IsCalled, MarkCalled, at_first, by_call}
use Rattle.called_units.specs.CallWalks.{CallsMarked, FollowsCalls}

-- a mark that is read as true, with false as the default, is there
index_marked : (marks : List Bool) (s : ℕ) → slice_index_or marks s false ≡ true → slice_get marks s ≡ Some true
index_marked [] s e = cc
index_marked (b ∷ marks) zero e = ap Some e
index_marked (b ∷ marks) (suc s) e = index_marked marks s e

module _ (program : ProgramShape) where
  mark_new : (marks : List Bool) (stack stack' : List ℕ) (at_hand : Option ℕ) (s : ℕ) → FollowsCalls program marks stack at_hand → IsCalled program s → s < length program.units → ((u : ℕ) → is_in u stack ≡ true → is_in u stack' ≡ true) → ((u : ℕ) → is_in u stack' ≡ true → (is_in u stack ≡ true) ⊎ (s ≡ u)) → (is_in s stack' ≡ true) ⊎ (slice_get marks s ≡ Some true) → FollowsCalls program (slice_set marks s true) stack' at_hand
  mark_new marks stack stack' at_hand s w r lt keeps tells new = record {
    long = length-set marks s true ∙ w.long;
    sound = λ u e. elim (marked_before marks s u e) [ inl p ↦ subst (IsCalled program) (sym p) r | inr p ↦ w.sound u p ];
    first_marked = set_keeps marks s 0 w.first_marked;
    stacked = λ u e. elim (tells u e) [ inl p ↦ set_keeps marks s u (w.stacked u p) | inr p ↦ subst (λ m. slice_get (slice_set marks s true) m ≡ Some true) p (set_here marks s true (omega (arith, lt, w.long))) ];
    closed = λ u e. elim (marked_before marks s u e) [
      | inl p ↦ elim new [
        | inl q ↦ inl (subst (λ m. is_in m stack' ≡ true) (sym p) q)
        | inr q ↦ old u (subst (λ m. slice_get marks m ≡ Some true) (sym p) q)
      ]
      | inr p ↦ old u p
    ];
  }
    where
      old : (u : ℕ) → slice_get marks u ≡ Some true → (is_in u stack' ≡ true) ⊎ (at_hand ≡ Some u) ⊎ ((called : ℕ) → HasCall program u called → slice_get (slice_set marks s true) called ≡ Some true)
      old u p = elim (w.closed u p) [
        | inl q ↦ inl (keeps u q)
        | inr (inl q) ↦ inr (inl q)
        | inr (inr q) ↦ inr (inr (λ called h. set_keeps marks s called (q called h)))
      ]

  -- one unit is marked, and put on the stack where it was not marked before
  pub marks_one : (marks marks' : List Bool) (stack stack' : List ℕ) (at_hand : Option ℕ) (s : ℕ) → FollowsCalls program marks stack at_hand → IsCalled program s → s < length program.units → marks' ≡ slice_set marks s true → stack' ≡ stack_after marks stack (Some s) → FollowsCalls program marks' stack' at_hand
  marks_one marks marks' stack stack' at_hand s w r lt e e' =
      subst (λ m. FollowsCalls program m stack' at_hand) (sym e) (subst (λ l. FollowsCalls program (slice_set marks s true) l at_hand) (sym e') (chosen (slice_index_or marks s false) refl))
    where
      chosen : (b : Bool) → slice_index_or marks s false ≡ b → FollowsCalls program (slice_set marks s true) (cond b stack (stack ++ s ∷ [])) at_hand
      chosen true is = mark_new marks stack stack at_hand s w r lt (λ n e. e) (λ n e. inl e) (inr (index_marked marks s is))
      chosen false is = mark_new marks stack (stack ++ s ∷ []) at_hand s w r lt (λ n e. is_in_first n stack (s ∷ []) e) (λ n e. is_in_pushed n s stack e) (inl (is_in_last s stack))

  -- the calls that were followed stay marked, and one more is
  pub one_call_more : (body : List Inst) (count s : ℕ) (marks marks' : List Bool) (into : Option ℕ) (operands : List Operand) → CallsMarked body count marks → slice_get body count ≡ Some (Call into s operands) → s < length marks → marks' ≡ slice_set marks s true → CallsMarked body (count + 1) marks'
  one_call_more body count s marks marks' into operands before at lt e place called into' operands' less at' =
      subst (λ m. slice_get m called ≡ Some true) (sym e) (elim (cases_lt place count) [
        | inl earlier ↦ set_keeps marks s called (before place called into' operands' earlier at')
        | inr here ↦
            let same : place ≡ count = omega (arith, less, here) in
            let one : Some (Call into s operands) ≡ Some (Call into' called operands') = sym at ∙ ap (slice_get body) (sym same) ∙ at' in
            let is : s ≡ called = cc in
            subst (λ k. slice_get (slice_set marks s true) k ≡ Some true) is (set_here marks s true lt)
      ])

  -- an instruction that is no call adds none
  pub no_call_more : (body : List Inst) (count : ℕ) (inst : Inst) (marks : List Bool) → CallsMarked body count marks → slice_get body count ≡ Some inst → ((called : ℕ) (into : Option ℕ) (operands : List Operand) → inst ≡ Call into called operands → ⊥) → CallsMarked body (count + 1) marks
  no_call_more body count inst marks before at apart place called into operands less at' = elim (cases_lt place count) [
    | inl earlier ↦ before place called into operands earlier at'
    | inr here ↦
        let same : place ≡ count = omega (arith, less, here) in
        let one : Some inst ≡ Some (Call into called operands) = sym at ∙ ap (slice_get body) (sym same) ∙ at' in
        let is : inst ≡ Call into called operands = cc in
        absurd (apart called into operands is)
  ]

  -- all calls of the unit at hand have been followed
  pub followed : (marks : List Bool) (stack : List ℕ) (u : ℕ) (body : List Inst) → body_at program.units u ≡ body → FollowsCalls program marks stack (Some u) → CallsMarked body (length body) marks → ((place : ℕ) (inst : Inst) → slice_get body place ≡ Some inst → place < length body) → FollowsCalls program marks stack None
  followed marks stack u body is w marked within = record {
    long = w.long;
    sound = w.sound;
    first_marked = w.first_marked;
    stacked = w.stacked;
    closed = λ v e. elim (w.closed v e) [
      | inl q ↦ inl q
      | inr (inl q) ↦ let same : u ≡ v = cc in inr (inr (λ called h. all called (subst (λ k. HasCall program k called) (sym same) h)))
      | inr (inr q) ↦ inr (inr q)
    ];
  }
    where
      all : (called : ℕ) → HasCall program u called → slice_get marks called ≡ Some true
      all called h = let at = ap (λ b. slice_get b h.place) (sym is) ∙ h.at in marked h.place called h.into h.operands (within h.place (Call h.into called h.operands) at) at

  -- with nothing on the stack the walk is over
  pub walk_marks : (marks : List Bool) → FollowsCalls program marks [] None → MarkCalled program marks
  walk_marks marks w = record { long = w.long; exact = λ u lt. (w.sound u, λ r. marked u r) }
    where
      next : (u called : ℕ) → slice_get marks u ≡ Some true → HasCall program u called → slice_get marks called ≡ Some true
      next u called e h = elim (w.closed u e) [ inl q ↦ cc | inr (inl q) ↦ cc | inr (inr q) ↦ q called h ]

      marked : (u : ℕ) → IsCalled program u → slice_get marks u ≡ Some true
      marked zero at_first = w.first_marked
      marked v (by_call u called r h) = next u v (marked u r) h

  -- the last of the stack becomes the one at hand
  pub popped : (marks : List Bool) (stack : List ℕ) (u : ℕ) → FollowsCalls program marks (stack ++ u ∷ []) None → (slice_get marks u ≡ Some true) × FollowsCalls program marks stack (Some u)
  popped marks stack u w = (
    w.stacked u (is_in_last u stack),
    record {
      long = w.long;
      sound = w.sound;
      first_marked = w.first_marked;
      stacked = λ m e. w.stacked m (is_in_first m stack (u ∷ []) e);
      closed = λ m e. elim (w.closed m e) [
        | inl q ↦ elim (is_in_pushed m u stack q) [ inl p ↦ inl p | inr p ↦ inr (inl (ap Some p)) ]
        | inr (inl q) ↦ cc
        | inr (inr q) ↦ inr (inr q)
      ];
    },
  )

-- the walk is not heavier
lighter_one : (marks marks' : List Bool) (stack stack' : List ℕ) (s : ℕ) → s < length marks → marks' ≡ slice_set marks s true → stack' ≡ stack_after marks stack (Some s) → walk_weight marks' stack' ≤ walk_weight marks stack
lighter_one marks marks' stack stack' s lt e e' = subst (λ m. walk_weight m stack' ≤ walk_weight marks stack) (sym e) (subst (λ l. walk_weight (slice_set marks s true) l ≤ walk_weight marks stack) (sym e') (chosen (slice_index_or marks s false) refl))
  where
    chosen : (b : Bool) → slice_index_or marks s false ≡ b → walk_weight (slice_set marks s true) (cond b stack (stack ++ s ∷ [])) ≤ walk_weight marks stack
    chosen true is = omega (arith, unmarked_same marks s is)
    chosen false is = omega (arith, unmarked_set marks s lt is, length-append stack (s ∷ []))

-- ---- the calls of the unit at hand

-- a call of a body that fits is of a unit of the program
pub call_below : (units : List UnitShape) (body body' : List Inst) (place : ℕ) (inst : Inst) (into : Option ℕ) (called : ℕ) (operands : List Operand) → BodyFits units body → body' ≡ body → slice_get body' place ≡ Some inst → inst ≡ Call into called operands → called < length units
call_below units body body' place inst into called operands fits same at is = (fits.insts place (Call into called operands) (ap (λ l. slice_get l place) (sym same) ∙ at ∙ ap Some is)).0

-- of the unit at hand the calls of the first so many instructions have been followed, and the walk is not heavier
pub record HasFollowed (program : ProgramShape) (unit : ℕ) (body : List Inst) (weight count : ℕ) (marks : List Bool) (stack : List ℕ) : Type 0 where
  pub walking : FollowsCalls program marks stack (Some unit)
  pub done : CallsMarked body count marks
  pub lighter : walk_weight marks stack ≤ weight

module _ (program : ProgramShape) (unit : ℕ) (body : List Inst) (weight i : ℕ) (inst : Inst) (marks marks' : List Bool) (stack stack' : List ℕ) (so_far : HasFollowed program unit body weight i marks stack) (at : slice_get body i ≡ Some inst) where
  -- one instruction more, which is no call
  pub passes : ((called : ℕ) (into : Option ℕ) (operands : List Operand) → inst ≡ Call into called operands → ⊥) → marks' ≡ marks → stack' ≡ stack → HasFollowed program unit body weight (i + 1) marks' stack'
  passes apart e e' = subst (λ m. HasFollowed program unit body weight (i + 1) m stack') (sym e) (subst (HasFollowed program unit body weight (i + 1) marks) (sym e') (record {
    walking = so_far.walking;
    done = no_call_more program body i inst marks so_far.done at apart;
    lighter = so_far.lighter;
  }))

  -- one call more
  pub follows : (into : Option ℕ) (called : ℕ) (operands : List Operand) → inst ≡ Call into called operands → IsCalled program unit → body_at program.units unit ≡ body → called < length program.units → marks' ≡ slice_set marks called true → stack' ≡ stack_after marks stack (Some called) → HasFollowed program unit body weight (i + 1) marks' stack'
  follows into called operands is called_to body_is lt e e' =
      let here : slice_get body i ≡ Some (Call into called operands) = at ∙ ap Some is in
      let call : HasCall program unit called = record { place = i; into = into; operands = operands; at = ap (λ b. slice_get b i) body_is ∙ here } in
      let low : called < length marks = omega (arith, lt, so_far.walking.long) in
      record {
        walking = marks_one program marks marks' stack stack' (Some unit) called so_far.walking (by_call unit called called_to call) lt e e';
        done = one_call_more program body i called marks marks' into operands so_far.done here low e;
        lighter = omega (arith, so_far.lighter, lighter_one marks marks' stack stack' called low e e');
      }

-- ---- the beginning

-- where unit 0 alone is marked, a marked unit is unit 0
first_set : (n : ℕ) → 0 < n → (k : ℕ) → slice_get (slice_set (replicate n false) 0 true) k ≡ Some true → k ≡ 0
first_set zero lt k is = absurd (omega (arith, lt))
first_set (suc n) lt zero is = refl
first_set (suc n) lt (suc k) is = absurd (none n k is)
  where
    none : (n k : ℕ) → slice_get (replicate n false) k ≡ Some true → ⊥
    none zero k is = cc
    none (suc n) zero is = cc
    none (suc n) (suc k) is = none n k is

-- the walk begins at the first unit
pub walk_begins : (program : ProgramShape) (marks marks' : List Bool) (stack : List ℕ) → 0 < length program.units → marks ≡ replicate (length program.units) false → marks' ≡ slice_set marks 0 true → stack ≡ 0 ∷ [] → FollowsCalls program marks' stack None
walk_begins program marks marks' stack some e e' e'' =
    let n = length program.units in
    let long : length (replicate n false) ≡ n = length-replicate n false in
    let w : FollowsCalls program (slice_set (replicate n false) 0 true) (0 ∷ []) None = record {
      long = length-set (replicate n false) 0 true ∙ long;
      sound = λ u is. subst (IsCalled program) (sym (first_set n some u is)) at_first;
      first_marked = set_here (replicate n false) 0 true (omega (arith, long, some));
      stacked = λ u is. subst (λ m. slice_get (slice_set (replicate n false) 0 true) m ≡ Some true) (in_one u is) (set_here (replicate n false) 0 true (omega (arith, long, some)));
      closed = λ u is. inl (subst (λ m. is_in m (0 ∷ []) ≡ true) (sym (first_set n some u is)) refl);
    } in
    subst (λ m. FollowsCalls program m stack None) (sym (e' ∙ ap (λ l. slice_set l 0 true) e)) (subst (λ s. FollowsCalls program (slice_set (replicate n false) 0 true) s None) (sym e'') w)
  where
    in_one : (u : ℕ) → is_in u (0 ∷ []) ≡ true → 0 ≡ u
    in_one u is = elim (is_in_pushed u 0 [] is) [ inl p ↦ cc | inr p ↦ p ]
