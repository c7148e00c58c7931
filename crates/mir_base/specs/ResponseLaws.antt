-- What responds to a transition: a step that is like it, and silent steps before a response. For proofs only.
use Rattle.std.proofs.Common.{◌≡◌, ℕ, ◌+◌, ◌≤◌, ◌<◌, ◌⊎◌, inl, inr, refl, sym, ap, ◌∙◌, subst, arith}
use Rattle.mir_base.specs.Frames.{Frame, resumed, Transition, Continues, Prints, Calls, Returns, Traps, Code}
use Rattle.mir_base.specs.Simulations.{Silently, Relation, Responds}
use Rattle.mir_base.specs.SilentLaws.{silently_trans}
use Rattle.mir_base.specs.Locksteps.{Alike}

module _ (P : Type 0) (R : Relation) (S : Frame → Frame → Type 0) (d : Code) (into : (x y : ℕ) (f g : Frame) → y ≤ x → S f g → (z : ℕ) × R z x y f g) where
  -- a step that is like the first side's responds to it, where what has been counted is no more
  pub alike_responds : (z x y : ℕ) (g : Frame) (t t' : Transition) → y ≤ x → d g ≡ t' → Alike S t t' → Responds P R d z x y g t
  alike_responds z x y g (Continues n f) (Continues m h) le is a =
      let r = into (x + n) (y + m) f h (omega (arith, le, a.0)) a.1 in
      record { steps = 1; cost = m; there = h; silent = (h, m, 0, is, (refl, refl), omega arith); measure = r.0; related = r.1; moves = inl (omega arith) }
  alike_responds z x y g (Prints v f) (Prints w h) le is a =
      let r = into x (y + 0) f h (omega (arith, le)) a.1 in
      record { steps = 0; cost = 0; there = g; silent = (refl, refl); second_next = h; is = is ∙ ap (λ u. Prints u h) (sym a.0); measure = r.0; related = r.1 }
  alike_responds z x y g (Calls u entry i f) (Calls u' entry' i' h) le is a = record {
    steps = 0;
    cost = 0;
    there = g;
    silent = (refl, refl);
    second_into = i';
    second_next = h;
    is = is ∙ ap (λ v. Calls v entry' i' h) (sym a.0) ∙ ap (λ v. Calls u v i' h) (sym a.1);
    related = λ answer fits. into x (y + 0) (resumed i answer f) (resumed i' answer h) (omega (arith, le)) (a.2 answer fits);
  }
  alike_responds z x y g (Returns answer) (Returns answer') le is a =
      record { steps = 0; cost = 0; there = g; silent = (refl, refl); is = is ∙ ap Returns (sym a); cheaper = λ _. omega (arith, le) }
  alike_responds z x y g (Traps k n) (Traps l m) le is a =
      record { steps = 0; cost = 0; there = g; silent = (refl, refl); counted = m; is = is ∙ ap (λ u. Traps u m) (sym a) }
  alike_responds z x y g _ _ le is a = absurd a

-- silent steps may come before a response; where there are none, the measure may not rise
pub responds_past : (P : Type 0) (R : Relation) (d : Code) (j n z w x y : ℕ) (g h : Frame) (t : Transition)
    → Silently d j g h n → (1 ≤ j) ⊎ (z ≤ w) → Responds P R d z x (y + n) h t → Responds P R d w x y g t
responds_past P R d j n z w x y g h (Continues i f) silent ready a = record {
  steps = j + a.steps;
  cost = n + a.cost;
  there = a.there;
  silent = silently_trans d j a.steps g h a.there n a.cost silent a.silent;
  measure = a.measure;
  related = subst (λ counted. R a.measure (x + i) counted f a.there) (omega arith) a.related;
  moves = moves ready a.moves;
}
  where
    moves : (1 ≤ j) ⊎ (z ≤ w) → (1 ≤ a.steps) ⊎ (a.measure < z) → (1 ≤ j + a.steps) ⊎ (a.measure < w)
    moves (inl some) _ = inl (omega arith)
    moves (inr low) (inl some) = inl (omega arith)
    moves (inr low) (inr falls) = inr (omega arith)
responds_past P R d j n z w x y g h (Prints v f) silent ready a = record {
  steps = j + a.steps;
  cost = n + a.cost;
  there = a.there;
  silent = silently_trans d j a.steps g h a.there n a.cost silent a.silent;
  second_next = a.second_next;
  is = a.is;
  measure = a.measure;
  related = subst (λ counted. R a.measure x counted f a.second_next) (omega arith) a.related;
}
responds_past P R d j n z w x y g h (Calls u entry i f) silent ready a = record {
  steps = j + a.steps;
  cost = n + a.cost;
  there = a.there;
  silent = silently_trans d j a.steps g h a.there n a.cost silent a.silent;
  second_into = a.second_into;
  second_next = a.second_next;
  is = a.is;
  related = λ answer fits.
      let r = a.related answer fits in
      (r.0, subst (λ counted. R r.0 x counted (resumed i answer f) (resumed a.second_into answer a.second_next)) (omega arith) r.1);
}
responds_past P R d j n z w x y g h (Returns answer) silent ready a = record {
  steps = j + a.steps;
  cost = n + a.cost;
  there = a.there;
  silent = silently_trans d j a.steps g h a.there n a.cost silent a.silent;
  is = a.is;
  cheaper = λ p. omega (arith, a.cheaper p);
}
responds_past P R d j n z w x y g h (Traps kind i) silent ready a = record {
  steps = j + a.steps;
  cost = n + a.cost;
  there = a.there;
  silent = silently_trans d j a.steps g h a.there n a.cost silent a.silent;
  counted = a.counted;
  is = a.is;
}

-- one more silent step, which counts nothing, may come before a response
pub responds_after : (P : Type 0) (R : Relation) (d : Code) (z w x y : ℕ) (g h : Frame) (t : Transition)
    → d g ≡ Continues 0 h → Responds P R d z x y h t → Responds P R d w x y g t
responds_after P R d z w x y g h t is a =
    let same : y ≡ y + 0 = omega arith in
    responds_past P R d 1 0 z w x y g h t (h, 0, 0, is, (refl, refl), omega arith) (inl (omega arith)) (subst (λ counted. Responds P R d z x counted h t) same a)
