-- A sinking of a graph that steps have made of a source, seen from the source: what goes is put on the path, or delayed
-- past all of it and along each way to each join.
use Rattle.std.proofs.Common.{◌≡◌, ℕ, Bool, true, false, List, [], ◌∷◌, ◌++◌, flat_map, Option, inl, inr, refl, sym, ap, ◌∙◌, subst, append_assoc}
use Rattle.std.proofs.lemmas.Bool.{cases_Bool}
use Rattle.std.proofs.lemmas.List.Concat.{flat_map-append}
use Rattle.path_images.specs.Ends.{IsEndOf, end_itself, end_through, latest}
use Rattle.path_images.specs.Walks.{lift_end}
use Rattle.path_images.specs.Images.{Ask, Is}
use Rattle.path_images.specs.Order.{Clash, clash_alike}
use Rattle.path_images.specs.Keeping.{IsLate, IsPut, SameBefore}
use Rattle.path_images.specs.Composed.{lift_both, over_both}
use Rattle.path_images.specs.Sunk.{Goes, IsOneSinking, Pending, Put, Since, from_new, from_old, late_since, over, pending, sunk_image}
use Rattle.path_images.specs.Sunk as sunk

module _ (P : Type 0) (Walk : List ℕ → Type 0) (does : Ask P → ℕ → Bool) (firm : ℕ → Bool)
    (WalkH : List ℕ → Type 0) (overH : ℕ → List ℕ) (doesH : Ask P → ℕ → Bool) (fromH : List ℕ → List ℕ)
    (lifts : (path : List ℕ) → Walk path → WalkH (flat_map overH path)) (entry : (s : ℕ) → (front : List ℕ) × (node : ℕ) × (overH s ≡ front ++ (node ∷ [])))
    (pat : Ask P → P → Bool) (old gone : ℕ → Bool) (late : ℕ → ℕ → Option P) (chain : ℕ → List ℕ) (what : ℕ → P) (does2 : Ask P → ℕ → Bool) (sink : IsOneSinking P WalkH doesH pat old gone late chain what does2)
    (firm_new : (n c : ℕ) (rest : List ℕ) → IsEndOf (c ∷ rest) (chain n) → firm c ≡ false) (firm_kept : (n : ℕ) → firm n ≡ true → gone n ≡ false) where
  abbrev liftH : List ℕ → List ℕ
  liftH = flat_map overH

  abbrev over1 : ℕ → List ℕ
  over1 = over P WalkH doesH pat old gone late chain what does2

  abbrev lift1 : List ℕ → List ℕ
  lift1 = flat_map over1

  abbrev from1 : List ℕ → List ℕ
  from1 = sunk.from P WalkH doesH pat old gone late chain what does2

  abbrev over2 : ℕ → List ℕ
  over2 = over_both over1 overH

  abbrev from2 : List ℕ → List ℕ
  from2 = λ l. fromH (from1 l)

  abbrev Stays : List ℕ → ℕ → List ℕ → Type 0
  Stays path m rest = IsPut P firm doesH fromH over2 does2 from2 path m rest

  module _ (path : List ℕ) (m : ℕ) (rest : List ℕ) (walk : Walk path) (at : IsEndOf (m ∷ rest) (liftH path)) where
    walk_h : WalkH (liftH path)
    walk_h = lifts path walk

    walk_m : WalkH (m ∷ rest)
    walk_m = sink.shorter at.0 m rest (subst WalkH at.1 walk_h)

    up : (end h : List ℕ) → IsEndOf h (liftH path) → IsEndOf end (lift1 h) → IsEndOf end (flat_map over2 path)
    up end h low inside = subst (IsEndOf end) (sym (lift_both over1 overH path)) (lift_end over1 end h (liftH path) low inside)

    -- what is kept stays
    stays : gone m ≡ false → Stays path m rest
    stays kept = record {
      node = m;
      before = chain m ++ lift1 rest;
      at = up (m ∷ (chain m ++ lift1 rest)) (m ∷ rest) at (end_itself (lift1 (m ∷ rest)));
      same = ap fromH (from_old P WalkH doesH pat old gone late chain what does2 sink m rest walk_m);
      alike = sink.does_kept m rest walk_m kept;
      firm_same = refl;
    }

    module _ (g : Goes P WalkH doesH pat old gone late chain what does2 m) (not_firm : firm m ≡ false) (none : Stays path m rest → ⊥) where
      -- where it is put it stands
      no_put : (n : ℕ) (before : List ℕ) → IsEndOf (n ∷ before) (liftH path)
          → latest (doesH (Is g.pattern)) before ≡ m ∷ rest
          → Put P WalkH doesH pat old gone late chain what does2 g.pattern n → ⊥
      no_put n before low last put =
          let walk_n : WalkH (n ∷ before) = sink.shorter low.0 n before (subst WalkH low.1 walk_h) in
          let inside : IsEndOf (put.node ∷ (put.rest ++ lift1 before)) (lift1 (n ∷ before)) = (n ∷ put.at.0, ap (λ l. n ∷ (l ++ lift1 before)) put.at.1 ∙ ap (λ l. n ∷ l) (append_assoc put.at.0 (put.node ∷ put.rest) (lift1 before))) in
          none (record {
            node = put.node;
            before = put.rest ++ lift1 before;
            at = up (put.node ∷ (put.rest ++ lift1 before)) (n ∷ before) low inside;
            same = ap fromH (from_new P WalkH doesH pat old gone late chain what does2 sink n put.node put.rest before walk_n put.at ∙ ap (λ w. latest (doesH (Is w)) before) put.is ∙ last);
            alike = λ q. sink.does_new n put.node put.rest put.at q ∙ ap (pat q) put.is ∙ sym (sink.occurs m g.pattern g.is q);
            firm_same = firm_new n put.node put.rest put.at ∙ sym not_firm;
          })

      abbrev PendingOn : List ℕ → Type 0
      PendingOn f = Pending P WalkH doesH pat old gone late chain what does2 sink m rest g f

      pending_on : (h : List ℕ) → WalkH h → IsEndOf h (liftH path) → (f : IsEndOf (m ∷ rest) h) → PendingOn f.0
      pending_on h walk_to low f = pending P WalkH doesH pat old gone late chain what does2 sink m rest g f.0 (subst WalkH f.1 walk_to)
          (λ n before at_n under last put. no_put n before (end_through (n ∷ before) h (liftH path) (subst (IsEndOf (n ∷ before)) (sym f.1) at_n) low) last put)

      pub is_delayed : IsLate P Walk overH doesH path m rest
      is_delayed = record {
        free = λ k krest at_k under clash. (pending_on (liftH path) walk_h (end_itself (liftH path)) at).free k krest (subst (IsEndOf (k ∷ krest)) at.1 at_k) under (as_pattern (λ q. doesH q k) clash);
        ways = λ e s b is low b' walk_s. way e s b is low b' walk_s;
      }
        where
          as_pattern : (other : Ask P → Bool) → Clash P (λ q. doesH q m) other → Clash P (λ q. pat q g.pattern) other
          as_pattern other clash = clash_alike P (λ q. doesH q m) other (λ q. pat q g.pattern) other (λ q. sym (sink.occurs m g.pattern g.is q)) (λ q. refl) clash

          way : (e : List ℕ) (s : ℕ) (b : List ℕ) → path ≡ e ++ (s ∷ b) → IsEndOf (m ∷ rest) (liftH b) → (b' : List ℕ)
              → Walk (s ∷ b') → SameBefore P overH doesH (λ q. doesH q m) b'
          way e s b is low b' walk_s =
              let i = entry s in
              let cut = (x : List ℕ) → overH s ++ liftH x ≡ i.0 ++ (i.1 ∷ liftH x) in
              let front : cut = λ x. ap (λ l. l ++ liftH x) i.2 ∙ append_assoc i.0 (i.1 ∷ []) (liftH x) in
              let whole : liftH path ≡ (liftH e ++ i.0) ++ (i.1 ∷ liftH b) = ap liftH is ∙ flat_map-append overH e (s ∷ b) ∙ ap (λ l. liftH e ++ l) (front b) ∙ sym (append_assoc (liftH e) i.0 (i.1 ∷ liftH b)) in
              let walk_i : WalkH (i.1 ∷ liftH b) = sink.shorter (liftH e ++ i.0) i.1 (liftH b) (subst WalkH whole walk_h) in
              let walk_b : WalkH (liftH b) = subst WalkH (sym low.1) (inner low.0 i.1 (subst (λ l. WalkH (i.1 ∷ l)) low.1 walk_i)) in
              let pend = pending_on (liftH b) walk_b (end_through (liftH b) (i.1 ∷ liftH b) (liftH path) (i.1 ∷ [], refl) (liftH e ++ i.0, whole)) low in
              let is_late = pend.next i.1 (subst (λ l. WalkH (i.1 ∷ l)) low.1 walk_i) in
              let walk_i' : WalkH (i.1 ∷ liftH b') = sink.shorter i.0 i.1 (liftH b') (subst WalkH (front b') (lifts (s ∷ b') walk_s)) in
              let r = late_since P WalkH doesH pat old gone late chain what does2 sink i.1 g.var (liftH b') g.pattern walk_i' is_late in
              record {
                node = r.node;
                rest = r.rest;
                at = r.at;
                alike = λ q. sink.occurs r.node g.pattern r.is q ∙ sym (sink.occurs m g.pattern g.is q);
                free = λ k krest at_k under clash. r.free k krest at_k under (clash_alike P (λ q. doesH q r.node) (λ q. doesH q k) (λ q. pat q g.pattern) (λ q. doesH q k) (λ q. sym (sink.occurs r.node g.pattern r.is q)) (λ q. refl) clash);
              }
            where
              inner : (f : List ℕ) (n : ℕ) → WalkH (n ∷ (f ++ (m ∷ rest))) → WalkH (f ++ (m ∷ rest))
              inner [] n w = sink.shorter (n ∷ []) m rest w
              inner (k ∷ f) n w = sink.shorter (n ∷ []) k (f ++ (m ∷ rest)) w

  -- what is firm stays
  pub firm_stays : (path : List ℕ) (m : ℕ) (rest : List ℕ) → Walk path → IsEndOf (m ∷ rest) (liftH path) → firm m ≡ true → Stays path m rest
  firm_stays path m rest walk at is = stays path m rest walk at (firm_kept m is)

  -- and what is not firm stays, or is put, or is delayed past the path
  pub stays_or_late : (path : List ℕ) (m : ℕ) (rest : List ℕ) → Walk path → IsEndOf (m ∷ rest) (liftH path)
      → firm m ≡ false → (Stays path m rest → ⊥) → (IsLate P Walk overH doesH path m rest → ⊥) → ⊥
  stays_or_late path m rest walk at not none no_late = elim (cases_Bool (gone m)) [
    | inl is ↦ no_late (is_delayed path m rest walk at (sink.goes m is) not none)
    | inr kept ↦ none (stays path m rest walk at kept)
  ]
