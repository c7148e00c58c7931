-- Steps one after the other: an image of an image is an image of the source.
use Rattle.std.proofs.Common.{◌≡◌, ◌⊎◌, ℕ, Bool, true, List, [], ◌∷◌, ◌++◌, length, flat_map, inl, inr, refl, sym, ap, ◌∙◌, subst, arith, append_assoc}
use Rattle.std.proofs.lemmas.Bool.{cases_lt}
use Rattle.std.proofs.lemmas.List.{append_cancel_right}
use Rattle.std.proofs.lemmas.List.Concat.{flat_map-append}
use Rattle.path_images.specs.Ends.{IsCons, IsEndOf, cons_first, empty_or, end_itself, end_length, end_rest, end_through, ends_compare, ends_one, latest, latest_end, latest_so, longer_end, longer_rest, rest_of}
use Rattle.path_images.specs.Walks.{lift_end, oldest}
use Rattle.path_images.specs.Images.{Acts, Ask, BothFrom, IsImage, Origin, Reads, Sets, from_before, from_behind}
use Rattle.path_images.specs.Order.{writes_in_order}

-- what stands for what stands for a node
abbrev pub over_both : (ℕ → List ℕ) → (ℕ → List ℕ) → ℕ → List ℕ
over_both over1 over n = flat_map over1 (over n)

-- to take a path over by both is to take it over by one and then by the other
pub lift_both : (over1 over : ℕ → List ℕ) (path : List ℕ) → flat_map (over_both over1 over) path ≡ flat_map over1 (flat_map over path)
lift_both over1 over [] = refl
lift_both over1 over (n ∷ path) = ap (λ l. flat_map over1 (over n) ++ l) (lift_both over1 over path) ∙ sym (flat_map-append over1 (over n) (flat_map over path))

module _ (P : Type 0) (Walk : List ℕ → Type 0) (does : Ask P → ℕ → Bool) (firm : ℕ → Bool)
    (WalkH : List ℕ → Type 0) (over : ℕ → List ℕ) (doesH : Ask P → ℕ → Bool) (from : List ℕ → List ℕ) (imageH : IsImage P Walk does firm over doesH from)
    (shorter : (f : List ℕ) (n : ℕ) (p : List ℕ) → Walk (f ++ (n ∷ p)) → Walk (n ∷ p))
    (lifts : (path : List ℕ) → Walk path → WalkH (flat_map over path))
    (over1 : ℕ → List ℕ) (does1 : Ask P → ℕ → Bool) (from1 : List ℕ → List ℕ) (image1 : IsImage P WalkH doesH firm over1 does1 from1) where
  abbrev liftH : List ℕ → List ℕ
  liftH = flat_map over

  abbrev lift1 : List ℕ → List ℕ
  lift1 = flat_map over1

  abbrev over2 : ℕ → List ℕ
  over2 = over_both over1 over

  abbrev from2 : List ℕ → List ℕ
  from2 = λ l. from (from1 l)

  -- the first of what stands for a node, on the way to it
  pub record Entry (s : ℕ) : Type 0 where
    pub front : List ℕ
    pub node : ℕ
    pub is : over s ≡ front ++ (node ∷ [])

  pub entry_of : (s : ℕ) → Entry s
  entry_of s = let i = imageH.itself s in let o = oldest s i.0 in record { front = o.front; node = o.node; is = i.1 ∙ o.is }

  -- a path through a join goes through what stands first before the join
  pub through_entry : (s : ℕ) (e b : List ℕ) (n : Entry s) → liftH (e ++ (s ∷ b)) ≡ (liftH e ++ n.front) ++ (n.node ∷ liftH b)
  through_entry s e b n = flat_map-append over e (s ∷ b) ∙ ap (λ l. liftH e ++ (l ++ liftH b)) n.is ∙ ap (λ l. liftH e ++ l) (append_assoc n.front (n.node ∷ []) (liftH b)) ∙ sym (append_assoc (liftH e) n.front (n.node ∷ liftH b))

  module _ (path : List ℕ) (k : ℕ) (rest : List ℕ) (walk : Walk path) (at : IsEndOf (k ∷ rest) (flat_map over2 path)) where
    at_1 : IsEndOf (k ∷ rest) (lift1 (liftH path))
    at_1 = subst (IsEndOf (k ∷ rest)) (lift_both over1 over path) at

    module _ (acts : Acts P WalkH doesH firm does1 k) where
      o1 : Origin P WalkH doesH firm does1 (from1 (k ∷ rest)) k (liftH path)
      o1 = image1.origin (liftH path) k rest (lifts path walk) at_1 acts

      acts_h : Acts P Walk does firm doesH o1.node
      acts_h = (acts.0, elim acts.1 [ inl r ↦ inl (sym (o1.alike (Reads acts.0)) ∙ r) | inr w ↦ inr (sym (o1.alike (Sets acts.0)) ∙ w) ])

      at_h : IsEndOf (o1.node ∷ o1.before) (liftH path)
      at_h = subst (λ l. IsEndOf l (liftH path)) o1.is o1.at

      o2 : Origin P Walk does firm doesH (from (o1.node ∷ o1.before)) o1.node path
      o2 = imageH.origin path o1.node o1.before walk at_h acts_h

      both_origin : Origin P Walk does firm does1 (from2 (k ∷ rest)) k path
      both_origin = record {
        at = subst (λ l. IsEndOf (from l) path) (sym o1.is) o2.at;
        node = o2.node;
        before = o2.before;
        is = ap from o1.is ∙ o2.is;
        alike = λ q. o1.alike q ∙ o2.alike q;
        firm_same = o1.firm_same ∙ o2.firm_same;
      }

    both_read : (y : ℕ) → does1 (Reads y) k ≡ true → from2 (latest (does1 (Sets y)) rest) ≡ latest (does (Sets y)) (rest_of (from2 (k ∷ rest)))
    both_read y reads =
        let acts : Acts P WalkH doesH firm does1 k = (y, inl reads) in
        let o = o1 acts in
        ap from (image1.read (liftH path) k rest y (lifts path walk) at_1 reads ∙ ap (λ l. latest (doesH (Sets y)) (rest_of l)) o.is)
        ∙ imageH.read path o.node o.before y walk (at_h acts) (sym (o.alike (Reads y)) ∙ reads)
        ∙ ap (λ l. latest (does (Sets y)) (rest_of (from l))) (sym o.is)

    both_wrote : (y : ℕ) → does1 (Sets y) k ≡ true → IsEndOf (from2 (latest (does1 (Sets y)) rest)) (latest (does (Sets y)) (rest_of (from2 (k ∷ rest))))
    both_wrote y sets = by (empty_or u)
      where
        acts : Acts P WalkH doesH firm does1 k
        acts = (y, inr sets)

        o : Origin P WalkH doesH firm does1 (from1 (k ∷ rest)) k (liftH path)
        o = o1 acts

        u : List ℕ
        u = latest (does1 (Sets y)) rest

        goal : List ℕ
        goal = latest (does (Sets y)) (rest_of (from2 (k ∷ rest)))

        last : List ℕ
        last = latest (doesH (Sets y)) o.before

        low : IsEndOf (from last) goal
        low = subst (λ l. IsEndOf (from last) (latest (does (Sets y)) (rest_of (from l)))) (sym o.is) (imageH.wrote path o.node o.before y walk (at_h acts) (sym (o.alike (Sets y)) ∙ sets))

        inside : IsEndOf (from1 u) last
        inside = subst (λ l. IsEndOf (from1 u) (latest (doesH (Sets y)) (rest_of l))) o.is (image1.wrote (liftH path) k rest y (lifts path walk) at_1 sets)

        by : (u ≡ []) ⊎ IsCons u → IsEndOf (from (from1 u)) goal
        by (inl none) = (goal, sym (ap (λ l. goal ++ l) (ap (λ l. from (from1 l)) none ∙ ap from image1.none ∙ imageH.none) ∙ append_nil goal))
          where
            append_nil : (l : List ℕ) → l ++ [] ≡ l
            append_nil [] = refl
            append_nil (n ∷ l) = ap (λ m. n ∷ m) (append_nil l)
        by (inr c) = end_through (from (from1 u)) (from last) goal (older (empty_or last)) low
          where
            at_c : IsEndOf (c.node ∷ c.rest) (lift1 (liftH path))
            at_c = end_through (c.node ∷ c.rest) rest (lift1 (liftH path)) (subst (λ l. IsEndOf l rest) c.is (latest_end (does1 (Sets y)) rest)) (end_rest k rest (lift1 (liftH path)) at_1)

            oc : Origin P WalkH doesH firm does1 (from1 (c.node ∷ c.rest)) c.node (liftH path)
            oc = image1.origin (liftH path) c.node c.rest (lifts path walk) at_c (y, inr (latest_so (does1 (Sets y)) rest c.node c.rest c.is))

            sets_c : doesH (Sets y) oc.node ≡ true
            sets_c = sym (oc.alike (Sets y)) ∙ latest_so (does1 (Sets y)) rest c.node c.rest c.is

            u_is : from1 u ≡ oc.node ∷ oc.before
            u_is = ap from1 c.is ∙ oc.is

            inside_c : IsEndOf (oc.node ∷ oc.before) last
            inside_c = subst (λ l. IsEndOf l last) u_is inside

            at_oc : IsEndOf (oc.node ∷ oc.before) (liftH path)
            at_oc = subst (λ l. IsEndOf l (liftH path)) oc.is oc.at

            older : (last ≡ []) ⊎ IsCons last → IsEndOf (from (from1 u)) (from last)
            older (inl none) = (let l = end_length (oc.node ∷ oc.before) last inside_c in let m = ap length none in absurd (omega (arith, l, m)))
            older (inr d) = elim (cases_lt (length (oc.node ∷ oc.before)) (length last)) [
              | inl less ↦
                  let m = ap length d.is in
                  let at_d = end_through (d.node ∷ d.rest) o.before (liftH path) (subst (λ l. IsEndOf l o.before) d.is (latest_end (doesH (Sets y)) o.before)) (end_rest o.node o.before (liftH path) (at_h acts)) in
                  let sets_d = latest_so (doesH (Sets y)) o.before d.node d.rest d.is in
                  let longer = longer_end (d.node ∷ d.rest) (oc.node ∷ oc.before) (d.node ∷ d.rest) (end_itself (d.node ∷ d.rest)) (subst (IsEndOf (oc.node ∷ oc.before)) d.is inside_c) (omega (arith, less, m)) in
                  let lt = writes_in_order P Walk does firm over doesH from imageH path walk y oc.node d.node oc.before d.rest at_oc at_d sets_c sets_d (longer_rest d.node d.rest (oc.node ∷ oc.before) longer) in
                  let one = imageH.origin path oc.node oc.before walk at_oc (y, inr sets_c) in
                  let two = imageH.origin path d.node d.rest walk at_d (y, inr sets_d) in
                  let e = ends_compare (from (oc.node ∷ oc.before)) (from (d.node ∷ d.rest)) path one.at two.at (omega (arith, lt)) in
                  subst (λ l. IsEndOf (from l) (from last)) (sym u_is) (subst (λ l. IsEndOf (from (oc.node ∷ oc.before)) (from l)) (sym d.is) e)
              | inr ge ↦
                  let l = end_length (oc.node ∷ oc.before) last inside_c in
                  let same : oc.node ∷ oc.before ≡ last = ends_one (oc.node ∷ oc.before) last last inside_c (end_itself last) (omega (arith, l, ge)) in
                  subst (λ q. IsEndOf (from (from1 u)) (from q)) (u_is ∙ same) (end_itself (from (from1 u)))
            ]

    both_fixed : firm k ≡ true → Acts P WalkH doesH firm does1 k → IsEndOf (k ∷ rest) (flat_map over2 (from2 (k ∷ rest)))
    both_fixed is acts =
        let o = o1 acts in
        let first = image1.fixed (liftH path) k rest (lifts path walk) at_1 acts is in
        let second = imageH.fixed path o.node o.before walk (at_h acts) (acts_h acts) (sym o.firm_same ∙ is) in
        let up : IsEndOf (k ∷ rest) (lift1 (liftH (from (o.node ∷ o.before)))) = lift_end over1 (k ∷ rest) (o.node ∷ o.before) (liftH (from (o.node ∷ o.before))) second (subst (λ l. IsEndOf (k ∷ rest) (lift1 l)) o.is first) in
        subst (IsEndOf (k ∷ rest)) (sym (lift_both over1 over (from2 (k ∷ rest)))) (subst (λ l. IsEndOf (k ∷ rest) (lift1 (liftH (from l)))) (sym o.is) up)

  -- behind a join
  both_joins : (b b' e : List ℕ) (s k : ℕ) (d : List ℕ) → Walk (e ++ (s ∷ b)) → Walk (e ++ (s ∷ b'))
      → IsEndOf ((k ∷ d) ++ flat_map over2 b) (flat_map over2 (e ++ (s ∷ b))) → Acts P WalkH doesH firm does1 k
      → BothFrom P Walk does firm b b' (from2 ((k ∷ d) ++ flat_map over2 b)) (from2 ((k ∷ d) ++ flat_map over2 b'))
  both_joins b b' e s k d walk walk' at acts =
      subst (λ l. BothFrom P Walk does firm b b' (from2 ((k ∷ d) ++ l)) (from2 ((k ∷ d) ++ flat_map over2 b'))) (sym (lift_both over1 over b))
      (subst (λ l. BothFrom P Walk does firm b b' (from2 ((k ∷ d) ++ lift1 (liftH b))) (from2 ((k ∷ d) ++ l))) (sym (lift_both over1 over b'))
      (by (image1.joins (liftH b) (liftH b') (liftH e ++ n.front) n.node k d (subst WalkH (through_entry s e b n) (lifts (e ++ (s ∷ b)) walk)) (subst WalkH (through_entry s e b' n) (lifts (e ++ (s ∷ b')) walk')) at' acts)))
    where
      n : Entry s
      n = entry_of s

      at_1' : IsEndOf ((k ∷ d) ++ lift1 (liftH b)) (lift1 (liftH (e ++ (s ∷ b))))
      at_1' = subst (IsEndOf ((k ∷ d) ++ lift1 (liftH b))) (lift_both over1 over (e ++ (s ∷ b))) (subst (λ l. IsEndOf ((k ∷ d) ++ l) (flat_map over2 (e ++ (s ∷ b)))) (lift_both over1 over b) at)

      at' : IsEndOf ((k ∷ d) ++ lift1 (liftH b)) (lift1 ((liftH e ++ n.front) ++ (n.node ∷ liftH b)))
      at' = subst (λ l. IsEndOf ((k ∷ d) ++ lift1 (liftH b)) (lift1 l)) (through_entry s e b n) at_1'

      oo : Origin P WalkH doesH firm does1 (from1 ((k ∷ d) ++ lift1 (liftH b))) k (liftH (e ++ (s ∷ b)))
      oo = image1.origin (liftH (e ++ (s ∷ b))) k (d ++ lift1 (liftH b)) (lifts (e ++ (s ∷ b)) walk) at_1' acts

      acts_o : Acts P Walk does firm doesH oo.node
      acts_o = (acts.0, elim acts.1 [ inl r ↦ inl (sym (oo.alike (Reads acts.0)) ∙ r) | inr w ↦ inr (sym (oo.alike (Sets acts.0)) ∙ w) ])

      -- the same on the other way
      at_other : IsEndOf ((k ∷ d) ++ lift1 (liftH b')) (lift1 (liftH (e ++ (s ∷ b'))))
      at_other =
          let part = lift1 (liftH (e ++ (s ∷ []))) in
          let whole = (x : List ℕ) → lift1 (liftH (e ++ (s ∷ x))) ≡ part ++ lift1 (liftH x) in
          let cut : whole = λ x. ap (λ l. lift1 (liftH l)) (sym (append_assoc e (s ∷ []) x)) ∙ ap lift1 (flat_map-append over (e ++ (s ∷ [])) x) ∙ flat_map-append over1 (liftH (e ++ (s ∷ []))) (liftH x) in
          let front : part ≡ at_1'.0 ++ (k ∷ d) = append_cancel_right part (at_1'.0 ++ (k ∷ d)) (lift1 (liftH b)) (sym (cut b) ∙ at_1'.1 ∙ sym (append_assoc at_1'.0 (k ∷ d) (lift1 (liftH b)))) in
          (at_1'.0, cut b' ∙ ap (λ l. l ++ lift1 (liftH b')) front ∙ append_assoc at_1'.0 (k ∷ d) (lift1 (liftH b')))

      oo' : Origin P WalkH doesH firm does1 (from1 ((k ∷ d) ++ lift1 (liftH b'))) k (liftH (e ++ (s ∷ b')))
      oo' = image1.origin (liftH (e ++ (s ∷ b'))) k (d ++ lift1 (liftH b')) (lifts (e ++ (s ∷ b')) walk') at_other acts

      acts_o' : Acts P Walk does firm doesH oo'.node
      acts_o' = (acts.0, elim acts.1 [ inl r ↦ inl (sym (oo'.alike (Reads acts.0)) ∙ r) | inr w ↦ inr (sym (oo'.alike (Sets acts.0)) ∙ w) ])

      low : (b0 : List ℕ) (m : ℕ) (rest : List ℕ) → Walk (e ++ (s ∷ b0)) → IsEndOf (m ∷ rest) (liftH b0)
          → Acts P Walk does firm doesH m → IsEndOf (from (m ∷ rest)) b0
      low [] m rest w at_l acts_l = (let l = end_length (m ∷ rest) [] at_l in absurd (omega (arith, l)))
      low (n0 ∷ r) m rest w at_l acts_l = (imageH.origin (n0 ∷ r) m rest (shorter (e ++ (s ∷ [])) n0 r (subst Walk (sym (append_assoc e (s ∷ []) (n0 ∷ r))) w)) at_l acts_l).at

      by : BothFrom P WalkH doesH firm (liftH b) (liftH b') (from1 ((k ∷ d) ++ lift1 (liftH b))) (from1 ((k ∷ d) ++ lift1 (liftH b')))
          → BothFrom P Walk does firm b b' (from (from1 ((k ∷ d) ++ lift1 (liftH b)))) (from (from1 ((k ∷ d) ++ lift1 (liftH b'))))
      by (from_before p p') =
          from_before (subst (λ l. IsEndOf (from l) b) (sym oo.is) (low b oo.node oo.before walk (subst (λ l. IsEndOf l (liftH b)) oo.is p) acts_o))
          (subst (λ l. IsEndOf (from l) b') (sym oo'.is) (low b' oo'.node oo'.before walk' (subst (λ l. IsEndOf l (liftH b')) oo'.is p') acts_o'))
      by (from_behind g front p p') =
          let at_g : IsEndOf ((g ∷ front) ++ liftH b) (liftH (e ++ (s ∷ b))) = subst (λ l. IsEndOf l (liftH (e ++ (s ∷ b)))) p oo.at in
          let node : oo.node ≡ g = cons_first oo.node g oo.before (front ++ liftH b) (sym oo.is ∙ p) in
          subst (λ l. BothFrom P Walk does firm b b' (from l) (from (from1 ((k ∷ d) ++ lift1 (liftH b'))))) (sym p)
          (subst (λ l. BothFrom P Walk does firm b b' (from ((g ∷ front) ++ liftH b)) (from l)) (sym p')
          (imageH.joins b b' e s g front walk walk' at_g (subst (Acts P Walk does firm doesH) node acts_o)))

  -- an image of an image is an image
  pub composed : IsImage P Walk does firm over2 does1 from2
  composed = record {
    none = ap from image1.none ∙ imageH.none;
    itself = λ n. itself n;
    origin = λ path k rest walk at acts. both_origin path k rest walk at acts;
    read = λ path k rest y walk at reads. both_read path k rest walk at y reads;
    wrote = λ path k rest y walk at sets. both_wrote path k rest walk at y sets;
    joins = λ b b' e s k d walk walk' at acts. both_joins b b' e s k d walk walk' at acts;
    assignment = λ k acts not. image1.assignment k acts not;
    firm_alike = λ n is q. image1.firm_alike n is q ∙ imageH.firm_alike n is q;
    fixed = λ path k rest walk at acts is. both_fixed path k rest walk at is acts;
  }
    where
      itself : (n : ℕ) → (chain : List ℕ) × (over2 n ≡ n ∷ chain)
      itself n =
          let i = imageH.itself n in
          let j = image1.itself n in
          (j.0 ++ lift1 i.0, ap lift1 i.1 ∙ ap (λ l. l ++ lift1 i.0) j.1)
