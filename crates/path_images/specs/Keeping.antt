-- A sinking keeps a graph above one at rest: whatever still stands there, still stands in the graph after the sinking.
use Rattle.std.proofs.Common.{◌≡◌, ◌⊎◌, ℕ, Bool, true, false, List, [], ◌∷◌, ◌++◌, length, flat_map, inl, inr, refl, sym, ap, ◌∙◌, subst, arith, append_assoc}
use Rattle.std.proofs.lemmas.Bool.{cases_Bool, cases_lt}
use Rattle.path_images.specs.Ends.{IsEndOf, IsLonger, cons_first, cons_rest, end_itself, end_length, end_past, end_rest, end_through, ends_compare, longer_end, longer_length}
use Rattle.path_images.specs.Walks.{IsLoose, Place, along, beyond, both, lift_end, loose_first, oldest, place_of, within}
use Rattle.path_images.specs.Images.{Acts, Ask, IsAbove, IsImage, NoneDead, Reads, Sets, Stands}
use Rattle.path_images.specs.Order.{Clash, clash_acts, clash_alike, clash_back, in_order, one_place, stands_later}
use Rattle.path_images.specs.Passing.{Partner, Passed, other_end, passed}

-- on the path b stands a node that does what is asked, and no node behind it there blocks it
pub record SameBefore (P : Type 0) (over : ℕ → List ℕ) (doesX : Ask P → ℕ → Bool)
    (ask : Ask P → Bool) (b : List ℕ) : Type 0 where
  pub node : ℕ
  pub rest : List ℕ
  pub at : IsEndOf (node ∷ rest) (flat_map over b)
  pub alike : (q : Ask P) → doesX q node ≡ ask q
  pub free : (g : ℕ) (grest : List ℕ) → IsEndOf (g ∷ grest) (flat_map over b)
      → IsEndOf (node ∷ rest) grest → Clash P (λ q. doesX q node) (λ q. doesX q g) → ⊥

-- after the sinking it stands on the path
pub record IsPut (P : Type 0) (firm : ℕ → Bool) (doesH : Ask P → ℕ → Bool) (fromH : List ℕ → List ℕ)
    (over' : ℕ → List ℕ) (does' : Ask P → ℕ → Bool) (from' : List ℕ → List ℕ) (path : List ℕ)
    (k : ℕ) (rest : List ℕ) : Type 0 where
  pub node : ℕ
  pub before : List ℕ
  pub at : IsEndOf (node ∷ before) (flat_map over' path)
  pub same : from' (node ∷ before) ≡ fromH (k ∷ rest)
  pub alike : (q : Ask P) → does' q node ≡ doesH q k
  pub firm_same : firm node ≡ firm k

-- or it is delayed past the whole path: nothing behind it on the path blocks it, and where the path passes a join, it
-- comes to the join along each way
pub record IsLate (P : Type 0) (Walk : List ℕ → Type 0) (overH : ℕ → List ℕ)
    (doesH : Ask P → ℕ → Bool) (path : List ℕ) (k : ℕ) (rest : List ℕ) : Type 0 where
  pub free : (g : ℕ) (grest : List ℕ) → IsEndOf (g ∷ grest) (flat_map overH path)
      → IsEndOf (k ∷ rest) grest → Clash P (λ q. doesH q k) (λ q. doesH q g) → ⊥
  pub ways : (e : List ℕ) (s : ℕ) (b : List ℕ) → path ≡ e ++ (s ∷ b)
      → IsEndOf (k ∷ rest) (flat_map overH b)
      → (b' : List ℕ) → Walk (s ∷ b') → SameBefore P overH doesH (λ q. doesH q k) b'

-- why a round does not take it past the next firm node
pub data Stop (P : Type 0) (Walk : List ℕ → Type 0) (does : Ask P → ℕ → Bool) (firm : ℕ → Bool)
    (overZ : ℕ → List ℕ) (doesZ : Ask P → ℕ → Bool) (p : List ℕ) (k : ℕ)
    (zrest : List ℕ) : Type 0 where
  at_firm : (on : List ℕ) → Walk (on ++ p) → IsLoose firm on p → (f : ℕ) (fq : List ℕ)
      → on ++ p ≡ f ∷ fq
      → firm f
      ≡ true → Clash P (λ q. doesZ q k) (λ q. does q f)
      → Stop P Walk does firm overZ doesZ p k zrest
  at_assignment : (on : List ℕ) → Walk (on ++ p) → IsLoose firm on p → (g : ℕ) (grest : List ℕ)
      → IsEndOf (g ∷ grest) (flat_map overZ (on ++ p)) → IsEndOf (k ∷ zrest) grest
      → Clash P (λ q. doesZ q k) (λ q. doesZ q g)
      → Stop P Walk does firm overZ doesZ p k zrest
  at_join : (s : ℕ) (on : List ℕ) → Walk (s ∷ (on ++ p)) → IsLoose firm (s ∷ on) p
      → ((g : ℕ) (grest : List ℕ) → IsEndOf (g ∷ grest) (flat_map overZ (on ++ p))
      → IsEndOf (k ∷ zrest) grest → Clash P (λ q. doesZ q k) (λ q. doesZ q g) → ⊥)
      → (((b : List ℕ) → Walk (s ∷ b) → (SameBefore P overZ doesZ (λ q. doesZ q k) b → ⊥) → ⊥) → ⊥)
      → Stop P Walk does firm overZ doesZ p k zrest

module _ (P : Type 0) (Walk : List ℕ → Type 0) (does : Ask P → ℕ → Bool) (firm : ℕ → Bool)
    (shorter : (f : List ℕ) (n : ℕ) (p : List ℕ) → Walk (f ++ (n ∷ p)) → Walk (n ∷ p))
    (single : (a c n : ℕ) (p : List ℕ) → Walk (a ∷ n ∷ p) → Walk (c ∷ n ∷ p) → firm n ≡ false → a ≡ c)
    (joint : (e : List ℕ) (s : ℕ) (b b' : List ℕ) → Walk (e ++ (s ∷ b)) → Walk (s ∷ b') → Walk (e ++ (s ∷ b')))
    (unentered : (s n : ℕ) (b : List ℕ) → Walk (s ∷ n ∷ b) → Walk (s ∷ []) → ⊥)
    (overZ : ℕ → List ℕ) (doesZ : Ask P → ℕ → Bool) (fromZ : List ℕ → List ℕ) (imageZ : IsImage P Walk does firm overZ doesZ fromZ) (none_dead : NoneDead P Walk does firm overZ doesZ)
    (overH : ℕ → List ℕ) (doesH : Ask P → ℕ → Bool) (fromH : List ℕ → List ℕ) (imageH : IsImage P Walk does firm overH doesH fromH)
    (above : IsAbove P Walk does firm overH doesH fromH overZ doesZ fromZ) where
  abbrev liftZ : List ℕ → List ℕ
  liftZ = flat_map overZ

  abbrev liftH : List ℕ → List ℕ
  liftH = flat_map overH

  -- what stands on both ways to a join, told of one of the ways: in Z before the join, and in H where it came from the
  -- same place. Where `mine` is its partner on this way, what is behind the one is behind the other
  pub record Across (s : ℕ) (b b' mine : List ℕ) (ask : Ask P → Bool) : Type 0 where
    pub node : ℕ
    pub rest : List ℕ
    pub at : IsEndOf (node ∷ rest) (liftZ b')
    pub alike : (q : Ask P) → doesZ q node ≡ ask q
    pub e : List ℕ
    pub walk : Walk (e ++ (s ∷ b'))
    pub h : ℕ
    pub hrest : List ℕ
    pub at_h : IsEndOf (h ∷ hrest) (liftH (e ++ (s ∷ b')))
    pub same : fromZ (node ∷ rest) ≡ fromH (h ∷ hrest)
    pub alike_h : (q : Ask P) → doesH q h ≡ ask q
    pub clear : (g : ℕ) (grest : List ℕ) → IsEndOf (g ∷ grest) (liftH b') → IsEndOf (h ∷ hrest) grest → Clash P (λ q. doesH q h) (λ q. doesH q g) → ⊥
    pub back : (ds : List ℕ) → IsEndOf (h ∷ hrest) (ds ++ liftH b') → IsEndOf mine (ds ++ liftH b)

  -- what is in Z before the join is not behind it too
  pub not_over : (s : ℕ) (b b' e zv : List ℕ) (node : ℕ) (rest : List ℕ) → IsEndOf zv (liftZ b)
      → IsEndOf (node ∷ rest) (liftZ (e ++ (s ∷ b')))
      → ((d : ℕ) (ds : List ℕ) → node ∷ rest ≡ (d ∷ ds) ++ liftZ b' → zv ≡ (d ∷ ds) ++ liftZ b)
      → IsEndOf (node ∷ rest) (liftZ b')
  not_over s b b' e zv node rest low at stays = elim (cases_lt (length (liftZ b')) (length (node ∷ rest))) [
    | inl less ↦
        let l = longer_end (node ∷ rest) (liftZ b') (liftZ (e ++ (s ∷ b'))) at base less in
        let over = stays l.node l.front l.is in
        let m = longer_length zv (liftZ b) (record { node = l.node; front = l.front; is = over }) in
        let n = end_length zv (liftZ b) low in
        absurd (omega (arith, m, n))
    | inr ge ↦ ends_compare (node ∷ rest) (liftZ b') (liftZ (e ++ (s ∷ b'))) at base ge
  ]
    where
      base : IsEndOf (liftZ b') (liftZ (e ++ (s ∷ b')))
      base = lift_end overZ (liftZ b') b' (e ++ (s ∷ b')) (end_past e b' (s ∷ b') (s ∷ [], refl)) (end_itself (liftZ b'))

  -- ---- it is known by where it came from

  module _ (n : ℕ) (q : List ℕ) (st_on : List ℕ) where
    -- two assignments of one variable, one on a way on without firm nodes, from one place
    pub one_of : (y k g : ℕ) (rest grest f : List ℕ) → IsLoose firm st_on (n ∷ q) → Walk (st_on ++ (n ∷ q))
        → Walk (f ++ (n ∷ q)) → IsEndOf (k ∷ rest) (liftH (f ++ (n ∷ q)))
        → IsEndOf (g ∷ grest) (liftH (st_on ++ (n ∷ q)))
        → doesH (Sets y) k ≡ true → doesH (Sets y) g ≡ true → fromH (k ∷ rest) ≡ fromH (g ∷ grest) → k ∷ rest ≡ g ∷ grest
    one_of y k g rest grest f loose walk walk_f at_k at_g set_k set_g same =
        let bo = both Walk firm shorter single st_on f n q loose walk walk_f in
        one_place P Walk does firm overH doesH fromH imageH bo.path bo.walk y k g rest grest (lift_end overH (k ∷ rest) (f ++ (n ∷ q)) bo.path bo.other at_k) (lift_end overH (g ∷ grest) (st_on ++ (n ∷ q)) bo.path bo.one at_g) set_k set_g same

  -- ---- the second half: behind its partner nothing blocks it

  module _ (s b1_node b2_node : ℕ) (b1_rest b2_rest : List ℕ) (walk_s : Walk (s ∷ b1_node ∷ b1_rest)) (walk_s2 : Walk (s ∷ b2_node ∷ b2_rest))
      (k : ℕ) (zrest : List ℕ) (at_z : IsEndOf (k ∷ zrest) (liftZ (b1_node ∷ b1_rest))) (h0 : ℕ) (hrest0 : List ℕ) (came0 : fromH (h0 ∷ hrest0) ≡ fromZ (k ∷ zrest)) (alike0 : (q : Ask P) → doesH q h0 ≡ doesZ q k)
      (free : (g : ℕ) (grest : List ℕ) → IsEndOf (g ∷ grest) (liftZ (b1_node ∷ b1_rest)) → IsEndOf (k ∷ zrest) grest → Clash P (λ q. doesZ q k) (λ q. doesZ q g) → ⊥)
      (ac : Across s (b1_node ∷ b1_rest) (b2_node ∷ b2_rest) (h0 ∷ hrest0) (λ q. doesZ q k)) where
    abbrev b1 : List ℕ
    b1 = b1_node ∷ b1_rest

    abbrev b2 : List ℕ
    b2 = b2_node ∷ b2_rest

    walk_b1 : Walk b1
    walk_b1 = shorter (s ∷ []) b1_node b1_rest walk_s

    walk_b2 : Walk b2
    walk_b2 = shorter (s ∷ []) b2_node b2_rest walk_s2

    to_1 : (e : List ℕ) → Walk (e ++ (s ∷ b2)) → Walk (e ++ (s ∷ b1))
    to_1 e w = joint e s b2 b1 w walk_s

    module _ (g : ℕ) (grest : List ℕ) (at_g : IsEndOf (g ∷ grest) (liftZ b2)) (under : IsEndOf (ac.node ∷ ac.rest) grest) (clash : Clash P (λ q. doesZ q ac.node) (λ q. doesZ q g)) where
      acts_g : Acts P Walk does firm doesZ g
      acts_g = clash_acts P Walk does firm overZ doesZ fromZ imageZ g (λ q. doesZ q ac.node) (clash_back P (λ q. doesZ q ac.node) (λ q. doesZ q g) clash)

      pl : Place overZ (g ∷ grest) b2
      pl = place_of overZ g grest b2 at_g

      abbrev pg : List ℕ
      pg = pl.node ∷ pl.before

      abbrev f : List ℕ
      f = pl.part.0

      b2_is : b2 ≡ f ++ pg
      b2_is = pl.part.1

      walk_f : Walk (f ++ pg)
      walk_f = subst Walk b2_is walk_b2

      walk_pg : Walk pg
      walk_pg = shorter f pl.node pl.before walk_f

      module _ (sg : Stands P Walk does firm overH doesH fromH doesZ (fromZ (g ∷ grest)) g pg) where
        abbrev hj : List ℕ
        hj = sg.node ∷ sg.before

        clash_h : Clash P (λ q. doesH q ac.h) (λ q. doesH q sg.node)
        clash_h = clash_alike P (λ q. doesZ q ac.node) (λ q. doesZ q g) (λ q. doesH q ac.h) (λ q. doesH q sg.node) (λ q. ac.alike_h q ∙ sym (ac.alike q)) sg.alike clash

        -- in H too it is behind the partner
        under_h : IsEndOf (ac.h ∷ ac.hrest) sg.before
        under_h =
            let path_is : ac.e ++ (s ∷ b2) ≡ (ac.e ++ (s ∷ f)) ++ pg = ap (λ l. ac.e ++ (s ∷ l)) b2_is ∙ sym (append_assoc ac.e (s ∷ f) pg) in
            let bo = both Walk firm shorter single sg.on (ac.e ++ (s ∷ f)) pl.node pl.before sg.loose sg.walk (subst Walk path_is ac.walk) in
            let lt = in_order P Walk does firm overZ doesZ fromZ imageZ b2 walk_b2 ac.node g ac.rest grest ac.at at_g clash under in
            let at_one = lift_end overH (ac.h ∷ ac.hrest) ((ac.e ++ (s ∷ f)) ++ pg) bo.path bo.other (subst (λ l. IsEndOf (ac.h ∷ ac.hrest) (liftH l)) path_is ac.at_h) in
            let at_two = lift_end overH hj (sg.on ++ pg) bo.path bo.one sg.at in
            let one = ap length ac.same in
            let two = ap length sg.same in
            stands_later P Walk does firm overH doesH fromH imageH bo.path bo.walk ac.h sg.node ac.hrest sg.before at_one at_two clash_h (omega (arith, lt, one, two))

        -- so it is not before the join there
        not_before : IsEndOf hj (liftH b2) → ⊥
        not_before low = ac.clear sg.node sg.before low under_h clash_h

        module _ (front : List ℕ) (on_is : sg.on ++ pg ≡ front ++ (s ∷ b2)) (long : IsLonger hj (liftH b2)) (y : ℕ) (sets_g : doesZ (Sets y) g ≡ true) where
          past : IsEndOf (s ∷ b2) (sg.on ++ pg)
          past = (front, on_is)

          way : (e : List ℕ) → Walk (e ++ pg) → IsEndOf (e ++ pg) (s ∷ b2) ⊎ IsEndOf (s ∷ b2) (e ++ pg)
          way e w = elim (along Walk firm shorter single sg.on e pl.node pl.before sg.loose sg.walk w) [
            | within r ↦ inr (end_through (s ∷ b2) (sg.on ++ pg) (e ++ pg) past r)
            | beyond more eq l ↦ elim (cases_lt (length (s ∷ b2)) (length (e ++ pg))) [
              | inl less ↦ inr (ends_compare (s ∷ b2) (e ++ pg) (sg.on ++ pg) past (more, eq) (omega (arith, less)))
              | inr ge ↦ inl (ends_compare (e ++ pg) (s ∷ b2) (sg.on ++ pg) (more, eq) past ge)
            ]
          ]

          abbrev Back : Type 0
          Back = Passed P Walk does firm overZ doesZ fromZ imageZ none_dead overH doesH fromH imageH above s b2 b1 walk_b2 walk_b1 to_1 walk_s2 pg g (g ∷ grest)

          module _ (ps : Back) where
            sets_ps : doesH (Sets y) ps.node ≡ true
            sets_ps = ps.alike (Sets y) ∙ sets_g

            is_hj : ps.node ∷ ps.rest ≡ hj
            is_hj =
                let through = ps.through in
                one_of pl.node pl.before sg.on y ps.node sg.node ps.rest sg.before through.0 sg.loose sg.walk (subst Walk through.1 ps.walk)
                (subst (λ l. IsEndOf (ps.node ∷ ps.rest) (liftH l)) through.1 ps.at) sg.at sets_ps (sg.alike (Sets y) ∙ sets_g) (ps.same ∙ sym sg.same)

            cut : ps.node ∷ ps.rest ≡ (long.node ∷ long.front) ++ liftH b2
            cut = is_hj ∙ long.is

            pt : Partner P Walk does firm overZ doesZ fromZ imageZ none_dead overH doesH fromH imageH above s b2 b1 walk_b2 walk_b1 to_1 walk_s2 ps.e long.node (long.front ++ liftH b1) (g ∷ grest)
            pt = ps.partner long.node long.front cut

            low : IsEndOf (pt.node ∷ pt.rest) (liftZ b1)
            low = not_over s b2 b1 ps.e (g ∷ grest) pt.node pt.rest at_g pt.at pt.stays

            abbrev hk : List ℕ
            hk = long.node ∷ (long.front ++ liftH b1)

            hk_at : IsEndOf hk (liftH (ps.e ++ (s ∷ b1)))
            hk_at = other_end P Walk does firm overZ doesZ fromZ imageZ none_dead overH doesH fromH imageH above s b2 b1 walk_b2 walk_b1 to_1 walk_s2 overH ps.e long.node long.front (subst (λ l. IsEndOf l (liftH (ps.e ++ (s ∷ b2)))) cut ps.at)

            same_node : sg.node ≡ long.node
            same_node = cons_first sg.node long.node sg.before (long.front ++ liftH b2) long.is

            alike_k : (q : Ask P) → doesH q long.node ≡ doesZ q g
            alike_k q = ap (doesH q) (sym same_node) ∙ sg.alike q

            clash_k : Clash P (λ q. doesZ q k) (λ q. doesZ q g)
            clash_k = clash_alike P (λ q. doesZ q ac.node) (λ q. doesZ q g) (λ q. doesZ q k) (λ q. doesZ q g) (λ q. sym (ac.alike q)) (λ q. refl) clash

            mine : IsEndOf (h0 ∷ hrest0) (long.front ++ liftH b1)
            mine = ac.back long.front (subst (IsEndOf (ac.h ∷ ac.hrest)) (cons_rest sg.node long.node sg.before (long.front ++ liftH b2) long.is) under_h)

            never : ⊥
            never =
                let walk_1 = to_1 ps.e ps.walk in
                let at_0 = end_through (h0 ∷ hrest0) (long.front ++ liftH b1) (liftH (ps.e ++ (s ∷ b1))) mine (end_rest long.node (long.front ++ liftH b1) (liftH (ps.e ++ (s ∷ b1))) hk_at) in
                let lt = in_order P Walk does firm overH doesH fromH imageH (ps.e ++ (s ∷ b1)) walk_1 h0 long.node hrest0 (long.front ++ liftH b1) at_0 hk_at
                (clash_alike P (λ q. doesZ q k) (λ q. doesZ q g) (λ q. doesH q h0) (λ q. doesH q long.node) alike0 alike_k clash_k) mine in
                let one = ap length came0 in
                let two = ap length pt.same in
                let clash_z : Clash P (λ q. doesZ q k) (λ q. doesZ q pt.node) = clash_alike P (λ q. doesZ q k) (λ q. doesZ q g) (λ q. doesZ q k) (λ q. doesZ q pt.node) (λ q. refl) (λ q. pt.alike q ∙ alike_k q) clash_k in
                let later = stands_later P Walk does firm overZ doesZ fromZ imageZ b1 walk_b1 k pt.node zrest pt.rest at_z low clash_z (omega (arith, lt, one, two)) in
                free pt.node pt.rest low later clash_z

          back_passes : ⊥
          back_passes = passed P Walk does firm overZ doesZ fromZ imageZ none_dead overH doesH fromH imageH above s b2 b1 walk_b2 walk_b1 to_1 walk_s2 pg g grest walk_pg way pl.at pl.placed acts_g (λ ps. never ps)

        -- where H has it on the way on, behind the end of this way to the join
        beyond_it : (more : List ℕ) → sg.on ++ pg ≡ more ++ b2 → IsLoose firm more b2 → ⊥
        beyond_it more on_is loose = elim (cases_lt (length (liftH b2)) (length hj)) [
          | inr ge ↦ not_before (ends_compare hj (liftH b2) (liftH (sg.on ++ pg)) sg.at base ge)
          | inl less ↦ by more on_is loose (longer_end hj (liftH b2) (liftH (sg.on ++ pg)) sg.at base less)
        ]
          where
            base : IsEndOf (liftH b2) (liftH (sg.on ++ pg))
            base = lift_end overH (liftH b2) b2 (sg.on ++ pg) (more, on_is) (end_itself (liftH b2))

            by : (m : List ℕ) → sg.on ++ pg ≡ m ++ b2 → IsLoose firm m b2 → IsLonger hj (liftH b2) → ⊥
            by [] e l long =
                let at = subst (λ p. IsEndOf hj (liftH p)) e sg.at in
                not_before at
            by (a ∷ m) e l long =
                let old = oldest a m in
                let whole : sg.on ++ pg ≡ old.front ++ (old.node ∷ b2) = e ∙ ap (λ p. p ++ b2) old.is ∙ append_assoc old.front (old.node ∷ []) b2 in
                let not_firm = loose_first firm old.front old.node b2 b2_node b2_rest refl (subst (λ p. IsLoose firm p b2) old.is l) in
                let same = single old.node s b2_node b2_rest (shorter old.front old.node b2 (subst Walk whole sg.walk)) walk_s2 not_firm in
                let on' : sg.on ++ pg ≡ old.front ++ (s ∷ b2) = whole ∙ ap (λ p. old.front ++ (p ∷ b2)) same in
                elim (cases_Bool (firm g)) [
                  | inl is ↦
                      let acts_h : Acts P Walk does firm doesH sg.node = (acts_g.0, elim acts_g.1 [ inl r ↦ inl (sg.alike (Reads acts_g.0) ∙ r) | inr w ↦ inr (sg.alike (Sets acts_g.0) ∙ w) ]) in
                      let fixed = imageH.fixed (sg.on ++ pg) sg.node sg.before sg.walk sg.at acts_h (sg.firm_same ∙ is) in
                      let o = imageZ.origin b2 g grest walk_b2 at_g acts_g in
                      let low = lift_end overH hj (fromH hj) b2 (subst (λ p. IsEndOf p b2) (sym sg.same) o.at) fixed in
                      not_before low
                  | inr not ↦ (let w = imageZ.assignment g acts_g not in back_passes old.front on' long w.0 w.1)
                ]

        blocks_not : ⊥
        blocks_not = elim (along Walk firm shorter single sg.on f pl.node pl.before sg.loose sg.walk walk_f) [
          | within r ↦ not_before (lift_end overH hj (sg.on ++ pg) b2 (subst (IsEndOf (sg.on ++ pg)) (sym b2_is) r) sg.at)
          | beyond more e l ↦ beyond_it more (e ∙ ap (λ p. more ++ p) (sym b2_is)) (subst (IsLoose firm more) (sym b2_is) l)
        ]

      pub unblocked : ⊥
      unblocked = above pg g grest walk_pg pl.at acts_g (λ sg. blocks_not sg)

    pub same_before : SameBefore P overZ doesZ (λ q. doesZ q k) b2
    same_before = record { node = ac.node; rest = ac.rest; at = ac.at; alike = ac.alike; free = λ g grest at_g under clash. unblocked g grest at_g under clash }
