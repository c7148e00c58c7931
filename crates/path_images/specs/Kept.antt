-- A sinking keeps a graph above one at rest, continued: what passes a join has a partner on each way to it, and so it
-- does not pass where it is at rest.
use Rattle.std.proofs.Common.{◌≡◌, ◌⊎◌, ℕ, Bool, true, false, List, [], ◌∷◌, ◌++◌, length, flat_map, inl, inr, refl, sym, ap, ◌∙◌, subst, arith, append_assoc, length-append}
use Rattle.std.proofs.lemmas.Bool.{cases_Bool, cases_lt, true≢false}
use Rattle.std.proofs.lemmas.List.{append_cancel_right}
use Rattle.path_images.specs.Ends.{IsCons, IsEndOf, IsLonger, cons_first, cons_rest, empty_or, end_itself, end_length, end_or, end_past, end_rest, end_through, ends_compare, latest, latest_behind, latest_end, latest_so, longer_end, nearest_is, rest_of}
use Rattle.path_images.specs.Walks.{Common, IsLoose, IsPlaced, along, beyond, common, lift_end, loose_append, loose_stops, place_of, within}
use Rattle.path_images.specs.Images.{Acts, Ask, IsAbove, IsImage, IsRead, NoneDead, Origin, Reads, Sets, Stands}
use Rattle.path_images.specs.Order.{Clash, both_set, clash_acts, clash_alike, clash_back, in_order, set_read, stands_later}
use Rattle.path_images.specs.Passing.{Partner, Passed, came, found, other_end, passed, way_on}
use Rattle.path_images.specs.Keeping.{Across, IsLate, IsPut, SameBefore, Stop, at_assignment, at_firm, at_join, not_over, one_of, same_before}

module _ (P : Type 0) (Walk : List ℕ → Type 0) (does : Ask P → ℕ → Bool) (firm : ℕ → Bool)
    (shorter : (f : List ℕ) (n : ℕ) (p : List ℕ) → Walk (f ++ (n ∷ p)) → Walk (n ∷ p))
    (single : (a c n : ℕ) (p : List ℕ) → Walk (a ∷ n ∷ p) → Walk (c ∷ n ∷ p) → firm n ≡ false → a ≡ c)
    (joint : (e : List ℕ) (s : ℕ) (b b' : List ℕ) → Walk (e ++ (s ∷ b)) → Walk (s ∷ b') → Walk (e ++ (s ∷ b')))
    (unentered : (s n : ℕ) (b : List ℕ) → Walk (s ∷ n ∷ b) → Walk (s ∷ []) → ⊥)
    (overZ : ℕ → List ℕ) (doesZ : Ask P → ℕ → Bool) (fromZ : List ℕ → List ℕ) (imageZ : IsImage P Walk does firm overZ doesZ fromZ) (none_dead : NoneDead P Walk does firm overZ doesZ)
    (overH : ℕ → List ℕ) (doesH : Ask P → ℕ → Bool) (fromH : List ℕ → List ℕ) (imageH : IsImage P Walk does firm overH doesH fromH)
    (above : IsAbove P Walk does firm overH doesH fromH overZ doesZ fromZ) where
  abbrev liftZ : List ℕ → List ℕ
  liftZ = flat_map overZ

  abbrev liftH : List ℕ → List ℕ
  liftH = flat_map overH

  -- an assignment that stands in Z before or at the last node of a path, and where it stands in H
  module _ (n : ℕ) (q : List ℕ) (walk : Walk (n ∷ q)) (k : ℕ) (zrest : List ℕ) (at : IsEndOf (k ∷ zrest) (liftZ (n ∷ q))) (placed : IsPlaced overZ (k ∷ zrest) (n ∷ q))
      (not_firm : firm k ≡ false) (x : ℕ) (sets_x : doesZ (Sets x) k ≡ true) (st : Stands P Walk does firm overH doesH fromH doesZ (fromZ (k ∷ zrest)) k (n ∷ q)) where
    abbrev p : List ℕ
    p = n ∷ q

    abbrev hv : List ℕ
    hv = st.node ∷ st.before

    sets_h : doesH (Sets x) st.node ≡ true
    sets_h = st.alike (Sets x) ∙ sets_x

    firm_h : firm st.node ≡ false
    firm_h = st.firm_same ∙ not_firm

    -- ---- at a join

    module _ (s on_node b2_node : ℕ) (on_rest b2_rest on : List ℕ) (on_is : on ++ p ≡ on_node ∷ on_rest) (walk_s : Walk (s ∷ on_node ∷ on_rest)) (walk_s2 : Walk (s ∷ b2_node ∷ b2_rest)) (loose_s : IsLoose firm (s ∷ on) p)
        (c : Common Walk firm shorter single st.on (s ∷ on) p) (late : IsLate P Walk overH doesH (c.on ++ p) st.node st.before) where
      abbrev b1 : List ℕ
      b1 = on_node ∷ on_rest

      abbrev b2 : List ℕ
      b2 = b2_node ∷ b2_rest

      walk_b1 : Walk b1
      walk_b1 = shorter (s ∷ []) on_node on_rest walk_s

      walk_b2 : Walk b2
      walk_b2 = shorter (s ∷ []) b2_node b2_rest walk_s2

      to_2 : (e : List ℕ) → Walk (e ++ (s ∷ b1)) → Walk (e ++ (s ∷ b2))
      to_2 e w = joint e s b1 b2 w walk_s2

      -- the path on which H has it and which comes to the join
      abbrev whole : List ℕ
      whole = c.on ++ p

      at_whole : IsEndOf hv (liftH whole)
      at_whole = lift_end overH hv (st.on ++ p) whole c.one st.at

      join_whole : IsEndOf (s ∷ b1) whole
      join_whole = subst (λ l. IsEndOf (s ∷ l) whole) on_is c.other

      b1_whole : IsEndOf (liftH b1) (liftH whole)
      b1_whole = lift_end overH (liftH b1) b1 whole (end_through b1 (s ∷ b1) whole (s ∷ [], refl) join_whole) (end_itself (liftH b1))

      p_b1 : IsEndOf p b1
      p_b1 = (on, sym on_is)

      at_b1 : IsEndOf (k ∷ zrest) (liftZ b1)
      at_b1 = lift_end overZ (k ∷ zrest) p b1 p_b1 at

      way : (e : List ℕ) → Walk (e ++ p) → IsEndOf (e ++ p) (s ∷ b1) ⊎ IsEndOf (s ∷ b1) (e ++ p)
      way e w = elim (along Walk firm shorter single (s ∷ on) e n q loose_s (subst (λ l. Walk (s ∷ l)) (sym on_is) walk_s) w) [
        | within r ↦ inr (subst (λ l. IsEndOf (s ∷ l) (e ++ p)) on_is r)
        | beyond more eq l ↦ inl (more, ap (λ (r : List ℕ). s ∷ r) (sym on_is) ∙ eq)
      ]

      abbrev Goes : List ℕ → ℕ → List ℕ → Type 0
      Goes path zk zv = Passed P Walk does firm overZ doesZ fromZ imageZ none_dead overH doesH fromH imageH above s b1 b2 walk_b1 walk_b2 to_2 walk_s path zk zv

      abbrev Other : List ℕ → ℕ → List ℕ → List ℕ → Type 0
      Other e d dr zv = Partner P Walk does firm overZ doesZ fromZ imageZ none_dead overH doesH fromH imageH above s b1 b2 walk_b1 walk_b2 to_2 walk_s e d dr zv

      abbrev Found : Type 0
      Found = Across P Walk does firm shorter single joint unentered overZ doesZ fromZ imageZ none_dead overH doesH fromH imageH above s b1 b2 hv (λ ask. doesZ ask k)

      -- what came from where it came, on a path through the join, is what stands in H
      is_hv : (e : List ℕ) (m : ℕ) (rest : List ℕ) → Walk (e ++ (s ∷ b1)) → IsEndOf p (e ++ (s ∷ b1))
          → IsEndOf (m ∷ rest) (liftH (e ++ (s ∷ b1))) → doesH (Sets x) m ≡ true
          → fromH (m ∷ rest) ≡ fromZ (k ∷ zrest) → m ∷ rest ≡ hv
      is_hv e m rest w through at_m sets_m same =
          one_of P Walk does firm shorter single joint unentered overZ doesZ fromZ imageZ none_dead overH doesH fromH imageH above n q st.on x m st.node rest st.before through.0 st.loose st.walk (subst Walk through.1 w)
          (subst (λ l. IsEndOf (m ∷ rest) (liftH l)) through.1 at_m) st.at sets_m sets_h (same ∙ sym st.same)

      over_end : (e : List ℕ) (d : ℕ) (ds : List ℕ) → IsEndOf ((d ∷ ds) ++ liftH b1) (liftH (e ++ (s ∷ b1)))
          → IsEndOf ((d ∷ ds) ++ liftH b2) (liftH (e ++ (s ∷ b2)))
      over_end e d ds at_d = other_end P Walk does firm overZ doesZ fromZ imageZ none_dead overH doesH fromH imageH above s b1 b2 walk_b1 walk_b2 to_2 walk_s overH e d ds at_d

      only_before : (e : List ℕ) (node : ℕ) (rest : List ℕ) → IsEndOf (node ∷ rest) (liftZ (e ++ (s ∷ b2)))
          → ((d : ℕ) (ds : List ℕ) → node ∷ rest ≡ (d ∷ ds) ++ liftZ b2 → k ∷ zrest ≡ (d ∷ ds) ++ liftZ b1)
          → IsEndOf (node ∷ rest) (liftZ b2)
      only_before e node rest at_v stays = not_over P Walk does firm shorter single joint unentered overZ doesZ fromZ imageZ none_dead overH doesH fromH imageH above s b1 b2 e (k ∷ zrest) node rest at_b1 at_v stays

      -- where it has passed the join
      module _ (long : IsLonger hv (liftH b1)) (ps : Goes p k (k ∷ zrest)) where
        cut : ps.node ∷ ps.rest ≡ (long.node ∷ long.front) ++ liftH b1
        cut = is_hv ps.e ps.node ps.rest ps.walk ps.through ps.at (ps.alike (Sets x) ∙ sets_x) ps.same ∙ long.is

        pt : Other ps.e long.node (long.front ++ liftH b2) (k ∷ zrest)
        pt = ps.partner long.node long.front cut

        same_node : ps.node ≡ long.node
        same_node = cons_first ps.node long.node ps.rest (long.front ++ liftH b1) cut

        alike_long : (ask : Ask P) → doesH ask long.node ≡ doesZ ask k
        alike_long ask = ap (doesH ask) (sym same_node) ∙ ps.alike ask

        clear : (g : ℕ) (grest : List ℕ) → IsEndOf (g ∷ grest) (liftH b2) → IsEndOf (long.node ∷ (long.front ++ liftH b2)) grest → ⊥
        clear g grest low under =
            let a = end_length (g ∷ grest) (liftH b2) low in
            let b = end_length (long.node ∷ (long.front ++ liftH b2)) grest under in
            let l = length-append long.front (liftH b2) in
            omega (arith, a, b, l)

        back : (ds : List ℕ) → IsEndOf (long.node ∷ (long.front ++ liftH b2)) (ds ++ liftH b2) → IsEndOf hv (ds ++ liftH b1)
        back ds under =
            let front : ds ≡ under.0 ++ (long.node ∷ long.front) = append_cancel_right ds (under.0 ++ (long.node ∷ long.front)) (liftH b2) (under.1 ∙ sym (append_assoc under.0 (long.node ∷ long.front) (liftH b2))) in
            (under.0, ap (λ l. l ++ liftH b1) front ∙ append_assoc under.0 (long.node ∷ long.front) (liftH b1) ∙ ap (λ l. under.0 ++ l) (sym long.is))

        across_passed : Found
        across_passed = record {
          node = pt.node;
          rest = pt.rest;
          at = only_before ps.e pt.node pt.rest pt.at pt.stays;
          alike = λ ask. pt.alike ask ∙ alike_long ask;
          e = ps.e;
          walk = to_2 ps.e ps.walk;
          h = long.node;
          hrest = long.front ++ liftH b2;
          at_h = over_end ps.e long.node long.front (subst (λ l. IsEndOf l (liftH (ps.e ++ (s ∷ b1)))) cut ps.at);
          same = pt.same;
          alike_h = alike_long;
          clear = λ g grest low under clash. clear g grest low under;
          back = back;
        }

      -- where it passes it now
      module _ (low : IsEndOf hv (liftH b1)) (r : IsRead P Walk does firm overZ doesZ p k zrest x) (ps : Goes (r.on ++ p) r.node (r.node ∷ r.before)) where
        sp : SameBefore P overH doesH (λ ask. doesH ask st.node) b2
        sp = late.ways join_whole.0 s b1 join_whole.1 low b2 walk_s2

        abbrev w : List ℕ
        w = latest (doesH (Sets x)) ps.rest

        came_w : fromH w ≡ fromZ (k ∷ zrest)
        came_w = came P Walk does firm overZ doesZ fromZ imageZ none_dead overH doesH fromH imageH above s b1 b2 walk_b1 walk_b2 to_2 walk_s p k zrest walk at x sets_x r ps

        through : IsEndOf p (ps.e ++ (s ∷ b1))
        through = end_through p (r.on ++ p) (ps.e ++ (s ∷ b1)) (r.on, refl) ps.through

        o : Origin P Walk does firm doesZ (fromZ (k ∷ zrest)) k p
        o = imageZ.origin p k zrest walk at (x, inr sets_x)

        w_is : w ≡ hv
        w_is = elim (empty_or w) [
          | inl none ↦ (let m = ap length (sym o.is ∙ sym came_w ∙ ap fromH none ∙ imageH.none) in absurd (omega (arith, m)))
          | inr v ↦
              let at_v = end_through (v.node ∷ v.rest) ps.rest (liftH (ps.e ++ (s ∷ b1))) (subst (λ l. IsEndOf l ps.rest) v.is (latest_end (doesH (Sets x)) ps.rest)) (end_rest ps.node ps.rest (liftH (ps.e ++ (s ∷ b1))) ps.at) in
              v.is ∙ is_hv ps.e v.node v.rest ps.walk through at_v (latest_so (doesH (Sets x)) ps.rest v.node v.rest v.is) (ap fromH (sym v.is) ∙ came_w)
        ]

        reads_ps : doesH (Reads x) ps.node ≡ true
        reads_ps = ps.alike (Reads x) ∙ r.reads_it

        under : IsEndOf hv ps.rest
        under = subst (λ l. IsEndOf l ps.rest) w_is (latest_end (doesH (Sets x)) ps.rest)

        -- its reader has passed the join
        long_r : IsLonger (ps.node ∷ ps.rest) (liftH b1)
        long_r = elim (cases_lt (length (liftH b1)) (length (ps.node ∷ ps.rest))) [
          | inl less ↦ longer_end (ps.node ∷ ps.rest) (liftH b1) (liftH (ps.e ++ (s ∷ b1))) ps.at base less
          | inr ge ↦
              let low_r = ends_compare (ps.node ∷ ps.rest) (liftH b1) (liftH (ps.e ++ (s ∷ b1))) ps.at base ge in
              absurd (late.free ps.node ps.rest (end_through (ps.node ∷ ps.rest) (liftH b1) (liftH whole) low_r b1_whole) under (set_read x sets_h reads_ps))
        ]
          where
            base : IsEndOf (liftH b1) (liftH (ps.e ++ (s ∷ b1)))
            base = lift_end overH (liftH b1) b1 (ps.e ++ (s ∷ b1)) (end_past ps.e b1 (s ∷ b1) (s ∷ [], refl)) (end_itself (liftH b1))

        rest_is : ps.rest ≡ long_r.front ++ liftH b1
        rest_is = cons_rest ps.node long_r.node ps.rest (long_r.front ++ liftH b1) long_r.is

        sets_sp : doesH (Sets x) sp.node ≡ true
        sets_sp = sp.alike (Sets x) ∙ sets_h

        last_sp : latest (doesH (Sets x)) (long_r.front ++ liftH b2) ≡ sp.node ∷ sp.rest
        last_sp =
            let last : latest (doesH (Sets x)) (long_r.front ++ liftH b1) ≡ hv = ap (latest (doesH (Sets x))) (sym rest_is) ∙ w_is in
            latest_behind (doesH (Sets x)) long_r.front (liftH b1) (liftH b2) (subst (λ l. IsEndOf l (liftH b1)) (sym last) low)
            ∙ nearest_is (doesH (Sets x)) sp.node sp.rest (liftH b2) sp.at sets_sp (λ g grest at_g under_g sets_g. sp.free g grest at_g under_g (both_set x sets_sp sets_g))

        pt2 : Other ps.e sp.node sp.rest (k ∷ zrest)
        pt2 = found P Walk does firm overZ doesZ fromZ imageZ none_dead overH doesH fromH imageH above s b1 b2 walk_b1 walk_b2 to_2 walk_s p k zrest walk at x sets_x r ps long_r.front rest_is sp.node sp.rest last_sp

        across_passing : Found
        across_passing = record {
          node = pt2.node;
          rest = pt2.rest;
          at = only_before ps.e pt2.node pt2.rest pt2.at pt2.stays;
          alike = λ ask. pt2.alike ask ∙ sp.alike ask ∙ st.alike ask;
          e = ps.e;
          walk = to_2 ps.e ps.walk;
          h = sp.node;
          hrest = sp.rest;
          at_h = lift_end overH (sp.node ∷ sp.rest) b2 (ps.e ++ (s ∷ b2)) (end_past ps.e b2 (s ∷ b2) (s ∷ [], refl)) sp.at;
          same = pt2.same;
          alike_h = λ ask. sp.alike ask ∙ st.alike ask;
          clear = sp.free;
          back = λ ds u. end_past ds hv (liftH b1) low;
        }

      -- so it comes to the join in Z along this way too
      module _ (free : (g : ℕ) (grest : List ℕ) → IsEndOf (g ∷ grest) (liftZ b1) → IsEndOf (k ∷ zrest) grest → Clash P (λ ask. doesZ ask k) (λ ask. doesZ ask g) → ⊥) where
        by_across : Found → SameBefore P overZ doesZ (λ ask. doesZ ask k) b2
        by_across ac = same_before P Walk does firm shorter single joint unentered overZ doesZ fromZ imageZ none_dead overH doesH fromH imageH above s on_node b2_node on_rest b2_rest walk_s walk_s2 k zrest at_b1 st.node st.before st.same st.alike free ac

        pub comes_to_join : (SameBefore P overZ doesZ (λ ask. doesZ ask k) b2 → ⊥) → ⊥
        comes_to_join go = elim (cases_lt (length (liftH b1)) (length hv)) [
          | inl less ↦
              let long = longer_end hv (liftH b1) (liftH whole) at_whole b1_whole less in
              passed P Walk does firm overZ doesZ fromZ imageZ none_dead overH doesH fromH imageH above s b1 b2 walk_b1 walk_b2 to_2 walk_s p k zrest walk way at placed (x, inr sets_x) (λ ps. go (by_across (across_passed long ps)))
          | inr ge ↦
              let low = ends_compare hv (liftH b1) (liftH whole) at_whole b1_whole ge in
              none_dead p k zrest x walk at placed not_firm sets_x (λ r.
              passed P Walk does firm overZ doesZ fromZ imageZ none_dead overH doesH fromH imageH above s b1 b2 walk_b1 walk_b2 to_2 walk_s (r.on ++ p) r.node r.before r.walk
              (way_on P Walk does firm overZ doesZ fromZ imageZ none_dead overH doesH fromH imageH above s b1 b2 walk_b1 walk_b2 to_2 walk_s p r.on way) r.at r.placed (x, inl r.reads_it) (λ ps. go (by_across (across_passing low r ps))))
        ]

    -- ---- the sinking

    module _ (over' : ℕ → List ℕ) (does' : Ask P → ℕ → Bool) (from' : List ℕ → List ℕ)
        (sunk : (path : List ℕ) (m : ℕ) (rest : List ℕ) (y : ℕ) → Walk path → IsEndOf (m ∷ rest) (liftH path) → firm m ≡ false → doesH (Sets y) m ≡ true
        → (IsPut P firm doesH fromH over' does' from' path m rest → ⊥) → (IsLate P Walk overH doesH path m rest → ⊥) → ⊥)
        (go : Stands P Walk does firm over' does' from' doesZ (fromZ (k ∷ zrest)) k (n ∷ q) → ⊥) where
      -- it is put on no way on without firm nodes
      put_on : (on : List ℕ) → Walk (on ++ p) → IsLoose firm on p → IsPut P firm doesH fromH over' does' from' (on ++ p) st.node st.before → ⊥
      put_on on w l put = go (record {
        on = on;
        walk = w;
        loose = l;
        node = put.node;
        before = put.before;
        at = put.at;
        same = put.same ∙ st.same;
        alike = λ ask. put.alike ask ∙ st.alike ask;
        firm_same = put.firm_same ∙ st.firm_same;
      })

      at_on : (on : List ℕ) → IsEndOf (k ∷ zrest) (liftZ (on ++ p))
      at_on on = lift_end overZ (k ∷ zrest) p (on ++ p) (on, refl) at

      -- before an assignment that blocks it
      by_assignment : (on : List ℕ) → Walk (on ++ p) → IsLoose firm on p → (g : ℕ) (grest : List ℕ)
          → IsEndOf (g ∷ grest) (liftZ (on ++ p)) → IsEndOf (k ∷ zrest) grest
          → Clash P (λ ask. doesZ ask k) (λ ask. doesZ ask g) → ⊥
      by_assignment on w l g grest at_g under clash =
          above (on ++ p) g grest w at_g (clash_acts P Walk does firm overZ doesZ fromZ imageZ g (λ ask. doesZ ask k) (clash_back P (λ ask. doesZ ask k) (λ ask. doesZ ask g) clash)) (λ sg.
          let walk2 : Walk ((sg.on ++ on) ++ p) = subst Walk (sym (append_assoc sg.on on p)) sg.walk in
          let c = common Walk firm shorter single st.on (sg.on ++ on) n q st.loose (loose_append firm sg.on on p sg.loose l) st.walk walk2 in
          let at_h = lift_end overH hv (st.on ++ p) (c.on ++ p) c.one st.at in
          let at_hg = lift_end overH (sg.node ∷ sg.before) (sg.on ++ (on ++ p)) (c.on ++ p) (subst (λ a. IsEndOf a (c.on ++ p)) (append_assoc sg.on on p) c.other) sg.at in
          let lt = in_order P Walk does firm overZ doesZ fromZ imageZ (on ++ p) w k g zrest grest (at_on on) at_g clash under in
          let one = ap length st.same in
          let two = ap length sg.same in
          let clash_h : Clash P (λ ask. doesH ask st.node) (λ ask. doesH ask sg.node) = clash_alike P (λ ask. doesZ ask k) (λ ask. doesZ ask g) (λ ask. doesH ask st.node) (λ ask. doesH ask sg.node) st.alike sg.alike clash in
          let later = stands_later P Walk does firm overH doesH fromH imageH (c.on ++ p) c.walk st.node sg.node st.before sg.before at_h at_hg clash_h (omega (arith, lt, one, two)) in
          sunk (c.on ++ p) st.node st.before x c.walk at_h firm_h sets_h (put_on c.on c.walk c.loose) (λ late. late.free sg.node sg.before at_hg later clash_h))

      -- before a firm node that blocks it
      by_firm : (on : List ℕ) → Walk (on ++ p) → IsLoose firm on p → (f : ℕ) (fq : List ℕ) → on ++ p ≡ f ∷ fq
          → firm f ≡ true → Clash P (λ ask. doesZ ask k) (λ ask. does ask f) → ⊥
      by_firm on w l f fq is firm_f clash =
          sunk (on ++ p) st.node st.before x w at_h firm_h sets_h (put_on on w l) (λ late. late.free f (chain.0 ++ liftH fq) ([], lifted) (under (end_or st.node f st.before (chain.0 ++ liftH fq) (subst (IsEndOf hv) lifted at_h)))
          (clash_alike P (λ ask. doesZ ask k) (λ ask. does ask f) (λ ask. doesH ask st.node) (λ ask. doesH ask f) st.alike (imageH.firm_alike f firm_f) clash))
        where
          at_h : IsEndOf hv (liftH (on ++ p))
          at_h = elim (along Walk firm shorter single st.on on n q st.loose st.walk w) [
            | within e ↦ lift_end overH hv (st.on ++ p) (on ++ p) e st.at
            | beyond more e loose ↦ (let none = loose_stops firm more (on ++ p) f fq is firm_f loose in subst (λ a. IsEndOf hv (liftH a)) (e ∙ ap (λ m. m ++ (on ++ p)) none) st.at)
          ]

          chain : (c : List ℕ) × (overH f ≡ f ∷ c)
          chain = imageH.itself f

          lifted : liftH (on ++ p) ≡ f ∷ (chain.0 ++ liftH fq)
          lifted = ap liftH is ∙ ap (λ a. a ++ liftH fq) chain.1

          under : (st.node ≡ f) ⊎ IsEndOf hv (chain.0 ++ liftH fq) → IsEndOf hv (chain.0 ++ liftH fq)
          under (inl same) = absurd (true≢false (sym firm_f ∙ ap firm (sym same) ∙ firm_h))
          under (inr is_under) = is_under

      -- before a join to which it does not come along each way
      by_join : (s : ℕ) (on : List ℕ) → Walk (s ∷ (on ++ p)) → IsLoose firm (s ∷ on) p
          → ((g : ℕ) (grest : List ℕ) → IsEndOf (g ∷ grest) (liftZ (on ++ p)) → IsEndOf (k ∷ zrest) grest → Clash P (λ ask. doesZ ask k) (λ ask. doesZ ask g) → ⊥)
          → (((b : List ℕ) → Walk (s ∷ b) → (SameBefore P overZ doesZ (λ ask. doesZ ask k) b → ⊥) → ⊥) → ⊥)
          → IsCons (on ++ p) → ⊥
      by_join s on w l free lost v =
          let c = common Walk firm shorter single st.on (s ∷ on) n q st.loose l st.walk w in
          let walk_s : Walk (s ∷ v.node ∷ v.rest) = subst (λ a. Walk (s ∷ a)) v.is w in
          sunk (c.on ++ p) st.node st.before x c.walk (lift_end overH hv (st.on ++ p) (c.on ++ p) c.one st.at) firm_h sets_h (put_on c.on c.walk c.loose) (λ late. lost (λ b walk_b none. by_way c walk_s late b walk_b none))
        where
          by_way : (c : Common Walk firm shorter single st.on (s ∷ on) p) → Walk (s ∷ v.node ∷ v.rest)
              → IsLate P Walk overH doesH (c.on ++ p) st.node st.before → (b : List ℕ) → Walk (s ∷ b)
              → (SameBefore P overZ doesZ (λ ask. doesZ ask k) b → ⊥) → ⊥
          by_way c walk_s late [] walk_b none = unentered s v.node v.rest walk_s walk_b
          by_way c walk_s late (m ∷ b) walk_b none =
              comes_to_join s v.node m v.rest b on v.is walk_s walk_b l c late
              (λ g grest at_g under clash. free g grest (subst (λ a. IsEndOf (g ∷ grest) (liftZ a)) (sym v.is) at_g) under clash) none

      pub kept : Stop P Walk does firm overZ doesZ (n ∷ q) k zrest → ⊥
      kept (at_firm on w l f fq is firm_f clash) = by_firm on w l f fq is firm_f clash
      kept (at_assignment on w l g grest at_g under clash) = by_assignment on w l g grest at_g under clash
      kept (at_join s on w l free lost) = by_join s on w l free lost (elim (empty_or (on ++ p)) [
        | inl none ↦ (let m = ap length none in let e = length-append on p in absurd (omega (arith, m, e)))
        | inr v ↦ v
      ])

  -- ---- the theorem of sinking

  -- a sinking of H: what is firm stays, and what is not is put on the path or delayed past it
  pub record IsSunkFrom (over' : ℕ → List ℕ) (does' : Ask P → ℕ → Bool) (from' : List ℕ → List ℕ) : Type 0 where
    pub stays : (path : List ℕ) (m : ℕ) (rest : List ℕ) → Walk path → IsEndOf (m ∷ rest) (liftH path) → firm m ≡ true
        → Acts P Walk does firm doesH m → IsPut P firm doesH fromH over' does' from' path m rest
    pub sinks : (path : List ℕ) (m : ℕ) (rest : List ℕ) (y : ℕ) → Walk path → IsEndOf (m ∷ rest) (liftH path) → firm m ≡ false → doesH (Sets y) m ≡ true
        → (IsPut P firm doesH fromH over' does' from' path m rest → ⊥) → (IsLate P Walk overH doesH path m rest → ⊥) → ⊥

  -- in a round of Z no assignment passes a firm node
  abbrev pub IsAtRest : Type 0
  IsAtRest = (p : List ℕ) (k : ℕ) (zrest : List ℕ) (x : ℕ) → Walk p → IsEndOf (k ∷ zrest) (liftZ p) → IsPlaced overZ (k ∷ zrest) p → firm k ≡ false → doesZ (Sets x) k ≡ true → (Stop P Walk does firm overZ doesZ p k zrest → ⊥) → ⊥

  module _ (at_rest : IsAtRest) (over' : ℕ → List ℕ) (does' : Ask P → ℕ → Bool) (from' : List ℕ → List ℕ) (is_sunk : IsSunkFrom over' does' from') where
    -- what stands on a part of the path stands on the path, or a little on
    on_path : (k n : ℕ) (q f : List ℕ) (origin : List ℕ) → Walk (f ++ (n ∷ q))
        → Stands P Walk does firm over' does' from' doesZ origin k (n ∷ q)
        → Stands P Walk does firm over' does' from' doesZ origin k (f ++ (n ∷ q))
    on_path k n q f origin walk st = elim (along Walk firm shorter single st.on f n q st.loose st.walk walk) [
      | within e ↦ record { on = []; walk = walk; loose = tt; node = st.node; before = st.before; at = lift_end over' (st.node ∷ st.before) (st.on ++ (n ∷ q)) (f ++ (n ∷ q)) e st.at; same = st.same; alike = st.alike; firm_same = st.firm_same }
      | beyond more e l ↦ record { on = more; walk = subst Walk e st.walk; loose = l; node = st.node; before = st.before; at = subst (λ a. IsEndOf (st.node ∷ st.before) (flat_map over' a)) e st.at; same = st.same; alike = st.alike; firm_same = st.firm_same }
    ]

    -- the graph after the sinking is above Z too
    pub sinking_keeps : IsAbove P Walk does firm over' does' from' overZ doesZ fromZ
    sinking_keeps path k rest walk at acts go = elim (cases_Bool (firm k)) [
      | inl is ↦ above path k rest walk at acts (λ st.
          let acts_h : Acts P Walk does firm doesH st.node = (acts.0, elim acts.1 [ inl r ↦ inl (st.alike (Reads acts.0) ∙ r) | inr w ↦ inr (st.alike (Sets acts.0) ∙ w) ]) in
          let put = is_sunk.stays (st.on ++ path) st.node st.before st.walk st.at (st.firm_same ∙ is) acts_h in
          go (record { on = st.on; walk = st.walk; loose = st.loose; node = put.node; before = put.before; at = put.at; same = put.same ∙ st.same; alike = λ ask. put.alike ask ∙ st.alike ask; firm_same = put.firm_same ∙ st.firm_same }))
      | inr not ↦
          let pl = place_of overZ k rest path at in
          let w = imageZ.assignment k acts not in
          let walk_p = shorter pl.part.0 pl.node pl.before (subst Walk pl.part.1 walk) in
          at_rest (pl.node ∷ pl.before) k rest w.0 walk_p pl.at pl.placed not w.1 (λ stop. above (pl.node ∷ pl.before) k rest walk_p pl.at acts (λ st.
          kept pl.node pl.before walk_p k rest pl.at pl.placed not w.0 w.1 st over' does' from' is_sunk.sinks
          (λ st'. go (subst (Stands P Walk does firm over' does' from' doesZ (fromZ (k ∷ rest)) k) (sym pl.part.1) (on_path k pl.node pl.before pl.part.0 (fromZ (k ∷ rest)) (subst Walk pl.part.1 walk) st'))) stop))
    ]

  -- ---- the theorem of removal

  -- the graph without some dead assignments: what is firm, and what is read, stays as it is where it is
  pub record IsRemoved (does' : Ask P → ℕ → Bool) : Type 0 where
    pub firm_stays : (m : ℕ) → firm m ≡ true → (ask : Ask P) → does' ask m ≡ doesH ask m
    pub read_stays : (path : List ℕ) (m : ℕ) (rest : List ℕ) (y : ℕ) → Walk path → IsEndOf (m ∷ rest) (liftH path) → doesH (Sets y) m ≡ true
        → (on : List ℕ) → Walk (on ++ path) → (r : ℕ) (before : List ℕ) → IsEndOf (r ∷ before) (liftH (on ++ path)) → doesH (Reads y) r ≡ true → latest (doesH (Sets y)) before ≡ m ∷ rest
        → (ask : Ask P) → does' ask m ≡ doesH ask m

  module _ (does' : Ask P → ℕ → Bool) (removed : IsRemoved does') where
    module _ (n : ℕ) (q : List ℕ) (walk : Walk (n ∷ q)) (k : ℕ) (rest : List ℕ) (at : IsEndOf (k ∷ rest) (liftZ (n ∷ q))) (x : ℕ) (sets_x : doesZ (Sets x) k ≡ true) (not_firm : firm k ≡ false)
        (st : Stands P Walk does firm overH doesH fromH doesZ (fromZ (k ∷ rest)) k (n ∷ q)) (r : IsRead P Walk does firm overZ doesZ (n ∷ q) k rest x)
        (sr : Stands P Walk does firm overH doesH fromH doesZ (fromZ (r.node ∷ r.before)) r.node (r.on ++ (n ∷ q))) where
      abbrev far : List ℕ
      far = sr.on ++ r.on

      walk_far : Walk (far ++ (n ∷ q))
      walk_far = subst Walk (sym (append_assoc sr.on r.on (n ∷ q))) sr.walk

      at_far : IsEndOf (sr.node ∷ sr.before) (liftH (far ++ (n ∷ q)))
      at_far = subst (λ a. IsEndOf (sr.node ∷ sr.before) (liftH a)) (sym (append_assoc sr.on r.on (n ∷ q))) sr.at

      reads_there : doesH (Reads x) sr.node ≡ true
      reads_there = sr.alike (Reads x) ∙ r.reads_it

      sets_there : doesH (Sets x) st.node ≡ true
      sets_there = st.alike (Sets x) ∙ sets_x

      abbrev last : List ℕ
      last = latest (doesH (Sets x)) sr.before

      came_last : fromH last ≡ fromZ (k ∷ rest)
      came_last = imageH.read (far ++ (n ∷ q)) sr.node sr.before x walk_far at_far reads_there ∙ ap (λ a. latest (does (Sets x)) (rest_of a)) sr.same
          ∙ sym (imageZ.read (r.on ++ (n ∷ q)) r.node r.before x r.walk r.at r.reads_it) ∙ ap fromZ r.last

      last_is : last ≡ st.node ∷ st.before
      last_is = elim (empty_or last) [
        | inl none ↦ (let o = imageZ.origin (n ∷ q) k rest walk at (x, inr sets_x) in let m = ap length (sym o.is ∙ sym came_last ∙ ap fromH none ∙ imageH.none) in absurd (omega (arith, m)))
        | inr v ↦
            let at_v = end_through (v.node ∷ v.rest) sr.before (liftH (far ++ (n ∷ q))) (subst (λ l. IsEndOf l sr.before) v.is (latest_end (doesH (Sets x)) sr.before)) (end_rest sr.node sr.before (liftH (far ++ (n ∷ q))) at_far) in
            v.is ∙ one_of P Walk does firm shorter single joint unentered overZ doesZ fromZ imageZ none_dead overH doesH fromH imageH above n q st.on x v.node st.node v.rest st.before far st.loose st.walk walk_far at_v st.at (latest_so (doesH (Sets x)) sr.before v.node v.rest v.is) sets_there (ap fromH (sym v.is) ∙ came_last ∙ sym st.same)
      ]

      -- it is read in H too, so it stays
      pub stays_alike : (ask : Ask P) → does' ask st.node ≡ doesH ask st.node
      stays_alike = elim (along Walk firm shorter single st.on far n q st.loose st.walk walk_far) [
        | within e ↦ removed.read_stays (st.on ++ (n ∷ q)) st.node st.before x st.walk st.at sets_there e.0 (subst Walk e.1 walk_far) sr.node sr.before (subst (λ a. IsEndOf (sr.node ∷ sr.before) (liftH a)) e.1 at_far) reads_there last_is
        | beyond more e l ↦ removed.read_stays (st.on ++ (n ∷ q)) st.node st.before x st.walk st.at sets_there [] st.walk sr.node sr.before (lift_end overH (sr.node ∷ sr.before) (far ++ (n ∷ q)) (st.on ++ (n ∷ q)) (more, e) at_far) reads_there last_is
      ]

    -- the graph after the removal is above Z too
    pub removal_keeps : IsAbove P Walk does firm overH does' fromH overZ doesZ fromZ
    removal_keeps path k rest walk at acts go = elim (cases_Bool (firm k)) [
      | inl is ↦ above path k rest walk at acts (λ st. go (record { on = st.on; walk = st.walk; loose = st.loose; node = st.node; before = st.before; at = st.at; same = st.same; alike = λ ask. removed.firm_stays st.node (st.firm_same ∙ is) ask ∙ st.alike ask; firm_same = st.firm_same }))
      | inr not ↦
          let pl = place_of overZ k rest path at in
          let v = imageZ.assignment k acts not in
          let walk_path = subst Walk pl.part.1 walk in
          let walk_p = shorter pl.part.0 pl.node pl.before walk_path in
          none_dead (pl.node ∷ pl.before) k rest v.0 walk_p pl.at pl.placed not v.1 (λ r. above (r.on ++ (pl.node ∷ pl.before)) r.node r.before r.walk r.at (v.0, inl r.reads_it) (λ sr. above (pl.node ∷ pl.before) k rest walk_p pl.at acts (λ st.
          let same = stays_alike pl.node pl.before walk_p k rest pl.at v.0 v.1 not st r sr in
          let st' : Stands P Walk does firm overH does' fromH doesZ (fromZ (k ∷ rest)) k (pl.node ∷ pl.before) = record { on = st.on; walk = st.walk; loose = st.loose; node = st.node; before = st.before; at = st.at; same = st.same; alike = λ ask. same ask ∙ st.alike ask; firm_same = st.firm_same } in
          go (subst (Stands P Walk does firm overH does' fromH doesZ (fromZ (k ∷ rest)) k) (sym pl.part.1) (lifted k pl.node pl.before pl.part.0 (fromZ (k ∷ rest)) walk_path st')))))
    ]
      where
        lifted : (k n : ℕ) (q f : List ℕ) (origin : List ℕ) → Walk (f ++ (n ∷ q))
            → Stands P Walk does firm overH does' fromH doesZ origin k (n ∷ q)
            → Stands P Walk does firm overH does' fromH doesZ origin k (f ++ (n ∷ q))
        lifted k n q f origin walk st = elim (along Walk firm shorter single st.on f n q st.loose st.walk walk) [
          | within e ↦ record { on = []; walk = walk; loose = tt; node = st.node; before = st.before; at = lift_end overH (st.node ∷ st.before) (st.on ++ (n ∷ q)) (f ++ (n ∷ q)) e st.at; same = st.same; alike = st.alike; firm_same = st.firm_same }
          | beyond more e l ↦ record { on = more; walk = subst Walk e st.walk; loose = l; node = st.node; before = st.before; at = subst (λ a. IsEndOf (st.node ∷ st.before) (liftH a)) e st.at; same = st.same; alike = st.alike; firm_same = st.firm_same }
        ]
