-- The lemma of passing: what stands before a join in a graph in which nothing is dead, and has passed the join in a graph
-- that has all that the first one has, has partners before the join in the first graph on every other way to the join.
use Rattle.std.proofs.Common.{◌≡◌, ◌⊎◌, ◌+◌, ◌<◌, ◌≤◌, ℕ, zero, suc, Bool, true, List, [], ◌∷◌, ◌++◌, length, flat_map, inl, inr, refl, sym, ap, ◌∙◌, subst, arith, append_assoc}
use Rattle.std.proofs.lemmas.Bool.{cases_Bool, cases_lt}
use Rattle.std.proofs.lemmas.List.{append_cancel_right}
use Rattle.std.proofs.lemmas.List.Concat.{flat_map-append}
use Rattle.path_images.specs.Ends.{BeforeLatest, IsCons, IsEndOf, IsLonger, before_latest, empty_or, cons_first, cons_rest, end_itself, end_length, end_past, end_rest, end_through, ends_compare, latest, latest_end, latest_here, latest_so, longer_end, longer_length, rest_of}
use Rattle.path_images.specs.Walks.{IsPlaced}
use Rattle.path_images.specs.Images.{Acts, Ask, BothFrom, IsAbove, IsImage, Reads, Sets, IsRead, NoneDead, Origin, Stands, from_before, from_behind}

module _ (P : Type 0) (Walk : List ℕ → Type 0) (does : Ask P → ℕ → Bool) (firm : ℕ → Bool)
    (overZ : ℕ → List ℕ) (doesZ : Ask P → ℕ → Bool) (fromZ : List ℕ → List ℕ) (imageZ : IsImage P Walk does firm overZ doesZ fromZ) (none_dead : NoneDead P Walk does firm overZ doesZ)
    (overH : ℕ → List ℕ) (doesH : Ask P → ℕ → Bool) (fromH : List ℕ → List ℕ) (imageH : IsImage P Walk does firm overH doesH fromH)
    (above : IsAbove P Walk does firm overH doesH fromH overZ doesZ fromZ)
    (s : ℕ) (b b' : List ℕ) (walk_b : Walk b) (walk_b' : Walk b') (to_other : (e : List ℕ) → Walk (e ++ (s ∷ b)) → Walk (e ++ (s ∷ b'))) (walk_s : Walk (s ∷ b)) where
  abbrev liftZ : List ℕ → List ℕ
  liftZ = flat_map overZ

  abbrev liftH : List ℕ → List ℕ
  liftH = flat_map overH

  -- each path on from there comes to the join, or ends on the way to it
  abbrev pub Way : List ℕ → Type 0
  Way p = (e : List ℕ) → Walk (e ++ p) → IsEndOf (e ++ p) (s ∷ b) ⊎ IsEndOf (s ∷ b) (e ++ p)

  -- on the other way to the join there stands in Z what in H came from the same place
  pub record Partner (e : List ℕ) (hk : ℕ) (hrest zv : List ℕ) : Type 0 where
    pub node : ℕ
    pub rest : List ℕ
    pub at : IsEndOf (node ∷ rest) (liftZ (e ++ (s ∷ b')))
    pub same : fromZ (node ∷ rest) ≡ fromH (hk ∷ hrest)
    pub alike : (q : Ask P) → doesZ q node ≡ doesH q hk
    pub stays : (d : ℕ) (ds : List ℕ) → node ∷ rest ≡ (d ∷ ds) ++ liftZ b' → zv ≡ (d ∷ ds) ++ liftZ b

  -- H has it, on the path through the join; and where it has passed the join, it has a partner
  pub record Passed (p : List ℕ) (zk : ℕ) (zv : List ℕ) : Type 0 where
    pub e : List ℕ
    pub walk : Walk (e ++ (s ∷ b))
    pub through : IsEndOf p (e ++ (s ∷ b))
    pub node : ℕ
    pub rest : List ℕ
    pub at : IsEndOf (node ∷ rest) (liftH (e ++ (s ∷ b)))
    pub same : fromH (node ∷ rest) ≡ fromZ zv
    pub alike : (q : Ask P) → doesH q node ≡ doesZ q zk
    pub partner : (d : ℕ) (ds : List ℕ) → node ∷ rest ≡ (d ∷ ds) ++ liftH b → Partner e d (ds ++ liftH b') zv

  -- a path that ends in the other joins
  moved_up : (over : ℕ → List ℕ) (e : List ℕ) (end : List ℕ) → (path : List ℕ) → IsEndOf end (flat_map over path)
      → IsEndOf path (e ++ (s ∷ b)) → IsEndOf end (flat_map over (e ++ (s ∷ b)))
  moved_up over e end path at up = end_through end (flat_map over path) (flat_map over (e ++ (s ∷ b))) at (flat_map over up.0, ap (flat_map over) up.1 ∙ flat_map-append over up.0 path)

  -- the path through the join that this one leads to
  pub record Through (p : List ℕ) : Type 0 where
    pub e : List ℕ
    pub walk : Walk (e ++ (s ∷ b))
    pub up : IsEndOf p (e ++ (s ∷ b))

  through_join : (p : List ℕ) → Walk p → IsEndOf p (s ∷ b) ⊎ IsEndOf (s ∷ b) p → Through p
  through_join p walk (inl on) = record { e = []; walk = walk_s; up = on }
  through_join p walk (inr past) = record { e = past.0; walk = subst Walk past.1 walk; up = subst (IsEndOf p) past.1 (end_itself p) }

  -- ---- what is over the part behind the join is over it on the other way

  pub other_end : (over : ℕ → List ℕ) (e : List ℕ) (d : ℕ) (ds : List ℕ)
      → IsEndOf ((d ∷ ds) ++ flat_map over b) (flat_map over (e ++ (s ∷ b)))
      → IsEndOf ((d ∷ ds) ++ flat_map over b') (flat_map over (e ++ (s ∷ b')))
  other_end over e d ds at =
      let whole = (x : List ℕ) → flat_map over (e ++ (s ∷ x)) ≡ flat_map over (e ++ (s ∷ [])) ++ flat_map over x in
      let cut : whole = λ x. ap (flat_map over) (sym (append_assoc e (s ∷ []) x)) ∙ flat_map-append over (e ++ (s ∷ [])) x in
      let front : flat_map over (e ++ (s ∷ [])) ≡ at.0 ++ (d ∷ ds) = append_cancel_right (flat_map over (e ++ (s ∷ []))) (at.0 ++ (d ∷ ds)) (flat_map over b) (sym (cut b) ∙ at.1 ∙ sym (append_assoc at.0 (d ∷ ds) (flat_map over b))) in
      (at.0, cut b' ∙ ap (λ l. l ++ flat_map over b') front ∙ append_assoc at.0 (d ∷ ds) (flat_map over b'))

  not_empty : (n : ℕ) (l : List ℕ) → n ∷ l ≡ [] → ⊥
  not_empty n l e = let same = ap length e in omega (arith, same)

  -- ---- what came from behind the join

  far : (p : List ℕ) (zk : ℕ) (zrest : List ℕ) → Walk p → Way p → IsEndOf (zk ∷ zrest) (liftZ p)
      → Acts P Walk does firm doesZ zk → length b < length (fromZ (zk ∷ zrest)) → (Passed p zk (zk ∷ zrest) → ⊥) → ⊥
  far p zk zrest walk way at acts lt go =
      above p zk zrest walk at acts (λ st.
      let same_path : st.on ++ p ≡ (st.on ++ past.0) ++ (s ∷ b) = ap (λ l. st.on ++ l) past.1 ∙ sym (append_assoc st.on past.0 (s ∷ b)) in
      let at' : IsEndOf (st.node ∷ st.before) (liftH ((st.on ++ past.0) ++ (s ∷ b))) = subst (λ l. IsEndOf (st.node ∷ st.before) (liftH l)) same_path st.at in
      let walk' : Walk ((st.on ++ past.0) ++ (s ∷ b)) = subst Walk same_path st.walk in
      go (record {
        e = st.on ++ past.0;
        walk = walk';
        through = (st.on, sym same_path);
        node = st.node;
        rest = st.before;
        at = at';
        same = st.same;
        alike = st.alike;
        partner = λ d ds is. partner_of st d ds is (st.on ++ past.0) walk' (subst (λ l. IsEndOf l (liftH ((st.on ++ past.0) ++ (s ∷ b)))) is at') (moved_up overZ (st.on ++ past.0) (zk ∷ zrest) p at (st.on, sym same_path));
      }))
    where
      o : Origin P Walk does firm doesZ (fromZ (zk ∷ zrest)) zk p
      o = imageZ.origin p zk zrest walk at acts

      past : IsEndOf (s ∷ b) p
      past = elim (way [] walk) [
        | inl on ↦ let a = end_length (fromZ (zk ∷ zrest)) p o.at in ends_compare (s ∷ b) p (s ∷ b) (end_itself (s ∷ b)) on (omega (arith, a, lt))
        | inr is ↦ is
      ]

      longer : IsLonger (zk ∷ zrest) (liftZ b)
      longer = elim (cases_lt (length (liftZ b)) (length (zk ∷ zrest))) [
        | inl less ↦ longer_end (zk ∷ zrest) (liftZ b) (liftZ p) at base less
        | inr ge ↦
            let low = ends_compare (zk ∷ zrest) (liftZ b) (liftZ p) at base ge in
            let under = end_length (fromZ (zk ∷ zrest)) b (imageZ.origin b zk zrest walk_b low acts).at in
            absurd (omega (arith, under, lt))
      ]
        where
          base : IsEndOf (liftZ b) (liftZ p)
          base = end_through (liftZ b) (liftZ (s ∷ b)) (liftZ p) (overZ s, refl) (flat_map overZ past.0, ap (flat_map overZ) past.1 ∙ flat_map-append overZ past.0 (s ∷ b))

      partner_of : (st : Stands P Walk does firm overH doesH fromH doesZ (fromZ (zk ∷ zrest)) zk p) (d : ℕ) (ds : List ℕ)
          → st.node ∷ st.before ≡ (d ∷ ds) ++ liftH b → (e : List ℕ) → Walk (e ++ (s ∷ b))
          → IsEndOf ((d ∷ ds) ++ liftH b) (liftH (e ++ (s ∷ b)))
          → IsEndOf (zk ∷ zrest) (liftZ (e ++ (s ∷ b))) → Partner e d (ds ++ liftH b') (zk ∷ zrest)
      partner_of st d ds is e walk' atH atZ = by_z (imageZ.joins b b' e s longer.node longer.front walk' (to_other e walk') (subst (λ l. IsEndOf l (liftZ (e ++ (s ∷ b)))) longer.is atZ) acts_z)
        where
          same_k : zk ≡ longer.node
          same_k = cons_first zk longer.node zrest (longer.front ++ liftZ b) longer.is

          same_h : st.node ≡ d
          same_h = cons_first st.node d st.before (ds ++ liftH b) is

          acts_z : Acts P Walk does firm doesZ longer.node
          acts_z = subst (Acts P Walk does firm doesZ) same_k acts

          acts_h : Acts P Walk does firm doesH d
          acts_h = subst (Acts P Walk does firm doesH) same_h (acts.0, elim acts.1 [ inl r ↦ inl (st.alike (Reads acts.0) ∙ r) | inr w ↦ inr (st.alike (Sets acts.0) ∙ w) ])

          came : fromH ((d ∷ ds) ++ liftH b) ≡ fromZ (zk ∷ zrest)
          came = ap fromH (sym is) ∙ st.same

          by_h : (g : ℕ) (front : List ℕ) → fromZ ((longer.node ∷ longer.front) ++ liftZ b) ≡ (g ∷ front) ++ b
              → fromZ ((longer.node ∷ longer.front) ++ liftZ b') ≡ (g ∷ front) ++ b'
              → BothFrom P Walk does firm b b' (fromH ((d ∷ ds) ++ liftH b)) (fromH ((d ∷ ds) ++ liftH b')) → Partner e d (ds ++ liftH b') (zk ∷ zrest)
          by_h g front z1 z2 (from_before low low') = let under = end_length (fromH ((d ∷ ds) ++ liftH b)) b low in let l = ap length came in absurd (omega (arith, under, l, lt))
          by_h g front z1 z2 (from_behind g' front' h1 h2) =
              let alike : (g' ∷ front') ++ b ≡ (g ∷ front) ++ b = sym h1 ∙ came ∙ ap fromZ longer.is ∙ z1 in
              let fronts : g' ∷ front' ≡ g ∷ front = append_cancel_right (g' ∷ front') (g ∷ front) b alike in
              record {
                node = longer.node;
                rest = longer.front ++ liftZ b';
                at = other_end overZ e longer.node longer.front (subst (λ l. IsEndOf l (liftZ (e ++ (s ∷ b)))) longer.is atZ);
                same = z2 ∙ ap (λ l. l ++ b') (sym fronts) ∙ sym h2;
                alike = λ q. ap (doesZ q) (sym same_k) ∙ sym (st.alike q) ∙ ap (doesH q) same_h;
                stays = λ d' ds' e'. longer.is ∙ ap (λ l. l ++ liftZ b) (append_cancel_right (longer.node ∷ longer.front) (d' ∷ ds') (liftZ b') e');
              }

          by_z : BothFrom P Walk does firm b b' (fromZ ((longer.node ∷ longer.front) ++ liftZ b)) (fromZ ((longer.node ∷ longer.front) ++ liftZ b'))
              → Partner e d (ds ++ liftH b') (zk ∷ zrest)
          by_z (from_before low low') = let under = end_length (fromZ ((longer.node ∷ longer.front) ++ liftZ b)) b low in let l = ap (λ l. length (fromZ l)) longer.is in absurd (omega (arith, under, l, lt))
          by_z (from_behind g front z1 z2) = by_h g front z1 z2 (imageH.joins b b' e s d ds walk' (to_other e walk') atH acts_h)

  -- ---- a firm node before the join

  fixed_there : (p : List ℕ) (zk : ℕ) (zrest : List ℕ) → Walk p → Way p → IsEndOf (zk ∷ zrest) (liftZ p)
      → Acts P Walk does firm doesZ zk → length (fromZ (zk ∷ zrest)) ≤ length b → firm zk ≡ true
      → (Passed p zk (zk ∷ zrest) → ⊥) → ⊥
  fixed_there p zk zrest walk way at acts le is_firm go =
      above p zk zrest walk at acts (λ st.
      let th = through_join (st.on ++ p) st.walk (way st.on st.walk) in
      let at' : IsEndOf (st.node ∷ st.before) (liftH (th.e ++ (s ∷ b))) = moved_up overH th.e (st.node ∷ st.before) (st.on ++ p) st.at th.up in
      go (record {
        e = th.e;
        walk = th.walk;
        through = end_through p (st.on ++ p) (th.e ++ (s ∷ b)) (st.on, refl) th.up;
        node = st.node;
        rest = st.before;
        at = at';
        same = st.same;
        alike = st.alike;
        partner = λ d ds is. absurd (never st th.e th.walk at' d ds is);
      }))
    where
      never : (st : Stands P Walk does firm overH doesH fromH doesZ (fromZ (zk ∷ zrest)) zk p) (e : List ℕ)
          → Walk (e ++ (s ∷ b)) → IsEndOf (st.node ∷ st.before) (liftH (e ++ (s ∷ b))) → (d : ℕ) (ds : List ℕ)
          → st.node ∷ st.before ≡ (d ∷ ds) ++ liftH b → ⊥
      never st e walk' at' d ds is =
          let acts_h : Acts P Walk does firm doesH st.node = (acts.0, elim acts.1 [ inl r ↦ inl (st.alike (Reads acts.0) ∙ r) | inr w ↦ inr (st.alike (Sets acts.0) ∙ w) ]) in
          let o = imageH.origin (e ++ (s ∷ b)) st.node st.before walk' at' acts_h in
          let fixed = imageH.fixed (e ++ (s ∷ b)) st.node st.before walk' at' acts_h (st.firm_same ∙ is_firm) in
          let base : IsEndOf b (e ++ (s ∷ b)) = end_past e b (s ∷ b) (s ∷ [], refl) in
          let short : length (fromH (st.node ∷ st.before)) ≤ length b = (let l = ap length st.same in omega (arith, l, le)) in
          let low = ends_compare (fromH (st.node ∷ st.before)) b (e ++ (s ∷ b)) o.at base short in
          let lifted : IsEndOf (liftH (fromH (st.node ∷ st.before))) (liftH b) = (flat_map overH low.0, ap (flat_map overH) low.1 ∙ flat_map-append overH low.0 (fromH (st.node ∷ st.before))) in
          let a = end_length (st.node ∷ st.before) (liftH (fromH (st.node ∷ st.before))) fixed in
          let c = end_length (liftH (fromH (st.node ∷ st.before))) (liftH b) lifted in
          let l = longer_length (st.node ∷ st.before) (liftH b) (record { node = d; front = ds; is = is }) in
          omega (arith, a, c, l)

  -- ---- what is read on: as its reader

  module _ (p : List ℕ) (zk : ℕ) (zrest : List ℕ) (walk : Walk p) (at : IsEndOf (zk ∷ zrest) (liftZ p)) (y : ℕ) (sets_y : doesZ (Sets y) zk ≡ true)
      (r : IsRead P Walk does firm overZ doesZ p zk zrest y) where
    abbrev zr : List ℕ
    zr = r.node ∷ r.before

    -- it came from before its reader
    came_last : fromZ (zk ∷ zrest) ≡ latest (does (Sets y)) (rest_of (fromZ zr))
    came_last = ap fromZ (sym r.last) ∙ imageZ.read (r.on ++ p) r.node r.before y r.walk r.at r.reads_it

    abbrev own : Origin P Walk does firm doesZ (fromZ (zk ∷ zrest)) zk p
    own = imageZ.origin p zk zrest walk at (y, inr sets_y)

    pub came_sooner : length (fromZ (zk ∷ zrest)) < length (fromZ zr)
    came_sooner =
        let o = imageZ.origin (r.on ++ p) r.node r.before r.walk r.at (y, inl r.reads_it) in
        let under = end_length (latest (does (Sets y)) (rest_of (fromZ zr))) (rest_of (fromZ zr)) (latest_end (does (Sets y)) (rest_of (fromZ zr))) in
        let l = ap length came_last in
        let whole = ap length o.is in
        let rest = ap (λ q. length (rest_of q)) o.is in
        omega (arith, under, l, whole, rest)

    module _ (ps : Passed (r.on ++ p) r.node zr) where
      abbrev hv : List ℕ
      hv = latest (doesH (Sets y)) ps.rest

      reads_h : doesH (Reads y) ps.node ≡ true
      reads_h = ps.alike (Reads y) ∙ r.reads_it

      pub came : fromH hv ≡ fromZ (zk ∷ zrest)
      came = imageH.read (ps.e ++ (s ∷ b)) ps.node ps.rest y ps.walk ps.at reads_h ∙ ap (λ q. latest (does (Sets y)) (rest_of q)) ps.same ∙ sym came_last

      -- what the partner of the reader reads
      module _ (up : List ℕ) (rest_is : ps.rest ≡ up ++ liftH b) (d : ℕ) (dr : List ℕ) (last_h : latest (doesH (Sets y)) (up ++ liftH b') ≡ d ∷ dr) where
        pt : Partner ps.e ps.node (up ++ liftH b') zr
        pt = ps.partner ps.node up (ap (λ l. ps.node ∷ l) rest_is)

        abbrev path' : List ℕ
        path' = ps.e ++ (s ∷ b')

        walk' : Walk path'
        walk' = to_other ps.e ps.walk

        sets_d : doesH (Sets y) d ≡ true
        sets_d = latest_so (doesH (Sets y)) (up ++ liftH b') d dr last_h

        reader_at : IsEndOf ((ps.node ∷ up) ++ liftH b') (liftH path')
        reader_at = other_end overH ps.e ps.node up (subst (λ l. IsEndOf l (liftH (ps.e ++ (s ∷ b)))) (ap (λ l. ps.node ∷ l) rest_is) ps.at)

        d_at : IsEndOf (d ∷ dr) (liftH path')
        d_at = end_through (d ∷ dr) (up ++ liftH b') (liftH path') (subst (λ l. IsEndOf l (up ++ liftH b')) last_h (latest_end (doesH (Sets y)) (up ++ liftH b'))) (end_rest ps.node (up ++ liftH b') (liftH path') reader_at)

        reads_pt : doesZ (Reads y) pt.node ≡ true
        reads_pt = pt.alike (Reads y) ∙ reads_h

        abbrev v : List ℕ
        v = latest (doesZ (Sets y)) pt.rest

        came_v : fromZ v ≡ fromH (d ∷ dr)
        came_v = imageZ.read path' pt.node pt.rest y walk' pt.at reads_pt ∙ ap (λ q. latest (does (Sets y)) (rest_of q)) pt.same
            ∙ sym (imageH.read path' ps.node (up ++ liftH b') y walk' reader_at reads_h) ∙ ap fromH last_h

        o_d : Origin P Walk does firm doesH (fromH (d ∷ dr)) d path'
        o_d = imageH.origin path' d dr walk' d_at (y, inr sets_d)

        found_by : (v ≡ []) ⊎ IsCons v → Partner ps.e d dr (zk ∷ zrest)
        found_by (inl none) = absurd (not_empty o_d.node o_d.before (sym o_d.is ∙ sym came_v ∙ ap fromZ none ∙ imageZ.none))
        found_by (inr c) = record {
          node = c.node;
          rest = c.rest;
          at = v_at;
          same = ap fromZ (sym c.is) ∙ came_v;
          alike = λ q. o_v.alike q ∙ ap (does q) (cons_first o_v.node o_d.node o_v.before o_d.before (sym o_v.is ∙ ap fromZ (sym c.is) ∙ came_v ∙ o_d.is)) ∙ sym (o_d.alike q);
          stays = stays;
        }
          where
            sets_v : doesZ (Sets y) c.node ≡ true
            sets_v = latest_so (doesZ (Sets y)) pt.rest c.node c.rest c.is

            v_at : IsEndOf (c.node ∷ c.rest) (liftZ path')
            v_at = end_through (c.node ∷ c.rest) pt.rest (liftZ path') (subst (λ l. IsEndOf l pt.rest) c.is (latest_end (doesZ (Sets y)) pt.rest)) (end_rest pt.node pt.rest (liftZ path') pt.at)

            o_v : Origin P Walk does firm doesZ (fromZ (c.node ∷ c.rest)) c.node path'
            o_v = imageZ.origin path' c.node c.rest walk' v_at (y, inr sets_v)

            stays : (d' : ℕ) (ds' : List ℕ) → c.node ∷ c.rest ≡ (d' ∷ ds') ++ liftZ b' → zk ∷ zrest ≡ (d' ∷ ds') ++ liftZ b
            stays d' ds' cut' =
                let past = before_latest (doesZ (Sets y)) pt.rest in
                let front = past.front ++ (d' ∷ ds') in
                let tail_is : pt.rest ≡ front ++ liftZ b' = past.is ∙ ap (λ l. past.front ++ l) (c.is ∙ cut') ∙ sym (append_assoc past.front (d' ∷ ds') (liftZ b')) in
                let whole : zr ≡ (pt.node ∷ front) ++ liftZ b = pt.stays pt.node front (ap (λ l. pt.node ∷ l) tail_is) in
                let before_is : r.before ≡ front ++ liftZ b = cons_rest r.node pt.node r.before (front ++ liftZ b) whole in
                let sets_d' : doesZ (Sets y) d' ≡ true = ap (doesZ (Sets y)) (sym (cons_first c.node d' c.rest (ds' ++ liftZ b') cut')) ∙ sets_v in
                sym r.last ∙ ap (latest (doesZ (Sets y))) (before_is ∙ append_assoc past.front (d' ∷ ds') (liftZ b)) ∙ past.passed ((d' ∷ ds') ++ liftZ b) ∙ latest_here (doesZ (Sets y)) d' (ds' ++ liftZ b) sets_d'

        pub found : Partner ps.e d dr (zk ∷ zrest)
        found = found_by (empty_or v)

      module _ (hn : ℕ) (hb : List ℕ) (is : hv ≡ hn ∷ hb) where
        sets_h : doesH (Sets y) hn ≡ true
        sets_h = latest_so (doesH (Sets y)) ps.rest hn hb is

        at_h : IsEndOf (hn ∷ hb) (liftH (ps.e ++ (s ∷ b)))
        at_h = end_through (hn ∷ hb) ps.rest (liftH (ps.e ++ (s ∷ b))) (subst (λ l. IsEndOf l ps.rest) is (latest_end (doesH (Sets y)) ps.rest)) (end_rest ps.node ps.rest (liftH (ps.e ++ (s ∷ b))) ps.at)

        alike_h : (q : Ask P) → doesH q hn ≡ doesZ q zk
        alike_h q =
            let o = imageH.origin (ps.e ++ (s ∷ b)) hn hb ps.walk at_h (y, inr sets_h) in
            let one : o.node ≡ own.node = cons_first o.node own.node o.before own.before (sym o.is ∙ ap fromH (sym is) ∙ came ∙ own.is) in
            o.alike q ∙ ap (does q) one ∙ sym (own.alike q)

        module _ (d : ℕ) (ds : List ℕ) (cut : hn ∷ hb ≡ (d ∷ ds) ++ liftH b) where
          first : BeforeLatest (doesH (Sets y)) ps.rest
          first = before_latest (doesH (Sets y)) ps.rest

          abbrev up : List ℕ
          up = first.front ++ (d ∷ ds)

          up_is : ps.rest ≡ up ++ liftH b
          up_is = first.is ∙ ap (λ l. first.front ++ l) (is ∙ cut) ∙ sym (append_assoc first.front (d ∷ ds) (liftH b))

          sets_here : doesH (Sets y) d ≡ true
          sets_here = ap (doesH (Sets y)) (sym (cons_first hn d hb (ds ++ liftH b) cut)) ∙ sets_h

          -- on the other way the same node of H is read there
          last_there : latest (doesH (Sets y)) (up ++ liftH b') ≡ (d ∷ ds) ++ liftH b'
          last_there = ap (latest (doesH (Sets y))) (append_assoc first.front (d ∷ ds) (liftH b')) ∙ first.passed ((d ∷ ds) ++ liftH b') ∙ latest_here (doesH (Sets y)) d (ds ++ liftH b') sets_here

          pub partner : Partner ps.e d (ds ++ liftH b') (zk ∷ zrest)
          partner = found up up_is d (ds ++ liftH b') last_there

        pub as_reader : Passed p zk (zk ∷ zrest)
        as_reader = record {
          e = ps.e;
          walk = ps.walk;
          through = end_through p (r.on ++ p) (ps.e ++ (s ∷ b)) (r.on, refl) ps.through;
          node = hn;
          rest = hb;
          at = at_h;
          same = ap fromH (sym is) ∙ came;
          alike = alike_h;
          partner = partner;
        }

      pub read_passed : Passed p zk (zk ∷ zrest)
      read_passed = elim (empty_or hv) [
        | inl none ↦ absurd (not_empty own.node own.before (sym own.is ∙ sym came ∙ ap fromH none ∙ imageH.none))
        | inr c ↦ as_reader c.node c.rest c.is
      ]

  -- ---- by readers, up to the last one

  pub way_on : (p e : List ℕ) → Way p → Way (e ++ p)
  way_on p e way f w = subst (λ l. IsEndOf l (s ∷ b) ⊎ IsEndOf (s ∷ b) l) (append_assoc f e p) (way (f ++ e) (subst Walk (sym (append_assoc f e p)) w))

  passed_in : (n : ℕ) (p : List ℕ) (zk : ℕ) (zrest : List ℕ) → Walk p → Way p → IsEndOf (zk ∷ zrest) (liftZ p)
      → IsPlaced overZ (zk ∷ zrest) p → Acts P Walk does firm doesZ zk → length b < n + length (fromZ (zk ∷ zrest))
      → (Passed p zk (zk ∷ zrest) → ⊥) → ⊥
  passed_in zero p zk zrest walk way at placed acts bound go = far p zk zrest walk way at acts (omega (arith, bound)) go
  passed_in (suc n) p zk zrest walk way at placed acts bound go = elim (cases_lt (length b) (length (fromZ (zk ∷ zrest)))) [
    | inl lt ↦ far p zk zrest walk way at acts lt go
    | inr le ↦ elim (cases_Bool (firm zk)) [
      | inl is ↦ fixed_there p zk zrest walk way at acts le is go
      | inr not ↦
          let w = imageZ.assignment zk acts not in
          none_dead p zk zrest w.0 walk at placed not w.1 (λ r.
          let sooner = came_sooner p zk zrest walk at w.0 w.1 r in
          passed_in n (r.on ++ p) r.node r.before r.walk (way_on p r.on way) r.at r.placed (w.0, inl r.reads_it) (omega (arith, bound, sooner)) (λ ps. go (read_passed p zk zrest walk at w.0 w.1 r ps)))
    ]
  ]

  -- what Z has on the way to the join, H has too; and where it has passed the join, it has a partner in Z
  pub passed : (p : List ℕ) (zk : ℕ) (zrest : List ℕ) → Walk p → Way p → IsEndOf (zk ∷ zrest) (liftZ p)
      → IsPlaced overZ (zk ∷ zrest) p → Acts P Walk does firm doesZ zk → (Passed p zk (zk ∷ zrest) → ⊥) → ⊥
  passed p zk zrest walk way at placed acts go = passed_in (suc (length b)) p zk zrest walk way at placed acts (omega arith) go
