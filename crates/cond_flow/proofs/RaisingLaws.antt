-- What is raised in a list of what is known, and what is then news.
use Rattle.std.proofs.Common.{◌≡◌, ◌↔◌, inl, inr, ℕ, zero, suc, ◌+◌, ◌<◌, ◌≤◌, Bool, true, false, ◌||◌, nat_eq, List, [], ◌∷◌, ◌++◌, length, get_or, slice_get, slice_set, length-set, Some, refl, sym, ap, ◌∙◌, subst, arith}
use Rattle.std.proofs.lemmas.Bool.{cases_Bool, cases_lt, eq-eqb, eqb-true, or_parts}
use Rattle.std.proofs.lemmas.List.{get_or-set_same, get_or_default, get_or_past, set-get_or}
use Rattle.fix_solve.specs.Order.{IsLeastUpper}
use Rattle.fix_solve.specs.Pointwise.{Pointwise, pointwise_antisym, pointwise_length, pointwise_refl, pointwise_trans}
use Rattle.cond_flow.specs.Catching.{AgreeOff, AreOff, HasPassed, IsCaught}
use Rattle.cond_flow.specs.Caught.{caught_all}
use Rattle.cond_flow.specs.NewsShapes.{NewsShape, IsNoted, IsNotedIf, IsPut, is_among}
use Rattle.cond_flow.specs.PassingLaws.{below_at}
use Rattle.cond_flow.specs.Raising.{IsRaised, IsRaisedTo, KeepsRaised}
use Rattle.cond_flow.specs.Rules.{Rules, OrderRules, RisingRules, known_at}
use Rattle.cond_flow.specs.SetLaws.{set_apart}
use Rattle.cond_flow.specs.States.{NodeState, Unreached, Knows, BelowState, is_reached, state_where}
use Rattle.cond_flow.proofs.JoinCases.{passes_none}
use Rattle.cond_flow.proofs.ReadingLaws.{AgreeStates, StaysAt}

-- one thing is there
pub some_same : {A : Type 0} (a b : A) → Some a ≡ Some b → a ≡ b
some_same a b e = cc

-- ---- which variables are among some

-- one that stands in the list
pub among_get : (xs : List ℕ) (i k : ℕ) → slice_get xs i ≡ Some k → is_among xs k ≡ true
among_get [] i k at = cc
among_get (x ∷ xs) zero k at = let same : k ≡ x = cc in ap (λ b. b || is_among xs k) (eq-eqb k x same)
among_get (x ∷ xs) (suc i) k at = or_later (nat_eq k x) (among_get xs i k at)
  where
    or_later : (b : Bool) → is_among xs k ≡ true → (b || is_among xs k) ≡ true
    or_later true later = refl
    or_later false later = later

-- and where it stands
pub among_at : (xs : List ℕ) (k : ℕ) → is_among xs k ≡ true → (i : ℕ) × (i < length xs) × (slice_get xs i ≡ Some k)
among_at [] k on = absurd (cc)
among_at (x ∷ xs) k on = by (nat_eq k x) refl on (λ later. among_at xs k later)
  where
    by : (b : Bool) → nat_eq k x ≡ b → (b || is_among xs k) ≡ true
        → (is_among xs k ≡ true → (i : ℕ) × (i < length xs) × (slice_get xs i ≡ Some k))
        → (i : ℕ) × (i < suc (length xs)) × (slice_get (x ∷ xs) i ≡ Some k)
    by true same on rest = (0, omega arith, ap Some (sym (eqb-true k x same)))
    by false other on rest = let place = rest on in (suc place.0, omega (arith, place.1), place.2)

-- one that is not among them and one more
among_more : (xs : List ℕ) (x k : ℕ) → is_among (xs ++ x ∷ []) k ≡ false → (is_among xs k ≡ false) × (nat_eq k x ≡ false)
among_more [] x k off = (refl, (or_parts (nat_eq k x) false off).0)
among_more (y ∷ xs) x k off =
    let parts = or_parts (nat_eq k y) (is_among (xs ++ x ∷ []) k) off in
    let rest = among_more xs x k parts.1 in
    (ap (λ b. b || is_among xs k) parts.0 ∙ rest.0, rest.1)

-- a variable that was put behind those that were raised is noted
pub noted_put : (x : ℕ) (old new : NewsShape) → IsPut x old new → IsNoted x old new
noted_put x old new more = record {
  was = more.was;
  raised = λ off k out. among_more old.raised x k (ap (λ l. is_among l k) (sym (more.raised off)) ∙ out);
}

-- and one that is among them already
pub noted_again : (x : ℕ) (news : NewsShape) → is_among news.raised x ≡ true → IsNoted x news news
noted_again x news there = record {
  was = λ off. off;
  raised = λ off k out. (
    out,
    elim (cases_Bool (nat_eq k x)) as (λ _. nat_eq k x ≡ false) [
      | inl on ↦
          let same : k ≡ x = eqb-true k x on in
          let bad : true ≡ false = sym there ∙ ap (is_among news.raised) (sym same) ∙ out in
          absurd (cc)
      | inr off ↦ off
    ],
  );
}

module _ {K : Type 0} (rules : Rules K) where
  -- ---- what is news

  -- nothing has changed
  pub keeps_none : (news : NewsShape) (xs : List K) → KeepsRaised rules news xs news xs
  keeps_none news xs = record { long = refl; was = λ off. off; same = λ off k out. (out, refl) }

  -- all is news
  pub keeps_whole : (news : NewsShape) (xs ys : List K) → length ys ≡ length xs → news.whole ≡ true → KeepsRaised rules news xs news ys
  keeps_whole news xs ys long all = record {
    long = long;
    was = λ off. off;
    same = λ off k out. absurd (let bad : true ≡ false = sym all ∙ off in cc);
  }

  -- a list in which one variable was joined stays if nothing is told
  pub stays_where : (ys zs : List K) (x : ℕ) (v d : K) (rose : Bool) → zs ≡ slice_set ys x v
      → ((rose ≡ false) ↔ (v ≡ get_or ys x d)) → rose ≡ false → zs ≡ ys
  stays_where ys zs x v d rose set tells off = set ∙ ap (slice_set ys x) (tells.0 off) ∙ set-get_or ys x d

  -- one variable more was joined
  pub keeps_more : (news news' news'' : NewsShape) (xs ys zs : List K) (rose : Bool) (x : ℕ) (v : K)
      → KeepsRaised rules news xs news' ys → IsNotedIf rose x news' news'' → zs ≡ slice_set ys x v → (rose ≡ false → zs ≡ ys)
      → KeepsRaised rules news xs news'' zs
  keeps_more news news' news'' xs ys zs true x v before noted set stays =
      let n = noted.noted refl in
      record {
        long = ap length set ∙ length-set ys x v ∙ before.long;
        was = λ off. before.was (n.was off);
        same = λ off k out.
            let parts = n.raised off k out in
            let so_far = before.same (n.was off) k parts.0 in
            (so_far.0, ap (λ l. known_at rules l k) set ∙ set_apart rules ys x v k parts.1 ∙ so_far.1);
      }
  keeps_more news news' news'' xs ys zs false x v before noted set stays =
      subst (λ l. KeepsRaised rules news xs news'' l) (sym (stays refl))
      (subst (λ n. KeepsRaised rules news xs n ys) (sym (noted.kept refl)) before)

  -- one after the other
  pub keeps_then : (news news' news'' : NewsShape) (xs ys zs : List K) → KeepsRaised rules news xs news' ys
      → KeepsRaised rules news' ys news'' zs → KeepsRaised rules news xs news'' zs
  keeps_then news news' news'' xs ys zs first second = record {
    long = second.long ∙ first.long;
    was = λ off. first.was (second.was off);
    same = λ off k out.
        let later = second.same off k out in
        let sooner = first.same (second.was off) k later.0 in
        (sooner.0, later.1 ∙ sooner.1);
  }

  -- what was caught stays so
  keeps_caught : {below : K → K → Type 0} (transfer : NodeState K → NodeState K) (news news' : NewsShape) (xs ys : List K)
      (w : NodeState K) → KeepsRaised rules news xs news' ys → IsCaught below rules transfer news (Knows xs) w
      → IsCaught below rules transfer news' (Knows ys) w
  keeps_caught {below = below} transfer news news' xs ys w keeps caught = record {
    passed = λ off. let was = caught.passed (keeps.was off) in by off was.before was.off was.passed;
  }
    where
      by : news'.whole ≡ false → (before : NodeState K) → AreOff rules news.raised before (Knows xs)
          → BelowState below (transfer before) w → HasPassed below rules transfer news'.raised (Knows ys) w
      by off (Unreached n) apart passed = absurd apart
      by off (Knows ks) apart passed = record {
        before = Knows ks;
        off = record {
          long = apart.long ∙ sym keeps.long;
          each = λ k out. let both = keeps.same off k out in apart.each k both.0 ∙ sym both.1;
        };
        passed = passed;
      }

  -- of the state of a reached block
  pub keeps_where : {below : K → K → Type 0} (transfer : NodeState K → NodeState K) (news news' : NewsShape) (b : Bool)
      (xs ys : List K) (s w : NodeState K) → b ≡ true → state_where b xs ≡ s → KeepsRaised rules news xs news' ys
      → IsCaught below rules transfer news s w → IsCaught below rules transfer news' (state_where b ys) w
  keeps_where {below = below} transfer news news' true xs ys s w on is keeps caught =
      keeps_caught transfer news news' xs ys w keeps (subst (λ t. IsCaught below rules transfer news t w) (sym is) caught)
  keeps_where transfer news news' false xs ys s w on is keeps caught = absurd (cc)

  -- and of one of which all is news if it changed
  pub keeps_renewed : {below : K → K → Type 0} (transfer : NodeState K → NodeState K) (news news' : NewsShape) (changed : Bool)
      (s t w : NodeState K) → (changed ≡ false → t ≡ s) → (changed ≡ true → news'.whole ≡ true) → (changed ≡ false → news' ≡ news)
      → IsCaught below rules transfer news s w → IsCaught below rules transfer news' t w
  keeps_renewed {below = below} transfer news news' true s t w stays all kept caught =
      caught_all below rules transfer news' t w (all refl)
  keeps_renewed {below = below} transfer news news' false s t w stays all kept caught =
      subst (λ u. IsCaught below rules transfer news' u w) (sym (stays refl))
      (subst (λ n. IsCaught below rules transfer n s w) (sym (kept refl)) caught)

module _ {K : Type 0} {below : K → K → Type 0} {rules : Rules K} (order : OrderRules below rules) (rising : RisingRules below rules) where
  -- ---- one variable

  -- a list is below the one in which more may be known of one
  set_above : (xs : List K) (x : ℕ) (v : K) → below (known_at rules xs x) v → Pointwise below xs (slice_set xs x v)
  set_above [] x v h = tt
  set_above (a ∷ xs) zero v h = (h, pointwise_refl below order.reflexive xs)
  set_above (a ∷ xs) (suc x) v h = (order.reflexive a, set_above xs x v h)

  -- which is below each that is above both
  set_under : (xs ys : List K) (x : ℕ) (v : K) → Pointwise below xs ys → below v (known_at rules ys x)
      → Pointwise below (slice_set xs x v) ys
  set_under [] [] x v p h = tt
  set_under [] (b ∷ ys) x v p h = absurd p
  set_under (a ∷ xs) [] x v p h = absurd p
  set_under (a ∷ xs) (b ∷ ys) zero v p h = (h, p.1)
  set_under (a ∷ xs) (b ∷ ys) (suc x) v p h = (p.0, set_under xs ys x v p.1 h)

  -- ---- some variables, one after the other

  -- at first none are raised
  pub raise_none : (raised : List ℕ) (from old : List K) → IsRaisedTo below rules raised 0 from old old
  raise_none raised from old = record {
    above = pointwise_refl below order.reflexive old;
    has = λ i k h at. absurd (omega (arith, h));
    least = λ others p each. p;
  }

  -- one more
  pub raise_then : (raised : List ℕ) (count x : ℕ) (from old ys zs : List K) → IsRaisedTo below rules raised count from old ys
      → slice_get raised count ≡ Some x → IsRaised below rules (x ∷ []) from ys zs → IsRaisedTo below rules raised (count + 1) from old zs
  raise_then raised count x from old ys zs before at one = record {
    above = pointwise_trans below order.transitive old ys zs before.above one.above;
    has = λ i k low at'. elim (cases_lt i count) as (λ _. below (known_at rules from k) (known_at rules zs k)) [
      | inl lt ↦ order.transitive _ _ _ (before.has i k lt at') (below_at order rising ys zs k one.above)
      | inr ge ↦
          let same_i : count ≡ i = omega (arith, low, ge) in
          let same_k : x ≡ k = some_same x k (sym at ∙ ap (slice_get raised) same_i ∙ at') in
          one.has 0 k (omega arith) (ap Some same_k)
    ];
    least = λ others p each.
        one.least others (before.least others p each)
        (λ k on. subst (λ j. below (known_at rules from j) (known_at rules others j)) (only_one x k on) (each x (among_get raised count x at)));
  }
    where
      only_one : (x k : ℕ) → is_among (x ∷ []) k ≡ true → x ≡ k
      only_one x k on = let place = among_at (x ∷ []) k on in at_one place.0 place.2
        where
          at_one : (i : ℕ) → slice_get (x ∷ []) i ≡ Some k → x ≡ k
          at_one zero e = some_same x k e
          at_one (suc i) e = cc

  -- ---- one variable

  -- that is joined
  pub raise_joined : (x : ℕ) (from ys zs : List K) (d v : K) → x < length ys → d ≡ known_at rules from x
      → v ≡ rules.joined (get_or ys x d) d → zs ≡ slice_set ys x v → IsRaised below rules (x ∷ []) from ys zs
  raise_joined x from ys zs d v within is now set =
      let here : get_or ys x d ≡ known_at rules ys x = get_or_default ys x d rules.top within in
      let joins = order.joins (get_or ys x d) d in
      let up : below (known_at rules ys x) v = subst (λ k. below k v) here (subst (below (get_or ys x d)) (sym now) joins.left) in
      let there : known_at rules zs x ≡ v = ap (λ l. known_at rules l x) set ∙ get_or-set_same ys x v rules.top within in
      let has_x : below (known_at rules from x) (known_at rules zs x) = subst (λ j. below j (known_at rules zs x)) is (subst (below d) (sym (there ∙ now)) joins.right) in
      record {
        above = subst (Pointwise below ys) (sym set) (set_above ys x v up);
        has = λ i k low at. subst (λ j. below (known_at rules from j) (known_at rules zs j)) (first i k low at) has_x;
        least = λ others p each.
            let from_x : below d (known_at rules others x) = subst (λ j. below j (known_at rules others x)) (sym is) (each x (among_get (x ∷ []) 0 x refl)) in
            let from_y : below (get_or ys x d) (known_at rules others x) = subst (λ j. below j (known_at rules others x)) (sym here) (below_at order rising ys others x p) in
            let joined : below v (known_at rules others x) = subst (λ j. below j (known_at rules others x)) (sym now) (joins.least (known_at rules others x) from_y from_x) in
            subst (λ l. Pointwise below l others) (sym set) (set_under ys others x v p joined);
      }
    where
      first : (i k : ℕ) → i < 1 → slice_get (x ∷ []) i ≡ Some k → x ≡ k
      first zero k low at = some_same x k at
      first (suc i) k low at = absurd (omega (arith, low))

  -- that there is not
  pub raise_absent : (x : ℕ) (from ys : List K) → length ys ≤ x → length from ≡ length ys → IsRaised below rules (x ∷ []) from ys ys
  raise_absent x from ys past long =
      let none_from : known_at rules from x ≡ rules.top = get_or_past from x rules.top (omega (arith, past, long)) in
      let none_here : known_at rules ys x ≡ rules.top = get_or_past ys x rules.top past in
      let has_x : below (known_at rules from x) (known_at rules ys x) = subst (λ j. below j (known_at rules ys x)) (sym none_from) (subst (below rules.top) (sym none_here) (order.reflexive rules.top)) in
      record {
        above = pointwise_refl below order.reflexive ys;
        has = λ i k low at. subst (λ j. below (known_at rules from j) (known_at rules ys j)) (first i k low at) has_x;
        least = λ others p each. p;
      }
    where
      first : (i k : ℕ) → i < 1 → slice_get (x ∷ []) i ≡ Some k → x ≡ k
      first zero k low at = some_same x k at
      first (suc i) k low at = absurd (omega (arith, low))

  -- ---- whether a list has changed

  -- where one variable was joined
  pub tells_joined : (ys zs : List K) (rose : Bool) (x : ℕ) (v d : K) → x < length ys → zs ≡ slice_set ys x v
      → ((rose ≡ false) ↔ (v ≡ get_or ys x d)) → (rose ≡ false) ↔ (zs ≡ ys)
  tells_joined ys zs rose x v d within set tells = (
    stays_where rules ys zs x v d rose set tells,
    λ same. tells.1 (sym (get_or-set_same ys x v d within) ∙ ap (λ l. get_or l x d) (sym set ∙ same)),
  )

  -- and one after the other
  pub tells_then : (old ys zs : List K) (changed rose : Bool) → Pointwise below old ys → Pointwise below ys zs
      → ((changed ≡ false) ↔ (ys ≡ old)) → ((rose ≡ false) ↔ (zs ≡ ys)) → ((changed || rose) ≡ false) ↔ (zs ≡ old)
  tells_then old ys zs changed rose above more tells one = (to, back)
    where
      to : (changed || rose) ≡ false → zs ≡ old
      to off = let parts = or_parts changed rose off in one.0 parts.1 ∙ tells.0 parts.0

      back : zs ≡ old → (changed || rose) ≡ false
      back same =
          let first : ys ≡ old = pointwise_antisym below order.antisymmetric ys old (subst (Pointwise below ys) same more) above in
          ap (λ b. b || rose) (tells.1 first) ∙ one.1 (same ∙ sym first)

  -- ---- what passes a block that touches nothing of what was raised

  -- lists in order at each variable
  pointwise_from : (xs ys : List K) → length xs ≡ length ys → ((k : ℕ) → below (known_at rules xs k) (known_at rules ys k))
      → Pointwise below xs ys
  pointwise_from [] [] long each = tt
  pointwise_from [] (y ∷ ys) long each = absurd (omega (arith, long))
  pointwise_from (x ∷ xs) [] long each = absurd (omega (arith, long))
  pointwise_from (x ∷ xs) (y ∷ ys) long each =
      (each 0, pointwise_from xs ys (let long' : suc (length xs) ≡ suc (length ys) = long in omega arith) (λ k. each (suc k)))

  -- with what was raised it has all that passes
  pub raised_joins : (raised : List ℕ) (xs before old new : List K) (s t : NodeState K) → AgreeOff rules raised before xs
      → AgreeStates rules xs before s t → BelowState below t (Knows old) → ((k : ℕ) → is_among raised k ≡ true → StaysAt rules k xs s)
      → (is_reached s ≡ true → IsRaised below rules raised xs old new) → (is_reached s ≡ false → new ≡ old)
      → IsLeastUpper (BelowState below) (Knows old) s (Knows new)
  raised_joins raised xs before old new (Unreached n) (Unreached m) off alike passed stays reaches never =
      subst (λ l. IsLeastUpper (BelowState below) (Knows old) (Unreached n) (Knows l)) (sym (never refl))
      (passes_none order (Knows old) n (sym (alike ∙ passed)))
  raised_joins raised xs before old new (Unreached n) (Knows ls) off alike passed stays reaches never = absurd alike
  raised_joins raised xs before old new (Knows ks) (Unreached m) off alike passed stays reaches never = absurd alike
  raised_joins raised xs before old new (Knows ks) (Knows ls) off alike passed stays reaches never = record {
    left = (reaches refl).above;
    right = pointwise_from ks new
        (alike.long ∙ pointwise_length below ls old passed ∙ pointwise_length below old new (reaches refl).above) has;
    least = least;
  }
    where
      has : (k : ℕ) → below (known_at rules ks k) (known_at rules new k)
      has k = elim (cases_Bool (is_among raised k)) as (λ _. below (known_at rules ks k) (known_at rules new k)) [
        | inl on ↦
            let place = among_at raised k on in
            subst (λ j. below j (known_at rules new k)) (sym (stays k on)) ((reaches refl).has place.0 k place.1 place.2)
        | inr out ↦
            let same = alike.each k (sym (off.each k out)) in
            subst (λ j. below j (known_at rules new k)) (sym same)
            (order.transitive _ _ _ (below_at order rising ls old k passed) (below_at order rising old new k (reaches refl).above))
      ]

      least : (w : NodeState K) → BelowState below (Knows old) w → BelowState below (Knows ks) w → BelowState below (Knows new) w
      least (Unreached m) p q = absurd p
      least (Knows us) p q =
          (reaches refl).least us p (λ k on. subst (λ j. below j (known_at rules us k)) (stays k on) (below_at order rising ks us k q))
