-- A join that was made place by place.
use Rattle.std.proofs.Common.{◌≡◌, ◌≢◌, inl, inr, ◌↔◌, ℕ, zero, suc, ◌+◌, ◌<◌, ◌≤◌, Bool, true, false, ◌||◌, slice_set, length-set, List, [], ◌∷◌, length, get_or, refl, sym, ap, arith, ◌∙◌}
use Rattle.std.proofs.lemmas.List.{ext_get_or, get_or-set_same, get_or-set_other, get_or_default}
use Rattle.std.proofs.lemmas.Bool.{cases_Bool, cases_eq, cases_lt, or_parts}
use Rattle.cond_flow.specs.Joining.{JoinedBetween}
use Rattle.cond_flow.specs.States.{joined_each}

-- ---- joins

module _ {K : Type 0} (join : K → K → K) (top : K) where
  -- the join is as long
  pub length_joined : (xs ys : List K) → length xs ≡ length ys → length (joined_each join xs ys) ≡ length xs
  length_joined [] ys e = refl
  length_joined (x ∷ xs) [] e = absurd (omega (arith, e))
  length_joined (x ∷ xs) (y ∷ ys) e = ap suc (length_joined xs ys (let e' : suc (length xs) ≡ suc (length ys) = e in omega arith))

  -- what is known of a variable after a join of two lists
  joined_at : (xs ys : List K) (k : ℕ) → k < length xs → length xs ≡ length ys → get_or (joined_each join xs ys) k top ≡ join (get_or xs k top) (get_or ys k top)
  joined_at [] ys k lt e = absurd (omega (arith, lt))
  joined_at (x ∷ xs) [] k lt e = absurd (omega (arith, e))
  joined_at (x ∷ xs) (y ∷ ys) zero lt e = refl
  joined_at (x ∷ xs) (y ∷ ys) (suc k) lt e = joined_at xs ys k (let lt' : suc k < suc (length xs) = lt in omega arith) (let e' : suc (length xs) ≡ suc (length ys) = e in omega arith)

  -- where all places are joined, the lists are
  join_done : (xs ys zs : List K) → length xs ≡ length ys → length zs ≡ length xs → ((k : ℕ) → k < length xs → get_or zs k top ≡ join (get_or xs k top) (get_or ys k top)) → zs ≡ joined_each join xs ys
  join_done xs ys zs e len each = ext_get_or top zs (joined_each join xs ys) (len ∙ sym (length_joined xs ys e)) (λ k h. let h' : k < length xs = omega (arith, h, len) in each k h' ∙ sym (joined_at xs ys k h' e))

  -- at first none are
  pub join_none : (xs ys : List K) (i : ℕ) → JoinedBetween join top xs ys xs false i i
  join_none xs ys i = record {
    len = refl;
    done = λ k l h. absurd (omega (arith, l, h));
    sooner = λ k h. refl;
    rest = λ k h. refl;
    same = λ off k. refl;
    moved = λ on. absurd (let bad : false ≡ true = on in cc);
  }

  -- one place more
  pub join_step : (xs ys zs : List K) (changed : Bool) (start i : ℕ) (v : K) (moves : Bool) (d : K) → JoinedBetween join top xs ys zs changed start i → start ≤ i → i < length xs → length xs ≡ length ys
      → v ≡ join (get_or zs i d) (get_or ys i d) → ((moves ≡ false) ↔ (v ≡ get_or zs i d)) → JoinedBetween join top xs ys (slice_set zs i v) (changed || moves) start (i + 1)
  join_step xs ys zs changed start i v moves d before late within len is tells =
      let within_z : i < length zs = omega (arith, before.len, within) in
      let within_y : i < length ys = omega (arith, len, within) in
      let z_is : get_or zs i d ≡ get_or zs i top = get_or_default zs i d top within_z in
      let y_is : get_or ys i d ≡ get_or ys i top = get_or_default ys i d top within_y in
      let now : v ≡ join (get_or xs i top) (get_or ys i top) = is ∙ ap (λ k. join k (get_or ys i d)) (z_is ∙ before.rest i (omega arith)) ∙ ap (join (get_or xs i top)) y_is in
      let at_i : get_or (slice_set zs i v) i top ≡ v = get_or-set_same zs i v top within_z in
      record {
        len = length-set zs i v ∙ before.len;
        done = λ k l h. elim (cases_eq k i) as (λ _. get_or (slice_set zs i v) k top ≡ join (get_or xs k top) (get_or ys k top)) [
          | inl e ↦ rw e (at_i ∙ now)
          | inr apart ↦ get_or-set_other zs i k v top apart ∙ before.done k l (omega (arith, h, apart))
        ];
        sooner = λ k h. get_or-set_other zs i k v top (λ e. omega (arith, h, e, late)) ∙ before.sooner k h;
        rest = λ k h. get_or-set_other zs i k v top (λ e. omega (arith, h, e)) ∙ before.rest k (omega (arith, h));
        same = λ off k. elim (cases_eq k i) as (λ _. get_or (slice_set zs i v) k top ≡ get_or xs k top) [
          | inl e ↦ rw e (at_i ∙ tells.0 (or_parts changed moves off).1 ∙ z_is ∙ before.rest i (omega arith))
          | inr apart ↦ get_or-set_other zs i k v top apart ∙ before.same (or_parts changed moves off).0 k
        ];
        moved = λ on. moved_at changed moves before tells z_is at_i on;
      }
    where
      moved_at : (changed moves : Bool) → JoinedBetween join top xs ys zs changed start i → ((moves ≡ false) ↔ (v ≡ get_or zs i d)) → get_or zs i d ≡ get_or zs i top → get_or (slice_set zs i v) i top ≡ v → (changed || moves) ≡ true → (k : ℕ) × (get_or (slice_set zs i v) k top ≢ get_or xs k top)
      moved_at true moves before tells z_is at_i on =
          let place = before.moved refl in
          elim (cases_eq place.0 i) as (λ _. (k : ℕ) × (get_or (slice_set zs i v) k top ≢ get_or xs k top)) [
            | inl e ↦ absurd (place.1 (before.rest place.0 (omega (arith, e))))
            | inr apart ↦ (place.0, λ same. place.1 (sym (get_or-set_other zs i place.0 v top apart) ∙ same))
          ]
      moved_at false true before tells z_is at_i on =
          (i, λ same. (let unmoved : v ≡ get_or zs i d = sym at_i ∙ same ∙ sym (before.rest i (omega arith)) ∙ sym z_is in let off : true ≡ false = tells.1 unmoved in cc))
      moved_at false false before tells z_is at_i on = absurd (cc)

  -- one part more
  pub join_part : (xs ys zs us : List K) (changed moves : Bool) (start i stop : ℕ) → JoinedBetween join top xs ys zs changed start i → JoinedBetween join top zs ys us moves i stop
      → start ≤ i → i ≤ stop → JoinedBetween join top xs ys us (changed || moves) start stop
  join_part xs ys zs us changed moves start i stop first second late more = record {
    len = second.len ∙ first.len;
    done = λ k l h. elim (cases_lt k i) as (λ _. get_or us k top ≡ join (get_or xs k top) (get_or ys k top)) [
      | inl lt ↦ second.sooner k lt ∙ first.done k l lt
      | inr ge ↦ second.done k ge h ∙ ap (λ z. join z (get_or ys k top)) (first.rest k ge)
    ];
    sooner = λ k h. second.sooner k (omega (arith, h, late)) ∙ first.sooner k h;
    rest = λ k h. second.rest k h ∙ first.rest k (omega (arith, h, more));
    same = λ off k. let parts = or_parts changed moves off in second.same parts.1 k ∙ first.same parts.0 k;
    moved = λ on. elim (cases_Bool changed) as (λ _. (k : ℕ) × (get_or us k top ≢ get_or xs k top)) [
      | inl told ↦ let place = first.moved told in (place.0, λ same. place.1 (at_first place.0 place.1 same))
      | inr stayed ↦ let place = second.moved (ap (λ b. b || moves) (sym stayed) ∙ on) in (place.0, λ same. place.1 (at_second place.0 place.1 same))
    ];
  }
    where
      -- a place that changed in the first part is below its end, so that the second part has left it
      at_first : (k : ℕ) → (get_or zs k top ≢ get_or xs k top) → get_or us k top ≡ get_or xs k top → get_or zs k top ≡ get_or xs k top
      at_first k apart same = elim (cases_lt k i) as (λ _. get_or zs k top ≡ get_or xs k top) [
        | inl lt ↦ sym (second.sooner k lt) ∙ same
        | inr ge ↦ first.rest k ge
      ]

      -- and one that changed in the second was as it had been
      at_second : (k : ℕ) → (get_or us k top ≢ get_or zs k top) → get_or us k top ≡ get_or xs k top → get_or us k top ≡ get_or zs k top
      at_second k apart same = elim (cases_lt k i) as (λ _. get_or us k top ≡ get_or zs k top) [
        | inl lt ↦ second.sooner k lt
        | inr ge ↦ same ∙ sym (first.rest k ge)
      ]

  -- a part in which the same is known on both sides is joined as it is
  pub join_same : (xs ys : List K) (start stop : ℕ) → ((k : K) → join k k ≡ k) → ((k : ℕ) → start ≤ k → k < stop → get_or xs k top ≡ get_or ys k top)
      → JoinedBetween join top xs ys xs false start stop
  join_same xs ys start stop itself alike = record {
    len = refl;
    done = λ k l h. sym (ap (join (get_or xs k top)) (sym (alike k l h)) ∙ itself (get_or xs k top));
    sooner = λ k h. refl;
    rest = λ k h. refl;
    same = λ off k. refl;
    moved = λ on. absurd (let bad : false ≡ true = on in cc);
  }

  -- once all are, the lists are joined
  pub join_all : (xs ys zs : List K) (changed : Bool) (i : ℕ) → JoinedBetween join top xs ys zs changed 0 i → length xs ≤ i → length xs ≡ length ys → zs ≡ joined_each join xs ys
  join_all xs ys zs changed i to late len = join_done xs ys zs len to.len (λ k h. to.done k (omega arith) (omega (arith, h, late)))

  -- and it is told whether they changed
  pub join_tells : (xs ys zs : List K) (changed : Bool) (i : ℕ) → JoinedBetween join top xs ys zs changed 0 i → (changed ≡ false) ↔ (zs ≡ xs)
  join_tells xs ys zs changed i to = (
    λ off. ext_get_or top zs xs to.len (λ k h. to.same off k),
    λ same. elim (cases_Bool changed) as (λ _. changed ≡ false) [
      | inl on ↦ let place = to.moved on in absurd (place.1 (ap (λ l. get_or l place.0 top) same))
      | inr off ↦ off
    ],
  )
