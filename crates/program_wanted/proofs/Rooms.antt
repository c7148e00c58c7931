-- Rows that are raised: how they stand to what they were, and that there is less room then.
use Rattle.std.proofs.Common.{◌≡◌, ◌⊎◌, ◌↔◌, ℕ, zero, suc, ◌+◌, ◌-◌, ◌<◌, min, max, Bool, false, inl, inr, List, [], ◌∷◌, length, slice_set, refl, sym, ap, ◌∙◌, subst, arith}
use Rattle.std.proofs.lemmas.Bool.{cases_eq, cases_lt}
use Rattle.std.proofs.lemmas.List.{get_or-set_other, get_or-set_same, length-set}
use Rattle.node_list.specs.Lists.{list_at}
use Rattle.wanted_bits.specs.BitsOrder.{HasFew, joined_bits}
use Rattle.wanted_bits.specs.JoinedBits.{joined_at, joined_few, joined_long}
use Rattle.wanted_bits.specs.WalkLaws.{FewerEach}
use Rattle.program_wanted.specs.Demands.{FewerRows}
use Rattle.program_wanted.specs.Sweeps.{StayLong, row_room, rows_room}

-- ---- one row

-- where a row is raised it stays, or there is less room
pub joined_room : (xs zs : List ℕ) → length zs ≡ length xs → HasFew zs → (joined_bits xs zs ≡ xs) ⊎ (row_room (joined_bits xs zs) < row_room xs)
joined_room [] zs long few = inl refl
joined_room (x ∷ xs) [] long few = absurd (omega (arith, long))
joined_room (x ∷ xs) (z ∷ zs) long few =
    let rest = joined_room xs zs (let e : suc (length zs) ≡ suc (length xs) = long in omega arith) (λ k. few (suc k)) in
    let most = few 0 in
    elim (cases_lt x z) as (λ _. (max x z ∷ joined_bits xs zs ≡ x ∷ xs) ⊎ (65 - min (max x z) 65 + row_room (joined_bits xs zs) < 65 - min x 65 + row_room xs)) [
      | inl lt ↦ inr (elim rest as (λ _. 65 - min (max x z) 65 + row_room (joined_bits xs zs) < 65 - min x 65 + row_room xs) [
        | inl e ↦ omega (arith, lt, most, ap row_room e)
        | inr l ↦ omega (arith, lt, most, l)
      ])
      | inr ge ↦
          let is : max x z ≡ x = omega (arith, ge) in
          elim rest as (λ _. (max x z ∷ joined_bits xs zs ≡ x ∷ xs) ⊎ (65 - min (max x z) 65 + row_room (joined_bits xs zs) < 65 - min x 65 + row_room xs)) [
            | inl e ↦ inl (ap (λ n. n ∷ joined_bits xs zs) is ∙ ap (λ l. x ∷ l) e)
            | inr l ↦ inr (omega (arith, is, l))
          ]
    ]

-- it is at most so raised
pub joined_rises : (xs zs : List ℕ) → length zs ≡ length xs → FewerEach xs (joined_bits xs zs)
joined_rises xs zs long x = omega (arith, joined_at xs zs x long)

-- has the others
pub joined_has : (xs zs : List ℕ) → length zs ≡ length xs → FewerEach zs (joined_bits xs zs)
joined_has xs zs long x = omega (arith, joined_at xs zs x long)

-- and no more
pub joined_least : (xs zs tops : List ℕ) → length zs ≡ length xs → FewerEach xs tops → FewerEach zs tops → FewerEach (joined_bits xs zs) tops
joined_least xs zs tops long p q x = omega (arith, joined_at xs zs x long, p x, q x)

-- ---- rows

-- the room of rows of which one is put
set_room : (rows : List (List ℕ)) (v : ℕ) (row : List ℕ) → v < length rows → rows_room (slice_set rows v row) + row_room (list_at rows v) ≡ rows_room rows + row_room row
set_room [] v row lt = absurd (omega (arith, lt))
set_room (r ∷ rows) zero row lt = omega arith
set_room (r ∷ rows) (suc v) row lt = omega (arith, set_room rows v row (omega (arith, lt)))

-- a row that is put where it stands
pub set_itself : (rows : List (List ℕ)) (v : ℕ) (row : List ℕ) → v < length rows → row ≡ list_at rows v → slice_set rows v row ≡ rows
set_itself [] v row lt is = absurd (omega (arith, lt))
set_itself (r ∷ rows) zero row lt is = ap (λ l. l ∷ rows) is
set_itself (r ∷ rows) (suc v) row lt is = ap (λ l. r ∷ l) (set_itself rows v row (omega (arith, lt)) is)

-- a row that is put changes the rows where it changes
pub row_tells : (rows : List (List ℕ)) (u : ℕ) (old new : List ℕ) (raised : Bool) → u < length rows → old ≡ list_at rows u → ((raised ≡ false) ↔ (new ≡ old)) → ((raised ≡ false) ↔ (slice_set rows u new ≡ rows))
row_tells rows u old new raised lt is tells = (
  λ off. set_itself rows u new lt (tells.0 off ∙ is),
  λ e. tells.1 (sym (get_or-set_same rows u new [] lt) ∙ ap (λ (l : List (List ℕ)). list_at l u) e ∙ sym is),
)

-- a row of rows of which one is put
pub row_put : (P : List ℕ → Type 0) (rows : List (List ℕ)) (v u : ℕ) (row : List ℕ) → v < length rows → ((u ≡ v) → P row) → ((u ≡ v → ⊥) → P (list_at rows u)) → P (list_at (slice_set rows v row) u)
row_put P rows v u row lt here there = elim (cases_eq u v) [
  | inl e ↦ subst P (sym (ap (list_at (slice_set rows v row)) e ∙ get_or-set_same rows v row [] lt)) (here e)
  | inr ne ↦ subst P (sym (get_or-set_other rows v u row [] ne)) (there ne)
]

-- what a raised row makes of rows
pub record Raised (old new : List (List ℕ)) : Type 0 where
  pub stay : StayLong old new
  pub rise : FewerRows old new
  pub moved : (new ≡ old) ⊎ (rows_room new < rows_room old)

module _ (rows : List (List ℕ)) (v : ℕ) (ask : List ℕ) (lt : v < length rows) (long : length ask ≡ length (list_at rows v)) (few : HasFew ask) (rows_few : (u : ℕ) → HasFew (list_at rows u)) where
  abbrev new : List (List ℕ)
  new = slice_set rows v (joined_bits (list_at rows v) ask)

  pub row_raised : Raised rows (slice_set rows v (joined_bits (list_at rows v) ask))
  row_raised = record {
    stay = record {
      long = length-set rows v (joined_bits (list_at rows v) ask);
      each = λ u. row_put (λ l. length l ≡ length (list_at rows u)) rows v u (joined_bits (list_at rows v) ask) lt (λ e. joined_long (list_at rows v) ask long ∙ ap (λ k. length (list_at rows k)) (sym e)) (λ ne. refl);
      few = λ u. row_put HasFew rows v u (joined_bits (list_at rows v) ask) lt (λ e. joined_few (list_at rows v) ask long (rows_few v) few) (λ ne. rows_few u);
    };
    rise = λ u. row_put (FewerEach (list_at rows u)) rows v u (joined_bits (list_at rows v) ask) lt (λ e. subst (λ k. FewerEach (list_at rows k) (joined_bits (list_at rows v) ask)) (sym e) (joined_rises (list_at rows v) ask long)) (λ ne x. omega arith);
    moved = elim (joined_room (list_at rows v) ask long few) as (λ _. (slice_set rows v (joined_bits (list_at rows v) ask) ≡ rows) ⊎ (rows_room (slice_set rows v (joined_bits (list_at rows v) ask)) < rows_room rows)) [
      | inl e ↦ inl (set_itself rows v (joined_bits (list_at rows v) ask) lt e)
      | inr l ↦ inr (omega (arith, set_room rows v (joined_bits (list_at rows v) ask) lt, l))
    ];
  }

  pub row_has : FewerEach ask (list_at (slice_set rows v (joined_bits (list_at rows v) ask)) v)
  row_has = subst (FewerEach ask) (sym (get_or-set_same rows v (joined_bits (list_at rows v) ask) [] lt)) (joined_has (list_at rows v) ask long)

  pub row_least : (tops : List (List ℕ)) → FewerRows rows tops → FewerEach ask (list_at tops v) → FewerRows (slice_set rows v (joined_bits (list_at rows v) ask)) tops
  row_least tops below asked u = row_put (λ l. FewerEach l (list_at tops u)) rows v u (joined_bits (list_at rows v) ask) lt
      (λ e. subst (λ k. FewerEach (joined_bits (list_at rows v) ask) (list_at tops k)) (sym e) (joined_least (list_at rows v) ask (list_at tops v) long (below v) asked))
      (λ ne. below u)
