-- What a push leaves that takes over and raises few numbers, where the others are there already.
use Rattle.std.proofs.Common.{◌≡◌, inl, inr, ℕ, max, Bool, true, false, ◌||◌, if◌then◌else◌, nat_eq, List, [], ◌∷◌, length, slice_set, Option, refl, sym, ap, ◌∙◌, arith}
use Rattle.std.proofs.lemmas.Bool.{cases_Bool, cases_eq, cases_lt, eqb-true, or_parts}
use Rattle.std.proofs.lemmas.List.{ext_get_or, get_or-set_other, get_or-set_same, get_or_past, length-set, set_past}
use Rattle.flow_graph.specs.Graphs.{GraphShape}
use Rattle.flow_graph.specs.Numbering.{is_in}
use Rattle.wanted_bits.specs.declared.picking.Shift.{Shift}
use Rattle.wanted_bits.specs.BitsOrder.{HasFew, joined_bits}
use Rattle.wanted_bits.specs.JoinedBits.{joined_at, joined_long}
use Rattle.wanted_bits.specs.NewsShapes.{AreMeant, StandIn, VariablesShape}
use Rattle.wanted_bits.specs.Touching.{AreReached, raised_bits, taken_bits, touched_in}
use Rattle.wanted_bits.specs.TouchLaws.{list_alike, list_apart, set_apart}
use Rattle.wanted_bits.specs.Wanted.{Asked}
use Rattle.wanted_bits.specs.Walking.{before_list, bits_at, raised_at}
use Rattle.wanted_bits.specs.WalkLaws.{list_long}

module _ (others : List ℕ) where
  -- ---- what is taken over

  -- as many numbers are there
  pub taken_long : (xs bits : List ℕ) → length (taken_bits others xs bits) ≡ length bits
  taken_long [] bits = refl
  taken_long (x ∷ xs) bits = taken_long xs (slice_set bits x (bits_at others x)) ∙ length-set bits x (bits_at others x)

  -- one that is there already stays when one is taken over
  set_keeps : (bits : List ℕ) (x k : ℕ) → bits_at bits k ≡ bits_at others k → bits_at (slice_set bits x (bits_at others x)) k ≡ bits_at others k
  set_keeps bits x k same = elim (cases_eq k x) as (λ _. bits_at (slice_set bits x (bits_at others x)) k ≡ bits_at others k) [
    | inl e ↦ elim (cases_lt x (length bits)) as (λ _. bits_at (slice_set bits x (bits_at others x)) k ≡ bits_at others k) [
      | inl lt ↦
          ap (bits_at (slice_set bits x (bits_at others x))) e
          ∙ get_or-set_same bits x (bits_at others x) 0 lt ∙ ap (bits_at others) (sym e)
      | inr ge ↦ ap (λ l. bits_at l k) (set_past bits x (bits_at others x) ge) ∙ same
    ]
    | inr ne ↦ get_or-set_other bits x k (bits_at others x) 0 ne ∙ same
  ]

  -- and when several are
  pub taken_keeps : (xs bits : List ℕ) (k : ℕ) → bits_at bits k ≡ bits_at others k → bits_at (taken_bits others xs bits) k ≡ bits_at others k
  taken_keeps [] bits k same = same
  taken_keeps (x ∷ xs) bits k same = taken_keeps xs (slice_set bits x (bits_at others x)) k (set_keeps bits x k same)

  -- the numbers that are taken over are there
  pub taken_in : (xs bits : List ℕ) (k : ℕ) → length others ≡ length bits → is_in k xs ≡ true → bits_at (taken_bits others xs bits) k ≡ bits_at others k
  taken_in [] bits k long on = absurd (cc)
  taken_in (x ∷ xs) bits k long on = by (nat_eq x k) refl on (taken_in xs (slice_set bits x (bits_at others x)) k (long ∙ sym (length-set bits x (bits_at others x))))
    where
      set : List ℕ
      set = slice_set bits x (bits_at others x)

      here : x ≡ k → bits_at set k ≡ bits_at others k
      here e = elim (cases_lt x (length bits)) as (λ _. bits_at set k ≡ bits_at others k) [
        | inl lt ↦ ap (bits_at set) (sym e) ∙ get_or-set_same bits x (bits_at others x) 0 lt ∙ ap (bits_at others) e
        | inr ge ↦
            get_or_past set k 0 (omega (arith, ge, e, length-set bits x (bits_at others x)))
            ∙ sym (get_or_past others k 0 (omega (arith, ge, e, long)))
      ]

      by : (b : Bool) → nat_eq x k ≡ b → (b || is_in k xs) ≡ true → (is_in k xs ≡ true → bits_at (taken_bits others xs set) k ≡ bits_at others k)
          → bits_at (taken_bits others xs set) k ≡ bits_at others k
      by true is on rest = taken_keeps xs set k (here (eqb-true x k is))
      by false is on rest = rest on

  -- the others stay
  pub taken_out : (xs bits : List ℕ) (k : ℕ) → is_in k xs ≡ false → bits_at (taken_bits others xs bits) k ≡ bits_at bits k
  taken_out [] bits k out = refl
  taken_out (x ∷ xs) bits k out =
      let parts = or_parts (nat_eq x k) (is_in k xs) out in
      taken_out xs (slice_set bits x (bits_at others x)) k parts.1 ∙ set_apart bits x (bits_at others x) k parts.0

  -- few numbers stay few
  pub taken_few : (xs bits : List ℕ) → length others ≡ length bits → HasFew others → HasFew bits → HasFew (taken_bits others xs bits)
  taken_few xs bits long few before k = elim (cases_Bool (is_in k xs)) [
    | inl on ↦ omega (arith, taken_in xs bits k long on, few k)
    | inr out ↦ omega (arith, taken_out xs bits k out, before k)
  ]

  -- ---- what is raised

  -- as many numbers are there
  pub raised_long : (xs bits : List ℕ) → length (raised_bits others xs bits) ≡ length bits
  raised_long [] bits = refl
  raised_long (x ∷ xs) bits = raised_long xs (raised_at bits x (bits_at others x)) ∙ length-set bits x (max (bits_at bits x) (bits_at others x))

  -- one number
  pub raised_one : (bits : List ℕ) (x k : ℕ) → length others ≡ length bits
      → bits_at (raised_at bits x (bits_at others x)) k ≡ (if nat_eq x k then max (bits_at bits k) (bits_at others k) else bits_at bits k)
  raised_one bits x k long = by (nat_eq x k) refl
    where
      set : List ℕ
      set = raised_at bits x (bits_at others x)

      by : (b : Bool) → nat_eq x k ≡ b → bits_at set k ≡ (if b then max (bits_at bits k) (bits_at others k) else bits_at bits k)
      by false is = set_apart bits x (max (bits_at bits x) (bits_at others x)) k is
      by true is =
          let e = eqb-true x k is in
          elim (cases_lt x (length bits)) as (λ _. bits_at set k ≡ max (bits_at bits k) (bits_at others k)) [
            | inl lt ↦
                ap (bits_at set) (sym e) ∙ get_or-set_same bits x (max (bits_at bits x) (bits_at others x)) 0 lt
                ∙ ap (λ (i : ℕ). max (bits_at bits i) (bits_at others i)) e
            | inr ge ↦
                let none = get_or_past set k 0 (omega (arith, ge, e, length-set bits x (max (bits_at bits x) (bits_at others x)))) in
                let was = get_or_past bits k 0 (omega (arith, ge, e)) in
                let other = get_or_past others k 0 (omega (arith, ge, e, long)) in
                omega (arith, none, was, other)
          ]

  -- several
  pub raised_is : (xs bits : List ℕ) (k : ℕ) → length others ≡ length bits
      → bits_at (raised_bits others xs bits) k ≡ (if is_in k xs then max (bits_at bits k) (bits_at others k) else bits_at bits k)
  raised_is [] bits k long = refl
  raised_is (x ∷ xs) bits k long =
      raised_is xs (raised_at bits x (bits_at others x)) k (long ∙ sym (length-set bits x (max (bits_at bits x) (bits_at others x))))
      ∙ ap (λ (m : ℕ). if is_in k xs then max m (bits_at others k) else m) (raised_one bits x k long)
      ∙ by (nat_eq x k) (is_in k xs)
    where
      by : (b c : Bool) → (if c then max (if b then max (bits_at bits k) (bits_at others k) else bits_at bits k) (bits_at others k) else (if b then max (bits_at bits k) (bits_at others k) else bits_at bits k))
          ≡ (if (b || c) then max (bits_at bits k) (bits_at others k) else bits_at bits k)
      by true true = omega arith
      by true false = refl
      by false true = refl
      by false false = refl

-- ---- a push

-- the variables that are meant stand in the list, where not all are
pub meant_stand : (those : List ℕ) (some : VariablesShape) {b : Bool} → b ≡ some.whole → b ≡ false → AreMeant those some → StandIn those some.listed
meant_stand those some {b = b} is off meant k on = ap (λ t. t || is_in k some.listed) (sym off ∙ is) ∙ meant k on

module _ (graph : GraphShape) (asked : Asked) (back : ℕ → Option Shift) (list : List ℕ) (raised touched from room : List ℕ) (fits : length room ≡ length from) (covered : StandIn (touched_in graph back list) touched) where
  -- what is taken over
  abbrev taken : List ℕ
  taken = taken_bits from touched (taken_bits from raised room)

  -- those of both lists are
  both_taken : (k : ℕ) → (is_in k raised || is_in k touched) ≡ true → bits_at taken k ≡ bits_at from k
  both_taken k on = by (is_in k raised) refl on
    where
      by : (b : Bool) → is_in k raised ≡ b → (b || is_in k touched) ≡ true → bits_at taken k ≡ bits_at from k
      by true is on = taken_keeps from touched (taken_bits from raised room) k (taken_in from raised room k (sym fits) is)
      by false is on = taken_in from touched (taken_bits from raised room) k (sym fits ∙ sym (taken_long from raised room)) on

  -- so what passes of them is what passes of all
  both_passed : (k : ℕ) → (is_in k raised || is_in k touched) ≡ true → bits_at (before_list graph asked back list taken) k ≡ bits_at (before_list graph asked back list from) k
  both_passed k on =
      list_alike graph asked back list taken from (taken_long from touched (taken_bits from raised room) ∙ taken_long from raised room ∙ fits)
      (λ j is. both_taken j (or_second (is_in j raised) (covered j is))) k (both_taken k on)
    where
      or_second : (b : Bool) {c : Bool} → c ≡ true → (b || c) ≡ true
      or_second true is = refl
      or_second false is = is

  -- and with these all are joined
  pub listed_joins : (into passed new : List ℕ) → length into ≡ length from → AreReached raised touched from into
      → passed ≡ before_list graph asked back list taken → new ≡ raised_bits passed touched (raised_bits passed raised into)
      → new ≡ joined_bits into (before_list graph asked back list from)
  listed_joins into passed new long reached passed_is new_is =
      ext_get_or 0 new (joined_bits into whole) (new_long ∙ sym (joined_long into whole whole_long))
      (λ k lt. ap (λ l. bits_at l k) new_is ∙ raised_is passed touched (raised_bits passed raised into) k (passed_long ∙ sym (raised_long passed raised into))
      ∙ ap (λ (m : ℕ). if is_in k touched then max m (bits_at passed k) else m) (raised_is passed raised into k passed_long)
      ∙ by k (is_in k raised) (is_in k touched) refl refl ∙ sym (joined_at into whole k whole_long))
    where
      whole : List ℕ
      whole = before_list graph asked back list from

      whole_long : length whole ≡ length into
      whole_long = list_long graph asked back list from ∙ sym long

      passed_long : length passed ≡ length into
      passed_long = ap length passed_is ∙ list_long graph asked back list taken ∙ taken_long from touched (taken_bits from raised room) ∙ taken_long from raised room ∙ fits ∙ sym long

      new_long : length new ≡ length into
      new_long = ap length new_is ∙ raised_long passed touched (raised_bits passed raised into) ∙ raised_long passed raised into

      same : (k : ℕ) → (is_in k raised || is_in k touched) ≡ true → bits_at passed k ≡ bits_at whole k
      same k on = ap (λ l. bits_at l k) passed_is ∙ both_passed k on

      out : (k : ℕ) → is_in k touched ≡ false → is_in k (touched_in graph back list) ≡ false
      out k off = elim (cases_Bool (is_in k (touched_in graph back list))) [
        | inl on ↦ (let bad : true ≡ false = sym (covered k on) ∙ off in absurd (cc))
        | inr none ↦ none
      ]

      by : (k : ℕ) (b c : Bool) → is_in k raised ≡ b → is_in k touched ≡ c
          → (if c then max (if b then max (bits_at into k) (bits_at passed k) else bits_at into k) (bits_at passed k) else (if b then max (bits_at into k) (bits_at passed k) else bits_at into k))
          ≡ max (bits_at into k) (bits_at whole k)
      by k true true is is' = omega (arith, same k (ap (λ b. b || is_in k touched) is))
      by k true false is is' = omega (arith, same k (ap (λ b. b || is_in k touched) is))
      by k false true is is' = omega (arith, same k (ap (λ b. b || is_in k touched) is ∙ is'))
      by k false false is is' =
          let stays = list_apart graph asked back list from k (out k is') in
          omega (arith, stays, reached k is is')
