-- What is known holds after a node, where it held before. For proofs only.
use Rattle.std.proofs.Common.{◌≡◌, ◌≢◌, ℕ, zero, suc, ◌≤◌, ◌<◌, ◌+◌, ◌-◌, ◌⊎◌, inl, inr, Bool, true, false, not, if◌then◌else◌, nat_eq, eqb-true, eq-eqb, List, [], ◌∷◌, ◌++◌, append-nil, length, map, replicate, slice_set, slice_index_or, ℤ, pos, refl, sym, ap, ◌∙◌, subst, arith, w64, FitsSigned}
use Rattle.std.proofs.lemmas.Bool.{cases_lt}
use Rattle.std.proofs.lemmas.List.{get_or-append-add, get_or-set_same, get_or-set_other, get_or_append_left, get_or_default, get_or_past, set_past}
use Rattle.std.specs.List.{range_with_len}
use Rattle.std.specs.Ordering.{int_eq}
use Rattle.mir_base.specs.declared.instructions.Operand.{Operand}
use Rattle.mir_base.specs.declared.instructions.Rhs.TheVariants.{Plain}
use Rattle.mir_base.specs.declared.instructions.Test as tests
use Rattle.mir_base.specs.declared.instructions.Test.TheVariants.{Rel, Holds, Fails}
use Rattle.mir_base.specs.NumberLaws.{zero_fits}
use Rattle.mir_base.specs.Numbers.{relation_holds}
use Rattle.mir_base.specs.Frames.{shared_values, shared_vars, with_first, Values, all_zero, with_value}
use Rattle.mir_base.specs.FrameLaws.{with_first_fits, ValuesFit, argument_fits, with_value_fits}
use Rattle.mir_base.specs.Runs.{AreNumbers}
use Rattle.mir_base.specs.SharedLaws.{shared_long, with_first_other}
use Rattle.mir_base.specs.Units.{operand_value, test_holds}
use Rattle.flow_graph.specs.ListLaws.{cons_same}
use Rattle.flow_graph.specs.Machines.{received_from}
use Rattle.cond_flow.specs.Rules.{Rules, AreHeld, OrderRules, RewritingRules, RisingRules, SoundRules, known_at}
use Rattle.cond_flow.specs.States.{NodeState, Unreached, Knows, BelowState}
use Rattle.cond_flow.specs.Passing.{all_set, first_known, start_known}
use Rattle.cond_flow.specs.Becoming.{test_becomes}
use Rattle.cond_flow.specs.PassingLaws.{below_at}
use Rattle.cond_flow.specs.Handing.{handed, values_in}
use Rattle.cond_flow.specs.Holding.{HoldsAt}

-- all values 0 are signed 64-bit numbers
zeros_fit : ValuesFit all_zero
zeros_fit = record { fit = λ x. zero_fits }

-- so are those that are received
fits_received : (received : List ℕ) (arguments : List ℤ) (i : ℕ) (values : Values) → AreNumbers arguments → ValuesFit values → ValuesFit (received_from i received arguments values)
fits_received [] arguments i values numbers fits = fits
fits_received (x ∷ xs) arguments i values numbers fits =
    fits_received xs arguments (suc i) (with_value x (slice_index_or arguments i (pos 0)) values) numbers (with_value_fits x (slice_index_or arguments i (pos 0)) values (argument_fits arguments i numbers) fits)

-- the globals before Start are
pub fits_first : (globals : List ℤ) → AreNumbers globals → ValuesFit (with_first globals all_zero)
fits_first globals are = with_first_fits globals all_zero are zeros_fit

-- and all values after Start
pub fits_start : (received : List ℕ) (globals arguments : List ℤ) → AreNumbers globals → AreNumbers arguments → ValuesFit (received_from 0 received arguments (with_first globals all_zero))
fits_start received globals arguments are numbers = fits_received received arguments 0 (with_first globals all_zero) numbers (fits_first globals are)

-- the values of the globals, where they are listed
shared_at : (n a y : ℕ) (values : Values) → y < n → slice_index_or (map values (range_with_len a n)) y (pos 0) ≡ values (a + y)
shared_at zero a y values lt = absurd (omega (arith, lt))
shared_at (suc n) a zero values lt = ap values (omega arith)
shared_at (suc n) a (suc y) values lt = shared_at n (a + 1) y values (omega (arith, lt)) ∙ ap values (omega arith)

module _ {K : Type 0} {below : K → K → Type 0} {holds : K → ℤ → Type 0} {rules : Rules K} (order : OrderRules below rules) (rising : RisingRules below rules) (sound : SoundRules below holds rules) where
  -- what is less sure holds too
  pub holds_up : (s t : NodeState K) (values : Values) → BelowState below s t → HoldsAt holds rules s values → HoldsAt holds rules t values
  holds_up (Unreached n) t values p h = absurd h
  holds_up (Knows xs) (Unreached m) values p h = absurd p
  holds_up (Knows xs) (Knows ys) values p h = record { each = λ x. sound.up _ _ (values x) (below_at order rising xs ys x p) (h.each x) }

  -- what holds of all variables still does once one has a value and what is known to hold of that
  pub held_set : (ks : List K) (values : Values) (x : ℕ) (k : K) (v : ℤ) → AreHeld holds rules ks values → FitsSigned w64 v → holds k v → AreHeld holds rules (slice_set ks x k) (with_value x v values)
  held_set ks values x k v held fits known = record { each = λ y. cases y (nat_eq y x) refl }
    where
      here : holds (known_at rules (slice_set ks x k) x) v
      here = elim (cases_lt x (length ks)) as (λ _. holds (known_at rules (slice_set ks x k) x) v) [
        | inl within ↦ subst (λ j. holds j v) (sym (get_or-set_same ks x k rules.top within)) known
        | inr past ↦
            let le : length ks ≤ x = omega (arith, past) in
            subst (λ j. holds j v) (sym (ap (λ l. known_at rules l x) (set_past ks x k le) ∙ get_or_past ks x rules.top le)) (sound.top v fits)
      ]

      cases : (y : ℕ) (t : Bool) → nat_eq y x ≡ t → holds (known_at rules (slice_set ks x k) y) (if t then v else values y)
      cases y true is = let same : y ≡ x = eqb-true y x is in subst (λ z. holds (known_at rules (slice_set ks x k) z) v) (sym same) here
      cases y false is =
          let apart : y ≢ x = λ same. (let yes : nat_eq y x ≡ true = eq-eqb y x same in cc) in
          subst (λ j. holds j (values y)) (sym (get_or-set_other ks x y k rules.top apart)) (held.each y)

  -- a variable that is set
  set_here : (ks : List K) (x : ℕ) (k : K) (v : ℤ) → FitsSigned w64 v → holds k v → holds (known_at rules (slice_set ks x k) x) v
  set_here ks x k v fits known = elim (cases_lt x (length ks)) as (λ _. holds (known_at rules (slice_set ks x k) x) v) [
    | inl within ↦ subst (λ j. holds j v) (sym (get_or-set_same ks x k rules.top within)) known
    | inr past ↦
        let le : length ks ≤ x = omega (arith, past) in
        subst (λ j. holds j v) (sym (ap (λ l. known_at rules l x) (set_past ks x k le) ∙ get_or_past ks x rules.top le)) (sound.top v fits)
  ]

  -- where all variables are 0
  zeros_held : (n y : ℕ) → holds (known_at rules (replicate n rules.zero) y) (pos 0)
  zeros_held zero y = sound.top (pos 0) zero_fits
  zeros_held (suc n) zero = sound.zero
  zeros_held (suc n) (suc y) = zeros_held n y

  -- what is known of a variable that none of these numbers is stays
  set_out : (of : ℕ → K) (n i a y : ℕ) (ks : List K) → (y < a) ⊎ (a + n ≤ y) → known_at rules (all_set of i (range_with_len a n) ks) y ≡ known_at rules ks y
  set_out of zero i a y ks out = refl
  set_out of (suc n) i a y ks out = set_out of n (suc i) (a + 1) y (slice_set ks a (of i)) (further out) ∙ get_or-set_other ks a y (of i) rules.top (apart out)
    where
      further : (y < a) ⊎ (a + suc n ≤ y) → (y < a + 1) ⊎ (a + 1 + n ≤ y)
      further (inl lt) = inl (omega (arith, lt))
      further (inr ge) = inr (omega (arith, ge))

      apart : (y < a) ⊎ (a + suc n ≤ y) → y ≢ a
      apart (inl lt) = λ same. omega (arith, lt, same)
      apart (inr ge) = λ same. omega (arith, ge, same)

  -- what one that is set to holds where it is one of them
  set_in : (of : ℕ → K) (n i a y : ℕ) (ks : List K) (v : ℤ) → a ≤ y → y < a + n → FitsSigned w64 v → holds (of (i + (y - a))) v → holds (known_at rules (all_set of i (range_with_len a n) ks) y) v
  set_in of zero i a y ks v le lt fits h = absurd (omega (arith, le, lt))
  set_in of (suc n) i a y ks v le lt fits h = elim (cases_lt a y) as (λ _. holds (known_at rules (all_set of (suc i) (range_with_len (a + 1) n) (slice_set ks a (of i))) y) v) [
    | inl more ↦
        let number : i + (y - a) ≡ suc i + (y - (a + 1)) = omega (arith, more) in
        set_in of n (suc i) (a + 1) y (slice_set ks a (of i)) v (omega (arith, more)) (omega (arith, lt)) fits (subst (λ m. holds (of m) v) number h)
    | inr no_more ↦
        let same : a ≡ y = omega (arith, le, no_more) in
        let number : i + (y - a) ≡ i = omega (arith, same) in
        subst (λ j. holds j v) (sym (set_out of n (suc i) (a + 1) y (slice_set ks a (of i)) (inl (omega (arith, same)))))
        (subst (λ m. holds (known_at rules (slice_set ks a (of i)) m) v) same (set_here ks a (of i) v fits (subst (λ m. holds (of m) v) number h)))
  ]

  -- globals that are as told
  pub held_shared : (of : ℕ → K) (shared : ℕ) (globals : List ℤ) (ks : List K) (values : Values) → length globals ≡ shared → ValuesFit (with_first globals values) → ((x : ℕ) → x < shared → holds (of x) (slice_index_or globals x (pos 0))) → AreHeld holds rules ks values → AreHeld holds rules (all_set of 0 (shared_vars shared) ks) (with_first globals values)
  held_shared of shared globals ks values long fits told held = record {
    each = λ y. elim (cases_lt y shared) as (λ _. holds (known_at rules (all_set of 0 (shared_vars shared) ks) y) (with_first globals values y)) [
      | inl lt ↦
          let value : slice_index_or globals y (pos 0) ≡ with_first globals values y = get_or_default globals y (pos 0) (values y) (omega (arith, lt, long)) in
          let number : y ≡ 0 + (y - 0) = omega arith in
          set_in of shared 0 0 y ks _ (omega arith) (omega (arith, lt)) (fits.fit y) (subst (λ m. holds (of m) (with_first globals values y)) number (subst (holds (of y)) value (told y lt)))
      | inr ge ↦
          let value : with_first globals values y ≡ values y = with_first_other globals values y (omega (arith, ge, long)) in
          let known : known_at rules (all_set of 0 (shared_vars shared) ks) y ≡ known_at rules ks y = set_out of shared 0 0 y ks (inr (omega (arith, ge))) in
          subst (holds _) (sym value) (subst (λ k. holds k (values y)) (sym known) (held.each y))
    ];
  }

  -- before Start
  pub held_first : (shared : ℕ) (globals : List ℤ) (n : ℕ) → length globals ≡ shared → AreNumbers globals → ((x : ℕ) → x < shared → holds (known_at rules rules.outside.entry x) (slice_index_or globals x (pos 0))) → AreHeld holds rules (first_known rules shared n) (with_first globals all_zero)
  held_first shared globals n long are told = held_shared (known_at rules rules.outside.entry) shared globals (replicate n rules.zero) all_zero long (fits_first globals are) told (record { each = λ y. zeros_held n y })

  -- the received variables have the arguments
  held_received : (of : ℕ → K) (received : List ℕ) (arguments : List ℤ) (i : ℕ) (ks : List K) (values : Values) → AreNumbers arguments → ((j : ℕ) → holds (of j) (slice_index_or arguments j (pos 0))) → AreHeld holds rules ks values → AreHeld holds rules (all_set of i received ks) (received_from i received arguments values)
  held_received of [] arguments i ks values numbers told held = held
  held_received of (x ∷ xs) arguments i ks values numbers told held =
      let v = slice_index_or arguments i (pos 0) in
      let fits : FitsSigned w64 v = argument_fits arguments i numbers in
      held_received of xs arguments (suc i) (slice_set ks x (of i)) (with_value x v values) numbers told (held_set ks values x (of i) v held fits (told i))

  -- the globals stay, and the others are 0
  held_cleared : (shared : ℕ) (ks : List K) (values : Values) → AreHeld holds rules ks values → AreHeld holds rules (all_set (λ i. rules.zero) shared (range_with_len shared (length ks - shared)) ks) (with_first (shared_values shared values) all_zero)
  held_cleared shared ks values held = record {
    each = λ y. elim (cases_lt y shared) as (λ _. holds (known_at rules (all_set (λ i. rules.zero) shared (range_with_len shared (length ks - shared)) ks) y) (with_first (shared_values shared values) all_zero y)) [
      | inl lt ↦
          let value : with_first (shared_values shared values) all_zero y ≡ values y = shared_at shared 0 y values lt ∙ ap values (omega arith) in
          let known = set_out (λ i. rules.zero) (length ks - shared) shared shared y ks (inl lt) in
          subst (holds _) (sym value) (subst (λ k. holds k (values y)) (sym known) (held.each y))
      | inr ge ↦
          let value : with_first (shared_values shared values) all_zero y ≡ pos 0 = with_first_other (shared_values shared values) all_zero y (omega (arith, ge, shared_long shared values)) in
          subst (holds _) (sym value) (past y (omega (arith, ge)) (cases_lt y (length ks)))
    ];
  }
    where
      past : (y : ℕ) → shared ≤ y → (y < length ks) ⊎ (length ks ≤ y) → holds (known_at rules (all_set (λ i. rules.zero) shared (range_with_len shared (length ks - shared)) ks) y) (pos 0)
      past y le (inl lt) = set_in (λ i. rules.zero) (length ks - shared) shared shared y ks (pos 0) le (omega (arith, lt, le)) zero_fits sound.zero
      past y le (inr out) =
          let known = set_out (λ i. rules.zero) (length ks - shared) shared shared y ks (inr (omega (arith, le, out))) in
          subst (λ k. holds k (pos 0)) (sym (known ∙ get_or_past ks y rules.top (omega (arith, out)))) (sound.top (pos 0) zero_fits)

  -- after Start
  pub held_start : (shared : ℕ) (received : List ℕ) (arguments : List ℤ) (ks : List K) (values : Values) → AreNumbers arguments → ((j : ℕ) → holds (known_at rules rules.outside.entry (shared + j)) (slice_index_or arguments j (pos 0))) → AreHeld holds rules ks values → AreHeld holds rules (start_known rules shared received ks) (received_from 0 received arguments (with_first (shared_values shared values) all_zero))
  held_start shared received arguments ks values numbers told held = held_received (λ i. known_at rules rules.outside.entry (shared + i)) received arguments 0 _ _ numbers told (held_cleared shared ks values held)

  -- ---- what is handed over and back

  -- a list of what is known holds of a list of values
  held_items : {A : Type 0} (f : A → K) (g : A → ℤ) (xs : List A) (ks : List K) (zs : List ℤ) → ((x : A) → holds (f x) (g x)) → AreHeld holds rules ks (values_in zs) → AreHeld holds rules (map f xs ++ ks) (values_in (map g xs ++ zs))
  held_items f g [] ks zs each held = held
  held_items f g (x ∷ xs) ks zs each held = record {
    each = λ i. elim i as (λ j. holds (known_at rules (f x ∷ (map f xs ++ ks)) j) (values_in (g x ∷ (map g xs ++ zs)) j)) [
      | zero ↦ each x
      | suc j ↦ (held_items f g xs ks zs each held).each j
    ];
  }

  -- nothing of nothing
  held_none : AreHeld holds rules [] (values_in [])
  held_none = record { each = λ i. sound.top (pos 0) zero_fits }

  -- what is known of globals and operands
  pub held_handed : (shared : ℕ) (operands : List Operand) (ks : List K) (values : Values) → AreHeld holds rules ks values → ValuesFit values → AreHeld holds rules (handed rules shared operands ks) (values_in (shared_values shared values ++ map (operand_value values) operands))
  held_handed shared operands ks values held fits =
      held_items (known_at rules ks) values (shared_vars shared) _ _ held.each
      (subst (λ l. AreHeld holds rules l (values_in (map (operand_value values) operands))) (append-nil (map (λ a. rules.of_rhs ks (Plain a)) operands))
      (subst (λ l. AreHeld holds rules (map (λ a. rules.of_rhs ks (Plain a)) operands ++ []) (values_in l)) (append-nil (map (operand_value values) operands))
      (held_items (λ a. rules.of_rhs ks (Plain a)) (operand_value values) operands [] [] (λ a. sound.right_side ks values (Plain a) held fits refl) held_none)))

  -- of the globals of a list of values
  pub first_told : (ks : List K) (globals others : List ℤ) (x : ℕ) → x < length globals → AreHeld holds rules ks (values_in (globals ++ others)) → holds (known_at rules ks x) (slice_index_or globals x (pos 0))
  first_told ks globals others x lt held = subst (holds (known_at rules ks x)) (get_or_append_left globals others (pos 0) x lt) (held.each x)

  -- and of those behind them
  pub last_told : (shared : ℕ) (ks : List K) (globals others : List ℤ) (i : ℕ) → length globals ≡ shared → AreHeld holds rules ks (values_in (globals ++ others)) → holds (known_at rules ks (shared + i)) (slice_index_or others i (pos 0))
  last_told shared ks globals others i long held =
      subst (holds (known_at rules ks (shared + i))) (ap (λ n. slice_index_or (globals ++ others) (n + i) (pos 0)) (sym long) ∙ get_or-append-add globals others i (pos 0)) (held.each (shared + i))

  -- where nothing is known, it holds
  pub none_holds : (zs : List ℤ) → AreNumbers zs → AreHeld holds rules [] (values_in zs)
  none_holds zs numbers = record { each = λ i. sound.top _ (argument_fits zs i numbers) }

module _ {K : Type 0} {holds : K → ℤ → Type 0} {rules : Rules K} (rewriting : RewritingRules holds rules) where
  -- the arguments of a call have the values that they had
  pub operands_same : (ks : List K) (values : Values) (operands : List Operand) → AreHeld holds rules ks values → ValuesFit values → map (operand_value values) (map (rules.operand ks) operands) ≡ map (operand_value values) operands
  operands_same ks values [] held fits = refl
  operands_same ks values (a ∷ operands) held fits = cons_same (rewriting.operand_same ks values a held fits) (operands_same ks values operands held fits)

  -- a test with its operands replaced holds where it does
  pub test_same : (ks : List K) (values : Values) (test : tests.Test) → AreHeld holds rules ks values → ValuesFit values → test_holds values (test_becomes rules ks test) ≡ test_holds values test
  test_same ks values (Rel op a b) held fits =
      ap (λ v. relation_holds op v (operand_value values (rules.operand ks b))) (rewriting.operand_same ks values a held fits) ∙ ap (relation_holds op (operand_value values a)) (rewriting.operand_same ks values b held fits)
  test_same ks values (Holds a) held fits = ap (λ v. not (int_eq v (pos 0))) (rewriting.operand_same ks values a held fits)
  test_same ks values (Fails a) held fits = ap (λ v. int_eq v (pos 0)) (rewriting.operand_same ks values a held fits)
