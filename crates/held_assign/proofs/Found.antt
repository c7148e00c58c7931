-- An assignment that holds somewhere is a node of the graph, so it stands in the table, and the right side that holds is
-- found by its row, at the first bit that the rows of node and variable share.
use Rattle.std.proofs.Common.{◌≡◌, ℕ, zero, suc, ◌<◌, ◌≤◌, ◌⊎◌, inl, inr, Bool, true, false, if◌then◌else◌, nat_eq, ◌&&◌, eqb-true, eq-eqb, Contains, List, [], ◌∷◌, length, slice_get, Some, None, refl, sym, ap, ◌∙◌, subst, true≢false, arith}
use Rattle.std.proofs.lemmas.Bool.{and_from, and_parts}
use Rattle.std.proofs.lemmas.Option.{slice_get-get_or}
use Rattle.mir_base.specs.declared.instructions.Rhs.{Rhs}
use Rattle.bit_rows.specs.Bits.{row_bit, row_of}
use Rattle.flow_graph.specs.Graphs.{GraphShape}
use Rattle.key_rows.specs.KeyRows.{key_in}
use Rattle.held_assign.specs.declared.table.Assignment.{Assignment}
use Rattle.held_assign.specs.Assignments.{AreHoldable, HasAssignments, picked_of}
use Rattle.held_assign.specs.HeldLaws.{held_node}
use Rattle.held_assign.specs.Holding.{IsHeld, IsHeldRhs}
use Rattle.held_assign.specs.Rows.{AreHeldRows, AreTargetRows, HaveNoneShared, IsFirstShared, held_in, in_both}
use Rattle.held_assign.proofs.Holdable.{key_of_assign}

-- an assignment that holds somewhere stands in the table
in_table : (picked : ℕ → Rhs → Bool) (graph : GraphShape) (table : List Assignment) → HasAssignments picked graph.nodes table → (v : ℕ) (rhs : Rhs) (n : ℕ) → picked v rhs ≡ true → IsHeld graph v rhs n → Contains table (record { target = v; rhs = rhs })
in_table picked graph table all v rhs n chosen held =
    let node = held_node graph v rhs n held in
    all node.0 (record { target = v; rhs = rhs }) (ap (key_in (picked_of picked)) node.2 ∙ key_of_assign picked v rhs node.1 chosen held.can)

-- ---- what holds by a row

-- no bit of an assignment of v
abbrev pub NoneIn : List Assignment → List Bool → ℕ → Type 0
NoneIn table row v = (i : ℕ) (a : Assignment) → slice_get table i ≡ Some a → row_bit row i ≡ true → nat_eq a.target v ≡ true → ⊥

-- the assignment of this number is of v, and has its bit
pub record HasBitIn (table : List Assignment) (row : List Bool) (v i : ℕ) (a : Assignment) : Type 0 where
  pub here : slice_get table i ≡ Some a
  pub bit : row_bit row i ≡ true
  pub in_var : nat_eq a.target v ≡ true

-- where there is none, nothing holds
pub held_none : (table : List Assignment) (row : List Bool) (v : ℕ) → NoneIn table row v → held_in table row v ≡ None
held_none [] row v none = refl
held_none (a ∷ table) [] v none = refl
held_none (a ∷ table) (b ∷ row) v none = by b (nat_eq a.target v) refl refl (held_none table row v (λ i d. none (suc i) d))
  where
    by : (b' t : Bool) → b ≡ b' → nat_eq a.target v ≡ t → held_in table row v ≡ None → (if b' && t then Some a.rhs else held_in table row v) ≡ None
    by true true on is rest = absurd (none 0 a refl on is)
    by true false on is rest = rest
    by false t on is rest = rest

-- and else the right side of the first
pub held_first : (table : List Assignment) (row : List Bool) (v i : ℕ) (a : Assignment) → HasBitIn table row v i a → ((k : ℕ) (d : Assignment) → k < i → HasBitIn table row v k d → ⊥) → held_in table row v ≡ Some a.rhs
held_first [] row v i a has earlier = let none = has.here in cc
held_first (d ∷ table) [] v i a has earlier = let none = has.bit in cc
held_first (d ∷ table) (b ∷ row) v zero a has earlier =
    let same : d ≡ a = (let h = has.here in cc) in
    let on : b ≡ true = has.bit in
    let is : nat_eq d.target v ≡ true = subst (λ e. nat_eq e.target v ≡ true) (sym same) has.in_var in
    rw (on, is) (ap (λ e. Some e.rhs) same)
held_first (d ∷ table) (b ∷ row) v (suc i) a has earlier = by b (nat_eq d.target v) refl refl
    (held_first table row v i a (record { here = has.here; bit = has.bit; in_var = has.in_var }) (λ k e lt h. earlier (suc k) e (omega (arith, lt)) (record { here = h.here; bit = h.bit; in_var = h.in_var })))
  where
    by : (b' t : Bool) → b ≡ b' → nat_eq d.target v ≡ t → held_in table row v ≡ Some a.rhs → (if b' && t then Some d.rhs else held_in table row v) ≡ Some a.rhs
    by true true on is rest = absurd (earlier 0 d (omega arith) (record { here = refl; bit = on; in_var = is }))
    by true false on is rest = rest
    by false t on is rest = rest

-- one of the two
abbrev HeldCases : List Assignment → List Bool → ℕ → Type 0
HeldCases table row v = ((i : ℕ) × (a : Assignment) × HasBitIn table row v i a × (held_in table row v ≡ Some a.rhs)) ⊎ ((held_in table row v ≡ None) × NoneIn table row v)

-- by cases of the table
held_cases : (table : List Assignment) (row : List Bool) (v : ℕ) → HeldCases table row v
held_cases [] row v = inr (refl, λ i a here bit is. cc)
held_cases (c ∷ table) [] v = inr (refl, λ i d here bit is. cc)
held_cases (c ∷ table) (b ∷ row) v = by b (nat_eq c.target v) refl refl (held_cases table row v)
  where
    more : (b' t : Bool) → b ≡ b' → nat_eq c.target v ≡ t → (b' && t) ≡ false → (i : ℕ) (d : Assignment) → slice_get (c ∷ table) i ≡ Some d → row_bit (b ∷ row) i ≡ true → nat_eq d.target v ≡ true → NoneIn table row v → ⊥
    more b' t on is off zero d here bit in_var none = let same : c ≡ d = cc in true≢false (sym (rw (sym on ∙ bit, sym is ∙ ap (λ (e : Assignment). nat_eq e.target v) same ∙ in_var) refl) ∙ off)
    more b' t on is off (suc i) d here bit in_var none = none i d here bit in_var

    later : (b' t : Bool) → b ≡ b' → nat_eq c.target v ≡ t → (b' && t) ≡ false → HeldCases table row v → ((i : ℕ) × (d : Assignment) × HasBitIn (c ∷ table) (b ∷ row) v i d × (held_in table row v ≡ Some d.rhs)) ⊎ ((held_in table row v ≡ None) × NoneIn (c ∷ table) (b ∷ row) v)
    later b' t on is off (inl r) = inl (suc r.0, r.1, record { here = r.2.here; bit = r.2.bit; in_var = r.2.in_var }, r.3)
    later b' t on is off (inr r) = inr (r.0, λ i d here bit in_var. more b' t on is off i d here bit in_var r.1)

    by : (b' t : Bool) → b ≡ b' → nat_eq c.target v ≡ t → HeldCases table row v → ((i : ℕ) × (d : Assignment) × HasBitIn (c ∷ table) (b ∷ row) v i d × ((if b' && t then Some c.rhs else held_in table row v) ≡ Some d.rhs)) ⊎ (((if b' && t then Some c.rhs else held_in table row v) ≡ None) × NoneIn (c ∷ table) (b ∷ row) v)
    by true true on is rest = inl (0, c, record { here = refl; bit = on; in_var = is }, refl)
    by true false on is rest = later true false on is refl rest
    by false t on is rest = later false t on is refl rest

-- ---- so the rows of what holds tell it

module _ (picked : ℕ → Rhs → Bool) (graph : GraphShape) (vars : ℕ) (table : List Assignment) (held : List (List Bool)) (all : HasAssignments picked graph.nodes table) (are : AreHoldable picked vars table) (rows : AreHeldRows graph table held) where
  pub row_tells : (n v : ℕ) → n < length graph.nodes → IsHeldRhs picked graph n v (held_in table (row_of held n) v)
  row_tells n v lt = by (held_cases table (row_of held n) v)
    where
      by : HeldCases table (row_of held n) v → IsHeldRhs picked graph n v (held_in table (row_of held n) v)
      by (inl r) =
          let a = r.1 in
          let holds : IsHeld graph a.target a.rhs n = (rows.bits n r.0 a lt r.2.here).0 r.2.bit in
          let target : a.target ≡ v = eqb-true a.target v r.2.in_var in
          subst (IsHeldRhs picked graph n v) (sym r.3) (subst (λ x. picked x a.rhs ≡ true) target (are r.0 a r.2.here).is_picked, subst (λ x. IsHeld graph x a.rhs n) target holds)
      by (inr r) = subst (IsHeldRhs picked graph n v) (sym r.0) (λ rhs chosen holds.
          let there = in_table picked graph table all v rhs n chosen holds in
          let here : slice_get table there.0 ≡ Some (record { target = v; rhs = rhs }) = slice_get-get_or table there.0 (record { target = v; rhs = rhs }) there.1 ∙ ap Some there.2 in
          r.1 there.0 (record { target = v; rhs = rhs }) here ((rows.bits n there.0 (record { target = v; rhs = rhs }) lt here).1 holds) (eq-eqb v v refl))

-- ---- and it is found by the bits that the row of a variable and the row of a node share

module _ (vars : ℕ) (table : List Assignment) (targets : List (List Bool)) (row : List Bool) (v : ℕ) (v_in : v < vars) (are : AreTargetRows vars table targets) where
  -- the bit in the row of v tells that the assignment is of v
  target_bit : (i : ℕ) (a : Assignment) → slice_get table i ≡ Some a → row_bit (row_of targets v) i ≡ nat_eq a.target v
  target_bit i a at = are.bits v i a v_in at

  -- so an assignment of v that has its bit has it in both rows
  in_both_where : (i : ℕ) (a : Assignment) → HasBitIn table row v i a → in_both (row_of targets v) row i ≡ true
  in_both_where i a has = and_from (row_bit (row_of targets v) i) (row_bit row i) (target_bit i a has.here ∙ has.in_var) has.bit

  pub held_found : (i : ℕ) (a : Assignment) → slice_get table i ≡ Some a → IsFirstShared (row_of targets v) row i → held_in table row v ≡ Some a.rhs
  held_found i a at found =
      let bits = and_parts (row_bit (row_of targets v) i) (row_bit row i) found.both in
      held_first table row v i a (record { here = at; bit = bits.1; in_var = sym (target_bit i a at) ∙ bits.0 })
      (λ k d lt has. true≢false (sym (in_both_where k d has) ∙ found.first k lt))

  pub held_nowhere : HaveNoneShared (row_of targets v) row → held_in table row v ≡ None
  held_nowhere none = held_none table row v (λ i a here bit in_var. true≢false (sym (in_both_where i a (record { here = here; bit = bit; in_var = in_var })) ∙ none i))

-- no assignment is of a variable that is not one of so many
pub held_past : (vars : ℕ) (table : List Assignment) (row : List Bool) (v : ℕ) → vars ≤ v → ((i : ℕ) (a : Assignment) → slice_get table i ≡ Some a → a.target < vars) → held_in table row v ≡ None
held_past vars table row v late below = held_none table row v (λ i a here bit in_var. (let low = below i a here in let same : a.target ≡ v = eqb-true a.target v in_var in absurd (omega (arith, low, same, late))))
