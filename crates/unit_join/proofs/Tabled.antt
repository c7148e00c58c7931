-- The table of the leaves that a graph calls: one leaf more, and what is looked up in it.
use Rattle.std.proofs.Common.{◌≡◌, ◌⊎◌, inl, inr, ℕ, suc, ◌+◌, ◌<◌, Bool, true, false, ◌||◌, if◌then◌else◌, nat_eq, List, [], ◌∷◌, ◌++◌, length, slice_get, slice_set, Option, Some, None, refl, sym, ap, ◌∙◌, subst, arith}
use Rattle.std.proofs.lemmas.Bool.{cases_eq, eq-eqb, eqb-true}
use Rattle.std.proofs.lemmas.List.{length-set}
use Rattle.std.proofs.lemmas.Option.{slice_get_within}
use Rattle.flow_graph.specs.Graphs.{GraphShape}
use Rattle.flow_graph.specs.ListLaws.{set_elsewhere, set_here}
use Rattle.flow_graph.specs.Numbering.{is_in, seen_after}
use Rattle.unit_join.specs.declared.copy_table.CopyTable.{CopyTable}
use Rattle.unit_join.specs.CopyTables.{HasCopyNumbers, TakesInLeaves, first_if_called}
use Rattle.unit_join.specs.Joins.{copies, first_copy, leaf_at, leaf_vars, or_none}

-- the copy of a unit that is called, or else the number after all copies
abbrev pub or_end : Option ℕ → ℕ → ℕ
or_end None end = end
or_end (Some first) end = first

module _ (leaves : List (Option GraphShape)) where
  -- what the table says is the first copy
  first_told : (units : List ℕ) (first unit : ℕ) → or_end (first_if_called leaves units first unit) (first + copies leaves units) ≡ first_copy leaves units first unit
  first_told [] first unit = omega arith
  first_told (u ∷ units) first unit = go (nat_eq u unit) (first_told units (first + leaf_vars (leaf_at leaves u)) unit)
    where
      rest : Option ℕ
      rest = first_if_called leaves units (first + leaf_vars (leaf_at leaves u)) unit

      go : (b : Bool) → or_end rest ((first + leaf_vars (leaf_at leaves u)) + copies leaves units) ≡ first_copy leaves units (first + leaf_vars (leaf_at leaves u)) unit
          → or_end (if b then Some first else rest) (first + (leaf_vars (leaf_at leaves u) + copies leaves units)) ≡ (if b then first else first_copy leaves units (first + leaf_vars (leaf_at leaves u)) unit)
      go true is = refl
      go false is = let same : first + (leaf_vars (leaf_at leaves u) + copies leaves units) ≡ (first + leaf_vars (leaf_at leaves u)) + copies leaves units = omega arith in ap (or_end rest) same ∙ is

  -- a unit is among them exactly where it has a first copy
  some_called : (units : List ℕ) (first unit a : ℕ) → first_if_called leaves units first unit ≡ Some a → is_in unit units ≡ true
  some_called [] first unit a is = cc
  some_called (u ∷ units) first unit a is = go (nat_eq u unit) is (some_called units (first + leaf_vars (leaf_at leaves u)) unit a)
    where
      go : (b : Bool) → (if b then Some first else first_if_called leaves units (first + leaf_vars (leaf_at leaves u)) unit) ≡ Some a → (first_if_called leaves units (first + leaf_vars (leaf_at leaves u)) unit ≡ Some a → is_in unit units ≡ true) → b || is_in unit units ≡ true
      go true e more = refl
      go false e more = more e

  none_called : (units : List ℕ) (first unit : ℕ) → first_if_called leaves units first unit ≡ None → is_in unit units ≡ false
  none_called [] first unit is = refl
  none_called (u ∷ units) first unit is = go (nat_eq u unit) is (none_called units (first + leaf_vars (leaf_at leaves u)) unit)
    where
      go : (b : Bool) → (if b then Some first else first_if_called leaves units (first + leaf_vars (leaf_at leaves u)) unit) ≡ None → (first_if_called leaves units (first + leaf_vars (leaf_at leaves u)) unit ≡ None → is_in unit units ≡ false) → b || is_in unit units ≡ false
      go true e more = cc
      go false e more = more e

  -- one more has its copies after all others
  first_here : (units : List ℕ) (first unit : ℕ) → is_in unit units ≡ false → first_if_called leaves (units ++ unit ∷ []) first unit ≡ Some (first + copies leaves units)
  first_here [] first unit out =
      let end : first ≡ first + 0 = omega arith in
      ap (λ b. if b then Some first else None) (eq-eqb unit unit refl) ∙ ap Some end
  first_here (u ∷ units) first unit out = go (nat_eq u unit) out (first_here units (first + leaf_vars (leaf_at leaves u)) unit)
    where
      rest : Option ℕ
      rest = first_if_called leaves (units ++ unit ∷ []) (first + leaf_vars (leaf_at leaves u)) unit

      go : (b : Bool) → b || is_in unit units ≡ false → (is_in unit units ≡ false → rest ≡ Some ((first + leaf_vars (leaf_at leaves u)) + copies leaves units)) → (if b then Some first else rest) ≡ Some (first + (leaf_vars (leaf_at leaves u) + copies leaves units))
      go true e more = cc
      go false e more = let same : (first + leaf_vars (leaf_at leaves u)) + copies leaves units ≡ first + (leaf_vars (leaf_at leaves u) + copies leaves units) = omega arith in more e ∙ ap Some same

  -- and the others keep theirs
  first_elsewhere : (units : List ℕ) (first unit other : ℕ) → (unit ≡ other → ⊥) → first_if_called leaves (units ++ unit ∷ []) first other ≡ first_if_called leaves units first other
  first_elsewhere [] first unit other apart = go (nat_eq unit other) refl
    where
      go : (b : Bool) → nat_eq unit other ≡ b → (if nat_eq unit other then Some first else None) ≡ None
      go true is = absurd (apart (eqb-true unit other is))
      go false is = ap (λ b. if b then Some first else None) is
  first_elsewhere (u ∷ units) first unit other apart = ap (λ o. if nat_eq u other then Some first else o) (first_elsewhere units (first + leaf_vars (leaf_at leaves u)) unit other apart)

  -- how many copies there are with it
  copies_more : (units : List ℕ) (unit : ℕ) → copies leaves (units ++ unit ∷ []) ≡ copies leaves units + leaf_vars (leaf_at leaves unit)
  copies_more [] unit = omega arith
  copies_more (u ∷ units) unit = let more = copies_more units unit in omega (arith, more)

  -- ---- the table

  -- at first there are no copies
  pub no_copies : (vars : ℕ) (table : CopyTable) → table.units.items ≡ [] → length table.firsts.items ≡ length leaves → ((u : ℕ) → u < length leaves → slice_get table.firsts.items u ≡ Some None) → table.end ≡ vars → HasCopyNumbers leaves vars table
  no_copies vars table none long each end = record {
    long = long;
    firsts = λ u lt. each u lt ∙ ap (λ l. Some (first_if_called leaves l vars u)) (sym none);
    end = let all : copies leaves table.units.items ≡ 0 = ap (copies leaves) none in omega (arith, end, all);
  }

  -- of no units, the table stays as it is
  pub takes_none : (old new : CopyTable) → new ≡ old → TakesInLeaves leaves [] old new
  takes_none old new same vars has = (ap (λ (t : CopyTable). t.units.items) same, subst (HasCopyNumbers leaves vars) (sym same) has)

  -- a unit that has its copies already leaves the table as it is
  pub takes_known : (old new : CopyTable) (unit first : ℕ) → unit < length leaves → slice_get old.firsts.items unit ≡ Some (Some first) → new ≡ old → TakesInLeaves leaves (unit ∷ []) old new
  takes_known old new unit first within here same vars has =
      let both : Some (Some first) ≡ Some (first_if_called leaves old.units.items vars unit) = sym here ∙ has.firsts unit within in
      let is : first_if_called leaves old.units.items vars unit ≡ Some first = cc in (
        ap (λ (t : CopyTable). t.units.items) same ∙ ap (λ b. if b then old.units.items else old.units.items ++ unit ∷ []) (sym (some_called old.units.items vars unit first is)),
        subst (HasCopyNumbers leaves vars) (sym same) has,
      )

  -- a new one
  pub takes_new : (old new : CopyTable) (unit : ℕ) → unit < length leaves → slice_get old.firsts.items unit ≡ Some None → new.units.items ≡ old.units.items ++ unit ∷ [] → new.firsts.items ≡ slice_set old.firsts.items unit (Some old.end)
      → new.end ≡ old.end + leaf_vars (leaf_at leaves unit) → TakesInLeaves leaves (unit ∷ []) old new
  takes_new old new unit within here units firsts end vars has =
      let both : Some None ≡ Some (first_if_called leaves old.units.items vars unit) = sym here ∙ has.firsts unit within in
      let is : first_if_called leaves old.units.items vars unit ≡ None = cc in
      let out = none_called old.units.items vars unit is in (
        units ∙ ap (λ b. if b then old.units.items else old.units.items ++ unit ∷ []) (sym out),
        record {
          long = ap (λ l. length l) firsts ∙ length-set old.firsts.items unit (Some old.end) ∙ has.long;
          firsts = λ u lt. elim (cases_eq unit u) [
            | inl same ↦
                let room : unit < length old.firsts.items = let long = has.long in omega (arith, within, long) in
                ap (λ l. slice_get l u) firsts ∙ ap (slice_get (slice_set old.firsts.items unit (Some old.end))) (sym same) ∙ set_here old.firsts.items unit (Some old.end) room
                ∙ ap (λ n. Some (Some n)) has.end ∙ ap Some (sym (first_here old.units.items vars unit out)) ∙ ap (λ n. Some (first_if_called leaves (old.units.items ++ unit ∷ []) vars n)) same ∙ ap (λ l. Some (first_if_called leaves l vars u)) (sym units)
            | inr apart ↦
                ap (λ l. slice_get l u) firsts ∙ set_elsewhere old.firsts.items unit u (Some old.end) (λ e. apart (sym e)) ∙ has.firsts u lt
                ∙ ap Some (sym (first_elsewhere old.units.items vars unit u apart)) ∙ ap (λ l. Some (first_if_called leaves l vars u)) (sym units)
          ];
          end =
              let all : copies leaves new.units.items ≡ copies leaves old.units.items + leaf_vars (leaf_at leaves unit) = ap (copies leaves) units ∙ copies_more old.units.items unit in
              let before = has.end in
              omega (arith, end, all, before);
        },
      )

  -- what is looked up
  pub looked_up : (vars : ℕ) (table : CopyTable) (unit : ℕ) (entry : Option ℕ) → HasCopyNumbers leaves vars table → unit < length leaves → slice_get table.firsts.items unit ≡ Some entry → or_end entry table.end ≡ first_copy leaves table.units.items vars unit
  looked_up vars table unit entry has within here =
      let both : Some entry ≡ Some (first_if_called leaves table.units.items vars unit) = sym here ∙ has.firsts unit within in
      let is : entry ≡ first_if_called leaves table.units.items vars unit = cc in
      ap (λ o. or_end o table.end) is ∙ ap (or_end (first_if_called leaves table.units.items vars unit)) has.end ∙ first_told table.units.items vars unit

-- what is seen of two lists, one after the other
pub seen_append : (seen xs ys : List ℕ) → seen_after (seen_after seen xs) ys ≡ seen_after seen (xs ++ ys)
seen_append seen [] ys = refl
seen_append seen (x ∷ xs) ys = go (is_in x seen) (seen_append seen xs ys) (seen_append (seen ++ x ∷ []) xs ys)
  where
    go : (b : Bool) → seen_after (seen_after seen xs) ys ≡ seen_after seen (xs ++ ys) → seen_after (seen_after (seen ++ x ∷ []) xs) ys ≡ seen_after (seen ++ x ∷ []) (xs ++ ys)
        → seen_after (if b then seen_after seen xs else seen_after (seen ++ x ∷ []) xs) ys ≡ (if b then seen_after seen (xs ++ ys) else seen_after (seen ++ x ∷ []) (xs ++ ys))
    go true old new = old
    go false old new = new

-- a leaf is one of the entries
pub leaf_within : (leaves : List (Option GraphShape)) (unit : ℕ) (leaf : GraphShape) → leaf_at leaves unit ≡ Some leaf → unit < length leaves
leaf_within leaves unit leaf is = go (slice_get leaves unit) refl is
  where
    go : (o : Option (Option GraphShape)) → slice_get leaves unit ≡ o → or_none o ≡ Some leaf → unit < length leaves
    go None e f = cc
    go (Some entry) e f = slice_get_within leaves unit entry e
