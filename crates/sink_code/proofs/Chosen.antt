-- The patterns of a table whose bits are set in a row: what is put for each variable, and that their variables rise.
use Rattle.std.proofs.Common.{◌≡◌, ◌<◌, ◌≤◌, ℕ, zero, suc, ◌+◌, ◌-◌, Bool, true, false, List, [], ◌∷◌, length, get_or, drop, drop-cons, slice_get, Some, inl, inr, refl, sym, ap, ◌∙◌, arith}
use Rattle.std.proofs.Math.Seq.{drop-length}
use Rattle.std.proofs.lemmas.Bool.{cases_eq, false≢true}
use Rattle.std.proofs.lemmas.Option.{same_Some, none-some}
use Rattle.mir_base.specs.declared.instructions.Rhs.{Rhs}
use Rattle.flow_graph.specs.ListLaws.{drop_at, some_at}
use Rattle.sink_code.specs.Sinking.{put_for}
use Rattle.sink_code.specs.declared.patterns.Pattern.{Pattern}
use Rattle.sink_code.specs.Puts.{chosen, insertion_of_pattern}
use Rattle.sink_code.specs.SunkGraphs.{RisesFrom}
use Rattle.sink_code.specs.OrderedLaws.{put_first, put_rest}

-- the bit of this number is set
abbrev pub IsSet : List Bool → ℕ → Type 0
IsSet row k = get_or row k false ≡ true

-- the variables of the patterns whose bits are set rise strictly, from a number on
abbrev pub RiseStrictly : List Pattern → List Bool → Type 0
RiseStrictly table row = (i j : ℕ) (p q : Pattern) → i < j → slice_get table i ≡ Some p → slice_get table j ≡ Some q → IsSet row i → IsSet row j → p.var < q.var

-- without the first pattern
later_rise : (p : Pattern) (table : List Pattern) (bit : Bool) (row : List Bool) → RiseStrictly (p ∷ table) (bit ∷ row) → RiseStrictly table row
later_rise p table bit row rise i j q r lt = rise (suc i) (suc j) q r (omega (arith, lt))

-- what is chosen rises
pub chosen_rises : (low : ℕ) (table : List Pattern) (row : List Bool) → RiseStrictly table row → ((i : ℕ) (p : Pattern) → slice_get table i ≡ Some p → IsSet row i → low ≤ p.var) → RisesFrom low (chosen table row)
chosen_rises low [] row rise above = tt
chosen_rises low (p ∷ table) [] rise above = tt
chosen_rises low (p ∷ table) (true ∷ row) rise above = (
  above 0 p refl refl,
  chosen_rises (suc p.var) table row (later_rise p table true row rise) (λ i q at set. (let less = rise 0 (suc i) p q (omega arith) refl at refl set in less)),
)
chosen_rises low (p ∷ table) (false ∷ row) rise above = chosen_rises low table row (later_rise p table false row rise) (λ i q at set. above (suc i) q at set)

-- what is put for a variable is chosen
pub chosen_from : (table : List Pattern) (row : List Bool) (x : ℕ) (t : Rhs) → put_for (chosen table row) x ≡ Some t → (k : ℕ) × (slice_get table k ≡ Some (record { var = x; rhs = t })) × IsSet row k
chosen_from [] row x t is = absurd (none-some t is)
chosen_from (p ∷ table) [] x t is = absurd (none-some t is)
chosen_from (p ∷ table) (true ∷ row) x t is = elim (cases_eq x p.var) [
  | inl same ↦
      let rhs : p.rhs ≡ t = same_Some p.rhs t (sym (ap (λ y. put_for (insertion_of_pattern p ∷ chosen table row) y) same ∙ put_first (insertion_of_pattern p) (chosen table row)) ∙ is) in
      (0, ap Some (ap (λ y. record { var = y; rhs = p.rhs }) (sym same) ∙ ap (λ r. record { var = x; rhs = r }) rhs), refl)
  | inr differ ↦
      let rest = chosen_from table row x t (sym (put_rest (insertion_of_pattern p) (chosen table row) x differ) ∙ is) in
      (suc rest.0, rest.1, rest.2)
]
chosen_from (p ∷ table) (false ∷ row) x t is = let rest = chosen_from table row x t is in (suc rest.0, rest.1, rest.2)

-- and what is chosen is put
pub chosen_put : (table : List Pattern) (row : List Bool) → RiseStrictly table row → (k x : ℕ) (t : Rhs) → slice_get table k ≡ Some (record { var = x; rhs = t }) → IsSet row k → put_for (chosen table row) x ≡ Some t
chosen_put [] row rise k x t at set = cc
chosen_put (p ∷ table) [] rise k x t at set = absurd (unset k set)
  where
    unset : (j : ℕ) → IsSet [] j → ⊥
    unset zero e = false≢true e
    unset (suc j) e = false≢true e
chosen_put (p ∷ table) (true ∷ row) rise zero x t at set =
    let same : p ≡ record { var = x; rhs = t } = same_Some p (record { var = x; rhs = t }) at in
    ap (λ (q : Pattern). put_for (insertion_of_pattern q ∷ chosen table row) x) same ∙ put_first (record { var = x; rhs = t }) (chosen table row)
chosen_put (p ∷ table) (true ∷ row) rise (suc k) x t at set =
    let less = rise 0 (suc k) p (record { var = x; rhs = t }) (omega arith) refl at refl set in
    put_rest (insertion_of_pattern p) (chosen table row) x (λ e. omega (arith, e, less)) ∙ chosen_put table row (later_rise p table true row rise) k x t at set
chosen_put (p ∷ table) (false ∷ row) rise zero x t at set = absurd (false≢true set)
chosen_put (p ∷ table) (false ∷ row) rise (suc k) x t at set = chosen_put table row (later_rise p table false row rise) k x t at set

-- of no bits nothing is chosen
pub chosen_none : (table : List Pattern) → chosen table [] ≡ []
chosen_none [] = refl
chosen_none (p ∷ table) = refl

-- ---- bits found one after the other

-- bits that are not set choose nothing
chosen_skip : (d from : ℕ) (table : List Pattern) (row : List Bool) → length row ≡ length table → from + d ≤ length row → ((j : ℕ) → from ≤ j → j < from + d → get_or row j false ≡ false) → chosen (drop from table) (drop from row) ≡ chosen (drop (from + d) table) (drop (from + d) row)
chosen_skip zero from table row long within none = let same : from ≡ from + zero = omega arith in ap (λ n. chosen (drop n table) (drop n row)) same
chosen_skip (suc d) from table row long within none =
    let inside : from < length row = omega (arith, within) in
    let p = some_at table from (omega (arith, inside, long)) in
    let same : (from + 1) + d ≡ from + suc d = omega arith in
    let next : suc from ≡ from + 1 = omega arith in
    ap (λ l. chosen l (drop from row)) (drop_at table from p.0 p.1)
    ∙ ap (chosen (p.0 ∷ drop (from + 1) table)) (drop-cons row from false inside)
    ∙ ap (λ b. chosen (p.0 ∷ drop (from + 1) table) (b ∷ drop (suc from) row)) (none from (omega arith) (omega arith))
    ∙ ap (λ n. chosen (drop (from + 1) table) (drop n row)) next
    ∙ chosen_skip d (from + 1) table row long (omega (arith, within)) (λ j low high. none j (omega (arith, low)) (omega (arith, high)))
    ∙ ap (λ n. chosen (drop n table) (drop n row)) same

-- up to the next that is
pub chosen_step : (from b : ℕ) (table : List Pattern) (row : List Bool) (p : Pattern) → length row ≡ length table → from ≤ b → b < length row → ((j : ℕ) → from ≤ j → j < b → get_or row j false ≡ false) → get_or row b false ≡ true → slice_get table b ≡ Some p
    → chosen (drop from table) (drop from row) ≡ insertion_of_pattern p ∷ chosen (drop (b + 1) table) (drop (b + 1) row)
chosen_step from b table row p long low within none set at =
    let there : from + (b - from) ≡ b = omega (arith, low) in
    let next : suc b ≡ b + 1 = omega arith in
    chosen_skip (b - from) from table row long (omega (arith, there, within)) (λ j l h. none j l (omega (arith, there, h)))
    ∙ ap (λ n. chosen (drop n table) (drop n row)) there
    ∙ ap (λ l. chosen l (drop b row)) (drop_at table b p at)
    ∙ ap (chosen (p ∷ drop (b + 1) table)) (drop-cons row b false within)
    ∙ ap (λ bit. chosen (p ∷ drop (b + 1) table) (bit ∷ drop (suc b) row)) set
    ∙ ap (λ n. insertion_of_pattern p ∷ chosen (drop (b + 1) table) (drop n row)) next

-- and where none is left
pub chosen_end : (from : ℕ) (table : List Pattern) (row : List Bool) → length row ≡ length table → from ≤ length row → ((j : ℕ) → from ≤ j → j < length row → get_or row j false ≡ false) → chosen (drop from table) (drop from row) ≡ []
chosen_end from table row long low none =
    let there : from + (length row - from) ≡ length row = omega (arith, low) in
    chosen_skip (length row - from) from table row long (omega (arith, there)) (λ j l h. none j l (omega (arith, there, h)))
    ∙ ap (λ n. chosen (drop n table) (drop n row)) there
    ∙ ap (chosen (drop (length row) table)) (drop-length row)
    ∙ chosen_none (drop (length row) table)
