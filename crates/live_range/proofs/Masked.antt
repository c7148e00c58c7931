-- Rows of which some stay and others lose all bits, and what the rows say in which bits of what is wanted are born.
use Rattle.std.proofs.Common.{◌≡◌, ◌≢◌, ◌↔◌, ◌<◌, ◌+◌, ◌&&◌, not, ℕ, Bool, true, false, refl, sym, ap, ◌∙◌, subst, inl, inr, List, [], length, get_or, set, arith}
use Rattle.std.proofs.lemmas.Bool.{cases_eq}
use Rattle.std.proofs.lemmas.List.{get_or-set_same, get_or-set_other, length-set}
use Rattle.bit_rows.specs.BitLaws.{length_minus, minus_bit}
use Rattle.bit_rows.specs.Bits.{AreAlike, EachBit, minus_bits, row_of}
use Rattle.flow_graph.specs.Graphs.{GraphShape}
use Rattle.path_laws.specs.Paths.{AreRows, HaveShape, has_bit}
use Rattle.path_laws.specs.Says.{both_say, not_says}
use Rattle.motion_rewrite.specs.declared.placement.Placement.{Placement}
use Rattle.motion_rewrite.specs.Placements.{places_of}
use Rattle.live_range.specs.Held.{ReachesReturn}
use Rattle.live_range.specs.Wanted.{AreMaskedBelow, AreReachingRows, HaveOnlyBitsOf}

-- ---- one row more

-- a bit that the second row has too is not among those of the first without it
minus_none : (x y : Bool) → (x ≡ true → y ≡ true) → (x && not y) ≡ false
minus_none true y has = ap not (has refl)
minus_none false y has = refl

-- at the beginning
pub masked_none : (mask rows : List (List Bool)) → AreMaskedBelow 0 mask rows rows
masked_none mask rows = record { len = refl; each = λ n. refl; done = λ n b past. absurd (omega (arith, past)); later = λ n past. refl }

-- the row of n stays, where its bit is set
pub stayed_row : (n : ℕ) (mask old rows : List (List Bool)) → has_bit mask 0 n ≡ true → AreMaskedBelow n mask old rows → AreMaskedBelow (n + 1) mask old rows
stayed_row n mask old rows on before = record {
  len = before.len;
  each = before.each;
  done = λ m b low in_old. elim (cases_eq m n) [
    | inl same ↦ subst (λ k. has_bit rows b k ≡ (has_bit old b k && has_bit mask 0 k)) (sym same)
        (ap (λ row. get_or row b false) (before.later n (λ lt. omega (arith, lt))) ∙ sym (and_true (has_bit old b n) (has_bit mask 0 n) on))
    | inr other ↦ before.done m b (omega (arith, low, other)) in_old
  ];
  later = λ m past. before.later m (λ lt. past (omega (arith, lt)));
}
  where
    and_true : (x y : Bool) → y ≡ true → (x && y) ≡ x
    and_true true y on = on
    and_true false y on = refl

-- and else it loses all bits, since the row that is taken off has each of them
pub lost_row : (n : ℕ) (same mask old rows new : List (List Bool)) → HaveOnlyBitsOf same old → has_bit mask 0 n ≡ false → n < length old → new ≡ set rows n (minus_bits (row_of rows n) (row_of same n)) → AreMaskedBelow n mask old rows → AreMaskedBelow (n + 1) mask old new
lost_row n same mask old rows new only off n_in is before = record {
  len = ap length is ∙ length-set rows n (minus_bits (row_of rows n) (row_of same n)) ∙ before.len;
  each = λ m. elim (cases_eq m n) [
    | inl e ↦ subst (λ k. length (row_of new k) ≡ length (row_of old k)) (sym e) (ap length here ∙ length_minus (row_of old n) (row_of same n) long)
    | inr other ↦ ap length (elsewhere m other) ∙ before.each m
  ];
  done = λ m b low in_old. elim (cases_eq m n) [
    | inl e ↦ subst (λ k. has_bit new b k ≡ (has_bit old b k && has_bit mask 0 k)) (sym e) (none b ∙ sym (and_false (has_bit old b n) (has_bit mask 0 n) off))
    | inr other ↦ ap (λ row. get_or row b false) (elsewhere m other) ∙ before.done m b (omega (arith, low, other)) in_old
  ];
  later = λ m past. elsewhere m (λ e. past (omega (arith, e))) ∙ before.later m (λ lt. past (omega (arith, lt)));
}
  where
    and_false : (x y : Bool) → y ≡ false → (x && y) ≡ false
    and_false true y off = off
    and_false false y off = refl

    long : length (row_of old n) ≡ length (row_of same n)
    long = only.alike.each n (omega (arith, only.alike.len, n_in))

    here : row_of new n ≡ minus_bits (row_of old n) (row_of same n)
    here = ap (λ r. row_of r n) is ∙ get_or-set_same rows n (minus_bits (row_of rows n) (row_of same n)) [] (rw before.len n_in) ∙ ap (λ row. minus_bits row (row_of same n)) (before.later n (λ lt. omega (arith, lt)))

    none : (b : ℕ) → has_bit new b n ≡ false
    none b = ap (λ row. get_or row b false) here ∙ minus_bit (row_of old n) (row_of same n) b long ∙ minus_none (has_bit old b n) (has_bit same b n) (only.bits n b)

    elsewhere : (m : ℕ) → m ≢ n → row_of new m ≡ row_of rows m
    elsewhere m other = ap (λ r. row_of r m) is ∙ get_or-set_other rows n m (minus_bits (row_of rows n) (row_of same n)) [] other

-- ---- what is born

-- rows without the bits of others have only bits of their own
pub only_bits : (rows other less : List (List Bool)) → AreAlike rows less → EachBit (λ x y. x && not y) rows other less → HaveOnlyBitsOf rows less
only_bits rows other less alike bits = record { alike = alike; bits = λ n b on. ((both_say (has_bit rows b n) (not (has_bit other b n))).0 (sym (bits n b) ∙ on)).0 }

-- the shape stays
pub masked_shape : (nodes bits below : ℕ) (mask old new : List (List Bool)) → AreRows nodes bits old → AreMaskedBelow below mask old new → AreRows nodes bits new
masked_shape nodes bits below mask old new shape masked = record { len = masked.len ∙ shape.len; each = λ n h. masked.each n ∙ shape.each n h }

-- of replaced uses that are not inserted those stay from which a Return is reached
pub born_says : (graph : GraphShape) (bits : ℕ) (p : Placement) (reaching less born : List (List Bool)) → HaveShape graph bits p.replace → AreAlike p.replace less → EachBit (λ x y. x && not y) p.replace p.insert less
    → AreReachingRows graph reaching → AreMaskedBelow (length less) reaching less born
    → (b n : ℕ) → n < length graph.nodes → (has_bit born b n ≡ true) ↔ (((places_of p b).replaces n ≡ true) × ((places_of p b).inserts n ≡ false) × ReachesReturn graph.nodes n)
born_says graph bits p reaching less born shape alike bits_are are masked_are b n n_in = (
  λ on.
      let parts = outer.0 (sym masked_bit ∙ on) in
      let uses = inner.0 (sym (bits_are n b) ∙ parts.0) in
      (uses.0, (not_says (has_bit p.insert b n)).0 uses.1, (are.bits n n_in).0 parts.1),
  λ h. masked_bit ∙ outer.1 (bits_are n b ∙ inner.1 (h.0, (not_says (has_bit p.insert b n)).1 h.1), (are.bits n n_in).1 h.2),
)
  where
    in_less : n < length less
    in_less = rw (alike.len, shape.len) n_in

    masked_bit : has_bit born b n ≡ (has_bit less b n && has_bit reaching 0 n)
    masked_bit = masked_are.done n b in_less in_less

    outer : ((has_bit less b n && has_bit reaching 0 n) ≡ true) ↔ ((has_bit less b n ≡ true) × (has_bit reaching 0 n ≡ true))
    outer = both_say (has_bit less b n) (has_bit reaching 0 n)

    inner : ((has_bit p.replace b n && not (has_bit p.insert b n)) ≡ true) ↔ ((has_bit p.replace b n ≡ true) × (not (has_bit p.insert b n) ≡ true))
    inner = both_say (has_bit p.replace b n) (not (has_bit p.insert b n))
