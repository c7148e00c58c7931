-- The facts of results hold where those of the operands do, and are monotone. For proofs only.
use Rattle.std.proofs.Common.{◌≡◌, Bool, true, false, if◌then◌else◌, refl, sym, ap, ◌∙◌, subst, arith, ℤ, FitsSigned, w64, to_z, of_z, to_z-of_z}
use Rattle.std.proofs.lemmas.Int.{ints, int_wrap_fits}
use Rattle.mir_base.specs.declared.operators.Op.{Op}
use Rattle.mir_base.specs.declared.operators.UnOp.{UnOp}
use Rattle.std.specs.Prelude.{Result, Ok, Err}
use Rattle.mir_base.specs.declared.operators.Trap.{Trap}
use Rattle.mir_base.specs.declared.operators.Trap.TheVariants.{ZeroDivisor}
use Rattle.mir_base.specs.Numbers.{evaluation, wrapped, traps, value_of_op, value_of_un_op}
use Rattle.mir_base.specs.NumberLaws.{wrapped_fits, value_fits as op_fits, un_value_fits}
use Rattle.bounds.specs.declared.facts.Fact.{Fact}
use Rattle.bounds.specs.declared.facts.Fact.TheVariants.{Never, Fixed, Between}
use Rattle.bounds.specs.Facts.{BelowFact, Bounds}
use Rattle.bounds.specs.FactLaws.{below_refl}
use Rattle.bounds.specs.EndLaws.{fits_high, fits_low, high_fits, low_fits, below_low, below_high, bounds_mono as holds_mono}
use Rattle.bounds.specs.Bounding.{In, IsInWord, IsWordSpan, Within, span_of, span_op, span_un_op, rounded, bounds_of, bounds_of_un}
use Rattle.bounds.specs.RoundingLaws.{rounded_holds, rounded_mono, rounded_below}
use Rattle.bounds.specs.SpanMono.{span_mono, span_un_mono}
use Rattle.bounds.specs.SpanHolds.{span_holds, span_un_holds}

-- what a fact holds of lies in its span
in_span : (x : Fact) (a : ℤ) → Bounds x a → In (span_of x) a
in_span x a h = record { low = h.low; high = h.high }

-- a fact that is below another has its span in that of the other
within : (x y : Fact) → BelowFact x y → Within (span_of x) (span_of y)
within x y p = record { low = below_low x y p; high = below_high x y p }

-- a constant is the number of which it holds
pub constant_is : (c a : ℤ) → Bounds (Fixed c) a → a ≡ wrapped c
constant_is c a h = omega (arith, ints, h.low, h.high)

-- a number is held by itself
pub itself : (z : ℤ) → FitsSigned w64 z → Bounds (Fixed z) z
itself z fits =
    let same : wrapped z ≡ z = int_wrap_fits w64 z fits in
    record { low = omega (arith, ints, same); high = omega (arith, ints, same) }

-- nothing holds never
held_never : {A : Type 0} (a : ℤ) → Bounds Never a → A
held_never a h = absurd (omega (arith, ints, h.low, h.high))

-- the ends of facts have 64 bits
ends_fit : (x : Fact) → IsWordSpan (span_of x)
ends_fit x = record { low = in_word _ (low_fits x); high = in_word _ (high_fits x) }
  where
    in_word : (z : ℤ) → FitsSigned w64 z → IsInWord z
    in_word z fits = record { low = fits_low z fits; high = fits_high z fits }

-- ---- what holds

-- of the rounded span
spanned_holds : (op : Op) (x y : Fact) (a b : ℤ) → FitsSigned w64 a → FitsSigned w64 b → Bounds x a → Bounds y b
    → Bounds (rounded (span_op op (span_of x) (span_of y))) (value_of_op op a b)
spanned_holds op x y a b f g p q =
    rounded_holds _ _ (op_fits op a b f g)
    (span_holds op (span_of x) (span_of y) a b (ends_fit x) (ends_fit y) f g (in_span x a p) (in_span y b q))

-- of the fact of a result
pub bounds_hold : (op : Op) (x y : Fact) (a b : ℤ) → FitsSigned w64 a → FitsSigned w64 b → Bounds x a → Bounds y b
    → traps op b ≡ false → Bounds (bounds_of op x y) (value_of_op op a b)
bounds_hold op Never y a b f g p q safe = held_never a p
bounds_hold op (Fixed c) Never a b f g p q safe = held_never b q
bounds_hold op (Fixed c) (Fixed d) a b f g p q safe =
    let left : a ≡ wrapped c = constant_is c a p in
    let right : b ≡ wrapped d = constant_is d b q in
    let free : traps op (wrapped d) ≡ false = subst (λ z. traps op z ≡ false) right safe in
    subst (λ t. Bounds (if t then rounded (span_op op (span_of (Fixed c)) (span_of (Fixed d)))
    else Fixed (value_of_op op (wrapped c) (wrapped d))) (value_of_op op a b)) (sym free)
    (subst (λ z. Bounds (Fixed (value_of_op op z (wrapped d))) (value_of_op op a b)) left
    (subst (λ z. Bounds (Fixed (value_of_op op a z)) (value_of_op op a b)) right (itself _ (op_fits op a b f g))))
bounds_hold op (Fixed c) (Between g h) a b f f' p q safe = spanned_holds op (Fixed c) (Between g h) a b f f' p q
bounds_hold op (Between e h) Never a b f g p q safe = held_never b q
bounds_hold op (Between e h) (Fixed d) a b f g p q safe = spanned_holds op (Between e h) (Fixed d) a b f g p q
bounds_hold op (Between e h) (Between i j) a b f g p q safe = spanned_holds op (Between e h) (Between i j) a b f g p q

-- and of that of an operator on one number
pub bounds_un_hold : (op : UnOp) (x : Fact) (a : ℤ) → FitsSigned w64 a → Bounds x a
    → Bounds (bounds_of_un op x) (value_of_un_op op a)
bounds_un_hold op Never a f p = held_never a p
bounds_un_hold op (Fixed c) a f p =
    let left : a ≡ wrapped c = constant_is c a p in
    subst (λ z. Bounds (Fixed (value_of_un_op op z)) (value_of_un_op op a)) left (itself _ (un_value_fits op a))
bounds_un_hold op (Between e h) a f p =
    rounded_holds _ _ (un_value_fits op a) (span_un_holds op (span_of (Between e h)) a (in_span (Between e h) a p))

-- ---- what is monotone

-- the rounded span
spanned_mono : (op : Op) (x x' y y' : Fact) → BelowFact x x' → BelowFact y y'
    → BelowFact (rounded (span_op op (span_of x) (span_of y))) (rounded (span_op op (span_of x') (span_of y')))
spanned_mono op x x' y y' p q =
    rounded_mono _ _ (span_mono op _ _ _ _ (ends_fit x') (ends_fit y') (within x x' p) (within y y' q))

-- a constant result is below each rounded span
fixed_mono : (op : Op) (a b : ℤ) (x' y' : Fact) → BelowFact (Fixed a) x' → BelowFact (Fixed b) y'
    → BelowFact (bounds_of op (Fixed a) (Fixed b)) (rounded (span_op op (span_of x') (span_of y')))
fixed_mono op a b x' y' p q = cases (traps op (wrapped b))
  where
    cases : (t : Bool) → BelowFact
        (if t then rounded (span_op op (span_of (Fixed a)) (span_of (Fixed b)))
        else Fixed (value_of_op op (wrapped a) (wrapped b)))
        (rounded (span_op op (span_of x') (span_of y')))
    cases true = spanned_mono op (Fixed a) x' (Fixed b) y' p q
    cases false =
        let fits : FitsSigned w64 (value_of_op op (wrapped a) (wrapped b)) =
        op_fits op _ _ (wrapped_fits a) (wrapped_fits b) in
        let left : Bounds x' (wrapped a) = holds_mono (Fixed a) x' (wrapped a) p
        (record { low = omega (arith, ints); high = omega (arith, ints) }) in
        let right : Bounds y' (wrapped b) = holds_mono (Fixed b) y' (wrapped b) q
        (record { low = omega (arith, ints); high = omega (arith, ints) }) in
        rounded_below _ (span_op op (span_of x') (span_of y')) fits
        (spanned_holds op x' y' (wrapped a) (wrapped b) (wrapped_fits a) (wrapped_fits b) left right)

-- the surer the facts of the operands, the surer that of the result
pub bounds_mono : (op : Op) (x x' y y' : Fact) → BelowFact x x' → BelowFact y y'
    → BelowFact (bounds_of op x y) (bounds_of op x' y')
bounds_mono op Never x' y y' p q = tt
bounds_mono op (Fixed a) (Fixed a') (Fixed b) (Fixed b') p q =
    subst (λ c. BelowFact (bounds_of op (Fixed a) (Fixed b)) (bounds_of op (Fixed c) (Fixed b'))) p
    (subst (λ c. BelowFact (bounds_of op (Fixed a) (Fixed b)) (bounds_of op (Fixed a) (Fixed c))) q (below_refl _))
bounds_mono op (Fixed a) (Fixed a') (Fixed b) (Between g h) p q = fixed_mono op a b (Fixed a') (Between g h) p q
bounds_mono op (Fixed a) (Fixed a') (Between i j) (Fixed b') p q = absurd q
bounds_mono op (Fixed a) (Fixed a') (Between i j) (Between g h) p q =
    spanned_mono op (Fixed a) (Fixed a') (Between i j) (Between g h) p q
bounds_mono op (Fixed a) (Between e f) (Fixed b) (Fixed d) p q = fixed_mono op a b (Between e f) (Fixed d) p q
bounds_mono op (Fixed a) (Between e f) (Fixed b) (Between g h) p q = fixed_mono op a b (Between e f) (Between g h) p q
bounds_mono op (Fixed a) (Between e f) (Between i j) (Between g h) p q =
    spanned_mono op (Fixed a) (Between e f) (Between i j) (Between g h) p q
bounds_mono op (Between c d) (Between e f) (Fixed b) (Fixed b') p q =
    spanned_mono op (Between c d) (Between e f) (Fixed b) (Fixed b') p q
bounds_mono op (Between c d) (Between e f) (Fixed b) (Between g h) p q =
    spanned_mono op (Between c d) (Between e f) (Fixed b) (Between g h) p q
bounds_mono op (Between c d) (Between e f) (Between i j) (Between g h) p q =
    spanned_mono op (Between c d) (Between e f) (Between i j) (Between g h) p q
bounds_mono op (Fixed a) (Between e f) (Between i j) (Fixed b) p q = absurd q
bounds_mono op (Between c d) (Between e f) (Between i j) (Fixed b) p q = absurd q
bounds_mono op (Between c d) (Fixed a') y y' p q = absurd p
bounds_mono op (Between c d) Never y y' p q = absurd p
bounds_mono op (Fixed a) Never y y' p q = absurd p
bounds_mono op (Fixed a) (Fixed a') Never y' p q = tt
bounds_mono op (Fixed a) (Between e f) Never y' p q = tt
bounds_mono op (Between c d) (Between e f) Never y' p q = tt
bounds_mono op (Fixed a) (Fixed a') (Fixed b) Never p q = absurd q
bounds_mono op (Fixed a) (Fixed a') (Between i j) Never p q = absurd q
bounds_mono op (Fixed a) (Between e f) (Fixed b) Never p q = absurd q
bounds_mono op (Fixed a) (Between e f) (Between i j) Never p q = absurd q
bounds_mono op (Between c d) (Between e f) (Fixed b) Never p q = absurd q
bounds_mono op (Between c d) (Between e f) (Between i j) Never p q = absurd q

-- and that of an operator on one number
pub bounds_un_mono : (op : UnOp) (x x' : Fact) → BelowFact x x' → BelowFact (bounds_of_un op x) (bounds_of_un op x')
bounds_un_mono op Never x' p = tt
bounds_un_mono op (Fixed a) Never p = absurd p
bounds_un_mono op (Between c d) Never p = absurd p
bounds_un_mono op (Fixed a) (Fixed a') p =
    subst (λ c. BelowFact (bounds_of_un op (Fixed a)) (bounds_of_un op (Fixed c))) p (below_refl (bounds_of_un op (Fixed a)))
bounds_un_mono op (Fixed a) (Between e f) p =
    let held : Bounds (Between e f) (wrapped a) = holds_mono (Fixed a) (Between e f) (wrapped a) p
    (record { low = omega (arith, ints); high = omega (arith, ints) }) in
    rounded_below _ (span_un_op op (span_of (Between e f))) (un_value_fits op (wrapped a))
    (bounds_un_hold op (Between e f) (wrapped a) (wrapped_fits a) held)
bounds_un_mono op (Between c d) (Fixed a') p = absurd p
bounds_un_mono op (Between c d) (Between e f) p =
    rounded_mono _ _ (span_un_mono op _ _ (within (Between c d) (Between e f) p))

-- ---- what is evaluated

-- a value of constants is their fact
pub evaluated : (op : Op) (a b v : ℤ) → FitsSigned w64 a → FitsSigned w64 b → evaluation op a b ≡ Ok v
    → Fixed v ≡ bounds_of op (Fixed a) (Fixed b)
evaluated op a b v f g is =
    let left : a ≡ wrapped a = sym (int_wrap_fits w64 a f) in
    let right : b ≡ wrapped b = sym (int_wrap_fits w64 b g) in
    let is' : evaluation op (wrapped a) (wrapped b) ≡ Ok v =
    subst (λ c. evaluation op (wrapped a) c ≡ Ok v) right (subst (λ c. evaluation op c b ≡ Ok v) left is) in
    cases (traps op (wrapped b)) is'
  where
    cases : (t : Bool) → ◌≡◌ {A = Result ℤ Trap} (if t then Err ZeroDivisor else Ok (value_of_op op (wrapped a) (wrapped b))) (Ok v)
        → Fixed v ≡ (if t then rounded (span_op op (span_of (Fixed a)) (span_of (Fixed b)))
        else Fixed (value_of_op op (wrapped a) (wrapped b)))
    cases true e = absurd (cc)
    cases false e = let same : value_of_op op (wrapped a) (wrapped b) ≡ v = cc in ap Fixed (sym same)

-- the same as the code has it, with numbers read from words
pub evaluated_words : (op : Op) (a b v : ℤ) → FitsSigned w64 a → FitsSigned w64 b
    → Ok v ≡ evaluation op (to_z w64 (of_z w64 a)) (to_z w64 (of_z w64 b))
    → Fixed (to_z w64 (of_z w64 v)) ≡ bounds_of op (Fixed a) (Fixed b)
evaluated_words op a b v f g is =
    let is' : Ok v ≡ evaluation op a b =
    subst (λ z. Ok v ≡ evaluation op a z) (to_z-of_z g)
    (subst (λ z. Ok v ≡ evaluation op z (to_z w64 (of_z w64 b))) (to_z-of_z f) is) in
    let small : FitsSigned w64 v = cases (traps op b) is' in
    ap Fixed (to_z-of_z small) ∙ evaluated op a b v f g (sym is')
  where
    cases : (t : Bool) → ◌≡◌ {A = Result ℤ Trap} (Ok v) (if t then Err ZeroDivisor else Ok (value_of_op op a b))
        → FitsSigned w64 v
    cases true e = absurd (cc)
    cases false e = let same : value_of_op op a b ≡ v = cc in subst (FitsSigned w64) same (op_fits op a b f g)

-- where two constants trap, their fact is that of the span
pub evaluated_trap : (op : Op) (a b : ℤ) (t : Trap) → FitsSigned w64 a → FitsSigned w64 b
    → Err t ≡ evaluation op (to_z w64 (of_z w64 a)) (to_z w64 (of_z w64 b))
    → rounded (span_op op (span_of (Fixed (to_z w64 (of_z w64 a)))) (span_of (Fixed (to_z w64 (of_z w64 b)))))
    ≡ bounds_of op (Fixed a) (Fixed b)
evaluated_trap op a b t f g is =
    let left : to_z w64 (of_z w64 a) ≡ wrapped a = to_z-of_z f ∙ sym (int_wrap_fits w64 a f) in
    let right : to_z w64 (of_z w64 b) ≡ wrapped b = to_z-of_z g ∙ sym (int_wrap_fits w64 b g) in
    let is' : Err t ≡ evaluation op (wrapped a) (wrapped b) =
    subst (λ z. Err t ≡ evaluation op (wrapped a) z) right
    (subst (λ z. Err t ≡ evaluation op z (to_z w64 (of_z w64 b))) left is) in
    let words : rounded (span_op op (span_of (Fixed (to_z w64 (of_z w64 a)))) (span_of (Fixed (to_z w64 (of_z w64 b)))))
    ≡ rounded (span_op op (span_of (Fixed a)) (span_of (Fixed b))) =
    ap (λ z. rounded (span_op op (span_of (Fixed z)) (span_of (Fixed (to_z w64 (of_z w64 b)))))) (to_z-of_z f)
    ∙ ap (λ z. rounded (span_op op (span_of (Fixed a)) (span_of (Fixed z)))) (to_z-of_z g) in
    words ∙ cases (traps op (wrapped b)) is'
  where
    cases : (c : Bool) → ◌≡◌ {A = Result ℤ Trap} (Err t) (if c then Err ZeroDivisor else Ok (value_of_op op (wrapped a) (wrapped b)))
        → rounded (span_op op (span_of (Fixed a)) (span_of (Fixed b)))
        ≡ (if c then rounded (span_op op (span_of (Fixed a)) (span_of (Fixed b)))
        else Fixed (value_of_op op (wrapped a) (wrapped b)))
    cases true e = refl
    cases false e = absurd (cc)
