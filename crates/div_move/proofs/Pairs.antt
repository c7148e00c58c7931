-- Two rows side by side: how long they are, what they say of one expression, that they are the only ones, and what
-- becomes of them where bits arrive.
use Rattle.std.proofs.Common.{◌≡◌, ◌⊎◌, ◌↔◌, ◌&&◌, ◌||◌, ◌<◌, ℕ, zero, suc, not, Bool, true, false, if◌then◌else◌, List, [], ◌∷◌, length, replicate, get_or, inl, refl, sym, ap, ◌∙◌, subst, arith}
use Rattle.std.proofs.lemmas.Bool.{or_cases, or_parts}
use Rattle.std.proofs.Math.Bool.{or-false}
use Rattle.bit_rows.specs.Bits.{minus_bits, not_bits, or_bits}
use Rattle.fix_solve.specs.Order.{IsLeastUpper}
use Rattle.fix_solve.specs.Pointwise.{pointwise_length}
use Rattle.div_move.specs.SlotFlow.{arriving, down_bit, down_bits}
use Rattle.div_move.specs.SlotLaws.{or_pairs_join}
use Rattle.div_move.specs.Slots.{BelowSlot, BelowSlots, or_pairs, pairs}

-- ---- two rows

-- as many pairs as bits
pub length_pairs : (xs ys : List Bool) → length ys ≡ length xs → length (pairs xs ys) ≡ length xs
length_pairs [] ys e = refl
length_pairs (x ∷ xs) [] e = absurd (omega (arith, e))
length_pairs (x ∷ xs) (y ∷ ys) e = ap suc (length_pairs xs ys (omega (arith, e)))

-- so a row is as long as the pairs that are seen
pub first_long : (xs ys : List Bool) (seen : List (Bool × Bool)) (bits : ℕ) → length ys ≡ length xs → pairs xs ys ≡ seen → length seen ≡ bits → length xs ≡ bits
first_long xs ys seen bits e is long = sym (length_pairs xs ys e) ∙ ap length is ∙ long

-- the same pair for each
pub pairs_replicate : (bits : ℕ) (x y : Bool) → pairs (replicate bits x) (replicate bits y) ≡ replicate bits (x, y)
pairs_replicate zero x y = refl
pairs_replicate (suc bits) x y = ap (λ l. (x, y) ∷ l) (pairs_replicate bits x y)

-- no bit of a row becomes every bit
pub not_replicate : (bits : ℕ) → not_bits (replicate bits false) ≡ replicate bits true
not_replicate zero = refl
not_replicate (suc bits) = ap (λ l. true ∷ l) (not_replicate bits)

-- the rows of equal pairs are equal
pub pairs_same : (ls bs cs ds : List Bool) → length bs ≡ length ls → length ds ≡ length cs → pairs ls bs ≡ pairs cs ds → (ls ≡ cs) × (bs ≡ ds)
pairs_same [] [] [] [] p q same = (refl, refl)
pairs_same [] [] [] (d ∷ ds) p q same = absurd (omega (arith, q))
pairs_same [] [] (c ∷ cs) [] p q same = absurd (omega (arith, q))
pairs_same [] [] (c ∷ cs) (d ∷ ds) p q same = cc
pairs_same [] (b ∷ bs) cs ds p q same = absurd (omega (arith, p))
pairs_same (a ∷ ls) [] cs ds p q same = absurd (omega (arith, p))
pairs_same (a ∷ ls) (b ∷ bs) [] ds p q same = cc
pairs_same (a ∷ ls) (b ∷ bs) (c ∷ cs) [] p q same = absurd (omega (arith, q))
pairs_same (a ∷ ls) (b ∷ bs) (c ∷ cs) (d ∷ ds) p q same =
    let heads : ◌≡◌ {A = Bool × Bool} (a, b) (c, d) = cc in
    let tails : pairs ls bs ≡ pairs cs ds = cc in
    let rest = pairs_same ls bs cs ds (omega (arith, p)) (omega (arith, q)) tails in (
      ap (λ (x : Bool × Bool). x.0 ∷ ls) heads ∙ ap (λ l. c ∷ l) rest.0,
      ap (λ (x : Bool × Bool). x.1 ∷ bs) heads ∙ ap (λ l. d ∷ l) rest.1,
    )

-- joined rows side by side
pub pairs_or : (ls bs cs ds : List Bool) → length bs ≡ length ls → length ds ≡ length cs → pairs (or_bits ls cs) (or_bits bs ds) ≡ or_pairs (pairs ls bs) (pairs cs ds)
pairs_or [] [] cs ds p q = refl
pairs_or [] (b ∷ bs) cs ds p q = absurd (omega (arith, p))
pairs_or (a ∷ ls) [] cs ds p q = absurd (omega (arith, p))
pairs_or (a ∷ ls) (b ∷ bs) [] ds p q = refl
pairs_or (a ∷ ls) (b ∷ bs) (c ∷ cs) [] p q = absurd (omega (arith, q))
pairs_or (a ∷ ls) (b ∷ bs) (c ∷ cs) (d ∷ ds) p q = ap (λ l. (a || c, b || d) ∷ l) (pairs_or ls bs cs ds (omega (arith, p)) (omega (arith, q)))

-- ---- what arrives

-- the row with the bits of `more` joined to it where `to_be` is true, and else the row itself
abbrev pub or_where : Bool → List Bool → List Bool → List Bool
or_where to_be row more = if to_be then or_bits row more else row

-- bit by bit
or_more : (to_be x d : Bool) (xs ds : List Bool) → or_where to_be (x ∷ xs) (d ∷ ds) ≡ (x || (to_be && d)) ∷ or_where to_be xs ds
or_more true x d xs ds = refl
or_more false x d xs ds = ap (λ y. y ∷ xs) (sym (or-false x))

-- joined where it is to be, the rows are the pairs with what arrives
pub pairs_arrive : (first second : Bool) (ls bs ds : List Bool) → length ls ≡ length ds → length bs ≡ length ds → pairs (or_where first ls ds) (or_where second bs ds) ≡ or_pairs (pairs ls bs) (arriving first second ds)
pairs_arrive true second [] bs ds p q = refl
pairs_arrive false second [] bs ds p q = refl
pairs_arrive first second (a ∷ ls) [] [] p q = absurd (omega (arith, p))
pairs_arrive first second (a ∷ ls) [] (d ∷ ds) p q = absurd (omega (arith, q))
pairs_arrive first second (a ∷ ls) (b ∷ bs) [] p q = absurd (omega (arith, p))
pairs_arrive first second (a ∷ ls) (b ∷ bs) (d ∷ ds) p q =
    ap (λ l. pairs l (or_where second (b ∷ bs) (d ∷ ds))) (or_more first a d ls ds)
    ∙ ap (pairs ((a || (first && d)) ∷ or_where first ls ds)) (or_more second b d bs ds)
    ∙ ap (λ l. (a || (first && d), b || (second && d)) ∷ l) (pairs_arrive first second ls bs ds (omega (arith, p)) (omega (arith, q)))

-- ---- what is down

-- at a node that does not halt, as the rows are joined
pub down_joined : (uses kills ls bs : List Bool) → length kills ≡ length uses → length ls ≡ length uses → length bs ≡ length uses → or_bits uses (minus_bits ls (or_bits (not_bits bs) kills)) ≡ down_bits false uses kills (pairs ls bs)
down_joined [] kills ls bs p q r = refl
down_joined (u ∷ uses) [] ls bs p q r = absurd (omega (arith, p))
down_joined (u ∷ uses) (k ∷ kills) [] bs p q r = absurd (omega (arith, q))
down_joined (u ∷ uses) (k ∷ kills) (a ∷ ls) [] p q r = absurd (omega (arith, r))
down_joined (u ∷ uses) (k ∷ kills) (a ∷ ls) (b ∷ bs) p q r =
    ap (λ x. (u || x) ∷ or_bits uses (minus_bits ls (or_bits (not_bits bs) kills))) (one a b k)
    ∙ ap (λ l. down_bit false u k (a, b) ∷ l) (down_joined uses kills ls bs (omega (arith, p)) (omega (arith, q)) (omega (arith, r)))
  where
    one : (a b k : Bool) → (a && not (not b || k)) ≡ ((a && b) && not (k || false))
    one true true true = refl
    one true true false = refl
    one true false k = refl
    one false b k = refl

-- at one that halts, what it uses
pub down_halted : (uses kills ls bs : List Bool) → length kills ≡ length uses → length ls ≡ length uses → length bs ≡ length uses → uses ≡ down_bits true uses kills (pairs ls bs)
down_halted [] kills ls bs p q r = refl
down_halted (u ∷ uses) [] ls bs p q r = absurd (omega (arith, p))
down_halted (u ∷ uses) (k ∷ kills) [] bs p q r = absurd (omega (arith, q))
down_halted (u ∷ uses) (k ∷ kills) (a ∷ ls) [] p q r = absurd (omega (arith, r))
down_halted (u ∷ uses) (k ∷ kills) (a ∷ ls) (b ∷ bs) p q r =
    ap (λ x. x ∷ uses) (one u k (a && b)) ∙ ap (λ l. down_bit true u k (a, b) ∷ l) (down_halted uses kills ls bs (omega (arith, p)) (omega (arith, q)) (omega (arith, r)))
  where
    one : (u k c : Bool) → u ≡ (u || (c && not (k || true)))
    one true k c = refl
    one false true true = refl
    one false true false = refl
    one false false true = refl
    one false false false = refl

-- ---- of one expression

-- the slots of one expression that are known, none where there is no such expression
abbrev pub known_of : List (Bool × Bool) → ℕ → Bool × Bool
known_of xs b = get_or xs b (false, false)

-- the first slot, or the second
abbrev pub pick : Bool → Bool × Bool → Bool
pick false x = x.0
pick true x = x.1

-- its number
abbrev pub slot_no : Bool → ℕ
slot_no false = 0
slot_no true = 1

-- what is known in lower values is known in higher ones
pub below_known : (which : Bool) (xs ys : List (Bool × Bool)) (b : ℕ) → BelowSlots xs ys → pick which (known_of xs b) ≡ true → pick which (known_of ys b) ≡ true
below_known which [] [] b p h = h
below_known which [] (y ∷ ys) b p h = absurd p
below_known which (x ∷ xs) [] b p h = absurd p
below_known false (x ∷ xs) (y ∷ ys) zero p h = p.0.0 h
below_known true (x ∷ xs) (y ∷ ys) zero p h = p.0.1 h
below_known which (x ∷ xs) (y ∷ ys) (suc b) p h = below_known which xs ys b p.1 h

-- what is known in either was known in one
or_known : (which : Bool) (xs ys : List (Bool × Bool)) (b : ℕ) → pick which (known_of (or_pairs xs ys) b) ≡ true → (pick which (known_of xs b) ≡ true) ⊎ (pick which (known_of ys b) ≡ true)
or_known which [] ys b h = inl h
or_known false (x ∷ xs) [] b h = cc
or_known true (x ∷ xs) [] b h = cc
or_known false (x ∷ xs) (y ∷ ys) zero h = or_cases x.0 y.0 h
or_known true (x ∷ xs) (y ∷ ys) zero h = or_cases x.1 y.1 h
or_known which (x ∷ xs) (y ∷ ys) (suc b) h = or_known which xs ys b h

-- so what is known in a least upper bound was known in one of both
pub joined_known : (which : Bool) (xs ys zs : List (Bool × Bool)) (b : ℕ) → IsLeastUpper BelowSlots xs ys zs → pick which (known_of zs b) ≡ true → (pick which (known_of xs b) ≡ true) ⊎ (pick which (known_of ys b) ≡ true)
joined_known which xs ys zs b joined h =
    let same : length xs ≡ length ys = pointwise_length BelowSlot xs zs joined.left ∙ sym (pointwise_length BelowSlot ys zs joined.right) in
    let upper = or_pairs_join xs ys same in
    or_known which xs ys b (below_known which zs (or_pairs xs ys) b (joined.least (or_pairs xs ys) upper.left upper.right) h)

-- whether the first slot, or the second, leads to the node
abbrev pub pick_way : Bool → Bool → Bool → Bool
pick_way false first second = first
pick_way true first second = second

-- what arrives at a slot is down, and the slot leads there
pub arriving_from : (which first second : Bool) (down : List Bool) (b : ℕ) → pick which (known_of (arriving first second down) b) ≡ true → (pick_way which first second ≡ true) × (get_or down b false ≡ true)
arriving_from false first second [] b h = cc
arriving_from true first second [] b h = cc
arriving_from false true second (d ∷ down) zero h = (refl, h)
arriving_from false false second (d ∷ down) zero h = cc
arriving_from true first true (d ∷ down) zero h = (refl, h)
arriving_from true first false (d ∷ down) zero h = cc
arriving_from which first second (d ∷ down) (suc b) h = arriving_from which first second down b h

-- and what is down arrives where a slot leads there
pub arriving_to : (which first second : Bool) (down : List Bool) (b : ℕ) → pick_way which first second ≡ true → get_or down b false ≡ true → pick which (known_of (arriving first second down) b) ≡ true
arriving_to which first second [] b way on = cc
arriving_to false first second (d ∷ down) zero way on = rw (way, on) refl
arriving_to true first second (d ∷ down) zero way on = rw (way, on) refl
arriving_to which first second (d ∷ down) (suc b) way on = arriving_to which first second down b way on

-- what a node's row says of one expression
pub down_from : (halt : Bool) (uses kills : List Bool) (known : List (Bool × Bool)) (b : ℕ) → get_or (down_bits halt uses kills known) b false ≡ true → down_bit halt (get_or uses b false) (get_or kills b false) (known_of known b) ≡ true
down_from halt [] kills known b h = cc
down_from halt (u ∷ uses) [] known b h = cc
down_from halt (u ∷ uses) (k ∷ kills) [] b h = cc
down_from halt (u ∷ uses) (k ∷ kills) (x ∷ known) zero h = h
down_from halt (u ∷ uses) (k ∷ kills) (x ∷ known) (suc b) h = down_from halt uses kills known b h

-- the same the other way, where the rows are long enough
pub down_to : (halt : Bool) (uses kills : List Bool) (known : List (Bool × Bool)) (b : ℕ) → b < length uses → length kills ≡ length uses → length known ≡ length uses → down_bit halt (get_or uses b false) (get_or kills b false) (known_of known b) ≡ true → get_or (down_bits halt uses kills known) b false ≡ true
down_to halt [] kills known b lt p q h = absurd (omega (arith, lt))
down_to halt (u ∷ uses) [] known b lt p q h = absurd (omega (arith, p))
down_to halt (u ∷ uses) (k ∷ kills) [] b lt p q h = absurd (omega (arith, q))
down_to halt (u ∷ uses) (k ∷ kills) (x ∷ known) zero lt p q h = h
down_to halt (u ∷ uses) (k ∷ kills) (x ∷ known) (suc b) lt p q h = down_to halt uses kills known b (omega (arith, lt)) (omega (arith, p)) (omega (arith, q)) h

-- ---- changes

-- two rows that changed or not make pairs that did
pub pairs_unchanged : (x y : Bool) (ls bs cs ds : List Bool) → length bs ≡ length ls → length ds ≡ length cs → (x ≡ false) ↔ (cs ≡ ls) → (y ≡ false) ↔ (ds ≡ bs) → ((x || y) ≡ false) ↔ (pairs cs ds ≡ pairs ls bs)
pairs_unchanged x y ls bs cs ds p q first second = (
  λ off. (let parts = or_parts x y off in ap (λ l. pairs l ds) (first.0 parts.0) ∙ ap (pairs ls) (second.0 parts.1)),
  λ same. (let rows = pairs_same cs ds ls bs q p same in ap (λ b. b || y) (first.1 rows.0) ∙ second.1 rows.1),
)

-- the join of two pairs of rows
pub pairs_join : (ls bs cs ds : List Bool) → length bs ≡ length ls → length ds ≡ length cs → length (pairs ls bs) ≡ length (pairs cs ds) → IsLeastUpper BelowSlots (pairs ls bs) (pairs cs ds) (pairs (or_bits ls cs) (or_bits bs ds))
pairs_join ls bs cs ds p q e = subst (IsLeastUpper BelowSlots (pairs ls bs) (pairs cs ds)) (sym (pairs_or ls bs cs ds p q)) (or_pairs_join (pairs ls bs) (pairs cs ds) e)

-- rows of equally many bits are joined alike
pub same_rows : (ls bs cs ds : List Bool) → length bs ≡ length ls → length ds ≡ length cs → length (pairs ls bs) ≡ length (pairs cs ds) → (length ls ≡ length cs) × (length bs ≡ length ds)
same_rows ls bs cs ds p q e = let same = sym (length_pairs ls bs p) ∙ e ∙ length_pairs cs ds q in (same, p ∙ same ∙ sym q)
