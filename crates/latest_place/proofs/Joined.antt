-- The placement of a table by parts, and of the expressions that stay.
use Rattle.std.proofs.Common.{◌≡◌, ◌≢◌, ◌<◌, ◌≤◌, ◌+◌, ◌-◌, ◌||◌, ℕ, zero, suc, Bool, false, List, [], ◌∷◌, ◌++◌, length, get_or, take, drop, slice_get, Some, refl, sym, ap, ◌∙◌, inl, inr, arith}
use Rattle.std.proofs.lemmas.List.{get_or_past, take-append-drop}
use Rattle.std.proofs.lemmas.Option.{slice_get_within, slice_get-get_or}
use Rattle.std.proofs.Math.Decide.{dec_lt}
use Rattle.std.proofs.lemmas.Bool.{cases_eq}
use Rattle.mir_base.specs.declared.instructions.Expr.{Expr}
use Rattle.mir_base.specs.Shapes.{AllDiffer}
use Rattle.mir_base.specs.ItemLaws.{get_left, one_place}
use Rattle.bit_rows.specs.Bits.{AreAlike}
use Rattle.flow_graph.specs.Graphs.{GraphShape}
use Rattle.flow_graph.specs.ListLaws.{get_append, get_right}
use Rattle.path_laws.specs.Paths.{AreRows, has_bit}
use Rattle.motion_rewrite.specs.declared.placement.Placement.{Placement}
use Rattle.motion_rewrite.specs.Placements.{Places, nowhere, places_of}
use Rattle.latest_place.specs.Lazy.{IsLazy, IsLazyPlacement}
use Rattle.latest_place.specs.Parts.{AddsBits, HasNumber, IsLazyAmong, IsPart}

-- placements with the same bits are lazy alike
same_places_lazy : (graph : GraphShape) (e : Expr) (Down : ℕ → Type 0) (p q : Places) → ((n : ℕ) → q.inserts n ≡ p.inserts n) → ((n : ℕ) → q.replaces n ≡ p.replaces n)
    → IsLazy graph e Down p → IsLazy graph e Down q
same_places_lazy graph e Down p q inserts replaces lazy = record {
  inserts_at = λ n below. let is = lazy.inserts_at n below in (λ on. is.0 (sym (inserts n) ∙ on), λ it. inserts n ∙ is.1 it);
  replaces_at = λ n below. let is = lazy.replaces_at n below in (λ on. is.0 (sym (replaces n) ∙ on), λ it. replaces n ∙ is.1 it);
}

-- rows like rows of a shape have it
like_shape : (nodes bits : ℕ) (old new : List (List Bool)) → AreAlike old new → AreRows nodes bits old → AreRows nodes bits new
like_shape nodes bits old new alike shape = record { len = alike.len ∙ shape.len; each = λ n below. alike.each n (let len = shape.len in omega (arith, below, len)) ∙ shape.each n below }

-- false or a bit is the bit
false_or : (x y : Bool) → x ≡ false → (x || y) ≡ y
false_or x y off = rw off refl

-- ---- lists of numbers

-- a number of the first list is in both joined
among_left : (i : ℕ) (xs ys : List ℕ) → HasNumber i xs → HasNumber i (xs ++ ys)
among_left i xs ys (k, at) = (k, get_left xs ys k (slice_get_within xs k i at) ∙ at)

-- so is one of the second
among_right : (i : ℕ) (xs ys : List ℕ) → HasNumber i ys → HasNumber i (xs ++ ys)
among_right i xs ys (k, at) = (length xs + k, get_right xs ys k ∙ at)

-- and not in both
apart : (i : ℕ) (xs ys : List ℕ) → AllDiffer (xs ++ ys) → HasNumber i xs → HasNumber i ys → ⊥
apart i xs ys differ (k, at) (j, at') =
    let below = slice_get_within xs k i at in
    let same = one_place (xs ++ ys) differ k (length xs + j) i (get_left xs ys k below ∙ at) (get_right xs ys j ∙ at') in
    omega (arith, below, same)

-- the second of joined lists of distinct numbers has distinct numbers
pub right_differ : (xs ys : List ℕ) → AllDiffer (xs ++ ys) → AllDiffer ys
right_differ xs ys differ i j low low' same =
    let at = slice_get-get_or ys i 0 low in
    let both = one_place (xs ++ ys) differ (length xs + i) (length xs + j) (get_or ys i 0) (get_right xs ys i ∙ at) (get_right xs ys j ∙ sym same ∙ at) in
    omega (arith, both)

-- and so has the first
pub left_differ : (xs : List ℕ) (end : ℕ) → AllDiffer xs → AllDiffer (take end xs)
left_differ xs end differ i j low low' same =
    let at = slice_get-get_or (take end xs) i 0 low in
    let whole : (k : ℕ) → k < length (take end xs) → slice_get xs k ≡ slice_get (take end xs) k = λ k inside.
    ap (λ (l : List ℕ). slice_get l k) (sym (take-append-drop end xs)) ∙ get_left (take end xs) (drop end xs) k inside in
    one_place xs differ i j (get_or (take end xs) i 0) (whole i low ∙ at) (whole j low' ∙ sym same ∙ at)

-- no item is taken of none
take_none : (n : ℕ) → take {A = ℕ} n [] ≡ []
take_none zero = refl
take_none (suc n) = refl

-- a longer prefix is a shorter one and what follows it
pub take_split : (xs : List ℕ) (done end : ℕ) → done ≤ end → take end xs ≡ take done xs ++ take (end - done) (drop done xs)
take_split xs zero end low = ap (λ k. take k xs) (omega arith)
take_split xs (suc done) zero low = absurd (omega (arith, low))
take_split [] (suc done) (suc end) low = sym (take_none (suc end - suc done))
take_split (x ∷ xs) (suc done) (suc end) low =
    let rest : suc end - suc done ≡ end - done = omega arith in
    ap (λ l. x ∷ l) (take_split xs done end (omega (arith, low))) ∙ ap (λ k. x ∷ (take done xs ++ take k (drop done xs))) (sym rest)

-- ---- one part more

module _ (Down : GraphShape → Expr → ℕ → Type 0) (graph : GraphShape) (table exprs : List Expr) (others numbers : List ℕ) (differ : AllDiffer (others ++ numbers)) (is_part : IsPart numbers table exprs)
    (old new part : Placement) (was : IsLazyAmong Down graph table others old) (placed : IsLazyPlacement Down graph exprs part)
    (inserts : AddsBits numbers part.insert old.insert new.insert) (replaces : AddsBits numbers part.replace old.replace new.replace) where
  -- a bit of the part, where there was none
  part_bit : (bits was_bits are_bits : List (List Bool)) → AddsBits numbers bits was_bits are_bits → ((n b : ℕ) → (HasNumber b others → ⊥) → has_bit was_bits b n ≡ false) → (n k b : ℕ) → slice_get numbers k ≡ Some b
      → has_bit are_bits b n ≡ has_bit bits k n
  part_bit bits was_bits are_bits adds none n k b at =
      adds.added n k b at ∙ false_or (has_bit was_bits b n) (has_bit bits k n) (none n b (λ among. apart b others numbers differ among (k, at)))

  pub lazy_among_more : IsLazyAmong Down graph table (others ++ numbers) new
  lazy_among_more = record {
    insert_rows = like_shape (length graph.nodes) (length table) old.insert new.insert inserts.alike was.insert_rows;
    replace_rows = like_shape (length graph.nodes) (length table) old.replace new.replace replaces.alike was.replace_rows;
    lazy = λ i e at among. lazy_one i e at among.0 among.1;
    inserts_none = λ n b none. inserts.beside n b (λ among. none (among_right b others numbers among)) ∙ was.inserts_none n b (λ among. none (among_left b others numbers among));
    replaces_none = λ n b none. replaces.beside n b (λ among. none (among_right b others numbers among)) ∙ was.replaces_none n b (λ among. none (among_left b others numbers among));
  }
    where
      lazy_one : (i : ℕ) (e : Expr) → slice_get table i ≡ Some e → (k : ℕ) → slice_get (others ++ numbers) k ≡ Some i → IsLazy graph e (Down graph e) (places_of new i)
      lazy_one i e at k here = elim (get_append others numbers k i here) as (λ _. IsLazy graph e (Down graph e) (places_of new i)) [
        | inl old_one ↦ same_places_lazy graph e (Down graph e) (places_of old i) (places_of new i)
            (λ n. inserts.beside n i (λ among. apart i others numbers differ (k, old_one) among)) (λ n. replaces.beside n i (λ among. apart i others numbers differ (k, old_one) among))
            (was.lazy i e at (k, old_one))
        | inr new_one ↦ same_places_lazy graph e (Down graph e) (places_of part new_one.0) (places_of new i)
            (λ n. part_bit part.insert old.insert new.insert inserts was.inserts_none n new_one.0 i new_one.2)
            (λ n. part_bit part.replace old.replace new.replace replaces was.replaces_none n new_one.0 i new_one.2)
            (placed.lazy new_one.0 e (is_part.each new_one.0 i new_one.2 ∙ at))
      ]

-- ---- the first and the last

-- no bit is set yet
pub lazy_among_none : (Down : GraphShape → Expr → ℕ → Type 0) (graph : GraphShape) (table : List Expr) (p : Placement)
    → AreRows (length graph.nodes) (length table) p.insert × ((n i : ℕ) → n < length graph.nodes → has_bit p.insert i n ≡ false)
    → AreRows (length graph.nodes) (length table) p.replace × ((n i : ℕ) → n < length graph.nodes → has_bit p.replace i n ≡ false)
    → IsLazyAmong Down graph table [] p
lazy_among_none Down graph table p inserts replaces = record {
  insert_rows = inserts.0;
  replace_rows = replaces.0;
  lazy = λ i e at among. absurd (let low = slice_get_within {A = ℕ} [] among.0 i among.1 in omega (arith, low));
  inserts_none = λ n b none. all_false p.insert inserts n b;
  replaces_none = λ n b none. all_false p.replace replaces n b;
}
  where
    all_false : (rows : List (List Bool)) → AreRows (length graph.nodes) (length table) rows × ((n i : ℕ) → n < length graph.nodes → has_bit rows i n ≡ false) → (n b : ℕ) → has_bit rows b n ≡ false
    all_false rows is n b = elim (dec_lt n (length graph.nodes)) as (λ _. has_bit rows b n ≡ false) [
      | yes below ↦ is.1 n b below
      | no beyond ↦ ap (λ r. get_or r b false) (get_or_past rows n [] (let len = is.0.len in omega (arith, beyond, len)))
    ]

-- whether a number is in a list can be tested
among_or_not : (i : ℕ) (list : List ℕ) → Dec (HasNumber i list)
among_or_not i [] = no (λ among. let low = slice_get_within {A = ℕ} [] among.0 i among.1 in omega (arith, low))
among_or_not i (x ∷ list) = elim (cases_eq i x) as (λ _. Dec (HasNumber i (x ∷ list))) [
  | inl same ↦ yes (0, ap Some (sym same))
  | inr other ↦ elim (among_or_not i list) as (λ _. Dec (HasNumber i (x ∷ list))) [
    | yes among ↦ yes (suc among.0, among.1)
    | no none ↦ no (λ among. neither other none among.0 among.1)
  ]
]
  where
    neither : i ≢ x → (HasNumber i list → ⊥) → (k : ℕ) → slice_get (x ∷ list) k ≡ Some i → ⊥
    neither other none zero at = let same : i ≡ x = cc in other same
    neither other none (suc k) at = none (k, at)

-- where those that are not placed stay, the placement is whole
pub lazy_among_all : (Down : GraphShape → Expr → ℕ → Type 0) (graph : GraphShape) (table : List Expr) (numbers : List ℕ) (p : Placement) → IsLazyAmong Down graph table numbers p
    → ((i : ℕ) (e : Expr) → slice_get table i ≡ Some e → (HasNumber i numbers → ⊥) → IsLazy graph e (Down graph e) nowhere) → IsLazyPlacement Down graph table p
lazy_among_all Down graph table numbers p placed stay = record {
  insert_rows = placed.insert_rows;
  replace_rows = placed.replace_rows;
  lazy = λ i e at. elim (among_or_not i numbers) as (λ _. IsLazy graph e (Down graph e) (places_of p i)) [
    | yes among ↦ placed.lazy i e at among
    | no none ↦ same_places_lazy graph e (Down graph e) nowhere (places_of p i) (λ n. placed.inserts_none n i none) (λ n. placed.replaces_none n i none) (stay i e at none)
  ];
}
