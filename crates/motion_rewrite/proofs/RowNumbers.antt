-- The numbers that the rows of a placement list are those of nodes and of expressions.
use Rattle.std.proofs.Common.{◌≡◌, ℕ, zero, suc, ◌+◌, ◌<◌, ◌≤◌, Bool, true, false, List, [], ◌∷◌, length, slice_get, slice_index_or, Some, inl, inr, refl, ap, subst, arith}
use Rattle.std.proofs.lemmas.Bool.{cases_lt}
use Rattle.std.proofs.lemmas.List.{get_or_past}
use Rattle.mir_base.specs.declared.instructions.Expr.{Expr}
use Rattle.mir_base.specs.Shapes.{AllBelow}
use Rattle.bit_rows.specs.Bits.{row_of}
use Rattle.flow_graph.specs.ListLaws.{some_at}
use Rattle.path_laws.specs.Paths.{AreRows, has_bit}
use Rattle.motion_rewrite.specs.Flatten.{set_from, inserted, inserted_below}

-- ---- the places of the bits that are set

-- they are below the length
set_below : (k m : ℕ) (bits : List Bool) → k + length bits ≤ m → AllBelow m (set_from k bits)
set_below k m [] le = tt
set_below k m (true ∷ bits) le = (omega (arith, le), set_below (suc k) m bits (omega (arith, le)))
set_below k m (false ∷ bits) le = set_below (suc k) m bits (omega (arith, le))

-- and each has its bit set
set_is : (k : ℕ) (bits : List Bool) (j i : ℕ) → slice_get (set_from k bits) j ≡ Some i → (d : ℕ) × (i ≡ k + d) × (slice_index_or bits d false ≡ true)
set_is k [] j i e = cc
set_is k (true ∷ bits) zero i e = let same : k ≡ i = cc in (0, omega (arith, same), refl)
set_is k (true ∷ bits) (suc j) i e = let r = set_is (suc k) bits j i e in (suc r.0, omega (arith, r.1), r.2)
set_is k (false ∷ bits) j i e = let r = set_is (suc k) bits j i e in (suc r.0, omega (arith, r.1), r.2)

-- an expression is among those of the node only where its bit is set
pub inserted_bit : (rows : List (List Bool)) (n j i : ℕ) → slice_get (inserted rows n) j ≡ Some i → has_bit rows i n ≡ true
inserted_bit rows n j i e =
    let r = set_is 0 (row_of rows n) j i e in
    let same : r.0 ≡ i = omega (arith, r.1) in
    subst (λ d. slice_index_or (row_of rows n) d false ≡ true) same r.2

-- a bit that is set is within its row, and the row within the rows
bit_within : (bits : List Bool) (d : ℕ) → slice_index_or bits d false ≡ true → d < length bits
bit_within [] d e = cc
bit_within (bit ∷ bits) zero e = omega arith
bit_within (bit ∷ bits) (suc d) e = omega (arith, bit_within bits d e)

-- a row with a true bit is one of the table: rows past its end are empty
row_within : (rows : List (List Bool)) (n d : ℕ) → slice_index_or (row_of rows n) d false ≡ true → n < length rows
row_within [] n d e = cc
row_within (row ∷ rows) zero d e = omega arith
row_within (row ∷ rows) (suc n) d e = omega (arith, row_within rows n d e)

module _ (nodes bits : ℕ) (rows : List (List Bool)) (are : AreRows nodes bits rows) where
  -- a bit that is set is that of a node and of an expression
  pub set_within : (n i : ℕ) → has_bit rows i n ≡ true → (n < nodes) × (i < bits)
  set_within n i set =
      let lt : n < nodes = omega (arith, row_within rows n i set, are.len) in
      (lt, omega (arith, bit_within (row_of rows n) i set, are.each n lt))

  -- so the listed numbers are those of expressions
  pub inserted_within : (n : ℕ) → AllBelow bits (inserted rows n)
  inserted_within n = elim (cases_lt n nodes) [
    | inl lt ↦ set_below 0 bits (row_of rows n) (omega (arith, are.each n lt))
    | inr ge ↦ past rows n (omega (arith, ge, are.len))
  ]
    where
      past : (rows : List (List Bool)) (n : ℕ) → length rows ≤ n → AllBelow bits (inserted rows n)
      past [] n le = tt
      past (row ∷ rows) zero le = absurd (omega (arith, le))
      past (row ∷ rows) (suc n) le = past rows n (omega (arith, le))

-- ---- numbers of the table

-- each number is that of an expression of the table
abbrev pub AllKnown : List Expr → List ℕ → Type 0
AllKnown table [] = Unit {0}
AllKnown table (i ∷ numbers) = ((e : Expr) × (slice_get table i ≡ Some e)) × AllKnown table numbers

-- so it is of the bits of a row
set_known : (table : List Expr) (k : ℕ) (bits : List Bool) → k + length bits ≤ length table → AllKnown table (set_from k bits)
set_known table k [] le = tt
set_known table k (true ∷ bits) le = (some_at table k (omega (arith, le)), set_known table (suc k) bits (omega (arith, le)))
set_known table k (false ∷ bits) le = set_known table (suc k) bits (omega (arith, le))

-- no row is longer than there are bits
pub row_short : (nodes bits : ℕ) (rows : List (List Bool)) → AreRows nodes bits rows → (n : ℕ) → length (row_of rows n) ≤ bits
row_short nodes bits rows are n = elim (cases_lt n nodes) [
  | inl within ↦ omega (arith, are.each n within)
  | inr past ↦ let none : row_of rows n ≡ [] = get_or_past rows n [] (omega (arith, are.len, past)) in omega (arith, ap length none)
]

-- each number that a row lists is known
pub row_known : (nodes : ℕ) (table : List Expr) (rows : List (List Bool)) → AreRows nodes (length table) rows → (n : ℕ) → AllKnown table (inserted rows n)
row_known nodes table rows are n = set_known table 0 (row_of rows n) (let short = row_short nodes (length table) rows are n in omega (arith, short))

-- ---- how many there are

-- the insertions below a later node are those below an earlier one and more
pub inserted_mono : (rows : List (List Bool)) (m n : ℕ) → m < n → inserted_below rows m + length (inserted rows m) ≤ inserted_below rows n
inserted_mono rows m zero lt = absurd (omega (arith, lt))
inserted_mono rows m (suc n) lt = elim (cases_lt m n) [
  | inl less ↦ omega (arith, inserted_mono rows m n less)
  | inr ge ↦
      let same : m ≡ n = omega (arith, lt, ge) in
      let e : inserted_below rows m + length (inserted rows m) ≡ inserted_below rows n + length (inserted rows n) = ap (λ k. inserted_below rows k + length (inserted rows k)) same in
      omega (arith, e)
]
