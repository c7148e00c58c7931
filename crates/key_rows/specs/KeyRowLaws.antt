-- Laws of rows with a bit for each key of a table: rows of false bits, rows in which bits are set one after the other,
-- and rows that are pushed one after the other. For proofs only, here and above.
use Rattle.std.proofs.Common.{◌≡◌, ◌≢◌, ◌↔◌, inl, inr, ℕ, zero, suc, ◌+◌, ◌<◌, ◌≤◌, Bool, true, false, ◌||◌, List, [], ◌∷◌, ◌++◌, length, get_or, map, replicate, set, slice_get, take, Option, None, Some, refl, sym, ap, ◌∙◌, subst, true≢false, arith, get_or-set_same, get_or-set_other}
use Rattle.std.proofs.Math.Seq.{set-append_seam}
use Rattle.std.proofs.lemmas.Bool.{cases_eq}
use Rattle.std.proofs.lemmas.List.{get_or-replicate, length-replicate, length-set, map-append, take_more}
use Rattle.std.proofs.lemmas.Option.{slice_get_within, same_Some}
use Rattle.mir_base.specs.Shapes.{AllBelow}
use Rattle.bit_rows.specs.BitLaws.{length_or, or_bit}
use Rattle.bit_rows.specs.Bits.{AreEquallyLong, not_bits, or_bits, row_of}
use Rattle.flow_graph.specs.declared.nodes.Node.{Node}
use Rattle.flow_graph.specs.declared.nodes.Node.TheVariants.{Start, Skip, Assign, Print, Guard, Call, Test, Return}
use Rattle.flow_graph.specs.Graphs.{HaveVarsBelow, node_vars}
use Rattle.key_rows.specs.KeyRows.{AreAssignedRows, AreKeyRows, AreKeyRowsWhere, HasKey, any_assigned, any_below, assigned_row, joined_rows, key_in}
use Rattle.path_laws.specs.FalseRows.{false_bit, false_rows}
use Rattle.path_laws.specs.Paths.{AreRows, has_bit}
use Rattle.path_laws.specs.Says.{same_says}

-- ---- rows of false bits

-- the flipped row of false ones
not_falses : (n : ℕ) → not_bits (replicate n false) ≡ replicate n true
not_falses zero = refl
not_falses (suc n) = ap (λ xs. true ∷ xs) (not_falses n)

-- ---- one bit set

-- the rows with one bit set
abbrev pub with_bit_set : List (List Bool) → ℕ → ℕ → List (List Bool)
with_bit_set rows n b = set rows n (set (row_of rows n) b true)

-- where one was found
abbrev pub with_found : List (List Bool) → ℕ → Option ℕ → List (List Bool)
with_found rows n None = rows
with_found rows n (Some b) = with_bit_set rows n b

module _ (count bits : ℕ) (rows : List (List Bool)) (shape : AreRows count bits rows) (n b : ℕ) where
  -- the row that has it
  set_here : n < count → row_of (with_bit_set rows n b) n ≡ set (row_of rows n) b true
  set_here n_in = get_or-set_same rows n (set (row_of rows n) b true) [] (rw shape.len n_in)

  -- the others
  set_other : (m : ℕ) → m ≢ n → row_of (with_bit_set rows n b) m ≡ row_of rows m
  set_other m other = get_or-set_other rows n m (set (row_of rows n) b true) [] other

  -- the shape stays
  pub with_bit_shape : AreRows count bits (with_bit_set rows n b)
  with_bit_shape = record {
    len = length-set rows n (set (row_of rows n) b true) ∙ shape.len;
    each = λ m m_in. elim (cases_eq m n) as (λ _. length (row_of (with_bit_set rows n b) m) ≡ bits) [
      | inl same ↦ rw (same, set_here (subst (λ k. k < count) same m_in)) (length-set (row_of rows n) b true ∙ shape.each n (subst (λ k. k < count) same m_in))
      | inr other ↦ rw (set_other m other) (shape.each m m_in)
    ];
  }

  -- the bit itself
  pub bit_set : n < count → b < bits → has_bit (with_bit_set rows n b) b n ≡ true
  bit_set n_in b_in = ap (λ r. get_or r b false) (set_here n_in) ∙ get_or-set_same (row_of rows n) b true false (rw (shape.each n n_in) b_in)

  -- the other bits of its row
  pub bit_beside : (i : ℕ) → n < count → i ≢ b → has_bit (with_bit_set rows n b) i n ≡ has_bit rows i n
  bit_beside i n_in other = ap (λ r. get_or r i false) (set_here n_in) ∙ get_or-set_other (row_of rows n) b i true false other

  -- and the other rows
  pub bit_elsewhere : (m i : ℕ) → m ≢ n → has_bit (with_bit_set rows n b) i m ≡ has_bit rows i m
  bit_elsewhere m i other = ap (λ r. get_or r i false) (set_other m other)

-- ---- keys of nodes, as far as node n

module _ {K : Type 0} where
  -- the rows below n tell the keys of the nodes, and the others are false
  pub record AreKeyed (key_of : Node → Option K) (keys : List K) (nodes : List Node) (n : ℕ) (rows : List (List Bool)) : Type 0 where
    pub shape : AreRows (length nodes) (length keys) rows
    pub done : (m i : ℕ) (k : K) → m < n → slice_get keys i ≡ Some k → (has_bit rows i m ≡ true) ↔ HasKey key_of nodes k m
    pub later : (m i : ℕ) → n ≤ m → m < length nodes → has_bit rows i m ≡ false

  module _ (key_of : Node → Option K) (keys : List K) (nodes : List Node) where
    -- at the start
    pub keyed_none : (rows : List (List Bool)) → rows ≡ replicate (length nodes) (replicate (length keys) false) → AreKeyed key_of keys nodes 0 rows
    keyed_none rows is =
        let all = false_rows (length nodes) (length keys) rows is in
        record { shape = all.0; done = λ m i k m_in at. absurd (omega (arith, m_in)); later = λ m i late m_in. all.1 m i m_in }

    -- one node more
    pub keyed_more : (n : ℕ) (node : Node) (found : Option ℕ) (rows new : List (List Bool)) → slice_get nodes n ≡ Some node
        → ((b : ℕ) → found ≡ Some b → b < length keys)
        → ((i : ℕ) (k : K) → slice_get keys i ≡ Some k → (key_of node ≡ Some k) ↔ (found ≡ Some i))
        → new ≡ with_found rows n found → AreKeyed key_of keys nodes n rows → AreKeyed key_of keys nodes (n + 1) new
    keyed_more n node found rows new at within exact is before = subst (AreKeyed key_of keys nodes (n + 1)) (sym is) (by found refl)
      where
        n_in : n < length nodes
        n_in = slice_get_within nodes n node at

        here : (i : ℕ) (k : K) → slice_get keys i ≡ Some k → HasKey key_of nodes k n ↔ (found ≡ Some i)
        here i k k_at = (λ has. (exact i k k_at).0 (sym (ap (key_in key_of) at) ∙ has), λ one. ap (key_in key_of) at ∙ (exact i k k_at).1 one)

        by : (o : Option ℕ) → found ≡ o → AreKeyed key_of keys nodes (n + 1) (with_found rows n o)
        by None f = record {
          shape = before.shape;
          done = λ m i k m_in k_at. elim (cases_eq m n) [
            | inl same ↦ rw same (λ on. absurd (true≢false (sym on ∙ before.later n i (omega arith) n_in)), λ has. let no : found ≡ Some i = (here i k k_at).0 has in cc)
            | inr other ↦ before.done m i k (omega (arith, m_in, other)) k_at
          ];
          later = λ m i late m_in. before.later m i (omega (arith, late)) m_in;
        }
        by (Some b) f = record {
          shape = with_bit_shape (length nodes) (length keys) rows before.shape n b;
          done = λ m i k m_in k_at. elim (cases_eq m n) [
            | inl same ↦ rw same (elim (cases_eq i b) as (λ _. (has_bit (with_bit_set rows n b) i n ≡ true) ↔ HasKey key_of nodes k n) [
              | inl one ↦ (λ on. (here i k k_at).1 (f ∙ ap Some (sym one)), λ has. subst (λ j. has_bit (with_bit_set rows n b) j n ≡ true) (sym one) (bit_set (length nodes) (length keys) rows before.shape n b n_in (within b f)))
              | inr two ↦
                  let off : has_bit (with_bit_set rows n b) i n ≡ false = bit_beside (length nodes) (length keys) rows before.shape n b i n_in two ∙ before.later n i (omega arith) n_in in
                  (λ on. absurd (true≢false (sym on ∙ off)), λ has. let one : b ≡ i = same_Some b i (sym f ∙ (here i k k_at).0 has) in absurd (two (sym one)))
            ])
            | inr other ↦ subst (λ bit. (bit ≡ true) ↔ HasKey key_of nodes k m) (sym (bit_elsewhere (length nodes) (length keys) rows before.shape n b m i other)) (before.done m i k (omega (arith, m_in, other)) k_at)
          ];
          later = λ m i late m_in. bit_elsewhere (length nodes) (length keys) rows before.shape n b m i (λ same. let e : m ≡ n = same in omega (arith, late, e)) ∙ before.later m i (omega (arith, late)) m_in;
        }

    -- all of them
    pub keyed_all : (n : ℕ) (rows : List (List Bool)) → length nodes ≤ n → AreKeyed key_of keys nodes n rows
        → AreKeyRowsWhere (length nodes) keys (HasKey key_of nodes) rows
    keyed_all n rows late is = record { shape = is.shape; bits = λ m i k m_in at. is.done m i k (omega (arith, m_in, late)) at }

  -- where the test says what the statement does
  pub by_test : (count : ℕ) (keys : List K) (holds : K → ℕ → Bool) (Holds : K → ℕ → Type 0) (rows : List (List Bool))
      → ((n i : ℕ) (k : K) → n < count → slice_get keys i ≡ Some k → (holds k n ≡ true) ↔ Holds k n) → AreKeyRowsWhere count keys Holds rows → AreKeyRows count keys holds rows
  by_test count keys holds Holds rows says are = record {
    shape = are.shape;
    bits = λ n i k n_in at.
        let bit = are.bits n i k n_in at in
        let test = says n i k n_in at in
        same_says (has_bit rows i n) (holds k n) (λ on. test.1 (bit.0 on), λ on. bit.1 (test.0 on));
  }

-- ---- rows that are pushed

-- the row at the end
pub last_row : (rows : List (List Bool)) (row : List Bool) → row_of (rows ++ row ∷ []) (length rows) ≡ row
last_row [] row = refl
last_row (r ∷ rows) row = last_row rows row

-- a row of false ones at the end, flipped
pub last_flipped : (rows : List (List Bool)) (bits n : ℕ) → n ≡ length rows
    → set (rows ++ replicate bits false ∷ []) n (not_bits (row_of (rows ++ replicate bits false ∷ []) n)) ≡ rows ++ replicate bits true ∷ []
last_flipped rows bits n is =
    ap (λ k. set (rows ++ replicate bits false ∷ []) k (not_bits (row_of (rows ++ replicate bits false ∷ []) k))) is
    ∙ ap (λ r. set (rows ++ replicate bits false ∷ []) (length rows) (not_bits r)) (last_row rows (replicate bits false))
    ∙ set-append_seam rows (replicate bits false) [] (not_bits (replicate bits false))
    ∙ ap (λ r. rows ++ r ∷ []) (not_falses bits)

-- a row at the end, joined with another
pub last_joined : (rows : List (List Bool)) (row other : List Bool) (n : ℕ) → n ≡ length rows
    → set (rows ++ row ∷ []) n (or_bits (row_of (rows ++ row ∷ []) n) other) ≡ rows ++ or_bits row other ∷ []
last_joined rows row other n is =
    ap (λ k. set (rows ++ row ∷ []) k (or_bits (row_of (rows ++ row ∷ []) k) other)) is
    ∙ ap (λ r. set (rows ++ row ∷ []) (length rows) (or_bits r other)) (last_row rows row)
    ∙ set-append_seam rows row [] (or_bits row other)

-- of rows by nodes, that of a node stands at its number
pub row_at : (row : Node → List Bool) (nodes : List Node) (n : ℕ) (node : Node) → slice_get nodes n ≡ Some node → row_of (map row nodes) n ≡ row node
row_at row [] n node at = cc
row_at row (first ∷ nodes) zero node at = ap row (same_Some first node at)
row_at row (first ∷ nodes) (suc n) node at = row_at row nodes n node at

-- the rows of one node more
pub rows_more : (row : Node → List Bool) (nodes : List Node) (i : ℕ) (node : Node) (rows new : List (List Bool))
    → i < length nodes → node ≡ get_or nodes i node → rows ≡ map row (take i nodes)
    → new ≡ rows ++ row node ∷ [] → new ≡ map row (take (i + 1) nodes)
rows_more row nodes i node rows new i_in is before put =
    put ∙ ap (λ r. r ++ row node ∷ []) before
    ∙ sym (ap (map row) (take_more nodes i node i_in ∙ ap (λ n. take i nodes ++ n ∷ []) (sym is)) ∙ map-append row (take i nodes) (node ∷ []))

-- ---- what nodes assign

-- joined rows are as long
pub joined_long : (by_var : List (List Bool)) (bits n : ℕ) → n ≤ length by_var
    → ((x : ℕ) → x < length by_var → length (row_of by_var x) ≡ bits) → length (joined_rows by_var bits n) ≡ bits
joined_long by_var bits zero few each = length-replicate bits false
joined_long by_var bits (suc n) few each =
    let long = joined_long by_var bits n (omega (arith, few)) each in
    length_or (joined_rows by_var bits n) (row_of by_var n) (long ∙ sym (each n (omega (arith, few)))) ∙ long

-- and they have a bit where the row of one of the first n variables has it
joined_bit : (by_var : List (List Bool)) (bits i n : ℕ) (of_var : ℕ → Bool) → n ≤ length by_var
    → ((x : ℕ) → x < length by_var → length (row_of by_var x) ≡ bits)
    → ((x : ℕ) → x < length by_var → has_bit by_var i x ≡ of_var x)
    → get_or (joined_rows by_var bits n) i false ≡ any_below of_var n
joined_bit by_var bits i zero of_var few each are = false_bit bits i
joined_bit by_var bits i (suc n) of_var few each are =
    let low : n < length by_var = omega (arith, few) in
    or_bit (joined_rows by_var bits n) (row_of by_var n) i (joined_long by_var bits n (omega (arith, few)) each ∙ sym (each n low))
    ∙ ap (λ b. b || get_or (row_of by_var n) i false) (joined_bit by_var bits i n of_var (omega (arith, few)) each are)
    ∙ ap (λ b. any_below of_var n || b) (are n low)

-- the row of a node has its bits
pub assigned_long : (at_start : Bool) (shared : ℕ) (by_var : List (List Bool)) (bits : ℕ) (node : Option Node)
    → shared ≤ length by_var → ((x : ℕ) → x < length by_var → length (row_of by_var x) ≡ bits)
    → ((n : Node) → node ≡ Some n → AllBelow (length by_var) (node_vars n))
    → length (assigned_row at_start shared by_var bits node) ≡ bits
assigned_long at_start shared by_var bits None few each below = length-replicate bits false
assigned_long at_start shared by_var bits (Some (Start next)) few each below = length-replicate bits at_start
assigned_long at_start shared by_var bits (Some (Skip next)) few each below = length-replicate bits false
assigned_long at_start shared by_var bits (Some (Assign x rhs next)) few each below = each x (below (Assign x rhs next) refl).0
assigned_long at_start shared by_var bits (Some (Print a next)) few each below = length-replicate bits false
assigned_long at_start shared by_var bits (Some (Guard test number next)) few each below = length-replicate bits false
assigned_long at_start shared by_var bits (Some (Call None unit arguments next)) few each below = joined_long by_var bits shared few each
assigned_long at_start shared by_var bits (Some (Call (Some x) unit arguments next)) few each below =
    let long = joined_long by_var bits shared few each in
    length_or (joined_rows by_var bits shared) (row_of by_var x) (long ∙ sym (each x (below (Call (Some x) unit arguments next) refl).0)) ∙ long
assigned_long at_start shared by_var bits (Some (Test test taken other)) few each below = length-replicate bits false
assigned_long at_start shared by_var bits (Some (Return a)) few each below = length-replicate bits false

-- a bit of it is that of the variable
pub assigned_bit : (at_start : Bool) (shared : ℕ) (by_var : List (List Bool)) (bits i : ℕ) (of_var : ℕ → Bool) (node : Option Node)
    → i < bits → shared ≤ length by_var → ((x : ℕ) → x < length by_var → length (row_of by_var x) ≡ bits)
    → ((x : ℕ) → x < length by_var → has_bit by_var i x ≡ of_var x)
    → ((n : Node) → node ≡ Some n → AllBelow (length by_var) (node_vars n))
    → get_or (assigned_row at_start shared by_var bits node) i false ≡ any_assigned at_start shared of_var node
assigned_bit at_start shared by_var bits i of_var None i_in few each are below = false_bit bits i
assigned_bit at_start shared by_var bits i of_var (Some (Start next)) i_in few each are below = get_or-replicate bits i at_start false i_in
assigned_bit at_start shared by_var bits i of_var (Some (Skip next)) i_in few each are below = false_bit bits i
assigned_bit at_start shared by_var bits i of_var (Some (Assign x rhs next)) i_in few each are below = are x (below (Assign x rhs next) refl).0
assigned_bit at_start shared by_var bits i of_var (Some (Print a next)) i_in few each are below = false_bit bits i
assigned_bit at_start shared by_var bits i of_var (Some (Guard test number next)) i_in few each are below = false_bit bits i
assigned_bit at_start shared by_var bits i of_var (Some (Call None unit arguments next)) i_in few each are below = joined_bit by_var bits i shared of_var few each are
assigned_bit at_start shared by_var bits i of_var (Some (Call (Some x) unit arguments next)) i_in few each are below =
    let x_in = (below (Call (Some x) unit arguments next) refl).0 in
    or_bit (joined_rows by_var bits shared) (row_of by_var x) i (joined_long by_var bits shared few each ∙ sym (each x x_in))
    ∙ ap (λ b. b || get_or (row_of by_var x) i false) (joined_bit by_var bits i shared of_var few each are)
    ∙ ap (λ b. any_below of_var shared || b) (are x x_in)
assigned_bit at_start shared by_var bits i of_var (Some (Test test taken other)) i_in few each are below = false_bit bits i
assigned_bit at_start shared by_var bits i of_var (Some (Return a)) i_in few each are below = false_bit bits i

-- so the rows of what nodes assign have a bit for each key of which the rows by variables have one
pub assigned_keys : {K : Type 0} (at_start : Bool) (shared : ℕ) (by_var : List (List Bool)) (nodes : List Node) (keys : List K) (of_var : K → ℕ → Bool) (rows : List (List Bool))
    → shared ≤ length by_var → ((x : ℕ) → x < length by_var → length (row_of by_var x) ≡ length keys)
    → HaveVarsBelow (length by_var) nodes
    → ((x i : ℕ) (k : K) → x < length by_var → slice_get keys i ≡ Some k → has_bit by_var i x ≡ of_var k x) → AreRows (length nodes) (length keys) rows → AreAssignedRows at_start shared by_var (length keys) nodes rows
    → AreKeyRows (length nodes) keys (λ k n. any_assigned at_start shared (of_var k) (slice_get nodes n)) rows
assigned_keys at_start shared by_var nodes keys of_var rows few each below bits shape are = record {
  shape = shape;
  bits = λ n i k n_in at.
      ap (λ r. get_or r i false) (are n n_in)
      ∙ assigned_bit at_start shared by_var (length keys) i (of_var k) (slice_get nodes n) (slice_get_within keys i k at) few each (λ x x_in. bits x i k x_in at) (λ node here. below n node here);
}

-- rows by a test are those by one that is equal to it
pub same_test : {K : Type 0} (count : ℕ) (keys : List K) (test holds : K → ℕ → Bool) (rows : List (List Bool))
    → ((k : K) (n : ℕ) → test k n ≡ holds k n) → AreKeyRows count keys test rows → AreKeyRows count keys holds rows
same_test count keys test holds rows same are = record { shape = are.shape; bits = λ n i k n_in at. are.bits n i k n_in at ∙ same k n }
