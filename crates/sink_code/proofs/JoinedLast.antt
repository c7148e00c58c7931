-- Rows joined to one of some rows, and to the last.
use Rattle.std.proofs.Common.{◌≡◌, ◌≢◌, ℕ, ◌+◌, ◌<◌, Bool, true, false, List, [], ◌∷◌, ◌++◌, length, length-append, replicate, refl, sym, ap, ◌∙◌, arith, get_or-set_other, get_or-set_same}
use Rattle.std.proofs.Math.Seq.{set-append_seam, get_or-append_seam}
use Rattle.std.proofs.lemmas.List.{length-replicate, length-set}
use Rattle.bit_rows.specs.BitLaws.{length_or}
use Rattle.bit_rows.specs.Bits.{or_bits, row_of, with_row_by}
use Rattle.flow_graph.specs.declared.nodes.Node.{Node}
use Rattle.flow_graph.specs.declared.nodes.Node.TheVariants.{Start, Skip, Assign, Print, Guard, Call, Test, Return}
use Rattle.flow_graph.specs.Graphs.{is_start}
use Rattle.path_laws.specs.Paths.{AreRows}
use Rattle.sink_code.specs.PatternRows.{FitsRowsOf, JoinsBlocked, JoinsRows, blocked_row, joined_at, reads_in, row_joined}
use Rattle.graph_edit.specs.Accesses.{assigns_of}

-- one row is joined
pub joins_one : (from : List (List Bool)) (x row : ℕ) (old new : List (List Bool)) → row < length old → length (row_of old row) ≡ length (row_of from x) → new ≡ with_row_by or_bits old row from x → JoinsRows from (x ∷ []) row old new
joins_one from x row old new h long is = record {
  rows = is;
  len = ap length is ∙ length-set old row (or_bits (row_of old row) (row_of from x));
  long = ap (λ rows. length (row_of rows row)) is ∙ ap length (get_or-set_same old row (or_bits (row_of old row) (row_of from x)) [] h) ∙ length_or (row_of old row) (row_of from x) long;
}

-- one row more is joined
pub joined_more : (from : List (List Bool)) (xs : List ℕ) (x row : ℕ) (rows : List (List Bool)) → joined_at from (xs ++ x ∷ []) row rows ≡ joined_at from (x ∷ []) row (joined_at from xs row rows)
joined_more from [] x row rows = refl
joined_more from (y ∷ xs) x row rows = joined_more from xs x row (with_row_by or_bits rows row from y)

-- those that are joined to the last row stand in it
pub joined_last : (from : List (List Bool)) (xs : List ℕ) (rows : List (List Bool)) (row : List Bool) → joined_at from xs (length rows) (rows ++ row ∷ []) ≡ rows ++ row_joined from xs row ∷ []
joined_last from [] rows row = refl
joined_last from (x ∷ xs) rows row =
    ap (joined_at from xs (length rows))
    (set-append_seam rows row [] (or_bits (row_of (rows ++ row ∷ []) (length rows)) (row_of from x)) ∙ ap (λ (r : List Bool). rows ++ or_bits r (row_of from x) ∷ []) (get_or-append_seam rows row [] []))
    ∙ joined_last from xs rows (or_bits row (row_of from x))

-- ---- one after the other

-- rows are joined in two steps
pub joined_append_at : (from : List (List Bool)) (xs ys : List ℕ) (row : ℕ) (rows : List (List Bool)) → joined_at from (xs ++ ys) row rows ≡ joined_at from ys row (joined_at from xs row rows)
joined_append_at from [] ys row rows = refl
joined_append_at from (x ∷ xs) ys row rows = joined_append_at from xs ys row (with_row_by or_bits rows row from x)

-- what fits a row fits it once others are joined to it
pub fits_on : (from other : List (List Bool)) (xs : List ℕ) (row : ℕ) (old new : List (List Bool)) → FitsRowsOf from row old → JoinsRows other xs row old new → FitsRowsOf from row new
fits_on from other xs row old new fits joins = record {
  within = (let h = fits.within in rw joins.len h);
  long = record { len = fits.long.len; each = λ n h. fits.long.each n h ∙ sym joins.long };
}

-- joined in two steps from the same rows
pub joins_twice : (from : List (List Bool)) (xs ys : List ℕ) (row : ℕ) (old mid new : List (List Bool)) → JoinsRows from xs row old mid → JoinsRows from ys row mid new → JoinsRows from (xs ++ ys) row old new
joins_twice from xs ys row old mid new first second = record {
  rows = second.rows ∙ ap (joined_at from ys row) first.rows ∙ sym (joined_append_at from xs ys row old);
  len = second.len ∙ first.len;
  long = second.long ∙ first.long;
}

-- nothing is joined
pub joins_none : (from : List (List Bool)) (row : ℕ) (rows : List (List Bool)) → JoinsRows from [] row rows rows
joins_none from row rows = record { rows = refl; len = refl; long = refl }

-- ---- what a node blocks

module _ (assigning naming : List (List Bool)) (shared : ℕ) where
  -- what a node reads is joined, and then what it assigns
  pub joins_blocked : (node : Node) (row : ℕ) (old mid new : List (List Bool)) → JoinsRows assigning (reads_in shared node) row old mid → JoinsRows naming (assigns_of shared node) row mid new → JoinsBlocked assigning naming shared node row old new
  joins_blocked node row old mid new read set = record {
    rows = set.rows ∙ ap (joined_at naming (assigns_of shared node) row) read.rows;
    len = set.len ∙ read.len;
    long = set.long ∙ read.long;
  }

  -- the row of what a node blocks that is not Start
  pub blocked_joined : (bits : ℕ) (node : Node) → is_start node ≡ false → row_joined naming (assigns_of shared node) (row_joined assigning (reads_in shared node) (replicate bits false)) ≡ blocked_row assigning naming bits shared node
  blocked_joined bits (Start next) is = absurd (cc)
  blocked_joined bits (Skip next) is = refl
  blocked_joined bits (Assign x rhs next) is = refl
  blocked_joined bits (Print a next) is = refl
  blocked_joined bits (Guard test number next) is = refl
  blocked_joined bits (Call into unit operands next) is = refl
  blocked_joined bits (Test test taken other) is = refl
  blocked_joined bits (Return a) is = refl

  -- and that of Start
  pub blocked_start : (bits : ℕ) (node : Node) → is_start node ≡ true → replicate bits true ≡ blocked_row assigning naming bits shared node
  blocked_start bits (Start next) is = refl
  blocked_start bits (Skip next) is = absurd (cc)
  blocked_start bits (Assign x rhs next) is = absurd (cc)
  blocked_start bits (Print a next) is = absurd (cc)
  blocked_start bits (Guard test number next) is = absurd (cc)
  blocked_start bits (Call into unit operands next) is = absurd (cc)
  blocked_start bits (Test test taken other) is = absurd (cc)
  blocked_start bits (Return a) is = absurd (cc)

  -- it stands at the end, once it is joined to a row of no bits there
  pub blocked_last : (bits last : ℕ) (node : Node) (rows old new : List (List Bool)) → last ≡ length rows → old ≡ rows ++ replicate bits false ∷ [] → JoinsBlocked assigning naming shared node last old new → is_start node ≡ false
      → new ≡ rows ++ blocked_row assigning naming bits shared node ∷ []
  blocked_last bits last node rows old new at is joins other =
      let reads = reads_in shared node in
      let sets = assigns_of shared node in
      joins.rows
      ∙ ap (λ l. joined_at naming sets last (joined_at assigning reads last l)) is
      ∙ ap (λ n. joined_at naming sets n (joined_at assigning reads n (rows ++ replicate bits false ∷ []))) at
      ∙ ap (joined_at naming sets (length rows)) (joined_last assigning reads rows (replicate bits false))
      ∙ joined_last naming sets rows (row_joined assigning reads (replicate bits false))
      ∙ ap (λ (r : List Bool). rows ++ r ∷ []) (blocked_joined bits node other)

-- a row of no bits at the end fits rows of so many bits
pub fits_last : (from : List (List Bool)) (count bits last : ℕ) (rows old : List (List Bool)) → AreRows count bits from → last ≡ length rows → old ≡ rows ++ replicate bits false ∷ [] → FitsRowsOf from last old
fits_last from count bits last rows old shape at is = record {
  within = (let long : length old ≡ length rows + 1 = ap length is ∙ length-append rows (replicate bits false ∷ []) in omega (arith, at, long));
  long = record { len = refl; each = λ n h. shape.each n (rw shape.len at h) ∙ sym long };
}
  where
    long : length (row_of old last) ≡ bits
    long = ap (λ (l : List (List Bool)). length (row_of l last)) is ∙ ap (λ n. length (row_of (rows ++ replicate bits false ∷ []) n)) at ∙ ap length (get_or-append_seam rows (replicate bits false) [] []) ∙ length-replicate bits false

-- ---- the rows, one by one

-- they are as many as before
pub joined_len : (from : List (List Bool)) (xs : List ℕ) (row : ℕ) (rows : List (List Bool)) → length (joined_at from xs row rows) ≡ length rows
joined_len from [] row rows = refl
joined_len from (x ∷ xs) row rows = joined_len from xs row (with_row_by or_bits rows row from x) ∙ length-set rows row (or_bits (row_of rows row) (row_of from x))

-- the row that others are joined to
pub joined_here : (from : List (List Bool)) (xs : List ℕ) (row : ℕ) (rows : List (List Bool)) → row < length rows → row_of (joined_at from xs row rows) row ≡ row_joined from xs (row_of rows row)
joined_here from [] row rows h = refl
joined_here from (x ∷ xs) row rows h =
    let joined = or_bits (row_of rows row) (row_of from x) in
    joined_here from xs row (with_row_by or_bits rows row from x) (rw (length-set rows row joined) h) ∙ ap (row_joined from xs) (get_or-set_same rows row joined [] h)

-- the others stay
pub joined_others : (from : List (List Bool)) (xs : List ℕ) (row n : ℕ) (rows : List (List Bool)) → n ≢ row → row_of (joined_at from xs row rows) n ≡ row_of rows n
joined_others from [] row n rows apart = refl
joined_others from (x ∷ xs) row n rows apart = joined_others from xs row n (with_row_by or_bits rows row from x) apart ∙ get_or-set_other rows row n (or_bits (row_of rows row) (row_of from x)) [] apart
