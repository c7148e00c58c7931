-- What is delayed at the nodes of blocks, as rows: what comes past one node, past the nodes of a block, and along them
-- from what comes into the block.
use Rattle.std.proofs.Common.{◌≡◌, ◌≢◌, ◌+◌, ◌<◌, ◌≤◌, ◌||◌, ◌&&◌, not, ℕ, zero, suc, Bool, true, false, List, [], ◌∷◌, ◌++◌, length, get_or, replicate, set, take, slice_get, Option, Some, None, inl, inr, refl, sym, ap, ◌∙◌, subst, arith, true≢false}
use Rattle.std.proofs.Math.Bool.{and-true, or-false}
use Rattle.std.proofs.lemmas.Bool.{and_parts, cases_Bool, cases_eq, false≢true, not-true, or_cases, or_left, or_right}
use Rattle.std.proofs.lemmas.List.{get_or-set_other, get_or-set_same, length-replicate, length-set, take_all}
use Rattle.std.proofs.lemmas.List.Folds.{list_any-append}
use Rattle.std.proofs.lemmas.Option.{none-some, same_Some, slice_get_within}
use Rattle.std.specs.List.{list_any}
use Rattle.bit_rows.specs.BitLaws.{length_minus, length_or, minus_bit, or_bit}
use Rattle.bit_rows.specs.Bits.{minus_bits, or_bits, row_of, with_row_by}
use Rattle.flow_graph.specs.declared.nodes.Node.{Node}
use Rattle.flow_graph.specs.declared.nodes.Node.TheVariants.{Start, Skip, Assign, Print, Guard, Call, Test, Return}
use Rattle.flow_graph.specs.BlockLaws.{glued_edge, only_from}
use Rattle.flow_graph.specs.Blocks.{IsBlocks, IsGlued, StandsIn}
use Rattle.flow_graph.specs.Graphs.{IsGraph}
use Rattle.flow_graph.specs.ListLaws.{take_next}
use Rattle.flow_graph.specs.Paths.{Begins, HasEdge, goes_on}
use Rattle.path_laws.specs.BlockwiseLaws.{passed_next}
use Rattle.key_rows.specs.KeyRowLaws.{bit_beside, bit_set, with_bit_set, with_found}
use Rattle.path_laws.specs.FalseRows.{false_bit, false_rows}
use Rattle.path_laws.specs.Paths.{AreRows, has_bit}
use Rattle.path_laws.specs.RowLaws.{Written, put, written_shape}
use Rattle.path_laws.specs.Pushing.{pushed_before, pushed_last, pushed_shape}
use Rattle.sink_code.specs.declared.over.OverBlocks.{OverBlocks}
use Rattle.sink_code.specs.declared.patterns.Pattern.{Pattern}
use Rattle.graph_edit.specs.Accesses.{blocks_at, is_occurrence, occurs_at}
use Rattle.sink_code.specs.Along.{AreBlockedIn, AreCarriedTo, AreDelayedIn, HasPassed, IsHandedOver, IsPassedOver, TellsOccurrence}
use Rattle.sink_code.specs.BlockRows.{AreRowsTo, leaves_own}
use Rattle.sink_code.specs.Delaying.{IsDelayedTo}
use Rattle.sink_code.specs.Inside.{comes_past}
use Rattle.graph_edit.specs.NodeKinds.{is_skip}
use Rattle.sink_code.specs.Over.{AreIntoOver, lists_of}
use Rattle.sink_code.proofs.BlockedIn.{IsJoinedTo}
use Rattle.sink_code.proofs.Carried.{glued_on}
use Rattle.sink_code.proofs.Skipping.{skip_lets_pass}
use Rattle.sink_code.specs.DelayLaws.{at_start, came_from, start_unentered}

-- ---- a Skip

-- a Skip blocks no pattern
pub skip_frees : (over : OverBlocks) (n : ℕ) (node : Node) → slice_get over.graph.now.nodes n ≡ Some node → is_skip (Some node) ≡ true → (p : Pattern) → blocks_at p.var p.rhs over.graph.now n ≡ false
skip_frees over n (Start next) at is p = absurd (false≢true is)
skip_frees over n (Skip next) at is p = skip_lets_pass over.graph.now p.var p.rhs n next at
skip_frees over n (Assign x rhs next) at is p = absurd (false≢true is)
skip_frees over n (Print a next) at is p = absurd (false≢true is)
skip_frees over n (Guard test number next) at is p = absurd (false≢true is)
skip_frees over n (Call into unit operands next) at is p = absurd (false≢true is)
skip_frees over n (Test test taken other) at is p = absurd (false≢true is)
skip_frees over n (Return a) at is p = absurd (false≢true is)

-- and none occurs at it
skip_bears : (over : OverBlocks) (n : ℕ) (node : Node) → slice_get over.graph.now.nodes n ≡ Some node → is_skip (Some node) ≡ true → (p : Pattern) → occurs_at p.var p.rhs over.graph.now n ≡ false
skip_bears over n (Start next) at is p = absurd (false≢true is)
skip_bears over n (Skip next) at is p = ap (is_occurrence p.var p.rhs) at
skip_bears over n (Assign x rhs next) at is p = absurd (false≢true is)
skip_bears over n (Print a next) at is p = absurd (false≢true is)
skip_bears over n (Guard test number next) at is p = absurd (false≢true is)
skip_bears over n (Call into unit operands next) at is p = absurd (false≢true is)
skip_bears over n (Test test taken other) at is p = absurd (false≢true is)
skip_bears over n (Return a) at is p = absurd (false≢true is)

-- so a row that is taken past it stays
pub passed_skip : (over : OverBlocks) (n row : ℕ) (node : Node) (rows : List (List Bool)) → slice_get over.graph.now.nodes n ≡ Some node → is_skip (Some node) ≡ true → IsPassedOver over n row rows rows
passed_skip over n row node rows at is = record {
  len = refl;
  long = refl;
  others = λ m apart. refl;
  bits = λ k p numbered.
      sym (ap (λ o. o || (has_bit rows k row && not (blocks_at p.var p.rhs over.graph.now n))) (skip_bears over n node at is p)
      ∙ ap (λ b. has_bit rows k row && not b) (skip_frees over n node at is p) ∙ and-true (has_bit rows k row));
}

-- ---- an occurrence

module _ (over : OverBlocks) (n : ℕ) (found : Option ℕ) (tells : TellsOccurrence over n found) (rows new : List (List Bool)) (row : ℕ) (shape : AreRows (length rows) (length over.table.now) rows) (row_in : row < length rows) (is : new ≡ with_found rows row found) where
  -- the bit of the pattern that occurs is set
  pub found_bit : (k : ℕ) (p : Pattern) → slice_get over.table.now k ≡ Some p → has_bit new k row ≡ (occurs_at p.var p.rhs over.graph.now n || has_bit rows k row)
  found_bit k p numbered = ap (λ r. has_bit r k row) is ∙ by found refl
    where
      none : (occurs_at p.var p.rhs over.graph.now n ≡ true → ⊥) → has_bit rows k row ≡ (occurs_at p.var p.rhs over.graph.now n || has_bit rows k row)
      none off = elim (cases_Bool (occurs_at p.var p.rhs over.graph.now n)) as (λ _. has_bit rows k row ≡ (occurs_at p.var p.rhs over.graph.now n || has_bit rows k row)) [
        | inl on ↦ absurd (off on)
        | inr none_is ↦ ap (λ b. b || has_bit rows k row) (sym none_is)
      ]

      by : (o : Option ℕ) → found ≡ o → has_bit (with_found rows row o) k row ≡ (occurs_at p.var p.rhs over.graph.now n || has_bit rows k row)
      by None e = none (λ on. none-some k (sym e ∙ (tells.tells k p numbered).1 on))
      by (Some b) e = elim (cases_eq k b) as (λ _. has_bit (with_found rows row (Some b)) k row ≡ (occurs_at p.var p.rhs over.graph.now n || has_bit rows k row)) [
        | inl same ↦
            ap (λ j. has_bit (with_bit_set rows row b) j row) same
            ∙ bit_set (length rows) (length over.table.now) rows shape row b row_in (subst (λ j. j < length over.table.now) same (slice_get_within over.table.now k p numbered))
            ∙ sym (or_left (occurs_at p.var p.rhs over.graph.now n) (has_bit rows k row) ((tells.tells k p numbered).0 (e ∙ ap Some (sym same))))
        | inr apart ↦
            bit_beside (length rows) (length over.table.now) rows shape row b k row_in apart
            ∙ none (λ on. let both : Some b ≡ Some k = sym e ∙ (tells.tells k p numbered).1 on in apart (let same : b ≡ k = cc in sym same))
      ]

  pub found_len : length new ≡ length rows
  found_len = ap length is ∙ by found
    where
      by : (o : Option ℕ) → length (with_found rows row o) ≡ length rows
      by None = refl
      by (Some b) = length-set rows row (set (row_of rows row) b true)

  pub found_long : length (row_of new row) ≡ length (row_of rows row)
  found_long = ap (λ r. length (row_of r row)) is ∙ by found
    where
      by : (o : Option ℕ) → length (row_of (with_found rows row o) row) ≡ length (row_of rows row)
      by None = refl
      by (Some b) = ap length (get_or-set_same rows row (set (row_of rows row) b true) [] row_in) ∙ length-set (row_of rows row) b true

  pub found_others : (m : ℕ) → m ≢ row → row_of new m ≡ row_of rows m
  found_others m apart = ap (λ r. row_of r m) is ∙ by found
    where
      by : (o : Option ℕ) → row_of (with_found rows row o) m ≡ row_of rows m
      by None = refl
      by (Some b) = get_or-set_other rows row m (set (row_of rows row) b true) [] apart

-- ---- past one node

module _ (over : OverBlocks) (blocked : List (List Bool)) (blocked_are : AreBlockedIn over blocked) (n : ℕ) (n_in : n < length over.graph.now.nodes) (found : Option ℕ) (tells : TellsOccurrence over n found) where
  -- a row is taken past the node
  pub passed_over : (row : ℕ) (rows put_rows new : List (List Bool)) → AreRows (length rows) (length over.table.now) rows → row < length rows → put_rows ≡ with_row_by minus_bits rows row blocked n → new ≡ with_found put_rows row found → IsPassedOver over n row rows new
  passed_over row rows put_rows new shape row_in is found_is = record {
    len = found_len over n found tells put_rows new row mid_shape row_mid found_is ∙ made.len;
    long = found_long over n found tells put_rows new row mid_shape row_mid found_is ∙ ap length made.here ∙ length_minus (row_of rows row) (row_of blocked n) equal;
    others = λ m apart. found_others over n found tells put_rows new row mid_shape row_mid found_is m apart ∙ made.others m apart;
    bits = λ k p numbered.
        found_bit over n found tells put_rows new row mid_shape row_mid found_is k p numbered
        ∙ ap (λ b. occurs_at p.var p.rhs over.graph.now n || b) (
        ap (λ (r : List Bool). get_or r k false) made.here
        ∙ minus_bit (row_of rows row) (row_of blocked n) k equal
        ∙ ap (λ b. has_bit rows k row && not b) (blocked_are.bits n k p n_in numbered));
  }
    where
      equal : length (row_of rows row) ≡ length (row_of blocked n)
      equal = shape.each row row_in ∙ sym (blocked_are.shape.each n n_in)

      made : Written rows put_rows row (minus_bits (row_of rows row) (row_of blocked n))
      made = put rows put_rows row (minus_bits (row_of rows row) (row_of blocked n)) row_in is

      mid : AreRows (length rows) (length over.table.now) put_rows
      mid = written_shape (length rows) (length over.table.now) row rows put_rows (minus_bits (row_of rows row) (row_of blocked n)) shape made (length_minus (row_of rows row) (row_of blocked n) equal ∙ shape.each row row_in)

      mid_shape : AreRows (length put_rows) (length over.table.now) put_rows
      mid_shape = subst (λ c. AreRows c (length over.table.now) put_rows) (sym made.len) mid

      row_mid : row < length put_rows
      row_mid = rw made.len row_in

  -- to the row of the next node is joined what comes past this one
  pub handed_on : (node : ℕ) (rows put_rows new : List (List Bool)) → AreRows (length over.graph.now.nodes) (length over.table.now) rows → node < length over.graph.now.nodes
      → put_rows ≡ set rows node (or_bits (row_of rows node) (minus_bits (row_of rows n) (row_of blocked n))) → new ≡ with_found put_rows node found → IsHandedOver over n node rows new
  handed_on node rows put_rows new shape node_in is found_is = record {
    len = found_len over n found tells put_rows new node mid_shape row_mid found_is ∙ made.len;
    long = found_long over n found tells put_rows new node mid_shape row_mid found_is ∙ ap length made.here ∙ length_or (row_of rows node) (minus_bits (row_of rows n) (row_of blocked n)) alike;
    others = λ m apart. found_others over n found tells put_rows new node mid_shape row_mid found_is m apart ∙ made.others m apart;
    bits = λ k p numbered.
        found_bit over n found tells put_rows new node mid_shape row_mid found_is k p numbered
        ∙ ap (λ b. occurs_at p.var p.rhs over.graph.now n || b) (
        ap (λ (r : List Bool). get_or r k false) made.here
        ∙ or_bit (row_of rows node) (minus_bits (row_of rows n) (row_of blocked n)) k alike
        ∙ ap (λ b. has_bit rows k node || b) (minus_bit (row_of rows n) (row_of blocked n) k equal ∙ ap (λ b. has_bit rows k n && not b) (blocked_are.bits n k p n_in numbered)));
  }
    where
      equal : length (row_of rows n) ≡ length (row_of blocked n)
      equal = shape.each n n_in ∙ sym (blocked_are.shape.each n n_in)

      alike : length (row_of rows node) ≡ length (minus_bits (row_of rows n) (row_of blocked n))
      alike = shape.each node node_in ∙ sym (length_minus (row_of rows n) (row_of blocked n) equal ∙ shape.each n n_in)

      made : Written rows put_rows node (or_bits (row_of rows node) (minus_bits (row_of rows n) (row_of blocked n)))
      made = put rows put_rows node (or_bits (row_of rows node) (minus_bits (row_of rows n) (row_of blocked n))) (rw shape.len node_in) is

      mid : AreRows (length over.graph.now.nodes) (length over.table.now) put_rows
      mid = written_shape (length over.graph.now.nodes) (length over.table.now) node rows put_rows (or_bits (row_of rows node) (minus_bits (row_of rows n) (row_of blocked n))) shape made (length_or (row_of rows node) (minus_bits (row_of rows n) (row_of blocked n)) alike ∙ shape.each node node_in)

      mid_shape : AreRows (length put_rows) (length over.table.now) put_rows
      mid_shape = subst (λ c. AreRows c (length over.table.now) put_rows) (sym mid.len) mid

      row_mid : node < length put_rows
      row_mid = rw mid.len node_in

-- ---- past the nodes of a block

module _ (over : OverBlocks) (block : ℕ) (list : List ℕ) where
  -- before the first of them nothing has come
  pub has_passed_none : (rows new : List (List Bool)) → AreRowsTo block (lists_of over) over.table.now (leaves_own over.graph.now) rows → new ≡ rows ++ replicate (length over.table.now) false ∷ [] → HasPassed over block list 0 new
  has_passed_none rows new are is =
      let shape = pushed_shape block (length over.table.now) rows new (replicate (length over.table.now) false) are.shape is (length-replicate (length over.table.now) false) in
      record {
        len = shape.len;
        each = λ b h. shape.each b (rw shape.len at h);
        before = λ b k other p h e numbered. ap (λ (r : List Bool). get_or r k false) (pushed_before block (length over.table.now) rows new (replicate (length over.table.now) false) are.shape is b h) ∙ are.are b k other p h e numbered;
        here = λ k p numbered. ap (λ (r : List Bool). get_or r k false) (pushed_last block (length over.table.now) rows new (replicate (length over.table.now) false) are.shape is) ∙ false_bit (length over.table.now) k;
      }

  -- past one more
  pub has_passed_more : (index n : ℕ) (rows new : List (List Bool)) → slice_get list index ≡ Some n → HasPassed over block list index rows → IsPassedOver over n block rows new → HasPassed over block list (index + 1) new
  has_passed_more index n rows new at before passed = record {
    len = passed.len ∙ before.len;
    each = λ b h. elim (cases_eq b block) as (λ _. length (row_of new b) ≡ length over.table.now) [
      | inl same ↦ ap (λ c. length (row_of new c)) same ∙ passed.long ∙ before.each block (omega (arith, before.len))
      | inr apart ↦ ap length (passed.others b apart) ∙ before.each b (rw (← passed.len) h)
    ];
    before = λ b k other p h e numbered. ap (λ (r : List Bool). get_or r k false) (passed.others b (λ same. omega (arith, same, h))) ∙ before.before b k other p h e numbered;
    here = λ k p numbered.
        let one : index + 1 ≡ suc index = omega arith in
        passed.bits k p numbered
        ∙ ap (λ b. occurs_at p.var p.rhs over.graph.now n || (b && not (blocks_at p.var p.rhs over.graph.now n))) (before.here k p numbered)
        ∙ sym (passed_next (occurs_at p.var p.rhs over.graph.now) (blocks_at p.var p.rhs over.graph.now) list index n false at)
        ∙ ap (λ i. comes_past over.graph.now p.var p.rhs false (take i list)) (sym one);
  }

  -- past all of them where paths go on
  pub has_passed_all : (index : ℕ) (rows : List (List Bool)) → slice_get (lists_of over) block ≡ Some list → length list ≤ index → ((p : Pattern) → leaves_own over.graph.now p list ≡ comes_past over.graph.now p.var p.rhs false list) → HasPassed over block list index rows → AreRowsTo (block + 1) (lists_of over) over.table.now (leaves_own over.graph.now) rows
  has_passed_all index rows listed late on passed = record {
    shape = record { len = passed.len; each = λ b h. passed.each b (rw passed.len h) };
    are = λ b k other p h e numbered. elim (cases_eq b block) as (λ _. has_bit rows k b ≡ leaves_own over.graph.now p other) [
      | inl same ↦
          let one : list ≡ other = same_Some list other (sym listed ∙ ap (slice_get (lists_of over)) (sym same) ∙ e) in
          ap (λ c. has_bit rows k c) same ∙ passed.here k p numbered ∙ ap (comes_past over.graph.now p.var p.rhs false) (take_all index list late)
          ∙ sym (on p) ∙ ap (leaves_own over.graph.now p) one
      | inr apart ↦ passed.before b k other p (omega (arith, h, apart)) e numbered
    ];
  }

  -- and where they do not, nothing leaves
  pub has_passed_end : (rows : List (List Bool)) → slice_get (lists_of over) block ≡ Some list → ((p : Pattern) → leaves_own over.graph.now p list ≡ false) → HasPassed over block list 0 rows → AreRowsTo (block + 1) (lists_of over) over.table.now (leaves_own over.graph.now) rows
  has_passed_end rows listed off passed = record {
    shape = record { len = passed.len; each = λ b h. passed.each b (rw passed.len h) };
    are = λ b k other p h e numbered. elim (cases_eq b block) as (λ _. has_bit rows k b ≡ leaves_own over.graph.now p other) [
      | inl same ↦
          let one : list ≡ other = same_Some list other (sym listed ∙ ap (slice_get (lists_of over)) (sym same) ∙ e) in
          ap (λ c. has_bit rows k c) same ∙ passed.here k p numbered ∙ sym (off p) ∙ ap (leaves_own over.graph.now p) one
      | inr apart ↦ passed.before b k other p (omega (arith, h, apart)) e numbered
    ];
  }

-- ---- what a block blocks

-- what some node before an index blocks, with one node more
any_more : (over : OverBlocks) (list : List ℕ) (index n : ℕ) → slice_get list index ≡ Some n → (p : Pattern)
    → list_any (blocks_at p.var p.rhs over.graph.now) (take (index + 1) list) ≡ (list_any (blocks_at p.var p.rhs over.graph.now) (take index list) || blocks_at p.var p.rhs over.graph.now n)
any_more over list index n at p =
    let one : index + 1 ≡ suc index = omega arith in
    ap (λ i. list_any (blocks_at p.var p.rhs over.graph.now) (take i list)) one
    ∙ ap (list_any (blocks_at p.var p.rhs over.graph.now)) (take_next list index n at)
    ∙ list_any-append (blocks_at p.var p.rhs over.graph.now) (take index list) (n ∷ [])
    ∙ ap (λ b. list_any (blocks_at p.var p.rhs over.graph.now) (take index list) || b) (or-false (blocks_at p.var p.rhs over.graph.now n))

-- to the row of the block what one node more blocks is joined
pub stopped_more : (over : OverBlocks) (block : ℕ) (list : List ℕ) (blocked : List (List Bool)) → AreBlockedIn over blocked → (index n : ℕ) (rows new : List (List Bool)) → slice_get list index ≡ Some n → n < length over.graph.now.nodes
    → IsJoinedTo over.graph.now (lists_of over) over.table.now block list index rows → new ≡ with_row_by or_bits rows block blocked n → IsJoinedTo over.graph.now (lists_of over) over.table.now block list (index + 1) new
stopped_more over block list blocked blocked_are index n rows new at n_in joined is = record {
  shape = written_shape (block + 1) (length over.table.now) block rows new (or_bits (row_of rows block) (row_of blocked n)) joined.shape made (length_or (row_of rows block) (row_of blocked n) equal ∙ long);
  before = λ b k other p h e numbered. ap (λ (r : List Bool). get_or r k false) (made.others b (λ same. omega (arith, same, h))) ∙ joined.before b k other p h e numbered;
  here = λ k p numbered.
      ap (λ (r : List Bool). get_or r k false) made.here ∙ or_bit (row_of rows block) (row_of blocked n) k equal
      ∙ ap (λ b. b || has_bit blocked k n) (joined.here k p numbered)
      ∙ ap (λ b. list_any (blocks_at p.var p.rhs over.graph.now) (take index list) || b) (blocked_are.bits n k p n_in numbered)
      ∙ sym (any_more over list index n at p);
}
  where
    long : length (row_of rows block) ≡ length over.table.now
    long = joined.shape.each block (omega arith)

    equal : length (row_of rows block) ≡ length (row_of blocked n)
    equal = long ∙ sym (blocked_are.shape.each n n_in)

    made : Written rows new block (or_bits (row_of rows block) (row_of blocked n))
    made = put rows new block (or_bits (row_of rows block) (row_of blocked n)) (rw joined.shape.len (omega arith)) is

-- a node that blocks nothing joins nothing
pub stopped_none : (over : OverBlocks) (block : ℕ) (list : List ℕ) (index n : ℕ) (rows : List (List Bool)) → slice_get list index ≡ Some n → ((p : Pattern) → blocks_at p.var p.rhs over.graph.now n ≡ false)
    → IsJoinedTo over.graph.now (lists_of over) over.table.now block list index rows → IsJoinedTo over.graph.now (lists_of over) over.table.now block list (index + 1) rows
stopped_none over block list index n rows at free joined = record {
  shape = joined.shape;
  before = joined.before;
  here = λ k p numbered.
      joined.here k p numbered
      ∙ sym (any_more over list index n at p
      ∙ ap (λ b. list_any (blocks_at p.var p.rhs over.graph.now) (take index list) || b) (free p) ∙ or-false (list_any (blocks_at p.var p.rhs over.graph.now) (take index list)));
}

-- ---- along the nodes of a block

-- the first so many nodes of the list have their rows, and those of the blocks before
pub record AreAlong (over : OverBlocks) (block : ℕ) (list : List ℕ) (place : ℕ) (rows : List (List Bool)) : Type 0 where
  pub shape : AreRows (length over.graph.now.nodes) (length over.table.now) rows
  pub only : (n k : ℕ) (p : Pattern) → slice_get over.table.now k ≡ Some p → has_bit rows k n ≡ true → IsDelayedTo over.graph.now p.var p.rhs n
  pub early : (b n k : ℕ) (p : Pattern) → b < block → slice_get over.table.now k ≡ Some p → StandsIn (lists_of over) b n → IsDelayedTo over.graph.now p.var p.rhs n → has_bit rows k n ≡ true
  pub these : (i n k : ℕ) (p : Pattern) → i < place → slice_get list i ≡ Some n → slice_get over.table.now k ≡ Some p → IsDelayedTo over.graph.now p.var p.rhs n → has_bit rows k n ≡ true

-- rows of bits that are all false have no bit, in range or not
no_bits : (nodes bits n x : ℕ) → has_bit (replicate nodes (replicate bits false)) x n ≡ false
no_bits zero bits n x = refl
no_bits (suc nodes) bits zero x = false_bit bits x
no_bits (suc nodes) bits (suc n) x = no_bits nodes bits n x

-- before any block no bit is set
pub carried_none : (over : OverBlocks) (rows : List (List Bool)) → rows ≡ replicate (length over.graph.now.nodes) (replicate (length over.table.now) false) → AreCarriedTo over 0 rows
carried_none over rows is =
    let none = false_rows (length over.graph.now.nodes) (length over.table.now) rows is in
    record {
      shape = none.0;
      only = λ n k p numbered on. absurd (true≢false (sym on ∙ ap (λ r. has_bit r k n) is ∙ no_bits (length over.graph.now.nodes) (length over.table.now) n k));
      all = λ b n k p lt numbered stands d. absurd (omega (arith, lt));
    }

module _ (over : OverBlocks) (is_graph : IsGraph over.graph.now.vars over.graph.now.received over.graph.now.nodes) (are : IsBlocks over.graph.now.nodes (lists_of over)) where
  -- what occurs at a node is delayed at the node that is glued to it
  occurs_glued : (m n : ℕ) (p : Pattern) → IsGlued over.graph.now.nodes m n → occurs_at p.var p.rhs over.graph.now m ≡ true → IsDelayedTo over.graph.now p.var p.rhs n
  occurs_glued m n p glued o [] trace = absurd (start_unentered over.graph.now is_graph m (subst (HasEdge over.graph.now.nodes m) (at_start over.graph.now.nodes n trace) (glued_edge over.graph.now.nodes m n glued)))
  occurs_glued m n p glued o (k ∷ before) (goes_on k0 n0 before0 trace edge) =
      let same : k ≡ m = only_from over.graph.now.nodes m n k glued.enters edge in
      inl (ap (occurs_at p.var p.rhs over.graph.now) same ∙ o)

  module _ (block : ℕ) (list : List ℕ) (listed : slice_get (lists_of over) block ≡ Some list) where
    -- the first has that of what comes into the block
    pub along_first : (head : ℕ) (into rows new : List (List Bool)) → slice_get list 0 ≡ Some head → Begins head list → head < length over.graph.now.nodes → AreIntoOver over into → block < length (lists_of over)
        → AreCarriedTo over block rows → new ≡ with_row_by or_bits rows head into block → AreAlong over block list 1 new
    along_first head into rows new at begins head_in into_are block_in before is = record {
      shape = written_shape (length over.graph.now.nodes) (length over.table.now) head rows new (or_bits (row_of rows head) (row_of into block)) before.shape made (length_or (row_of rows head) (row_of into block) equal ∙ before.shape.each head head_in);
      only = λ n k p numbered on. elim (cases_eq n head) as (λ _. IsDelayedTo over.graph.now p.var p.rhs n) [
        | inl same ↦ subst (IsDelayedTo over.graph.now p.var p.rhs) (sym same) (elim (or_cases (has_bit rows k head) (has_bit into k block) (sym (bit k) ∙ ap (has_bit new k) (sym same) ∙ on)) as (λ _. IsDelayedTo over.graph.now p.var p.rhs head) [
          | inl was ↦ before.only head k p numbered was
          | inr came ↦ (into_are.are block k head list p listed begins numbered).0 came
        ])
        | inr apart ↦ before.only n k p numbered (sym (other_bit n k apart) ∙ on)
      ];
      early = λ b n k p lt numbered stands d. stays n k (before.all b n k p lt numbered stands d);
      these = λ i n k p lt n_at numbered d.
          let zero_is : 0 ≡ i = omega (arith, lt) in
          let same : head ≡ n = same_Some head n (sym at ∙ ap (slice_get list) zero_is ∙ n_at) in
          ap (has_bit new k) (sym same) ∙ bit k ∙ or_right (has_bit rows k head) (has_bit into k block) ((into_are.are block k head list p listed begins numbered).1 (subst (IsDelayedTo over.graph.now p.var p.rhs) (sym same) d));
    }
      where
        equal : length (row_of rows head) ≡ length (row_of into block)
        equal = before.shape.each head head_in ∙ sym (into_are.shape.each block block_in)

        made : Written rows new head (or_bits (row_of rows head) (row_of into block))
        made = put rows new head (or_bits (row_of rows head) (row_of into block)) (rw before.shape.len head_in) is

        bit : (k : ℕ) → has_bit new k head ≡ (has_bit rows k head || has_bit into k block)
        bit k = ap (λ (r : List Bool). get_or r k false) made.here ∙ or_bit (row_of rows head) (row_of into block) k equal

        other_bit : (n k : ℕ) → n ≢ head → has_bit new k n ≡ has_bit rows k n
        other_bit n k apart = ap (λ (r : List Bool). get_or r k false) (made.others n apart)

        stays : (n k : ℕ) → has_bit rows k n ≡ true → has_bit new k n ≡ true
        stays n k on = elim (cases_eq n head) as (λ _. has_bit new k n ≡ true) [
          | inl same ↦ ap (has_bit new k) same ∙ bit k ∙ or_left (has_bit rows k head) (has_bit into k block) (ap (has_bit rows k) (sym same) ∙ on)
          | inr apart ↦ other_bit n k apart ∙ on
        ]

    -- each other what the one before it hands on
    pub along_more : (place m n : ℕ) (rows new : List (List Bool)) → slice_get list place ≡ Some m → slice_get list (suc place) ≡ Some n → IsGlued over.graph.now.nodes m n → n < length over.graph.now.nodes
        → AreAlong over block list (suc place) rows → IsHandedOver over m n rows new → AreAlong over block list (suc (suc place)) new
    along_more place m n rows new m_at n_at glued n_in before handed = record {
      shape = record {
        len = handed.len ∙ before.shape.len;
        each = λ j h. elim (cases_eq j n) as (λ _. length (row_of new j) ≡ length over.table.now) [
          | inl same ↦ ap (λ c. length (row_of new c)) same ∙ handed.long ∙ before.shape.each n n_in
          | inr apart ↦ ap length (handed.others j apart) ∙ before.shape.each j h
        ];
      };
      only = λ j k p numbered on. elim (cases_eq j n) as (λ _. IsDelayedTo over.graph.now p.var p.rhs j) [
        | inl same ↦ subst (IsDelayedTo over.graph.now p.var p.rhs) (sym same) (sound k p numbered (ap (has_bit new k) (sym same) ∙ on))
        | inr apart ↦ before.only j k p numbered (sym (other_bit j k apart) ∙ on)
      ];
      early = λ b j k p lt numbered stands d. stays j k p numbered (before.early b j k p lt numbered stands d);
      these = λ i j k p lt j_at numbered d. elim (cases_eq i (suc place)) as (λ _. has_bit new k j ≡ true) [
        | inl last ↦
            let same : n ≡ j = same_Some n j (sym n_at ∙ ap (slice_get list) (sym last) ∙ j_at) in
            ap (has_bit new k) (sym same) ∙ whole k p numbered (subst (IsDelayedTo over.graph.now p.var p.rhs) (sym same) d)
        | inr apart ↦ stays j k p numbered (before.these i j k p (omega (arith, lt, apart)) j_at numbered d)
      ];
    }
      where
        other_bit : (j k : ℕ) → j ≢ n → has_bit new k j ≡ has_bit rows k j
        other_bit j k apart = ap (λ (r : List Bool). get_or r k false) (handed.others j apart)

        stays : (j k : ℕ) (p : Pattern) → slice_get over.table.now k ≡ Some p → has_bit rows k j ≡ true → has_bit new k j ≡ true
        stays j k p numbered on = elim (cases_eq j n) as (λ _. has_bit new k j ≡ true) [
          | inl same ↦
              ap (has_bit new k) same ∙ handed.bits k p numbered
              ∙ or_right (occurs_at p.var p.rhs over.graph.now m) (has_bit rows k n || (has_bit rows k m && not (blocks_at p.var p.rhs over.graph.now m))) (or_left (has_bit rows k n) (has_bit rows k m && not (blocks_at p.var p.rhs over.graph.now m)) (ap (has_bit rows k) (sym same) ∙ on))
          | inr apart ↦ other_bit j k apart ∙ on
        ]

        sound : (k : ℕ) (p : Pattern) → slice_get over.table.now k ≡ Some p → has_bit new k n ≡ true → IsDelayedTo over.graph.now p.var p.rhs n
        sound k p numbered on = elim (or_cases (occurs_at p.var p.rhs over.graph.now m) (has_bit rows k n || (has_bit rows k m && not (blocks_at p.var p.rhs over.graph.now m))) (sym (handed.bits k p numbered) ∙ on)) as (λ _. IsDelayedTo over.graph.now p.var p.rhs n) [
          | inl o ↦ occurs_glued m n p glued o
          | inr rest ↦ (elim (or_cases (has_bit rows k n) (has_bit rows k m && not (blocks_at p.var p.rhs over.graph.now m)) rest) as (λ _. IsDelayedTo over.graph.now p.var p.rhs n) [
            | inl was ↦ before.only n k p numbered was
            | inr passes ↦ (let parts = and_parts (has_bit rows k m) (not (blocks_at p.var p.rhs over.graph.now m)) passes in glued_on over.graph.now is_graph p.var p.rhs m n glued (not-true (blocks_at p.var p.rhs over.graph.now m) parts.1) (before.only m k p numbered parts.0))
          ])
        ]

        whole : (k : ℕ) (p : Pattern) → slice_get over.table.now k ≡ Some p → IsDelayedTo over.graph.now p.var p.rhs n → has_bit new k n ≡ true
        whole k p numbered d = handed.bits k p numbered ∙ elim (came_from over.graph.now is_graph m n p.var p.rhs (glued_edge over.graph.now.nodes m n glued) d) as (λ _. (occurs_at p.var p.rhs over.graph.now m || (has_bit rows k n || (has_bit rows k m && not (blocks_at p.var p.rhs over.graph.now m)))) ≡ true) [
          | inl o ↦ or_left (occurs_at p.var p.rhs over.graph.now m) (has_bit rows k n || (has_bit rows k m && not (blocks_at p.var p.rhs over.graph.now m))) o
          | inr passes ↦ or_right (occurs_at p.var p.rhs over.graph.now m) (has_bit rows k n || (has_bit rows k m && not (blocks_at p.var p.rhs over.graph.now m))) (or_right (has_bit rows k n) (has_bit rows k m && not (blocks_at p.var p.rhs over.graph.now m)) (
              ap (λ b. b && not (blocks_at p.var p.rhs over.graph.now m)) (before.these place m k p (omega arith) m_at numbered passes.1) ∙ ap not passes.0))
        ]

    -- once all have theirs the block is done
    pub along_all : (place : ℕ) (rows : List (List Bool)) → length list ≤ place → AreAlong over block list place rows → AreCarriedTo over (block + 1) rows
    along_all place rows late all = record {
      shape = all.shape;
      only = all.only;
      all = λ b n k p lt numbered stands d. elim (cases_eq b block) as (λ _. has_bit rows k n ≡ true) [
        | inl same ↦
            let same_list : stands.list ≡ list = same_Some stands.list list (sym stands.listed ∙ ap (slice_get (lists_of over)) same ∙ listed) in
            let at : slice_get list stands.place ≡ Some n = subst (λ l. slice_get l stands.place ≡ Some n) same_list stands.is in
            let within = slice_get_within list stands.place n at in
            all.these stands.place n k p (omega (arith, within, late)) at numbered d
        | inr apart ↦ all.early b n k p (omega (arith, lt, apart)) numbered stands d
      ];
    }

-- with those of all blocks the rows tell what is delayed at each node
pub carried_all : (over : OverBlocks) (count : ℕ) (rows : List (List Bool)) → IsBlocks over.graph.now.nodes (lists_of over) → length (lists_of over) ≤ count → AreCarriedTo over count rows → AreDelayedIn over rows
carried_all over count rows are late all = record {
  shape = all.shape;
  bits = λ n k p n_in numbered. (
    λ on. all.only n k p numbered on,
    λ d.
        let stands = are.every n n_in in
        let within = slice_get_within (lists_of over) stands.0 stands.1.list stands.1.listed in
        all.all stands.0 n k p (omega (arith, within, late)) numbered stands.1 d,
  );
}
