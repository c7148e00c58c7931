-- The rows that say which expressions are known to be down at the nodes, put down one after the other, and what they
-- tell at the end.
use Rattle.std.proofs.Common.{◌≡◌, ◌∙◌, ◌+◌, ◌<◌, ℕ, zero, suc, Bool, List, [], ◌∷◌, ◌++◌, get_or, length, inl, inr, refl, sym, ap, subst, arith, length-append}
use Rattle.std.proofs.lemmas.Bool.{cases_lt}
use Rattle.std.proofs.lemmas.List.{get_or_default}
use Rattle.bit_rows.specs.Bits.{row_of}
use Rattle.fix_solve.specs.Net.{value_at}
use Rattle.div_move.specs.declared.flow.SlotFlow.{SlotFlow}
use Rattle.div_move.specs.SlotFlow.{AreDownRowsTo, SolvesSlots, down_row, slot_net}

-- ---- a row at the end

-- the rows before it stay
row_before : (rows : List (List Bool)) (row : List Bool) (k : ℕ) → k < length rows → row_of (rows ++ row ∷ []) k ≡ row_of rows k
row_before [] row k lt = absurd (omega (arith, lt))
row_before (first ∷ rows) row zero lt = refl
row_before (first ∷ rows) row (suc k) lt = row_before rows row k (omega (arith, lt))

-- and it stands after them
row_after : (rows : List (List Bool)) (row : List Bool) (k : ℕ) → k ≡ length rows → row_of (rows ++ row ∷ []) k ≡ row
row_after [] row zero e = refl
row_after [] row (suc k) e = absurd (omega (arith, e))
row_after (first ∷ rows) row zero e = absurd (omega (arith, e))
row_after (first ∷ rows) row (suc k) e = row_after rows row k (omega (arith, e))

module _ {L : Type 0} (f : SlotFlow L) (values : List (List (Bool × Bool))) where
  -- of no nodes
  pub down_none : (rows : List (List Bool)) → rows ≡ [] → AreDownRowsTo f values 0 rows
  down_none rows none = record {
    shape = record { len = ap length none; each = λ n lt. absurd (omega (arith, lt)) };
    are = λ n lt. absurd (omega (arith, lt));
  }

  -- of one node more
  pub down_more : (k : ℕ) (rows : List (List Bool)) (row : List Bool) (new : List (List Bool)) → AreDownRowsTo f values k rows → length row ≡ f.bits → row ≡ down_row f k (value_at (slot_net f) values k) → new ≡ rows ++ row ∷ [] → AreDownRowsTo f values (k + 1) new
  down_more k rows row new before long is put = subst (AreDownRowsTo f values (k + 1)) (sym put) (record {
    shape = record { len = omega (arith, length-append rows (row ∷ []), before.shape.len); each = long_at };
    are = row_is;
  })
    where
      long_at : (n : ℕ) → n < k + 1 → length (row_of (rows ++ row ∷ []) n) ≡ f.bits
      long_at n lt = elim (cases_lt n k) [
        | inl less ↦ ap length (row_before rows row n (omega (arith, less, before.shape.len))) ∙ before.shape.each n less
        | inr ge ↦ ap length (row_after rows row n (omega (arith, lt, ge, before.shape.len))) ∙ long
      ]

      row_is : (n : ℕ) → n < k + 1 → row_of (rows ++ row ∷ []) n ≡ down_row f n (value_at (slot_net f) values n)
      row_is n lt = elim (cases_lt n k) [
        | inl less ↦ row_before rows row n (omega (arith, less, before.shape.len)) ∙ before.are n less
        | inr ge ↦
            let same : k ≡ n = omega (arith, lt, ge) in
            row_after rows row n (omega (arith, lt, ge, before.shape.len)) ∙ subst (λ m. row ≡ down_row f m (value_at (slot_net f) values m)) same is
      ]

  -- a value that was read is that of the solution, and has the size of the flow
  pub read_value : SolvesSlots f values → (n : ℕ) → n < length f.graph.now.nodes → (read : List (Bool × Bool)) → read ≡ get_or values n read → (read ≡ value_at (slot_net f) values n) × (length read ≡ f.bits)
  read_value solved n lt read is =
      let same : read ≡ value_at (slot_net f) values n = is ∙ get_or_default values n read ((slot_net f).first n) (omega (arith, lt, solved.len)) in
      (same, ap length same ∙ solved.sizes n lt)
