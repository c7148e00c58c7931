-- The rows of what is live before the nodes of a block, from its last to its first.
use Rattle.std.proofs.Common.{◌≡◌, ℕ, ◌+◌, ◌<◌, ◌≤◌, ◌||◌, ◌↔◌, Bool, true, false, List, length, get_or, replicate, set, slice_get, Some, inl, inr, sym, ap, ◌∙◌, subst, arith, true≢false}
use Rattle.std.proofs.lemmas.Bool.{cases_eq, or_cases, or_left, or_right}
use Rattle.std.proofs.lemmas.Option.{slice_get_within}
use Rattle.bit_rows.specs.BitLaws.{length_or, or_bit}
use Rattle.bit_rows.specs.Bits.{or_bits, row_of}
use Rattle.flow_graph.specs.Blocks.{IsBlocks, StandsIn}
use Rattle.flow_graph.specs.Graphs.{GraphShape}
use Rattle.path_laws.specs.Paths.{HaveShape, has_bit}
use Rattle.path_laws.specs.RowLaws.{Written, put, written_shape}
use Rattle.dead_code.specs.LiveRows.{AreLiveTo, TellLive}
use Rattle.dead_code.specs.Liveness.{IsLiveBefore}
use Rattle.dead_code.proofs.PrunedMarks.{false_rows, no_bits}

-- no bit is set in the rows of the nodes before a loop
pub live_no_block : (graph : GraphShape) (lists : List (List ℕ)) (rows : List (List Bool)) → rows ≡ replicate (length graph.nodes) (replicate (length graph.vars) false) → AreLiveTo graph lists 0 rows
live_no_block graph lists rows is = rw is (record {
  shape = false_rows (length graph.nodes) (length graph.vars);
  only = λ n x x_in on. absurd (true≢false (sym on ∙ no_bits (length graph.nodes) (length graph.vars) n x));
  all = λ b n x lt x_in stands lives. absurd (omega (arith, lt));
})

-- with those of all blocks they tell what is live before each node
pub live_blocks : (graph : GraphShape) (lists : List (List ℕ)) (count : ℕ) (rows : List (List Bool)) → IsBlocks graph.nodes lists → length lists ≤ count → AreLiveTo graph lists count rows → TellLive graph rows
live_blocks graph lists count rows are late all = λ n x n_in x_in. (
  λ on. all.only n x x_in on,
  λ lives. (let stands = are.every n n_in in all.all stands.0 n x (omega (arith, late, slice_get_within lists stands.0 stands.1.list stands.1.listed)) x_in stands.1 lives),
)

module _ (graph : GraphShape) (lists : List (List ℕ)) (block : ℕ) (list : List ℕ) where
  -- the last nodes of the list have their rows, so many of them, and the nodes of the blocks before
  pub record HaveLive (back : ℕ) (rows : List (List Bool)) : Type 0 where
    pub shape : HaveShape graph (length graph.vars) rows
    pub only : (n x : ℕ) → x < length graph.vars → has_bit rows x n ≡ true → IsLiveBefore graph x n
    pub early : (b n x : ℕ) → b < block → x < length graph.vars → StandsIn lists b n → IsLiveBefore graph x n → has_bit rows x n ≡ true
    pub these : (place n x : ℕ) → length list ≤ place + back → slice_get list place ≡ Some n → x < length graph.vars → IsLiveBefore graph x n → has_bit rows x n ≡ true

  -- none yet
  pub have_none : (rows : List (List Bool)) → AreLiveTo graph lists block rows → HaveLive 0 rows
  have_none rows before = record {
    shape = before.shape;
    only = before.only;
    early = before.all;
    these = λ place n x far at x_in lives. absurd (omega (arith, far, slice_get_within list place n at));
  }

  module _ (back place n : ℕ) (rows more : List (List Bool)) (row : List Bool) (before : HaveLive back rows) (whole : place + back + 1 ≡ length list) (at : slice_get list place ≡ Some n) (n_in : n < length graph.nodes)
      (long : length row ≡ length graph.vars) (tells : (x : ℕ) → x < length graph.vars → (get_or row x false ≡ true) ↔ IsLiveBefore graph x n) (is : more ≡ set rows n (or_bits (row_of rows n) row)) where
    equally : length (row_of rows n) ≡ length row
    equally = before.shape.each n n_in ∙ sym long

    made : Written rows more n (or_bits (row_of rows n) row)
    made = put rows more n (or_bits (row_of rows n) row) (rw before.shape.len n_in) is

    bit_here : (x : ℕ) → has_bit more x n ≡ (has_bit rows x n || get_or row x false)
    bit_here x = ap (λ (r : List Bool). get_or r x false) made.here ∙ or_bit (row_of rows n) row x equally

    bit_other : (m x : ℕ) → (m ≡ n → ⊥) → has_bit more x m ≡ has_bit rows x m
    bit_other m x apart = ap (λ (r : List Bool). get_or r x false) (made.others m apart)

    -- a bit that was set stays so
    stays : (m x : ℕ) → has_bit rows x m ≡ true → has_bit more x m ≡ true
    stays m x on = elim (cases_eq m n) as (λ _. has_bit more x m ≡ true) [
      | inl same ↦ ap (has_bit more x) same ∙ bit_here x ∙ or_left (has_bit rows x n) (get_or row x false) (ap (has_bit rows x) (sym same) ∙ on)
      | inr apart ↦ bit_other m x apart ∙ on
    ]

    -- one node more has its row
    pub have_more : HaveLive (back + 1) more
    have_more = record {
      shape = written_shape (length graph.nodes) (length graph.vars) n rows more (or_bits (row_of rows n) row) before.shape made (length_or (row_of rows n) row equally ∙ before.shape.each n n_in);
      only = λ m x x_in on. elim (cases_eq m n) as (λ _. IsLiveBefore graph x m) [
        | inl same ↦ subst (IsLiveBefore graph x) (sym same) (elim (or_cases (has_bit rows x n) (get_or row x false) (sym (bit_here x) ∙ ap (has_bit more x) (sym same) ∙ on)) as (λ _. IsLiveBefore graph x n) [
          | inl was ↦ before.only n x x_in was
          | inr came ↦ (tells x x_in).0 came
        ])
        | inr apart ↦ before.only m x x_in (sym (bit_other m x apart) ∙ on)
      ];
      early = λ b m x lt x_in stands lives. stays m x (before.early b m x lt x_in stands lives);
      these = λ p m x far m_at x_in lives. elim (cases_eq p place) as (λ _. has_bit more x m ≡ true) [
        | inl same ↦
            let both : Some n ≡ Some m = sym at ∙ ap (slice_get list) (sym same) ∙ m_at in
            let is_n : n ≡ m = cc in
            let lives_n : IsLiveBefore graph x n = subst (IsLiveBefore graph x) (sym is_n) lives in
            ap (has_bit more x) (sym is_n) ∙ bit_here x ∙ or_right (has_bit rows x n) (get_or row x false) ((tells x x_in).1 lives_n)
        | inr apart ↦ stays m x (before.these p m x (omega (arith, far, whole, apart)) m_at x_in lives)
      ];
    }

  -- once all have theirs the block is done
  pub have_all : (back : ℕ) (rows : List (List Bool)) → slice_get lists block ≡ Some list → length list ≤ back → HaveLive back rows → AreLiveTo graph lists (block + 1) rows
  have_all back rows is_block late all = record {
    shape = all.shape;
    only = all.only;
    all = λ b n x lt x_in stands lives. elim (cases_eq b block) as (λ _. has_bit rows x n ≡ true) [
      | inl same ↦
          let both : Some stands.list ≡ Some list = sym stands.listed ∙ ap (slice_get lists) same ∙ is_block in
          let same_list : stands.list ≡ list = cc in
          all.these stands.place n x (omega (arith, late)) (subst (λ l. slice_get l stands.place ≡ Some n) same_list stands.is) x_in lives
      | inr apart ↦ all.early b n x (omega (arith, lt, apart)) x_in stands lives
    ];
  }
