-- What of a row is news, by its words: long rows have a mark for each word, and short rows have none, so that all of them
-- is always news. Cited by the ghost members of `RowNews` and of `BitFlow`.
use Rattle.std.specs.Prelude.{◌≡◌, ℕ, ◌/◌, ◌<◌, Bool, true, false, not, nat_le, if◌then◌else◌, List, length, replicate, slice_index_or}
use Rattle.std.proofs.Common.{◌+◌, ◌*◌, get_or, refl, sym, ap, inl, inr, arith, ◌∙◌}
use Rattle.std.proofs.lemmas.Bool.{and_from, cases_Bool, cases_lt, lt-leb}
use Rattle.std.proofs.lemmas.List.{get_or_past, get_or-map, get_or-replicate, length-map, length-replicate}
use Rattle.std.proofs.lemmas.Option.{slice_get-get_or}
use Rattle.fix_solve.specs.NewsFlows.{Keeps, NewsLaws}
use Rattle.bit_rows.specs.BitLaws.{minus_bit}
use Rattle.bit_rows.specs.Bits.{minus_bits, not_bits, row_bit, row_of}
use Rattle.bit_rows.specs.Marks.{AreMarked, AreSettled, words_for}
use Rattle.flow_graph.specs.declared.edges.Edge.{Edge}
use Rattle.flow_graph.specs.FlowEdges.{edge_at}
use Rattle.path_laws.specs.Nets.{IsBitFlow, bit_flow}
use Rattle.path_laws.specs.Order.{BelowBits}
use Rattle.path_laws.specs.OrderLaws.{below_bit, below_length}

-- ---- marks

-- how many marks rows of so many bits have
abbrev pub marks_for : ℕ → ℕ
marks_for bits = if nat_le bits 1024 then 0 else words_for bits

-- they are as many
abbrev pub AreMarksFor : List Bool → ℕ → Type 0
AreMarksFor marks bits = length marks ≡ marks_for bits

-- each word is marked
abbrev pub AllMarked : List Bool → Type 0
AllMarked marks = (k : ℕ) → slice_index_or marks k true ≡ true

-- no word is
abbrev pub NoneMarked : List Bool → Type 0
NoneMarked marks = (k : ℕ) → row_bit marks k ≡ false

-- ---- along an edge

-- what a row has in words that are not marked, and the target of an edge does not stop, is in the row there
abbrev pub caught_along : List Edge → List (List Bool) → ℕ → List Bool → List Bool → List Bool
    → Type 0
caught_along edges bar e marks x w = AreSettled marks x (row_of bar (edge_at edges e).target) w

-- this keeps the laws of news
pub caught_laws : (nodes : ℕ) (edges : List Edge) (out : ℕ → ℕ) (bits : ℕ) (first bar : List (List Bool)) → IsBitFlow nodes edges out bits first bar
    → NewsLaws BelowBits length AreMarksFor AllMarked NoneMarked (bit_flow nodes edges out bits first bar) (caught_along edges bar)
caught_laws nodes edges out bits first bar valid = record {
  all = λ e marks x w h all. record { each = λ b low off on free. let bad : true ≡ false = sym (all (b / 64)) ∙ off in absurd (cc) };
  none = λ e marks x w h fit x_long w_long none below. record {
    each = λ b low off on free.
        let stop = row_of bar (edge_at edges e).target in
        let inside = (valid.are.ends e (edge_at edges e) (slice_get-get_or edges e _ h)).1 in
        let long : length x ≡ length stop = x_long ∙ sym (valid.bar_rows.each (edge_at edges e).target inside) in
        below_bit (minus_bits x stop) w b below (minus_bit x stop b long ∙ and_from (get_or x b false) (not (get_or stop b false)) on (ap not free));
  };
  grows = λ e marks x w w' h caught below. record {
    each = λ b low off on free. below_bit w w' b below (caught.each b (rw (below_length w w' below) low) off on free);
  };
}

-- ---- what a push leaves

module _ (nodes : ℕ) (edges : List Edge) (out : ℕ → ℕ) (bits : ℕ) (first bar : List (List Bool)) where
  -- a row that changed only where it is marked
  pub marked_keeps : (node : ℕ) (before old after new : List Bool) → AreMarked before old after new
      → Keeps (bit_flow nodes edges out bits first bar) (caught_along edges bar) node before old after new
  marked_keeps node before old after new marked = record {
    along = λ e w h same caught. record {
      each = λ b low off on free.
          let was = marked.each b off in
          caught.each b low was.0 (sym was.1 ∙ on) free;
    };
  }

-- where all is marked anything may have changed
pub all_keep : (before old after new : List Bool) → AllMarked after → AreMarked before old after new
all_keep before old after new all = record {
  each = λ b off. let bad : true ≡ false = sym (all (b / 64)) ∙ off in absurd (cc);
}

-- and all stays marked
pub all_stay : (before old after new : List Bool) → AreMarked before old after new → AllMarked before → AllMarked after
all_stay before old after new marked all k = elim (cases_Bool (get_or after k true)) as (λ _. get_or after k true ≡ true) [
  | inl on ↦ on
  | inr off ↦
      let word : 64 * k / 64 ≡ k = omega arith in
      let was = (marked.each (64 * k) (rw word off)).0 in
      let bad : true ≡ false = sym (all k) ∙ (rw word at was) in absurd (cc)
]

-- ---- how many marks there are

-- long rows have one for each word
pub marks_of_long : (bits : ℕ) → 1024 < bits → marks_for bits ≡ words_for bits
marks_of_long bits long = marks_of_long_at (nat_le bits 1024) (words_for bits) (lt-leb bits 1024 long)
  where
    marks_of_long_at : (few : Bool) (count : ℕ) → few ≡ false → (if few then 0 else count) ≡ count
    marks_of_long_at true count off = absurd (cc)
    marks_of_long_at false count off = refl

-- ---- all marks set, and none

-- a row that was cleared and flipped
pub all_marked : (n : ℕ) → AllMarked (not_bits (replicate n false))
all_marked n k = elim (cases_lt k n) as (λ _. get_or (not_bits (replicate n false)) k true ≡ true) [
  | inl within ↦ get_or-map not (replicate n false) k false true (rw length-replicate within) ∙ ap not (get_or-replicate n k false false within)
  | inr past ↦ get_or_past (not_bits (replicate n false)) k true (rw (length-map, length-replicate) past)
]

-- and one that was cleared
pub none_marked : (n : ℕ) → NoneMarked (replicate n false)
none_marked n k = elim (cases_lt k n) as (λ _. get_or (replicate n false) k false ≡ false) [
  | inl within ↦ get_or-replicate n k false false within
  | inr past ↦ get_or_past (replicate n false) k false (rw length-replicate past)
]

-- so was a list of none
pub none_of_none : (marks : List Bool) → length marks ≡ 0 → NoneMarked marks
none_of_none marks none k = get_or_past marks k false (omega (arith, none))
