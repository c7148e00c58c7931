-- Bits of a part of a table that are put in the rows of the whole.
use Rattle.std.proofs.Common.{◌≡◌, ◌≢◌, ◌<◌, ◌≤◌, ◌+◌, ◌||◌, ℕ, Bool, true, false, List, [], length, get_or, set, slice_get, Some, refl, sym, ap, subst, ◌∙◌, inl, inr, arith, get_or-set_same, get_or-set_other}
use Rattle.std.proofs.lemmas.List.{length-set, get_or_past}
use Rattle.std.proofs.lemmas.Bool.{cases_eq}
use Rattle.std.proofs.Math.Decide.{dec_lt}
use Rattle.mir_base.specs.Shapes.{AllDiffer}
use Rattle.mir_base.specs.ItemLaws.{one_place}
use Rattle.bit_rows.specs.Bits.{AreAlike, IsTrueFrom, NoneTrue, row_bit, row_of}
use Rattle.path_laws.specs.Paths.{has_bit}
use Rattle.latest_place.specs.Parts.{AddsBits, AddsRow, HasNumber}

-- ---- one bit set

-- the rows with one bit set
abbrev pub with_bit : List (List Bool) → ℕ → ℕ → List (List Bool)
with_bit rows n b = set rows n (set (row_of rows n) b true)

module _ (rows : List (List Bool)) (n b : ℕ) (there : n < length rows) where
  -- the row that has it
  row_here : row_of (with_bit rows n b) n ≡ set (row_of rows n) b true
  row_here = get_or-set_same rows n (set (row_of rows n) b true) [] there

  -- the other rows
  row_other : (m : ℕ) → m ≢ n → row_of (with_bit rows n b) m ≡ row_of rows m
  row_other m other = get_or-set_other rows n m (set (row_of rows n) b true) [] other

  -- the bit itself, the others of its row, and those of the other rows
  bit_here : b < length (row_of rows n) → has_bit (with_bit rows n b) b n ≡ true
  bit_here within = ap (λ r. get_or r b false) row_here ∙ get_or-set_same (row_of rows n) b true false within

  bit_beside : (i : ℕ) → i ≢ b → has_bit (with_bit rows n b) i n ≡ has_bit rows i n
  bit_beside i other = ap (λ r. get_or r i false) row_here ∙ get_or-set_other (row_of rows n) b i true false other

  bit_elsewhere : (m i : ℕ) → m ≢ n → has_bit (with_bit rows n b) i m ≡ has_bit rows i m
  bit_elsewhere m i other = ap (λ r. get_or r i false) (row_other m other)

  -- as many rows and bits as before
  with_bit_alike : AreAlike rows (with_bit rows n b)
  with_bit_alike = record {
    len = length-set rows n (set (row_of rows n) b true);
    each = λ m m_in. elim (cases_eq m n) as (λ _. length (row_of (with_bit rows n b) m) ≡ length (row_of rows m)) [
      | inl same ↦ rw (same, row_here) (length-set (row_of rows n) b true)
      | inr other ↦ ap length (row_other m other)
    ];
  }

-- rows like rows that are like others
pub alike_on : (a b c : List (List Bool)) → AreAlike a b → AreAlike b c → AreAlike a c
alike_on a b c p q = record { len = q.len ∙ p.len; each = λ n below. q.each n (let same = p.len in omega (arith, below, same)) ∙ p.each n below }

-- rows are like themselves
pub alike_self : (a : List (List Bool)) → AreAlike a a
alike_self a = record { len = refl; each = λ n below. refl }

-- a bit or false is the bit
or_false : (x : Bool) → x ≡ (x || false)
or_false true = refl
or_false false = refl

-- and a bit or true is true
or_true : (x : Bool) → true ≡ (x || true)
or_true true = refl
or_true false = refl

-- ---- one row

-- the bits of the row below this number are put in, and those from it on are as before
pub record AddsUpTo (numbers : List ℕ) (node : ℕ) (row : List Bool) (from : ℕ) (old new : List (List Bool)) : Type 0 where
  pub alike : AreAlike old new
  pub others : (n b : ℕ) → n ≢ node → has_bit new b n ≡ has_bit old b n
  pub beside : (b : ℕ) → (HasNumber b numbers → ⊥) → has_bit new b node ≡ has_bit old b node
  pub done : (k b : ℕ) → k < from → slice_get numbers k ≡ Some b → has_bit new b node ≡ (has_bit old b node || row_bit row k)
  pub rest : (k b : ℕ) → from ≤ k → slice_get numbers k ≡ Some b → has_bit new b node ≡ has_bit old b node

module _ (numbers : List ℕ) (node : ℕ) (row : List Bool) (old : List (List Bool)) where
  -- at the start
  pub adds_none : AddsUpTo numbers node row 0 old old
  adds_none = record { alike = alike_self old; others = λ n b other. refl; beside = λ b low. refl; done = λ k b low at. absurd (omega (arith, low)); rest = λ k b low at. refl }

  -- the next true bit
  pub adds_more : (from bit number : ℕ) (mid new : List (List Bool)) → node < length old → number < length (row_of old node) → AllDiffer numbers → AddsUpTo numbers node row from old mid
      → IsTrueFrom (row_bit row) (length row) from bit → NoneTrue (row_bit row) from bit → slice_get numbers bit ≡ Some number → new ≡ with_bit mid node number → AddsUpTo numbers node row (bit + 1) old new
  adds_more from bit number mid new there within differ so_far found first_one here is = subst (AddsUpTo numbers node row (bit + 1) old) (sym is) (record {
    alike = alike_on old mid (with_bit mid node number) so_far.alike (with_bit_alike mid node number there_mid);
    others = λ n b other. bit_elsewhere mid node number there_mid n b other ∙ so_far.others n b other;
    beside = λ b apart. bit_beside mid node number there_mid b (λ e. apart (bit, here ∙ ap Some (sym e))) ∙ so_far.beside b apart;
    done = done_more;
    rest = λ k b late at. bit_beside mid node number there_mid b (λ e. absurd (let same = one_place numbers differ k bit number (at ∙ ap Some e) here in omega (arith, late, same))) ∙ so_far.rest k b (let low = found.0 in omega (arith, late, low)) at;
  })
    where
      there_mid : node < length mid
      there_mid = let same = so_far.alike.len in omega (arith, there, same)

      room : number < length (row_of mid node)
      room = let same = so_far.alike.each node there in omega (arith, same, within)

      -- a bit that was not true is as before
      off : (k b : ℕ) → k < bit → slice_get numbers k ≡ Some b → has_bit mid b node ≡ (has_bit old b node || row_bit row k)
      off k b low at = elim (dec_lt k from) as (λ _. has_bit mid b node ≡ (has_bit old b node || row_bit row k)) [
        | yes early ↦ so_far.done k b early at
        | no late ↦ (
            let from_on : from ≤ k = omega (arith, late) in
            so_far.rest k b from_on at ∙ rw (first_one k from_on low) (or_false (has_bit old b node)))
      ]

      done_more : (k b : ℕ) → k < bit + 1 → slice_get numbers k ≡ Some b → has_bit (with_bit mid node number) b node ≡ (has_bit old b node || row_bit row k)
      done_more k b low at = elim (cases_eq k bit) as (λ _. has_bit (with_bit mid node number) b node ≡ (has_bit old b node || row_bit row k)) [
        | inl same ↦ (
            let one : b ≡ number = cc in
            rw (one, same, found.2) (bit_here mid node number there_mid room ∙ or_true (has_bit old number node)))
        | inr other ↦ bit_beside mid node number there_mid b (λ e. other (one_place numbers differ k bit number (at ∙ ap Some e) here)) ∙ off k b (omega (arith, low, other)) at
      ]

  -- where no more bits are true, all is done
  pub adds_all : (from : ℕ) (new : List (List Bool)) → AddsUpTo numbers node row from old new → NoneTrue (row_bit row) from (length row) → AddsRow numbers node row old new
  adds_all from new so_far none = record { alike = so_far.alike; others = so_far.others; beside = so_far.beside; added = added }
    where
      off : (k : ℕ) → from ≤ k → row_bit row k ≡ false
      off k late = elim (dec_lt k (length row)) as (λ _. row_bit row k ≡ false) [ yes inside ↦ none k late inside | no past ↦ get_or_past row k false (omega (arith, past)) ]

      added : (k b : ℕ) → slice_get numbers k ≡ Some b → has_bit new b node ≡ (has_bit old b node || row_bit row k)
      added k b at = elim (dec_lt k from) as (λ _. has_bit new b node ≡ (has_bit old b node || row_bit row k)) [
        | yes early ↦ so_far.done k b early at
        | no late ↦ so_far.rest k b (omega (arith, late)) at ∙ rw (off k (omega (arith, late))) (or_false (has_bit old b node))
      ]

-- ---- all rows

-- the rows below this node have the bits of the part, and the others are as before
pub record AddsBelow (numbers : List ℕ) (part : List (List Bool)) (node : ℕ) (old new : List (List Bool)) : Type 0 where
  pub alike : AreAlike old new
  pub beside : (n b : ℕ) → (HasNumber b numbers → ⊥) → has_bit new b n ≡ has_bit old b n
  pub done : (n k b : ℕ) → n < node → slice_get numbers k ≡ Some b → has_bit new b n ≡ (has_bit old b n || has_bit part k n)
  pub rest : (n b : ℕ) → node ≤ n → has_bit new b n ≡ has_bit old b n

module _ (numbers : List ℕ) (part old : List (List Bool)) where
  -- at the start
  pub below_none : AddsBelow numbers part 0 old old
  below_none = record { alike = alike_self old; beside = λ n b low. refl; done = λ n k b low at. absurd (omega (arith, low)); rest = λ n b low. refl }

  -- one row more
  pub below_more : (node : ℕ) (mid new : List (List Bool)) → AddsBelow numbers part node old mid → AddsRow numbers node (row_of part node) mid new → AddsBelow numbers part (node + 1) old new
  below_more node mid new so_far row = record {
    alike = alike_on old mid new so_far.alike row.alike;
    beside = λ n b apart. elim (cases_eq n node) as (λ _. has_bit new b n ≡ has_bit old b n) [
      | inl same ↦ rw same (row.beside b apart ∙ so_far.beside node b apart)
      | inr other ↦ row.others n b other ∙ so_far.beside n b apart
    ];
    done = λ n k b low at. elim (cases_eq n node) as (λ _. has_bit new b n ≡ (has_bit old b n || has_bit part k n)) [
      | inl same ↦ rw same (row.added k b at ∙ ap (λ x. x || has_bit part k node) (so_far.rest node b (omega arith)))
      | inr other ↦ row.others n b other ∙ so_far.done n k b (omega (arith, low, other)) at
    ];
    rest = λ n b late. row.others n b (λ e. absurd (omega (arith, late, e))) ∙ so_far.rest n b (omega (arith, late));
  }

  -- after the last row
  pub below_all : (node : ℕ) (new : List (List Bool)) → length part ≤ node → AddsBelow numbers part node old new → AddsBits numbers part old new
  below_all node new late so_far = record { alike = so_far.alike; beside = so_far.beside; added = added }
    where
      added : (n k b : ℕ) → slice_get numbers k ≡ Some b → has_bit new b n ≡ (has_bit old b n || has_bit part k n)
      added n k b at = elim (dec_lt n node) as (λ _. has_bit new b n ≡ (has_bit old b n || has_bit part k n)) [
        | yes below ↦ so_far.done n k b below at
        | no past ↦ so_far.rest n b (omega (arith, past)) ∙ rw (ap (λ r. get_or r k false) (get_or_past part n [] (omega (arith, past, late)))) (or_false (has_bit old b n))
      ]
