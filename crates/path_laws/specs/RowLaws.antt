-- Rows written one at a time, and their shape. `Written` and `Joined` are cited by contracts, the laws by proofs, also
-- above this crate.
use Rattle.std.proofs.Common.{◌≡◌, ◌≢◌, ◌||◌, ℕ, ◌<◌, Bool, List, [], length, set, sym, ap, inl, inr, arith, ◌∙◌}
use Rattle.std.proofs.lemmas.Bool.{cases_eq}
use Rattle.std.proofs.lemmas.List.{get_or-set_same, get_or-set_other, length-set}
use Rattle.bit_rows.specs.Bits.{AreAlike, row_of}
use Rattle.path_laws.specs.Paths.{AreRows, has_bit, width}

-- one row is this, and the others are as before
pub record Written (rows after : List (List Bool)) (node : ℕ) (row : List Bool) : Type 0 where
  pub len : length after ≡ length rows
  pub here : row_of after node ≡ row
  pub others : (n : ℕ) → n ≢ node → row_of after n ≡ row_of rows n

-- to one row these of so many bits are joined, and the others are as before
pub record Joined (bits : ℕ) (rows after : List (List Bool)) (node : ℕ)
    (bit : ℕ → Bool) : Type 0 where
  pub len : length after ≡ length rows
  pub long : length (row_of after node) ≡ length (row_of rows node)
  pub here : (b : ℕ) → b < bits → has_bit after b node ≡ (has_bit rows b node || bit b)
  pub others : (n : ℕ) → n ≢ node → row_of after n ≡ row_of rows n

-- a row that was set was written
pub put : (rows after : List (List Bool)) (node : ℕ) (row : List Bool) → node < length rows → after ≡ set rows node row → Written rows after node row
put rows after node row h is = record {
  len = ap length is ∙ length-set rows node row;
  here = rw is (get_or-set_same rows node row [] h);
  others = λ n d. rw is (get_or-set_other rows node n row [] d);
}

-- a row that was written is made anew from itself
pub remade : (rows put after : List (List Bool)) (node : ℕ) (row : List Bool) (f : List Bool → List Bool)
    → node < length rows → Written rows put node row → after ≡ set put node (f (row_of put node))
    → Written rows after node (f row)
remade rows put after node row f h made is =
    let new = f (row_of put node) in
    let at : row_of after node ≡ new = rw is (get_or-set_same put node new [] (rw made.len h)) in
    record {
      len = ap length is ∙ length-set put node new ∙ made.len;
      here = at ∙ ap f made.here;
      others = λ n d.
          let same : row_of after n ≡ row_of put n = rw is (get_or-set_other put node n new [] d) in
          same ∙ made.others n d;
    }

-- a row is put, and then made anew from itself
pub written : (rows put after : List (List Bool)) (node : ℕ) (row : List Bool) (f : List Bool → List Bool)
    → node < length rows → put ≡ set rows node row → after ≡ set put node (f (row_of put node))
    → Written rows after node (f row)
written rows mid after node row f h put_is after_is = remade rows mid after node row f h (put rows mid node row h put_is) after_is

-- writing a row of the right length keeps the shape
pub written_shape : (nodes bits node : ℕ) (rows after : List (List Bool)) (row : List Bool) → AreRows nodes bits rows
    → Written rows after node row → length row ≡ bits → AreRows nodes bits after
written_shape nodes bits node rows after row shape made long = record {
  len = made.len ∙ shape.len;
  each = λ n h. elim (cases_eq n node) as (λ _. length (row_of after n) ≡ bits) [
    | inl e ↦ rw (e, made.here) long
    | inr d ↦ rw (made.others n d) (shape.each n h)
  ];
}

-- ---- how many bits there are

-- where there is a node, the first row tells it
pub width_is : (nodes bits n : ℕ) (rows : List (List Bool)) → AreRows nodes bits rows → n < nodes → width rows ≡ bits
width_is nodes bits n rows shape h = shape.each 0 (omega (arith, h))

-- so the shape can be said with the width of the first rows
pub as_wide : (nodes bits : ℕ) (first rows : List (List Bool)) → AreRows nodes bits first → AreRows nodes bits rows → AreRows nodes (width first) rows
as_wide nodes bits first rows shape is = record { len = is.len; each = λ n h. is.each n h ∙ sym (width_is nodes bits n first shape h) }

-- and rows that have the width of the first ones have so many bits
pub rows_as_many : (nodes bits : ℕ) (first rows : List (List Bool)) → AreRows nodes bits first → AreRows nodes (width first) rows → AreRows nodes bits rows
rows_as_many nodes bits first rows shape is = record { len = is.len; each = λ n h. is.each n h ∙ width_is nodes bits n first shape h }

-- ---- rows of one shape

-- rows of one shape are alike
pub are_alike : (nodes bits : ℕ) (rows other : List (List Bool)) → AreRows nodes bits rows → AreRows nodes bits other → AreAlike rows other
are_alike nodes bits rows other are is = record {
  len = is.len ∙ sym are.len;
  each = λ n h. let h' : n < nodes = rw are.len at h in is.each n h' ∙ sym (are.each n h');
}

-- and what is alike to rows has their shape
pub like_rows : (nodes bits : ℕ) (rows made : List (List Bool)) → AreRows nodes bits rows → AreAlike rows made → AreRows nodes bits made
like_rows nodes bits rows made are alike = record { len = alike.len ∙ are.len; each = λ n h. alike.each n (rw are.len h) ∙ are.each n h }
