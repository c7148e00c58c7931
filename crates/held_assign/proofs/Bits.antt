-- The bits of the rows of assignments: what the variable that a node assigns says of one, and rows as functions of their
-- number.
use Rattle.std.proofs.Common.{◌≡◌, inl, inr, ℕ, ◌≤◌, Bool, false, nat_eq, nat_lt, ◌||◌, None, refl, List, [], length, get_or, slice_get, Option, Some, sym, ap, ◌∙◌, arith}
use Rattle.std.proofs.Math.Path.{fun_ext}
use Rattle.std.specs.List.{list_any}
use Rattle.std.proofs.lemmas.Bool.{cases_lt}
use Rattle.std.proofs.lemmas.List.{get_or_past}
use Rattle.bit_rows.specs.Bits.{row_of}
use Rattle.flow_graph.specs.declared.nodes.Node.{Node}
use Rattle.flow_graph.specs.declared.nodes.Node.TheVariants.{Start, Skip, Assign, Print, Guard, Call, Test, Return}
use Rattle.flow_graph.specs.Graphs.{GraphShape}
use Rattle.flow_graph.specs.Numbering.{is_in}
use Rattle.flow_graph.specs.NumberingLaws.{in_any}
use Rattle.graph_edit.specs.VarLaws.{any_either, assigns_none}
use Rattle.key_rows.specs.BelowLaws.{any_in}
use Rattle.key_rows.specs.KeyRows.{AreKeyRows, any_assigned}
use Rattle.path_laws.specs.Paths.{has_bit}
use Rattle.held_assign.specs.declared.table.Assignment.{Assignment}
use Rattle.held_assign.specs.Holding.{assigns_one}

-- a node assigns one of these variables where the variable that it assigns is one
pub assigns_in : (graph : GraphShape) (xs : List ℕ) (node : Option Node) → any_assigned false graph.shared (λ x. is_in x xs) node ≡ assigns_one graph xs node
assigns_in graph xs None = refl
assigns_in graph xs (Some (Start next)) = sym (assigns_none xs)
assigns_in graph xs (Some (Skip next)) = sym (assigns_none xs)
assigns_in graph xs (Some (Assign x rhs next)) = in_any x xs
assigns_in graph xs (Some (Print a next)) = sym (assigns_none xs)
assigns_in graph xs (Some (Guard test number next)) = sym (assigns_none xs)
assigns_in graph xs (Some (Call None unit arguments next)) = any_in graph.shared xs
assigns_in graph xs (Some (Call (Some x) unit arguments next)) =
    ap (λ b. b || is_in x xs) (any_in graph.shared xs) ∙ ap (λ b. list_any (λ y. nat_lt y graph.shared) xs || b) (in_any x xs) ∙ sym (any_either (λ y. nat_lt y graph.shared) (λ y. nat_eq y x) xs)
assigns_in graph xs (Some (Test test taken other)) = sym (assigns_none xs)
assigns_in graph xs (Some (Return a)) = sym (assigns_none xs)

-- ---- rows as functions of the number of the row

-- the bits of one assignment are the test of it, where this is false past the last row
pub whole_rows : (count : ℕ) (table : List Assignment) (holds : Assignment → ℕ → Bool) (rows : List (List Bool)) (i : ℕ) (a : Assignment) → slice_get table i ≡ Some a → ((n : ℕ) → count ≤ n → holds a n ≡ false) → AreKeyRows count table holds rows → has_bit rows i ≡ holds a
whole_rows count table holds rows i a at past is = fun_ext (λ n. elim (cases_lt n count) as (λ _. has_bit rows i n ≡ holds a n) [
  | inl lt ↦ is.bits n i a lt at
  | inr ge ↦ (let late : length rows ≤ n = omega (arith, ge, is.shape.len) in
      let none : row_of rows n ≡ [] = get_or_past rows n [] late in
      ap (λ r. get_or r i false) none ∙ sym (past n (omega (arith, ge))))
])
