-- How often each expression is evaluated on the path of the rewritten graph over a path: one of the table as often as
-- the placement counts, and any other as often as before.
use Rattle.std.proofs.Common.{◌≡◌, ℕ, Bool, true, false, not, ◌&&◌, eqb, List, [], ◌∷◌, length, count_by, slice_get, Option, Some, None, option_map, Contains, inl, inr, refl, sym, ap, ◌∙◌, arith}
use Rattle.std.proofs.lemmas.Option.{slice_get_within, get_or_from_slice_get}
use Rattle.std.proofs.lemmas.Bool.{cases_Bool, eqb-true, eqb-false, false≢true}
use Rattle.std.proofs.Math.Bool.{and-true}
use Rattle.mir_base.specs.declared.instructions.Operand.TheVariants.{Var}
use Rattle.mir_base.specs.declared.instructions.Rhs.{Rhs}
use Rattle.mir_base.specs.declared.instructions.Rhs.TheVariants.{Plain}
use Rattle.mir_base.specs.declared.instructions.Expr.{Expr}
use Rattle.mir_base.specs.Shapes.{AllBelow, AllDiffer}
use Rattle.mir_base.specs.ExpressionVars.{rhs_of}
use Rattle.mir_base.specs.SameExpressions.{expr_is, expr_itself, is_expr, of_rhs, same_expr}
use Rattle.flow_graph.specs.declared.nodes.Node.{Node}
use Rattle.flow_graph.specs.declared.nodes.Node.TheVariants.{Start, Skip, Assign, Print, Guard, Call, Test, Return}
use Rattle.flow_graph.specs.Graphs.{GraphShape, rhs_at}
use Rattle.graph_edit.specs.InsertionPaths.{over_weight}
use Rattle.graph_edit.specs.Over.{weigh, weigh_all, weight_at, new_weight_at, over_path}
use Rattle.graph_edit.specs.Insertions.{Replaced, changed, rewritten_nodes}
use Rattle.flow_graph.specs.Sums.{one_if, sum_on, count_sums, on_same}
use Rattle.flow_graph.specs.Numbering.{is_in}
use Rattle.path_laws.specs.Paths.{has_bit}
use Rattle.motion_rewrite.specs.declared.placement.Placement.{Placement}
use Rattle.motion_rewrite.specs.Expressions.{uses}
use Rattle.motion_rewrite.specs.Flatten.{inserted, insertions_of, reading}
use Rattle.motion_rewrite.specs.PlacementLaws.{count_sum}
use Rattle.motion_rewrite.specs.Placements.{count, evaluations_at, places_of}
use Rattle.motion_rewrite.proofs.Insertions.{among_inserted, head_or_none, once_inserted}
use Rattle.motion_rewrite.specs.UseLaws.{used_once}
use Rattle.motion_rewrite.proofs.Evaluations.{unchanged_weight}
use Rattle.motion_rewrite.proofs.Rewriting.{one_more}
use Rattle.motion_rewrite.proofs.RowNumbers.{AllKnown}
use Rattle.motion_rewrite.proofs.Rewritable.{IsRewritable, first_bit, known, replaced_use, rewriting_by, temps_of}
use Rattle.mir_base.specs.ItemLaws.{one_place}

-- the expression, where there is one, is e
abbrev is_at : Expr → Option Expr → Bool
is_at e None = false
is_at e (Some other) = same_expr e other

-- so it is e
at_is : (e : Expr) (o : Option Expr) → is_at e o ≡ true → o ≡ Some e
at_is e None is = absurd (false≢true is)
at_is e (Some other) is = ap Some (sym (expr_is e other is))

-- a sum of zeros
sum_zero : (numbers : List ℕ) → sum_on (λ j. 0) numbers ≡ 0
sum_zero [] = refl
sum_zero (j ∷ numbers) = let ih = sum_zero numbers in omega (arith, ih)

-- an expression of the table stands at its number alone
one_number : (table : List Expr) → AllDiffer table → (i : ℕ) (e : Expr) → slice_get table i ≡ Some e → (j : ℕ) → is_at e (slice_get table j) ≡ eqb j i
one_number table differ i e at_i j = elim (cases_Bool (eqb j i)) [
  | inl is ↦ ap (λ k. is_at e (slice_get table k)) (eqb-true j i is) ∙ ap (is_at e) at_i ∙ expr_itself e ∙ sym is
  | inr other ↦ elim (cases_Bool (is_at e (slice_get table j))) [
    | inl is ↦ absurd (eqb-false j i other (one_place table differ j i e (at_is e (slice_get table j) is) at_i))
    | inr unlike ↦ unlike ∙ sym other
  ]
]

-- one that is not in the table stands at none
no_number : (table : List Expr) (e : Expr) → (Contains table e → ⊥) → (j : ℕ) → is_at e (slice_get table j) ≡ false
no_number table e out j = elim (cases_Bool (is_at e (slice_get table j))) [
  | inl is ↦ let at_j = at_is e (slice_get table j) is in absurd (out (j, slice_get_within table j e at_j, get_or_from_slice_get table j e e at_j))
  | inr unlike ↦ unlike
]

-- ---- as weights

-- one where the right side is e
abbrev being : Expr → ℕ → Rhs → ℕ
being e x rhs = one_if (is_expr e (Some rhs))

-- a node weighs one where it uses e
use_weight : (e : Expr) (o : Option Node) → one_if (is_expr e (rhs_at o)) ≡ weigh (being e) o
use_weight e None = refl
use_weight e (Some (Start next)) = refl
use_weight e (Some (Skip next)) = refl
use_weight e (Some (Assign x rhs next)) = refl
use_weight e (Some (Print a next)) = refl
use_weight e (Some (Guard test number next)) = refl
use_weight e (Some (Call into unit operands next)) = refl
use_weight e (Some (Test test taken other)) = refl
use_weight e (Some (Return a)) = refl

-- and what is put before a node, as many as assign e
puts_weight : (temp : ℕ → ℕ) (table : List Expr) (e : Expr) (numbers : List ℕ) → AllKnown table numbers → weigh_all (being e) (insertions_of temp table numbers) ≡ sum_on (λ j. one_if (is_at e (slice_get table j))) numbers
puts_weight temp table e [] known = refl
puts_weight temp table e (i ∷ numbers) known =
    let d = known.0.0 in
    let first : one_if (is_expr e (Some (rhs_of d))) ≡ one_if (is_at e (slice_get table i)) = ap one_if (of_rhs e d ∙ ap (is_at e) (sym known.0.1)) in
    let all = ap (weigh_all (being e)) (one_more temp table i d numbers known.0.1) in
    omega (arith, all, first, puts_weight temp table e numbers known.1)

-- a node that reads a temporary has a plain right side
read_weight : (e : Expr) (x : ℕ) (o : Option Node) → weigh (being e) (option_map (changed (Replaced (Plain (Var x)))) o) ≡ 0
read_weight e x None = refl
read_weight e x (Some (Start next)) = refl
read_weight e x (Some (Skip next)) = refl
read_weight e x (Some (Assign y rhs next)) = refl
read_weight e x (Some (Print a next)) = refl
read_weight e x (Some (Guard test number next)) = refl
read_weight e x (Some (Call into unit operands next)) = refl
read_weight e x (Some (Test test taken other)) = refl
read_weight e x (Some (Return a)) = refl

-- nothing is left where the second follows from the first
and_not : (b c : Bool) → (b ≡ true → c ≡ true) → (b && not c) ≡ false
and_not true c so = ap not (so refl)
and_not false c so = refl

module _ {graph : GraphShape} {table : List Expr} {p : Placement} (r : IsRewritable graph table p) (differ : AllDiffer table) where
  -- the temporaries
  abbrev temp : ℕ → ℕ
  temp = temps_of graph p

  -- the weight of what becomes of a node
  abbrev made : Expr → ℕ → ℕ
  made e n = weigh (being e) (option_map (changed (reading temp (inserted p.replace n))) (slice_get graph.nodes n))

  -- a node that reads no temporary stays, and one that reads one uses no expression
  unread : (e : Expr) (n : ℕ) → inserted p.replace n ≡ [] → made e n ≡ one_if (uses graph e n)
  unread e n none = ap (λ l. weigh (being e) (option_map (changed (reading temp l)) (slice_get graph.nodes n))) none ∙ unchanged_weight (being e) (slice_get graph.nodes n) ∙ sym (use_weight e (slice_get graph.nodes n))

  read : (e : Expr) (n i : ℕ) (rest : List ℕ) → inserted p.replace n ≡ i ∷ rest → made e n ≡ 0
  read e n i rest first = ap (λ l. weigh (being e) (option_map (changed (reading temp l)) (slice_get graph.nodes n))) first ∙ read_weight e (temp i) (slice_get graph.nodes n)

  -- an expression of the table is used where it was, and the use is not replaced
  own_use : (i : ℕ) (e : Expr) → slice_get table i ≡ Some e → (n : ℕ) → made e n ≡ one_if (uses graph e n && not (has_bit p.replace i n))
  own_use i e at_i n = elim (head_or_none (inserted p.replace n)) [
    | inl none ↦
        let unset : has_bit p.replace i n ≡ false = sym (among_inserted p.replace n i) ∙ ap (is_in i) none in
        unread e n none ∙ ap one_if (sym (and-true (uses graph e n)) ∙ ap (λ b. uses graph e n && not b) (sym unset))
    | inr first ↦
        let set = first_bit r n first.0 first.1 first.2 in
        let u = replaced_use r n first.0 set in
        read e n first.0 first.1 first.2
        ∙ sym (ap one_if (and_not (uses graph e n) (has_bit p.replace i n) (λ used. ap (λ k. has_bit p.replace k n) (one_place table differ i first.0 e at_i (u.1 ∙ ap Some (used_once graph u.0 e n u.2 used))) ∙ set)))
  ]

  -- any other is used where it was
  other_use : (e : Expr) → (Contains table e → ⊥) → (n : ℕ) → made e n ≡ one_if (uses graph e n)
  other_use e out n = elim (head_or_none (inserted p.replace n)) [
    | inl none ↦ unread e n none
    | inr first ↦
        let u = replaced_use r n first.0 (first_bit r n first.0 first.1 first.2) in
        let none : uses graph e n ≡ false = elim (cases_Bool (uses graph e n)) [
          | inl used ↦
              let at_i = u.1 ∙ ap Some (used_once graph u.0 e n u.2 used) in
              absurd (out (first.0, slice_get_within table first.0 e at_i, get_or_from_slice_get table first.0 e e at_i))
          | inr unused ↦ unused
        ] in
        read e n first.0 first.1 first.2 ∙ sym (ap one_if none)
  ]

  -- ---- on the whole path

  -- the corresponding path of the rewritten graph
  abbrev over : List ℕ → List ℕ
  over path = over_path (rewriting_by graph table p).inserts (length graph.nodes) path

  abbrev result : GraphShape
  result = record graph { nodes = rewritten_nodes (rewriting_by graph table p) graph.nodes }

  -- where the nodes weigh so, the uses on the corresponding path sum so
  over_counts : (e : Expr) (own : ℕ → ℕ) → ((n : ℕ) → new_weight_at (being e) (rewriting_by graph table p) graph.nodes n ≡ own n) → (path : List ℕ) → AllBelow (length graph.nodes) path → count_by (uses result e) (over path) ≡ sum_on own path
  over_counts e own each path within =
      count_sums (uses result e) (over path)
      ∙ on_same (λ m. one_if (uses result e m)) (weight_at (being e) result.nodes) (over path) (λ m. use_weight e (slice_get result.nodes m))
      ∙ over_weight (rewriting_by graph table p) graph.nodes (being e) path within
      ∙ on_same (new_weight_at (being e) (rewriting_by graph table p) graph.nodes) own path each

  -- an expression of the table
  pub counted : (i : ℕ) (e : Expr) → slice_get table i ≡ Some e → (path : List ℕ) → AllBelow (length graph.nodes) path → count_by (uses (record graph { nodes = rewritten_nodes (rewriting_by graph table p) graph.nodes }) e) (over_path (rewriting_by graph table p).inserts (length graph.nodes) path) ≡ count graph e (places_of p i) path
  counted i e at_i path within =
      over_counts e (evaluations_at graph e (places_of p i)) (λ n. (let news = puts_weight temp table e (inserted p.insert n) (known r n) ∙ on_same (λ j. one_if (is_at e (slice_get table j))) (λ j. one_if (eqb j i)) (inserted p.insert n) (λ j. ap one_if (one_number table differ i e at_i j)) ∙ once_inserted p.insert n i in
      let olds = own_use i e at_i n in
      omega (arith, news, olds))) path within
      ∙ sym (count_sum graph e (places_of p i) path)

  -- any other expression
  pub others : (e : Expr) → (Contains table e → ⊥) → (path : List ℕ) → AllBelow (length graph.nodes) path → count_by (uses (record graph { nodes = rewritten_nodes (rewriting_by graph table p) graph.nodes }) e) (over_path (rewriting_by graph table p).inserts (length graph.nodes) path) ≡ count_by (uses graph e) path
  others e out path within =
      over_counts e (λ n. one_if (uses graph e n)) (λ n. (let news = puts_weight temp table e (inserted p.insert n) (known r n) ∙ on_same (λ j. one_if (is_at e (slice_get table j))) (λ j. 0) (inserted p.insert n) (λ j. ap one_if (no_number table e out j)) ∙ sum_zero (inserted p.insert n) in
      let olds = other_use e out n in
      omega (arith, news, olds))) path within
      ∙ sym (count_sums (uses graph e) path)
