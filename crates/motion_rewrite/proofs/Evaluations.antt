-- The evaluations on the corresponding path of the rewritten graph: with those of the table's expressions in the old
-- graph added they are as many as the old graph's with those that the placement counts. So they are no more where the
-- placement is no dearer.
use Rattle.std.proofs.Common.{◌≡◌, ℕ, zero, suc, ◌+◌, ◌<◌, ◌≤◌, Bool, true, false, not, ◌&&◌, List, [], ◌∷◌, length, count_by, slice_get, slice_index_or, Option, Some, None, option_map, ◌⊎◌, inl, inr, refl, sym, ap, ◌∙◌, subst, arith}
use Rattle.std.proofs.lemmas.Bool.{cases_Bool, cases_lt}
use Rattle.std.proofs.lemmas.Option.{slice_get_within}
use Rattle.mir_base.specs.declared.instructions.Expr.{Expr}
use Rattle.mir_base.specs.declared.instructions.Rhs.{Rhs}
use Rattle.mir_base.specs.Shapes.{AllDiffer}
use Rattle.mir_base.specs.ExpressionVars.{rhs_of}
use Rattle.bit_rows.specs.Bits.{row_of}
use Rattle.flow_graph.specs.declared.nodes.Node.{Node}
use Rattle.flow_graph.specs.declared.nodes.Node.TheVariants.{Assign}
use Rattle.flow_graph.specs.Graphs.{GraphShape}
use Rattle.flow_graph.specs.ListLaws.{some_at}
use Rattle.flow_graph.specs.NodeLaws.{option_map_itself}
use Rattle.graph_edit.specs.ChangeLaws.{changed_not}
use Rattle.graph_edit.specs.Over.{weigh, weigh_all, weight_at, new_weight_at}
use Rattle.graph_edit.specs.InsertionRuns.{counts, CountsNoMore}
use Rattle.graph_edit.specs.Insertions.{Unchanged, changed}
use Rattle.flow_graph.specs.Sums.{one_if, sum_on, count_sums, on_plus, on_same}
use Rattle.path_laws.specs.Paths.{has_bit}
use Rattle.motion_rewrite.specs.declared.placement.Placement.{Placement}
use Rattle.motion_rewrite.specs.Expressions.{uses}
use Rattle.motion_rewrite.specs.PlacementLaws.{count_sum}
use Rattle.motion_rewrite.specs.Placements.{IsNoDearer, count, evaluations_at, places_of}
use Rattle.motion_rewrite.specs.Flatten.{set_from, inserted, insertions_of, reading}
use Rattle.motion_rewrite.specs.UseLaws.{uses_assign, used_once}
use Rattle.motion_rewrite.proofs.Insertions.{lists_none, lists_some}
use Rattle.motion_rewrite.proofs.Rewriting.{one_more}
use Rattle.motion_rewrite.proofs.RowNumbers.{AllKnown, row_short}
use Rattle.motion_rewrite.proofs.Sums.{sum_below, sum_plus, sum_same, sum_least, sum_none, on_below}
use Rattle.mir_base.specs.ExpressionLaws.{expr_counts}
use Rattle.motion_rewrite.proofs.Rewritable.{IsRewritable, known, replaced_use, rewriting_by, temps_of}
use Rattle.mir_base.specs.ItemLaws.{one_place}

-- the first number below k with a bit, if there is one
some_or_none : (k : ℕ) (b : ℕ → Bool) → ((i : ℕ) × (i < k) × (b i ≡ true)) ⊎ ((i : ℕ) → i < k → b i ≡ false)
some_or_none zero b = inr (λ i lt. absurd (omega (arith, lt)))
some_or_none (suc k) b = elim (some_or_none k b) [
  | inl r ↦ inl (r.0, omega (arith, r.1), r.2)
  | inr none ↦ elim (cases_Bool (b k)) [
    | inl is ↦ inl (k, omega arith, is)
    | inr no_one ↦ inr (λ i lt. elim (cases_lt i k) [ inl less ↦ none i less | inr ge ↦ let same : k ≡ i = omega (arith, lt, ge) in subst (λ j. b j ≡ false) same no_one ])
  ]
]

-- where one bit alone is set, the bits sum to one
one_alone : (k : ℕ) (b : ℕ → Bool) (i : ℕ) → i < k → b i ≡ true → ((j : ℕ) → b j ≡ true → j ≡ i) → sum_below k (λ j. one_if (b j)) ≡ 1
one_alone zero b i lt set alone = absurd (omega (arith, lt))
one_alone (suc k) b zero lt set alone =
    let rest = sum_none k (λ j. one_if (b (suc j))) (λ j. elim (cases_Bool (b (suc j))) [ inl is ↦ omega (arith, alone (suc j) is) | inr none ↦ ap one_if none ]) in
    omega (arith, rest, ap one_if set)
one_alone (suc k) b (suc i) lt set alone =
    let rest = one_alone k (λ j. b (suc j)) i (omega (arith, lt)) set (λ j is. omega (arith, alone (suc j) is)) in
    let first : one_if (b 0) ≡ 0 = elim (cases_Bool (b 0)) [ inl is ↦ omega (arith, alone 0 is) | inr none ↦ ap one_if none ] in
    omega (arith, rest, first)

-- as many numbers are listed as bits are set
set_length : (m k : ℕ) (bits : List Bool) → length bits ≤ m → length (set_from k bits) ≡ sum_below m (λ i. one_if (slice_index_or bits i false))
set_length m k [] le = sym (sum_none m (λ i. 0) (λ i. refl))
set_length zero k (b ∷ bits) le = absurd (omega (arith, le))
set_length (suc m) k (true ∷ bits) le = omega (arith, set_length m (suc k) bits (omega (arith, le)))
set_length (suc m) k (false ∷ bits) le = omega (arith, set_length m (suc k) bits (omega (arith, le)))

-- a node that stays weighs as before
pub unchanged_weight : (f : ℕ → Rhs → ℕ) (o : Option Node) → weigh f (option_map (changed Unchanged) o) ≡ weigh f o
unchanged_weight f o = ap (weigh f) (option_map_itself (changed Unchanged) changed_not o)

-- each insertion counts one
puts_count : (temp : ℕ → ℕ) (table : List Expr) (numbers : List ℕ) → AllKnown table numbers → weigh_all counts (insertions_of temp table numbers) ≡ length numbers
puts_count temp table [] known = refl
puts_count temp table (i ∷ numbers) known =
    let all = ap (weigh_all counts) (one_more temp table i known.0.0 numbers known.0.1) in
    omega (arith, all, expr_counts known.0.0, puts_count temp table numbers known.1)

-- one expression at one node: `r` that it is replaced, `u` used, `i` inserted
one_expression : (i u r : Bool) → (r ≡ true → u ≡ true) → (one_if i + one_if (u && not r)) + one_if r ≡ one_if i + one_if u
one_expression i u true uses = let is = uses refl in subst (λ b. (one_if i + one_if (b && false)) + 1 ≡ one_if i + one_if b) (sym is) (omega arith)
one_expression i true false uses = omega arith
one_expression i false false uses = omega arith

-- ---- counts

-- node n uses the expression, where there is one
abbrev pub used : GraphShape → Option Expr → ℕ → Bool
used graph None n = false
used graph (Some e) n = uses graph e n

module _ {graph : GraphShape} {table : List Expr} {p : Placement} (r : IsRewritable graph table p) (differ : AllDiffer table) where
  -- the temporaries
  abbrev temp : ℕ → ℕ
  temp = temps_of graph p

  -- how many expressions there are
  abbrev size : ℕ
  size = length table

  -- whether the graph evaluates expression i at node n, and how often the placement does
  abbrev evaluated_without : ℕ → ℕ → ℕ
  evaluated_without i n = one_if (used graph (slice_get table i) n)

  abbrev evaluated_with : ℕ → ℕ → ℕ
  evaluated_with i n = one_if (has_bit p.insert i n) + one_if (used graph (slice_get table i) n && not (has_bit p.replace i n))

  -- a node replaces one expression at most
  pub replaced_alone : (n i j : ℕ) → has_bit p.replace i n ≡ true → has_bit p.replace j n ≡ true → j ≡ i
  replaced_alone n i j at_i at_j =
      let a = replaced_use r n i at_i in
      let b = replaced_use r n j at_j in
      one_place table differ j i a.0 (b.1 ∙ ap Some (used_once graph b.0 a.0 n b.2 a.2)) a.1

  -- what becomes of a node counts one less where the node is replaced
  abbrev own : ℕ → ℕ
  own n = weigh counts (option_map (changed (reading temp (inserted p.replace n))) (slice_get graph.nodes n))

  own_count : (n : ℕ) → own n + sum_below size (λ i. one_if (has_bit p.replace i n)) ≡ weight_at counts graph.nodes n
  own_count n = elim (some_or_none size (λ i. has_bit p.replace i n)) [
    | inl found_bit ↦
        let u = replaced_use r n found_bit.0 found_bit.2 in
        let found = uses_assign graph u.0 n u.2 in
        let one = one_alone size (λ i. has_bit p.replace i n) found_bit.0 found_bit.1 found_bit.2 (λ j. replaced_alone n found_bit.0 j found_bit.2) in
        let first = lists_some p.replace n found_bit.0 found_bit.2 in
        let free : own n ≡ 0 = ap (λ o. weigh counts (option_map (changed (reading temp (inserted p.replace n))) o)) found.2 ∙ ap (λ l. weigh counts (Some (changed (reading temp l) (Assign found.0 (rhs_of u.0) found.1)))) first.2 in
        let full : weight_at counts graph.nodes n ≡ 1 = ap (weigh counts) found.2 ∙ expr_counts u.0 in
        omega (arith, one, free, full)
    | inr none ↦
        let all : (i : ℕ) → has_bit p.replace i n ≡ false = λ i. elim (cases_Bool (has_bit p.replace i n)) [
          | inl is ↦ let u = replaced_use r n i is in none i (slice_get_within table i u.0 u.1)
          | inr no_one ↦ no_one
        ] in
        let zero_sum = sum_none size (λ i. one_if (has_bit p.replace i n)) (λ i. ap one_if (all i)) in
        let same : own n ≡ weight_at counts graph.nodes n = ap (λ l. weigh counts (option_map (changed (reading temp l)) (slice_get graph.nodes n))) (lists_none p.replace n all) ∙ unchanged_weight counts (slice_get graph.nodes n) in
        omega (arith, zero_sum, same)
  ]

  -- what is replaced is used
  replaced_used : (n i : ℕ) → has_bit p.replace i n ≡ true → used graph (slice_get table i) n ≡ true
  replaced_used n i set = let u = replaced_use r n i set in ap (λ o. used graph o n) u.1 ∙ u.2

  -- ---- at one node, on a path, and compared

  at_node : (n : ℕ) → new_weight_at counts (rewriting_by graph table p) graph.nodes n + sum_below size (λ i. evaluated_without i n) ≡ weight_at counts graph.nodes n + sum_below size (λ i. evaluated_with i n)
  at_node n =
      let insertions = set_length size 0 (row_of p.insert n) (row_short (length graph.nodes) (length table) p.insert r.insert n) in
      let own_is = own_count n in
      let puts = puts_count temp table (inserted p.insert n) (known r n) in
      let each = sum_same size (λ i. evaluated_with i n + one_if (has_bit p.replace i n)) (λ i. one_if (has_bit p.insert i n) + evaluated_without i n) (λ i lt. one_expression (has_bit p.insert i n) (used graph (slice_get table i) n) (has_bit p.replace i n) (replaced_used n i)) in
      let left = sum_plus size (λ i. evaluated_with i n) (λ i. one_if (has_bit p.replace i n)) in
      let right = sum_plus size (λ i. one_if (has_bit p.insert i n)) (λ i. evaluated_without i n) in
      omega (arith, insertions, puts, own_is, each, left, right)

  on_path : (path : List ℕ) → sum_on (new_weight_at counts (rewriting_by graph table p) graph.nodes) path + sum_below size (λ i. sum_on (evaluated_without i) path) ≡ sum_on (weight_at counts graph.nodes) path + sum_below size (λ i. sum_on (evaluated_with i) path)
  on_path path =
      let same = on_same (λ n. new_weight_at counts (rewriting_by graph table p) graph.nodes n + sum_below size (λ i. evaluated_without i n)) (λ n. weight_at counts graph.nodes n + sum_below size (λ i. evaluated_with i n)) path at_node in
      let left = on_plus (new_weight_at counts (rewriting_by graph table p) graph.nodes) (λ n. sum_below size (λ i. evaluated_without i n)) path in
      let right = on_plus (weight_at counts graph.nodes) (λ n. sum_below size (λ i. evaluated_with i n)) path in
      omega (arith, same, left, right, on_below size evaluated_without path, on_below size evaluated_with path)

  -- the sums are the counts of the placement, and of the uses
  counts_with : (i : ℕ) (e : Expr) (path : List ℕ) → slice_get table i ≡ Some e → count graph e (places_of p i) path ≡ sum_on (evaluated_with i) path
  counts_with i e path at_i =
      count_sum graph e (places_of p i) path
      ∙ sym (on_same (evaluated_with i) (evaluations_at graph e (places_of p i)) path (λ n. ap (λ o. one_if (has_bit p.insert i n) + one_if (used graph o n && not (has_bit p.replace i n))) at_i))

  counts_without : (i : ℕ) (e : Expr) (path : List ℕ) → slice_get table i ≡ Some e → count_by (uses graph e) path ≡ sum_on (evaluated_without i) path
  counts_without i e path at_i = count_sums (uses graph e) path ∙ sym (on_same (evaluated_without i) (λ n. one_if (uses graph e n)) path (λ n. ap (λ o. one_if (used graph o n)) at_i))

  -- so the new nodes evaluate no more operators
  pub counts_no_more : IsNoDearer graph table p → CountsNoMore (rewriting_by graph table p) graph.nodes
  counts_no_more no_dearer path full =
      let least = sum_least size (λ i. sum_on (evaluated_with i) path) (λ i. sum_on (evaluated_without i) path) (λ i lt. (let e = some_at table i lt in
      let fewer = no_dearer.no_dearer i e.0 e.1 path full in
      let left = counts_with i e.0 path e.1 in
      let right = counts_without i e.0 path e.1 in
      omega (arith, fewer, left, right))) in
      omega (arith, on_path path, least)
