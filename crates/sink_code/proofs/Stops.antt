-- The node that stops a pattern is the first of a block that blocks it.
use Rattle.std.proofs.Common.{◌≡◌, ℕ, zero, suc, ◌+◌, ◌-◌, ◌<◌, ◌≤◌, ◌||◌, not, true, false, List, [], ◌∷◌, drop, get_or, length, slice_get, Option, Some, None, refl, sym, ap, inl, inr, ◌∙◌, arith, true≢false, zero-add}
use Rattle.std.specs.List.{list_any}
use Rattle.std.proofs.Math.Bool.{or_assoc}
use Rattle.std.proofs.lemmas.Bool.{cases_Bool, not-true, or_right}
use Rattle.std.proofs.lemmas.List.{length-drop}
use Rattle.std.proofs.lemmas.List.Folds.{list_any_at}
use Rattle.std.proofs.lemmas.Option.{get_or_from_slice_get, slice_get_within}
use Rattle.mir_base.specs.declared.instructions.Rhs.{Rhs}
use Rattle.mir_base.specs.Shapes.{rhs_vars}
use Rattle.flow_graph.specs.declared.nodes.Node.{Node}
use Rattle.flow_graph.specs.declared.nodes.Node.TheVariants.{Start, Skip, Assign, Print, Guard, Call, Test, Return}
use Rattle.flow_graph.specs.Graphs.{GraphShape, IsGraph, assigns, is_start, node_reads}
use Rattle.flow_graph.specs.Numbering.{is_in}
use Rattle.sink_code.specs.declared.patterns.Pattern.{Pattern}
use Rattle.graph_edit.specs.Accesses.{assigns_var, blocks_at, blocks_pattern, reads_var}
use Rattle.sink_code.specs.FoundPuts.{passes_whole}
use Rattle.sink_code.specs.Inside.{stop_from}
use Rattle.sink_code.specs.BlockPlaces.{stops_at}
use Rattle.sink_code.proofs.Passing.{first_in}

-- ---- what stops and what blocks

-- what stops a pattern blocks it
pub stops_blocks : (graph : GraphShape) (x : ℕ) (t : Rhs) (n : ℕ) → stops_at graph x t n ≡ true → blocks_at x t graph n ≡ true
stops_blocks graph x t n stops = by (slice_get graph.nodes n) stops
  where
    none_any : (ys : List ℕ) → list_any (λ y. false) ys ≡ true → ⊥
    none_any [] e = absurd (cc)
    none_any (y ∷ ys) e = none_any ys e

    by : (o : Option Node) → ((reads_var graph x o || assigns_var graph x o) || list_any (λ y. assigns_var graph y o) (rhs_vars t)) ≡ true → blocks_pattern graph x t o ≡ true
    by None e = absurd (none_any (rhs_vars t) e)
    by (Some node) e = or_right (is_start node) (is_in x (node_reads graph node) || (assigns graph x node || list_any (λ y. assigns graph y node) (rhs_vars t)))
        (sym (or_assoc (is_in x (node_reads graph node)) (assigns graph x node) (list_any (λ y. assigns graph y node) (rhs_vars t))) ∙ e)

-- and what does not, and is not Start, does not
pub free_passes : (graph : GraphShape) (is_graph : IsGraph graph.vars graph.received graph.nodes) (x : ℕ) (t : Rhs) (n : ℕ) → (n ≡ 0 → ⊥) → stops_at graph x t n ≡ false → blocks_at x t graph n ≡ false
free_passes graph is_graph x t n apart free = by (slice_get graph.nodes n) refl free
  where
    other : (node : Node) → is_start node ≡ false → ((is_in x (node_reads graph node) || assigns graph x node) || list_any (λ y. assigns graph y node) (rhs_vars t)) ≡ false → blocks_pattern graph x t (Some node) ≡ false
    other node off e =
        ap (λ b. b || (is_in x (node_reads graph node) || (assigns graph x node || list_any (λ y. assigns graph y node) (rhs_vars t)))) off
        ∙ sym (or_assoc (is_in x (node_reads graph node)) (assigns graph x node) (list_any (λ y. assigns graph y node) (rhs_vars t))) ∙ e

    by : (o : Option Node) → slice_get graph.nodes n ≡ o → ((reads_var graph x o || assigns_var graph x o) || list_any (λ y. assigns_var graph y o) (rhs_vars t)) ≡ false → blocks_pattern graph x t o ≡ false
    by None is e = refl
    by (Some (Start next)) is e = absurd (apart (is_graph.can.only n next is))
    by (Some (Skip next)) is e = other (Skip next) refl e
    by (Some (Assign y rhs next)) is e = other (Assign y rhs next) refl e
    by (Some (Print a next)) is e = other (Print a next) refl e
    by (Some (Guard test number next)) is e = other (Guard test number next) refl e
    by (Some (Call into unit operands next)) is e = other (Call into unit operands next) refl e
    by (Some (Test test taken last)) is e = other (Test test taken last) refl e
    by (Some (Return a)) is e = other (Return a) refl e

-- ---- the index at which a pattern stops

-- an item after so many
pub get_drop : (k j : ℕ) (xs : List ℕ) → slice_get (drop k xs) j ≡ slice_get xs (k + j)
get_drop zero j xs = ap (slice_get xs) (sym (zero-add j))
get_drop (suc k) j [] = let same : suc k + j ≡ suc (k + j) = omega arith in sym (ap (slice_get []) same)
get_drop (suc k) j (x ∷ xs) = let same : suc k + j ≡ suc (k + j) = omega arith in get_drop k j xs ∙ sym (ap (slice_get (x ∷ xs)) same)

-- from an index on, no node before it stops the pattern, and the one there does
pub record StopsAt (graph : GraphShape) (list : List ℕ) (low : ℕ) (p : Pattern) (at : ℕ) : Type 0 where
  pub late : low ≤ at
  pub few : at ≤ length list
  pub free : (k n : ℕ) → low ≤ k → k < at → slice_get list k ≡ Some n → stops_at graph p.var p.rhs n ≡ false
  pub stops : (n : ℕ) → slice_get list at ≡ Some n → stops_at graph p.var p.rhs n ≡ true

-- it is the index that is computed
pub stop_is : (graph : GraphShape) (list : List ℕ) (low : ℕ) (p : Pattern) → low ≤ length list → StopsAt graph list low p (stop_from graph list low p)
stop_is graph list low p le =
    let first = first_in (stops_at graph p.var p.rhs) low (drop low list) in
    let at : stop_from graph list low p ≡ low + first.0 = first.1 in
    let left = length-drop low list in
    record {
      late = omega (arith, at);
      few = (let few = first.2.few in omega (arith, at, few, left, le));
      free = λ k n from lt e. (
          let whole : low + (k - low) ≡ k = omega (arith, from) in
          first.2.none (k - low) n (omega (arith, lt, at, from)) (get_drop low (k - low) list ∙ ap (slice_get list) whole ∙ e));
      stops = λ n e. first.2.holds n (get_drop low first.0 list ∙ ap (slice_get list) (sym at) ∙ e);
    }

-- ---- a pattern that passes all nodes

-- none of them stops it
pub passes_each : (graph : GraphShape) (list : List ℕ) (p : Pattern) → passes_whole graph list p ≡ true → (k n : ℕ) → slice_get list k ≡ Some n → stops_at graph p.var p.rhs n ≡ false
passes_each graph list p on k n at = elim (cases_Bool (stops_at graph p.var p.rhs n)) as (λ _. stops_at graph p.var p.rhs n ≡ false) [
  | inl stops ↦
      let here : stops_at graph p.var p.rhs (get_or list k 0) ≡ true = ap (stops_at graph p.var p.rhs) (get_or_from_slice_get list k n 0 at) ∙ stops in
      absurd (true≢false (sym (list_any_at (stops_at graph p.var p.rhs) list k 0 (slice_get_within list k n at) here) ∙ not-true (list_any (stops_at graph p.var p.rhs) list) on))
  | inr free ↦ free
]

-- where none of them is the first that stops it it passes all
pub stopped_passes : (graph : GraphShape) (list : List ℕ) (p : Pattern) → length list ≤ stop_from graph list 0 p → passes_whole graph list p ≡ true
stopped_passes graph list p late = ap not (none list (λ k n e. (stop_is graph list 0 p (omega arith)).free k n (omega arith) (let h = slice_get_within list k n e in omega (arith, h, late)) e))
  where
    none : (path : List ℕ) → ((k n : ℕ) → slice_get path k ≡ Some n → stops_at graph p.var p.rhs n ≡ false) → list_any (stops_at graph p.var p.rhs) path ≡ false
    none [] each = refl
    none (n ∷ path) each = ap (λ b. b || list_any (stops_at graph p.var p.rhs) path) (each 0 n refl) ∙ none path (λ k m e. each (suc k) m e)

-- and it passes all where none blocks it
pub all_passes : (graph : GraphShape) (list : List ℕ) (p : Pattern) → ((k n : ℕ) → slice_get list k ≡ Some n → blocks_at p.var p.rhs graph n ≡ false) → passes_whole graph list p ≡ true
all_passes graph list p free = ap not (none list free)
  where
    none : (path : List ℕ) → ((k n : ℕ) → slice_get path k ≡ Some n → blocks_at p.var p.rhs graph n ≡ false) → list_any (stops_at graph p.var p.rhs) path ≡ false
    none [] each = refl
    none (n ∷ path) each = ap (λ b. b || list_any (stops_at graph p.var p.rhs) path) (one (each 0 n refl)) ∙ none path (λ k m e. each (suc k) m e)
      where
        one : blocks_at p.var p.rhs graph n ≡ false → stops_at graph p.var p.rhs n ≡ false
        one off = elim (cases_Bool (stops_at graph p.var p.rhs n)) as (λ _. stops_at graph p.var p.rhs n ≡ false) [
          | inl stops ↦ absurd (true≢false (sym (stops_blocks graph p.var p.rhs n stops) ∙ off))
          | inr on ↦ on
        ]
