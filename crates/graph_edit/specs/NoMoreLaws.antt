-- Laws of paths on which no assignment stands more often: from graph to graph to graph, and where the paths stay as they
-- are. For proofs only.
use Rattle.std.proofs.Common.{◌≡◌, ◌≤◌, ℕ, if◌then◌else◌, nat_lt, filter, count_by, List, [], ◌∷◌, length, inl, inr, refl, sym, ap, ◌∙◌, subst, arith}
use Rattle.std.proofs.lemmas.Bool.{cases_lt}
use Rattle.mir_base.specs.declared.instructions.Rhs.{Rhs}
use Rattle.mir_base.specs.Shapes.{AllBelow}
use Rattle.flow_graph.specs.declared.nodes.Node.{Node}
use Rattle.flow_graph.specs.Graphs.{GraphShape}
use Rattle.graph_edit.specs.InsertionPaths.{keep_old, path_within, skip_new}
use Rattle.graph_edit.specs.Insertions.{Unchanged}
use Rattle.graph_edit.specs.Over.{IsOver}
use Rattle.flow_graph.specs.Paths.{IsFullPath}
use Rattle.graph_edit.specs.Accesses.{occurs_at}
use Rattle.graph_edit.specs.NoMore.{HasNoMore, old_part}

-- ---- one after the other

-- the numbers below a bound are those below it among those below a greater one
part_of_part : (low high : ℕ) → low ≤ high → (path : List ℕ)
    → filter (λ n. nat_lt n low) (filter (λ n. nat_lt n high) path) ≡ filter (λ n. nat_lt n low) path
part_of_part low high le [] = refl
part_of_part low high le (n ∷ path) = elim (cases_lt n high) [
  | inl lt ↦
      ap (filter (λ m. nat_lt m low)) (keep_old high n path lt)
      ∙ ap (λ l. if nat_lt n low then n ∷ l else l) (part_of_part low high le path)
  | inr ge ↦
      ap (filter (λ m. nat_lt m low)) (skip_new high n path ge)
      ∙ part_of_part low high le path
      ∙ sym (skip_new low n path (omega (arith, le, ge)))
]

-- so a path over a path over a path lies over the last of them
pub over_trans : (a b c : List Node) → length a ≤ length b → (path middle over : List ℕ)
    → IsOver a b path middle → IsOver b c middle over → IsOver a c path over
over_trans a b c many path middle over p q = record {
  full = q.full;
  same = sym (part_of_part (length a) (length b) many over) ∙ ap (old_part a) q.same ∙ p.same;
}

-- and no assignment stands on it more often
pub no_more_trans : (a b c : GraphShape) → HasNoMore a b → HasNoMore b c → HasNoMore a c
no_more_trans a b c p q = record {
  each_over = λ path full.
      let first = p.each_over path full in
      let later = q.each_over first.over first.is_over.full in
      record {
        over = later.over;
        is_over = over_trans a.nodes b.nodes c.nodes p.no_fewer path first.over later.over first.is_over later.is_over;
        alone = λ other is.
            let same = first.alone (old_part b.nodes other) (record { full = q.lies_over other is.full; same = part_of_part (length a.nodes) (length b.nodes) p.no_fewer other ∙ is.same }) in
            later.alone other (record { full = is.full; same = same });
        no_more = λ x t sinkable. omega (arith, first.no_more x t sinkable, later.no_more x t sinkable);
      };
  lies_over = λ over full. subst (IsFullPath a.nodes) (part_of_part (length a.nodes) (length b.nodes) p.no_fewer over) (p.lies_over (old_part b.nodes over) (q.lies_over over full));
  no_fewer = omega (arith, p.no_fewer, q.no_fewer);
}

-- ---- where the paths stay

-- numbers below a bound are all among those below it
all_old : (k : ℕ) (path : List ℕ) → AllBelow k path → filter (λ n. nat_lt n k) path ≡ path
all_old k [] within = refl
all_old k (n ∷ path) within = keep_old k n path within.0 ∙ ap (λ l. n ∷ l) (all_old k path within.1)

-- where two graphs have as many nodes and the same full paths, with no more of an assignment on one
module _ (graph result : GraphShape) (as_many : length result.nodes ≡ length graph.nodes) (stays : (path : List ℕ) → IsFullPath graph.nodes path → IsFullPath result.nodes path) (stood : (path : List ℕ) → IsFullPath result.nodes path → IsFullPath graph.nodes path)
    (fewer : (x : ℕ) (t : Rhs) (path : List ℕ) → count_by (occurs_at x t result) path ≤ count_by (occurs_at x t graph) path) where
  -- a path is all of it old
  itself : (path : List ℕ) → IsFullPath graph.nodes path → old_part graph.nodes path ≡ path
  itself path full = all_old (length graph.nodes) path (path_within (record { inserts = λ n. []; changes = λ n. Unchanged }) graph.nodes path full.is_path)

  pub no_more_in_place : HasNoMore graph result
  no_more_in_place = record {
    each_over = λ path full. record {
      over = path;
      is_over = record { full = stays path full; same = itself path full };
      alone = λ other is. sym (itself other (stood other is.full)) ∙ is.same;
      no_more = λ x t sinkable. fewer x t path;
    };
    lies_over = λ over full. subst (IsFullPath graph.nodes) (sym (itself over (stood over full))) (stood over full);
    no_fewer = omega (arith, as_many);
  }
