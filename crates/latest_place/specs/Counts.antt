-- What a placement counts on a path, by the nodes before the last one. For proofs only, here and above.
use Rattle.std.proofs.Common.{◌≡◌, ◌+◌, ℕ, List, [], ◌∷◌, ◌++◌, reverse, arith}
use Rattle.mir_base.specs.declared.instructions.Expr.{Expr}
use Rattle.flow_graph.specs.Graphs.{GraphShape}
use Rattle.flow_graph.specs.Sums.{sum_append, sum_on, sum_reverse}
use Rattle.motion_rewrite.specs.PlacementLaws.{count_sum}
use Rattle.motion_rewrite.specs.Placements.{Places, count, evaluations_at}

-- its evaluations at these nodes
abbrev pub evaluations_on : GraphShape → Expr → Places → List ℕ → ℕ
evaluations_on graph e p nodes = sum_on (evaluations_at graph e p) nodes

-- on the path whose nodes before the last one are these, the nearest first
pub count_before : (graph : GraphShape) (e : Expr) (p : Places) (before : List ℕ) (n : ℕ)
    → count graph e p (reverse before ++ n ∷ []) ≡ evaluations_at graph e p n + evaluations_on graph e p before
count_before graph e p before n =
    let f : ℕ → ℕ = evaluations_at graph e p in
    let all = count_sum graph e p (reverse before ++ n ∷ []) in
    let parts = sum_append f (reverse before) (n ∷ []) in
    let reversed = sum_reverse f before in
    omega (arith, all, parts, reversed)
