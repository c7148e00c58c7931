-- The path of a rewritten graph over a path of the graph, and what assignments weigh on it. `IsOver` is cited by
-- contracts of the crates above, the others by proofs.
use Rattle.std.specs.Prelude.{◌≡◌, ℕ, suc, ◌+◌, nat_lt, filter, List, [], ◌∷◌, length, slice_get, Option, Some, None, option_map}
use Rattle.mir_base.specs.declared.instructions.Rhs.{Rhs}
use Rattle.flow_graph.specs.declared.nodes.Node.{Node}
use Rattle.flow_graph.specs.declared.nodes.Node.TheVariants.{Start, Skip, Assign, Print, Guard, Call, Test, Return}
use Rattle.flow_graph.specs.Paths.{IsFullPath}
use Rattle.graph_edit.specs.Insertions.{Insertion, Rewriting, changed, put_below}

-- a full path of the result that passes these old nodes and no others
pub record IsOver (nodes result : List Node) (path over : List ℕ) : Type 0 where
  pub full : IsFullPath result over
  pub same : filter (λ n. nat_lt n (length nodes)) over ≡ path

-- through so many new nodes numbered from k on, and then along this path
abbrev pub through : ℕ → List Insertion → List ℕ → List ℕ
through k [] path = path
through k (put ∷ puts) path = k ∷ through (suc k) puts path

-- the path, through the new nodes before each of its nodes
abbrev pub over_path : (ℕ → List Insertion) → ℕ → List ℕ → List ℕ
over_path inserts old [] = []
over_path inserts old (n ∷ path) =
    through (old + put_below inserts n) (inserts n) (n ∷ over_path inserts old path)

-- the weight of the assignment that a node makes, where it makes one
abbrev pub weigh : (ℕ → Rhs → ℕ) → Option Node → ℕ
weigh weight None = 0
weigh weight (Some (Start next)) = 0
weigh weight (Some (Skip next)) = 0
weigh weight (Some (Assign x rhs next)) = weight x rhs
weigh weight (Some (Print a next)) = 0
weigh weight (Some (Guard test number next)) = 0
weigh weight (Some (Call into unit operands next)) = 0
weigh weight (Some (Test test taken other)) = 0
weigh weight (Some (Return a)) = 0

-- the weight of the new assignments together
abbrev pub weigh_all : (ℕ → Rhs → ℕ) → List Insertion → ℕ
weigh_all weight [] = 0
weigh_all weight (put ∷ puts) = weight put.var put.rhs + weigh_all weight puts

-- the weight at an old node: before, and with what is put before it and what becomes of it
abbrev pub weight_at : (ℕ → Rhs → ℕ) → List Node → ℕ → ℕ
weight_at weight nodes n = weigh weight (slice_get nodes n)

-- afterwards: the insertions before the node, and what becomes of the node
abbrev pub new_weight_at : (ℕ → Rhs → ℕ) → Rewriting → List Node → ℕ → ℕ
new_weight_at weight r nodes n =
    weigh_all weight (r.inserts n)
    + weigh weight (option_map (changed (r.changes n)) (slice_get nodes n))
