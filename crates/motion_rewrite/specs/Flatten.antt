-- The graph that a placement makes: new assignments to temporaries before nodes, and uses that read them. Cited by
-- contracts.
use Rattle.std.specs.Prelude.{◌≡◌, ℕ, zero, suc, ◌+◌, Bool, if◌then◌else◌, List, [], ◌∷◌, ◌++◌, length, slice_get, Option, Some, None}
use Rattle.mir_base.specs.declared.instructions.Operand.TheVariants.{Var}
use Rattle.mir_base.specs.declared.instructions.Rhs.TheVariants.{Plain}
use Rattle.mir_base.specs.declared.instructions.Expr.{Expr}
use Rattle.mir_base.specs.ExpressionVars.{rhs_of}
use Rattle.bit_rows.specs.Bits.{row_of}
use Rattle.flow_graph.specs.declared.nodes.Node.{Node}
use Rattle.flow_graph.specs.Graphs.{GraphShape}
use Rattle.graph_edit.specs.Insertions.{Insertion, Change, Unchanged, Replaced, Rewriting, rewritten_nodes}
use Rattle.motion_rewrite.specs.declared.placement.Placement.{Placement}
use Rattle.fresh_names.specs.FreshNames.{AreTemporaryNames}
use Rattle.motion_rewrite.specs.Temporaries.{temporary, temporaries_before}

-- ---- the insertions of a node

-- the places of the bits that are set, in order, counted from k
abbrev pub set_from : ℕ → List Bool → List ℕ
set_from k [] = []
set_from k (bit ∷ bits) = if bit then k ∷ set_from (suc k) bits else set_from (suc k) bits

-- the numbers of the expressions that are inserted before node n, in order of the table
abbrev pub inserted : List (List Bool) → ℕ → List ℕ
inserted rows n = set_from 0 (row_of rows n)

-- how many insertions stand before the nodes below n
abbrev pub inserted_below : List (List Bool) → ℕ → ℕ
inserted_below rows zero = 0
inserted_below rows (suc n) = inserted_below rows n + length (inserted rows n)

-- the expression, where the table has one, assigned to a variable
abbrev pub insertion_of : ℕ → Option Expr → List Insertion
insertion_of x None = []
insertion_of x (Some e) = record { var = x; rhs = rhs_of e } ∷ []

-- the expressions of these numbers, each assigned to its temporary
abbrev pub insertions_of : (ℕ → ℕ) → List Expr → List ℕ → List Insertion
insertions_of temp table [] = []
insertions_of temp table (i ∷ numbers) =
    insertion_of (temp i) (slice_get table i) ++ insertions_of temp table numbers

-- ---- replaced right sides

-- the temporary of the first of these expressions is read
abbrev pub reading : (ℕ → ℕ) → List ℕ → Change
reading temp [] = Unchanged
reading temp (i ∷ numbers) = Replaced (Plain (Var (temp i)))

-- ---- the whole

-- before each node stand the expressions that are inserted there, and a replaced use reads its temporary
abbrev pub by_placement : (ℕ → ℕ) → List Expr → Placement → Rewriting
by_placement temp table p =
    record {
      inserts = λ n. insertions_of temp table (inserted p.insert n);
      changes =
          λ n. reading temp (inserted p.replace n);
    }

-- the nodes of the graph that is rewritten by a placement
abbrev pub flattened : (ℕ → ℕ) → List Expr → Placement → List Node → List Node
flattened temp table p nodes = rewritten_nodes (by_placement temp table p) nodes

-- the graph with the temporaries, in which old nodes keep their numbers
pub record IsFlattened (graph : GraphShape) (table : List Expr) (p : Placement)
    (result : GraphShape) : Type 0 where
  pub names : List (List ℕ)
  pub are_names : AreTemporaryNames graph.vars (temporaries_before p.insert (length table)) names
  pub name_is : result.name ≡ graph.name
  pub shared_is : result.shared ≡ graph.shared
  pub vars_are : result.vars ≡ graph.vars ++ names
  pub received_are : result.received ≡ graph.received
  pub nodes_are : result.nodes
      ≡ flattened (temporary (length graph.vars) p.insert) table p graph.nodes
