-- Rewritings that put new assignments before the nodes of a graph, in chains, and change the right sides of old ones.
-- Old nodes keep their numbers. Cited by contracts, those of motion_rewrite too.
use Rattle.std.specs.Prelude.{◌≡◌, ℕ, zero, suc, ◌+◌, ◌<◌, List, [], ◌∷◌, ◌++◌, length}
use Rattle.mir_base.specs.declared.instructions.Rhs.{Rhs}
use Rattle.mir_base.specs.Shapes.{AllBelow, AllDiffer, rhs_vars}
use Rattle.flow_graph.specs.declared.nodes.Node.{Node}
use Rattle.flow_graph.specs.declared.nodes.Node.TheVariants.{Start, Skip, Assign, Print, Guard, Call, Test, Return}
use Rattle.flow_graph.specs.Graphs.{GraphShape}
use Rattle.flow_graph.specs.Retained.{redirected}

-- ---- what is rewritten

-- a new assignment
pub record Insertion : Type 0 where
  pub var : ℕ
  pub rhs : Rhs

-- what becomes of an old node: nothing; or, where it is an assignment, it gets another right side or becomes Skip
pub data Change : Type 0 where
  Unchanged : Change
  Replaced : (rhs : Rhs) → Change
  Removed : Change

-- for each node, the assignments that are put before it, in order, and what becomes of it
pub record Rewriting : Type 0 where
  pub inserts : ℕ → List Insertion
  pub changes : ℕ → Change

-- what becomes of an assignment
abbrev pub changed_assign : Change → ℕ → Rhs → ℕ → Node
changed_assign Unchanged x rhs next = Assign x rhs next
changed_assign (Replaced other) x rhs next = Assign x other next
changed_assign Removed x rhs next = Skip next

-- what becomes of a node: any but an assignment stays as it is
abbrev pub changed : Change → Node → Node
changed change (Start next) = Start next
changed change (Skip next) = Skip next
changed change (Assign x rhs next) = changed_assign change x rhs next
changed change (Print a next) = Print a next
changed change (Guard test number next) = Guard test number next
changed change (Call into unit operands next) = Call into unit operands next
changed change (Test test taken other) = Test test taken other
changed change (Return a) = Return a

-- ---- the new nodes

-- how many are put before the nodes below n
abbrev pub put_below : (ℕ → List Insertion) → ℕ → ℕ
put_below inserts zero = 0
put_below inserts (suc n) = put_below inserts n + length (inserts n)

-- where an edge to node n leads now: to the first of the new nodes before it, where there is one
abbrev pub entry_among : ℕ → ℕ → List Insertion → ℕ
entry_among n first [] = n
entry_among n first (put ∷ puts) = first

-- The new nodes get the next numbers after the old ones, in order of the nodes that they are put before
abbrev pub entry : (ℕ → List Insertion) → ℕ → ℕ → ℕ
entry inserts old n = entry_among n (old + put_below inserts n) (inserts n)

-- the new nodes before node n, numbered from k on, which lead on to each other and then to n
abbrev pub chain : ℕ → ℕ → List Insertion → List Node
chain n k [] = []
chain n k (put ∷ puts) = Assign put.var put.rhs (entry_among n (suc k) puts) ∷ chain n (suc k) puts

-- the new nodes before so many nodes from n on, numbered from k on
abbrev pub chains : (ℕ → List Insertion) → ℕ → ℕ → ℕ → List Node
chains inserts zero n k = []
chains inserts (suc count) n k =
    chain n k (inserts n) ++ chains inserts count (suc n) (k + length (inserts n))

-- ---- the whole

-- the old nodes from number n on, changed, with edges that lead to the entries of their targets
abbrev pub olds : (ℕ → Change) → (ℕ → ℕ) → ℕ → List Node → List Node
olds changes to n [] = []
olds changes to n (node ∷ nodes) =
    redirected to (changed (changes n) node) ∷ olds changes to (suc n) nodes

-- the old nodes, changed and with their edges led to the new ones, and then the new nodes
abbrev pub rewritten_nodes : Rewriting → List Node → List Node
rewritten_nodes r nodes =
    olds r.changes (entry r.inserts (length nodes)) 0 nodes
    ++ chains r.inserts (length nodes) 0 (length nodes)

-- the graph rewritten, with these variables after its own
abbrev pub rewritten : Rewriting → List (List ℕ) → GraphShape → GraphShape
rewritten r extra graph = record graph
    { vars = graph.vars ++ extra; nodes = rewritten_nodes r graph.nodes }

-- ---- when it can be made

-- the variables of a changed right side are below this number
abbrev pub ChangeBelow : ℕ → Change → Type 0
ChangeBelow vars Unchanged = Unit {0}
ChangeBelow vars (Replaced rhs) = AllBelow vars (rhs_vars rhs)
ChangeBelow vars Removed = Unit {0}

-- the variables of the insertions are below a bound
abbrev pub InsertionsBelow : ℕ → List Insertion → Type 0
InsertionsBelow vars [] = Unit {0}
InsertionsBelow vars (put ∷ puts) = ((put.var < vars) × AllBelow vars (rhs_vars put.rhs))
    × InsertionsBelow vars puts

-- nothing is put before Start, all variables are in range, and the names of the new ones are new
pub record CanRewrite (r : Rewriting) (extra : List (List ℕ)) (graph : GraphShape) : Type 0 where
  pub at_start : r.inserts 0 ≡ []
  pub put : (n : ℕ) → n < length graph.nodes
      → InsertionsBelow (length (graph.vars ++ extra)) (r.inserts n)
  pub change : (n : ℕ) → n < length graph.nodes
      → ChangeBelow (length (graph.vars ++ extra)) (r.changes n)
  pub names : AllDiffer (graph.vars ++ extra)
