-- The nodes of a list that are reached, renumbered in their old order: what is retained when a graph is made. Cited by
-- contracts, those of jump_clean too.
use Rattle.std.specs.Prelude.{◌≡◌, ℕ, zero, suc, ◌<◌, ◌↔◌, Bool, true, false, List, [], ◌∷◌, map, length, slice_get, Some}
use Rattle.flow_graph.specs.declared.nodes.Node.{Node}
use Rattle.flow_graph.specs.declared.nodes.Node.TheVariants.{Start, Skip, Assign, Print, Guard, Call, Test, Return}
use Rattle.flow_graph.specs.Graphs.{GraphShape, Reached}
use Rattle.flow_graph.specs.NumberTables.{number_at}

-- the node with other numbers for its successors
abbrev pub redirected : (ℕ → ℕ) → Node → Node
redirected to (Start next) = Start (to next)
redirected to (Skip next) = Skip (to next)
redirected to (Assign x rhs next) = Assign x rhs (to next)
redirected to (Print a next) = Print a (to next)
redirected to (Guard test number next) = Guard test number (to next)
redirected to (Call into unit operands next) = Call into unit operands (to next)
redirected to (Test test taken other) = Test test (to taken) (to other)
redirected to (Return a) = Return a

-- the node with the number at each successor in a table for that successor
abbrev pub redirected_by : List ℕ → Node → Node
redirected_by to = redirected (number_at to)

-- how many of the first n are marked
abbrev pub marked_below : List Bool → ℕ → ℕ
marked_below marks zero = 0
marked_below [] (suc n) = 0
marked_below (true ∷ marks) (suc n) = suc (marked_below marks n)
marked_below (false ∷ marks) (suc n) = marked_below marks n

-- the marked ones
abbrev pub marked : {A : Type 0} → List Bool → List A → List A
marked [] xs = []
marked (true ∷ marks) [] = []
marked (false ∷ marks) [] = []
marked (true ∷ marks) (x ∷ xs) = x ∷ marked marks xs
marked (false ∷ marks) (x ∷ xs) = marked marks xs

-- every mark is set
abbrev pub AreAllSet : List Bool → Type 0
AreAllSet marks = (n : ℕ) → n < length marks → slice_get marks n ≡ Some true

-- the marks of the nodes that are reached
pub record MarkReached (raw : List Node) (marks : List Bool) : Type 0 where
  pub long : length marks ≡ length raw
  pub exact : (n : ℕ) → n < length raw → (slice_get marks n ≡ Some true) ↔ Reached raw n

-- the marked nodes, with their ranks for numbers
abbrev pub retained_nodes : List Bool → List Node → List Node
retained_nodes marks raw = map (redirected (marked_below marks)) (marked marks raw)

-- these are the reached nodes of the list, renumbered in their old order
pub record AreRetained (raw nodes : List Node) : Type 0 where
  pub marks : List Bool
  pub are_marks : MarkReached raw marks
  pub are : nodes ≡ retained_nodes marks raw

-- the graph with these nodes, of which the reached ones are retained
pub record IsMade (name : List ℕ) (shared : ℕ) (vars : List (List ℕ)) (received : List ℕ)
    (raw : List Node)
    (graph : GraphShape) : Type 0 where
  pub name_is : graph.name ≡ name
  pub shared_is : graph.shared ≡ shared
  pub vars_are : graph.vars ≡ vars
  pub received_are : graph.received ≡ received
  pub nodes_are : AreRetained raw graph.nodes

-- the number that each node gets stands at its old number
pub record AreRanks (marks : List Bool) (ranks : List ℕ) : Type 0 where
  pub long : length ranks ≡ length marks
  pub are : (n : ℕ) → n < length marks → slice_get ranks n ≡ Some (marked_below marks n)
