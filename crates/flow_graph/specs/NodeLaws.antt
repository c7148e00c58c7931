-- Laws of one node with other numbers for its successors (`redirected`), and of an item that may be absent.
-- For proofs only; the crates above cite them too.
use Rattle.std.proofs.Common.{◌≡◌, ℕ, map, slice_get, Option, Some, None, option_map, refl, ap, ◌∙◌}
use Rattle.flow_graph.specs.declared.nodes.Node.{Node}
use Rattle.flow_graph.specs.declared.nodes.Node.TheVariants.{Start, Skip, Assign, Print, Guard, Call, Test, Return}
use Rattle.flow_graph.specs.Calls.{node_call}
use Rattle.flow_graph.specs.Graphs.{node_succs, succs_of, node_vars}
use Rattle.flow_graph.specs.Retained.{redirected}

-- ---- an item that may be absent, and what becomes of it

-- what a function gives of an item comes from the item
pub mapped_from : {A B : Type 0} (f : A → B) (o : Option A) (y : B) → option_map f o ≡ Some y → (x : A) × (o ≡ Some x) × (f x ≡ y)
mapped_from f None y e = cc
mapped_from f (Some x) y e = (x, refl, cc)

-- a function that changes no item changes none that may be absent
pub option_map_itself : {A : Type 0} (f : A → A) → ((x : A) → f x ≡ x) → (o : Option A) → option_map f o ≡ o
option_map_itself f same None = refl
option_map_itself f same (Some x) = ap Some (same x)

-- ---- other numbers for the successors

-- all that is the same of a node and the redirected one
record IsRedirected (to : ℕ → ℕ) (node : Node) : Type 0 where
  succs : node_succs (redirected to node) ≡ map to (node_succs node)
  vars : node_vars (redirected to node) ≡ node_vars node
  call : node_call (redirected to node) ≡ node_call node
  start : (s : ℕ) → redirected to node ≡ Start s → (t : ℕ) × (node ≡ Start t)
  twice : (to' : ℕ → ℕ) → redirected to' (redirected to node) ≡ redirected (λ n. to' (to n)) node
  itself : redirected (λ n. n) node ≡ node

-- by cases of the node: all that is kept when its edges are redirected
is_redirected : (to : ℕ → ℕ) (node : Node) → IsRedirected to node
is_redirected to (Start next) = record { succs = refl; vars = refl; call = refl; start = λ s e. (next, refl); twice = λ to'. refl; itself = refl }
is_redirected to (Skip next) = record { succs = refl; vars = refl; call = refl; start = λ s e. cc; twice = λ to'. refl; itself = refl }
is_redirected to (Assign x rhs next) = record { succs = refl; vars = refl; call = refl; start = λ s e. cc; twice = λ to'. refl; itself = refl }
is_redirected to (Print a next) = record { succs = refl; vars = refl; call = refl; start = λ s e. cc; twice = λ to'. refl; itself = refl }
is_redirected to (Guard test number next) = record { succs = refl; vars = refl; call = refl; start = λ s e. cc; twice = λ to'. refl; itself = refl }
is_redirected to (Call into unit operands next) = record { succs = refl; vars = refl; call = refl; start = λ s e. cc; twice = λ to'. refl; itself = refl }
is_redirected to (Test test taken other) = record { succs = refl; vars = refl; call = refl; start = λ s e. cc; twice = λ to'. refl; itself = refl }
is_redirected to (Return a) = record { succs = refl; vars = refl; call = refl; start = λ s e. cc; twice = λ to'. refl; itself = refl }

-- its successors have the other numbers
pub redirected_succs : (to : ℕ → ℕ) (node : Node) → node_succs (redirected to node) ≡ map to (node_succs node)
redirected_succs to node = let is = is_redirected to node in is.succs

-- the same of a node that may be absent
pub redirected_succs_of : (to : ℕ → ℕ) (o : Option Node) → succs_of (option_map (redirected to) o) ≡ map to (succs_of o)
redirected_succs_of to None = refl
redirected_succs_of to (Some node) = redirected_succs to node

-- its variables and its call stay
pub redirected_vars : (to : ℕ → ℕ) (node : Node) → node_vars (redirected to node) ≡ node_vars node
redirected_vars to node = let is = is_redirected to node in is.vars

-- it makes the same call, if any
pub redirected_call : (to : ℕ → ℕ) (node : Node) → node_call (redirected to node) ≡ node_call node
redirected_call to node = let is = is_redirected to node in is.call

-- it is Start only where the node is
pub redirected_start : (to : ℕ → ℕ) (node : Node) (s : ℕ) → redirected to node ≡ Start s → (t : ℕ) × (node ≡ Start t)
redirected_start to node = let is = is_redirected to node in is.start

-- redirected twice is redirected once
pub redirected_twice : (to to' : ℕ → ℕ) (node : Node) → redirected to' (redirected to node) ≡ redirected (λ n. to' (to n)) node
redirected_twice to to' node = let is = is_redirected to node in is.twice to'

-- with the numbers that it has it is the node
pub redirected_itself : (node : Node) → redirected (λ n. n) node ≡ node
redirected_itself node = let is = is_redirected (λ n. n) node in is.itself

-- only the numbers of its successors matter
pub redirected_same : (to to' : ℕ → ℕ) (node : Node)
    → ((slot s : ℕ) → slice_get (node_succs node) slot ≡ Some s → to s ≡ to' s)
    → redirected to node ≡ redirected to' node
redirected_same to to' (Start next) same = ap Start (same 0 next refl)
redirected_same to to' (Skip next) same = ap Skip (same 0 next refl)
redirected_same to to' (Assign x rhs next) same = ap (Assign x rhs) (same 0 next refl)
redirected_same to to' (Print a next) same = ap (Print a) (same 0 next refl)
redirected_same to to' (Guard test number next) same = ap (Guard test number) (same 0 next refl)
redirected_same to to' (Call into unit operands next) same = ap (Call into unit operands) (same 0 next refl)
redirected_same to to' (Test test taken other) same = ap (λ n. Test test n (to other)) (same 0 taken refl) ∙ ap (Test test (to' taken)) (same 1 other refl)
redirected_same to to' (Return a) same = refl

-- a function that changes none of its successors leaves the node as it is
pub redirected_none : (to : ℕ → ℕ) (node : Node) → ((slot s : ℕ) → slice_get (node_succs node) slot ≡ Some s → to s ≡ s) → redirected to node ≡ node
redirected_none to node same = redirected_same to (λ n. n) node same ∙ redirected_itself node
