-- Which variables the nodes of a block touch, and what a push has to look at. Cited by contracts of private functions
-- and by the ghost members of `WantedFlow`.
use Rattle.std.specs.Prelude.{◌≡◌, ℕ, ◌≤◌, min, false, List, [], ◌∷◌, ◌++◌, flat_map, length, slice_get, slice_set, Option, Some, None}
use Rattle.mir_base.specs.Frames.{shared_vars}
use Rattle.mir_base.specs.Shapes.{into_vars, operand_vars, rhs_vars, test_vars}
use Rattle.flow_graph.specs.declared.nodes.Node.{Node}
use Rattle.flow_graph.specs.declared.nodes.Node.TheVariants.{Start, Skip, Assign, Print, Guard, Call, Test, Return}
use Rattle.flow_graph.specs.Graphs.{GraphShape}
use Rattle.flow_graph.specs.Numbering.{is_in}
use Rattle.node_list.specs.Lists.{list_at}
use Rattle.wanted_bits.specs.declared.picking.Shift.{Shift}
use Rattle.wanted_bits.specs.NewsShapes.{VariablesShape, AreMeant, is_meant}
use Rattle.wanted_bits.specs.Walking.{bits_at, raised_at}

-- ---- what is touched

-- the source of a shift, where there is one
abbrev pub source_vars : Option Shift → List ℕ
source_vars None = []
source_vars (Some shift) = shift.source ∷ []

-- the variables whose numbers a node reads or changes, where it shifts this back
abbrev pub touched_vars : ℕ → Option Shift → Node → List ℕ
touched_vars shared back (Start next) = []
touched_vars shared back (Skip next) = []
touched_vars shared back (Assign y rhs next) = y ∷ rhs_vars rhs ++ source_vars back
touched_vars shared back (Print a next) = operand_vars a
touched_vars shared back (Guard test number next) = test_vars test
touched_vars shared back (Call into unit operands next) =
    shared_vars shared ++ (into_vars into ++ flat_map operand_vars operands)
touched_vars shared back (Test test taken other) = test_vars test
touched_vars shared back (Return a) = shared_vars shared ++ operand_vars a

-- where there is a node
abbrev pub touched_past : ℕ → Option Shift → Option Node → List ℕ
touched_past shared back None = []
touched_past shared back (Some node) = touched_vars shared back node

-- those of the node of this number
abbrev pub touched_at : GraphShape → (ℕ → Option Shift) → ℕ → List ℕ
touched_at graph back n = touched_past graph.shared (back n) (slice_get graph.nodes n)

-- those of several nodes
abbrev pub touched_in : GraphShape → (ℕ → Option Shift) → List ℕ → List ℕ
touched_in graph back list = flat_map (touched_at graph back) list

-- for each block some variables, among them those that it touches
pub record AreTouched (graph : GraphShape) (back : ℕ → Option Shift) (lists : List (List ℕ))
    (touched : List VariablesShape) : Type 0 where
  pub long : length touched ≡ length lists
  pub covered : (b : ℕ) (some : VariablesShape) → slice_get touched b ≡ Some some
      → AreMeant (touched_in graph back (list_at lists b)) some

-- ---- what is pushed

-- the numbers with those of these variables taken over
abbrev pub taken_bits : List ℕ → List ℕ → List ℕ → List ℕ
taken_bits others [] bits = bits
taken_bits others (x ∷ xs) bits = taken_bits others xs (slice_set bits x (bits_at others x))

-- the numbers with those of these variables raised to at least the others
abbrev pub raised_bits : List ℕ → List ℕ → List ℕ → List ℕ
raised_bits others [] bits = bits
raised_bits others (x ∷ xs) bits = raised_bits others xs (raised_at bits x (bits_at others x))

-- what is wanted of a variable that is in neither list is wanted at the target
abbrev pub AreReached : (raised touched behind target : List ℕ) → Type 0
AreReached raised touched behind target = (k : ℕ) → is_in k raised ≡ false → is_in k touched ≡ false
    → bits_at behind k ≤ bits_at target k

-- what is wanted behind these nodes of a variable that is no news and that they do not touch is wanted at the target
pub record IsCaught (graph : GraphShape) (back : ℕ → Option Shift) (list : List ℕ)
    (news : VariablesShape) (behind target : List ℕ) : Type 0 where
  pub wanted : (k : ℕ) → is_meant news k ≡ false → is_in k (touched_in graph back list) ≡ false
      → min 64 (bits_at behind k) ≤ bits_at target k
