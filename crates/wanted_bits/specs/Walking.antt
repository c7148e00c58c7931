-- The numbers of wanted bits through the nodes of a block, from the last to the first. Cited by contracts of private
-- functions and by the ghost members of `WantedFlow`.
use Rattle.std.specs.Prelude.{◌≡◌, ℕ, suc, ◌-◌, ◌<◌, min, max, Bool, false, nat_eq, if◌then◌else◌, List, [], ◌∷◌, length, slice_get, slice_index_or, slice_set, Option, Some, None}
use Rattle.mir_base.specs.declared.operators.UnOp.TheVariants.{Neg, Not}
use Rattle.mir_base.specs.declared.instructions.Operand.{Operand}
use Rattle.mir_base.specs.declared.instructions.Operand.TheVariants.{Var, Const}
use Rattle.mir_base.specs.declared.instructions.Rhs.{Rhs}
use Rattle.mir_base.specs.declared.instructions.Rhs.TheVariants.{Plain, Unary, Binary}
use Rattle.flow_graph.specs.declared.nodes.Node.{Node}
use Rattle.flow_graph.specs.declared.nodes.Node.TheVariants.{Assign, Call, Return}
use Rattle.mir_base.specs.Frames.{shared_vars}
use Rattle.flow_graph.specs.Graphs.{GraphShape, node_reads}
use Rattle.wanted_bits.specs.declared.picking.Shift.{Shift}
use Rattle.wanted_bits.specs.Wanted.{Asked, if_any, is_undone, shifted_back, wanted_left, wanted_right}

-- the bits of x among these
abbrev pub bits_at : List ℕ → ℕ → ℕ
bits_at bits x = slice_index_or bits x 0

-- ---- in place

-- the number of x is raised to at least k
abbrev pub raised_at : List ℕ → ℕ → ℕ → List ℕ
raised_at bits x k = slice_set bits x (max (bits_at bits x) k)

-- that of an operand
abbrev pub raised_by : List ℕ → Operand → ℕ → List ℕ
raised_by bits (Var x) k = raised_at bits x k
raised_by bits (Const c) k = bits

-- those of the operands of a right side of which k bits are wanted
abbrev pub raised_own : List ℕ → Rhs → ℕ → List ℕ
raised_own bits (Plain a) k = raised_by bits a k
raised_own bits (Unary Neg a) k = raised_by bits a k
raised_own bits (Unary Not a) k = raised_by bits a (if_any k 64)
raised_own bits (Binary op a b) k =
    raised_by (raised_by bits a (wanted_left op b k)) b (wanted_right op a k)

-- where it shifts this back, that of the source in their place
abbrev pub raised_past : List ℕ → Option Shift → Rhs → ℕ → List ℕ
raised_past bits None rhs k = raised_own bits rhs k
raised_past bits (Some shift) rhs k = if is_undone shift k
    then raised_at bits shift.source (min k (64 - shift.distance))
    else raised_own (raised_at bits shift.source (min k (64 - shift.distance))) rhs k

-- the numbers in which each of these variables has at least as many bits as `widths` says
abbrev pub all_raised : (ℕ → ℕ) → List ℕ → List ℕ → List ℕ
all_raised widths [] bits = bits
all_raised widths (x ∷ xs) bits = all_raised widths xs (raised_at bits x (widths x))

-- all 64 of each
abbrev pub whole_width : ℕ → ℕ
whole_width x = 64

-- those of the arguments from number i on, to at least so many each
abbrev pub among_raised : (ℕ → ℕ) → ℕ → List Operand → List ℕ → List ℕ
among_raised widths i [] bits = bits
among_raised widths i (a ∷ operands) bits =
    among_raised widths (suc i) operands (raised_by bits a (widths i))

-- the numbers of these variables are so many, whatever they were
abbrev pub all_set : (ℕ → ℕ) → List ℕ → List ℕ → List ℕ
all_set widths [] bits = bits
all_set widths (x ∷ xs) bits = all_set widths xs (slice_set bits x (widths x))

-- it is the variable, where there is one
abbrev pub is_into : ℕ → Option ℕ → Bool
is_into x None = false
is_into x (Some y) = nat_eq x y

-- no bit of the variable, where there is one, is wanted
abbrev pub with_none : Option ℕ → List ℕ → List ℕ
with_none None bits = bits
with_none (Some x) bits = slice_set bits x 0

-- ---- nodes

-- the shift that the node's right side shifts back
abbrev pub back_of : (ℕ → Option Shift) → Node → Option Shift
back_of shifts (Assign y rhs next) = shifted_back shifts rhs
back_of shifts node = None

-- the number of the variable to which the node assigns a right side
abbrev pub assigned_bits : Node → List ℕ → ℕ
assigned_bits (Assign y rhs next) bits = bits_at bits y
assigned_bits node bits = 0

-- the numbers before a node, from those behind it; `back` is what its right side shifts back
abbrev pub bits_through : GraphShape → Asked → Option Shift → Node → List ℕ → List ℕ
bits_through graph asked back (Assign y rhs next) bits =
    raised_past (slice_set bits y 0) back rhs (bits_at bits y)
bits_through graph asked back (Call into unit operands next) bits =
    among_raised (asked.arguments unit) 0 operands
    (all_set (asked.globals unit) (shared_vars graph.shared) (with_none into bits))
bits_through graph asked back (Return a) bits =
    raised_by (all_raised asked.left (shared_vars graph.shared) bits) a asked.result
bits_through graph asked back node bits = all_raised whole_width (node_reads graph node) bits

-- the numbers before a node, where there is one; else they stay
abbrev pub bits_past : GraphShape → Asked → Option Shift → Option Node → List ℕ → List ℕ
bits_past graph asked back None bits = bits
bits_past graph asked back (Some node) bits = bits_through graph asked back node bits

-- the numbers before a list of nodes, from those behind it; `back` has what each node shifts back
abbrev pub before_list : GraphShape → Asked → (ℕ → Option Shift) → List ℕ → List ℕ → List ℕ
before_list graph asked back [] bits = bits
before_list graph asked back (n ∷ list) bits =
    bits_past graph asked (back n) (slice_get graph.nodes n)
    (before_list graph asked back list bits)

-- what a list says that the right side of a node shifts back
abbrev pub back_in : List (Option Shift) → ℕ → Option Shift
back_in backs n = slice_index_or backs n None

-- this says of each node what its right side shifts back
abbrev pub HaveBacks : GraphShape → (ℕ → ℕ → Option Shift) → (ℕ → Option Shift) → Type 0
HaveBacks graph shifts back =
    (n : ℕ) (node : Node) → slice_get graph.nodes n ≡ Some node → back n ≡ back_of (shifts n) node

-- each of these is a node of the graph
abbrev pub AreGraphNodes : GraphShape → List ℕ → Type 0
AreGraphNodes graph list = (i n : ℕ) → slice_get list i ≡ Some n → n < length graph.nodes
